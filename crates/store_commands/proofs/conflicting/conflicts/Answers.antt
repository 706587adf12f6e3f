-- The document is in conflict or not.
use Rattle.std.proofs.Common.{List, [], ap}
use Rattle.std.proofs.lemmas.Result.{err_from_is_err_and}
use Rattle.std.specs.Prelude.{map}
use Rattle.conflicts.specs.Kept.{current_first}
use Rattle.replica_core.specs.Commands.Effects.{Conflict, Line, prints}
use Rattle.replica_core.specs.Replica.{state_in}
use Rattle.command_lines.proofs.Putting.{puts_nothing}
use Rattle.store_commands.specs.Deeds.{over_replica}
use Rattle.store_commands.proofs.InConflict.{in_conflict, not_in_conflict}
use Rattle.store_commands.proofs.Showing.{broken, printed}
use Rattle.store_commands.proofs.conflicting.conflicts.Goals as goal

pub returns-in_err-print_members-in-Some : goal.returns-in_err-print_members-in-Some
returns-in_err-print_members-in-Some g c =
    let r = g.R.Replica in
    let k = g.K.Sink.known in
    let d = (state_in (r.known c.args.replica.now)).document c.args.id.now in
    let found = rw c.state.ensures at c.in-Some.ensures in
    let p = err_from_is_err_and c.from_residual.result c.from_residual.ensures.1 in
    rw (p.1, p.2)
    (broken r.known r.is_open r.crash g.met.R.Replica.settled c.args.replica.now c.requires _
    (map Conflict (current_first c.in-Some.set.now))
    (ap (λ (lines : List Line). over_replica (prints lines)) (in_conflict d c.in-Some.set.now found.0 found.1))
    (k c.args.out.now) (k c.print_members.new.out) c.in_err-print_members-in-Some.field-0.0
    c.in_err-print_members-in-Some.ensures)

pub returns-in_ok-print_members-in-Some : goal.returns-in_ok-print_members-in-Some
returns-in_ok-print_members-in-Some g c =
    let r = g.R.Replica in
    let k = g.K.Sink.known in
    let d = (state_in (r.known c.args.replica.now)).document c.args.id.now in
    let found = rw c.state.ensures at c.in-Some.ensures in
    printed r.known r.is_open r.crash g.met.R.Replica.settled c.args.replica.now c.requires _
    (map Conflict (current_first c.in-Some.set.now))
    (ap (λ (lines : List Line). over_replica (prints lines)) (in_conflict d c.in-Some.set.now found.0 found.1))
    (k c.args.out.now) (k c.print_members.new.out) c.in_ok-print_members-in-Some.ensures

pub returns-in-None : goal.returns-in-None
returns-in-None g c =
    let r = g.R.Replica in
    let k = g.K.Sink.known in
    let d = (state_in (r.known c.args.replica.now)).document c.args.id.now in
    let plain = rw c.state.ensures at c.in-None.ensures in
    printed r.known r.is_open r.crash g.met.R.Replica.settled c.args.replica.now c.requires _ []
    (ap (λ (lines : List Line). over_replica (prints lines)) (not_in_conflict d plain))
    (k c.args.out.now) (k c.args.out.now) (puts_nothing (k c.args.out.now))
