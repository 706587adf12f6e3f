-- The current member, then those before its place, then those behind it.
use Rattle.std.specs.Prelude.{◌-◌, List}
use Rattle.std.specs.List.{slice_get}
use Rattle.std.proofs.Common.{◌∙◌, ap, arith, sym}
use Rattle.std.proofs.lemmas.Option.{slice_get_past}
use Rattle.conflicts.specs.Kept.{Kept, current_first}
use Rattle.conflicts.specs.declared.member.Member.{Member}
use Rattle.conflicts.proofs.Sets.{first_listed, listed_before, listed_behind, place_there}
use Rattle.conflicts.proofs.set.DocSet.member.Goals as goal

pub returns-then-place-eq0-clause-value : goal.returns-then-place-eq0-clause-value
returns-then-place-eq0-clause-value c =
    first_listed c.args.self.now c.current.result.now c.current.ensures
    ∙ ap (slice_get (current_first c.args.self.now)) (sym c.if-place-eq0.true)

pub returns-then-place-self-clause-value : goal.returns-then-place-self-clause-value
returns-then-place-self-clause-value c =
    c.member_at.ensures ∙ ap (λ (ms : List Member). slice_get ms (c.args.place - 1)) c.members.ensures
    ∙ listed_before c.args.self.now c.args.place c.if-place-eq0.false
    (omega (arith, ap (λ (k : Kept). k.place) c.self.view_is))

pub returns-then-place-length-clause-value : goal.returns-then-place-length-clause-value
returns-then-place-length-clause-value c =
    c.member_at-then-place-length.ensures
    ∙ ap (λ (ms : List Member). slice_get ms c.args.place) c.members-then-place-length.ensures
    ∙ listed_behind c.args.self.now c.args.place (omega (arith, ap (λ (k : Kept). k.place) c.self.view_is))

pub returns-clause-value : goal.returns-clause-value
returns-clause-value c =
    sym (slice_get_past c.args.self.now.members c.args.place (omega (arith, c.length.ensures)))
    ∙ listed_behind c.args.self.now c.args.place (omega (arith, c.length.ensures, place_there c.args.self.now))
