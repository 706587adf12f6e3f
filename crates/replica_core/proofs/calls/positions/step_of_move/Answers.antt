-- No step where the place is kept, and else the move.
use Rattle.std.proofs.Common.{◌∙◌, ap, sym, Bool, Some, None}
use Rattle.std.specs.Prelude.{if◌then◌else◌}
use Rattle.conflicts.specs.State.{Moved}
use Rattle.conflicts.specs.declared.moves.Move.{Move}
use Rattle.replica_core.proofs.calls.positions.step_of_move.Goals as goal

pub returns-then-is_kept : goal.returns-then-is_kept
returns-then-is_kept c =
    sym (ap (λ (b : Bool). if b then None else Some (Moved c.args.moved.now))
    (sym c.is_kept.ensures ∙ c.if-is_kept.true))

pub returns : goal.returns
returns c =
    ap (λ (m : Move). Some (Moved m)) c.in_ok-copy.ensures
    ∙ sym (ap (λ (b : Bool). if b then None else Some (Moved c.args.moved.now))
    (sym c.is_kept.ensures ∙ c.if-is_kept.false))
