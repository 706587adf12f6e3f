-- One entry on, and each of the ends.
use Rattle.std.proofs.Common.{ℕ, ◌+◌, List, [], ◌∷◌, ◌++◌, drop, get_or, sym, subst, refl, ◌∙◌, ap}
use Rattle.std.proofs.lemmas.List.{drop_more}
use Rattle.journal.specs.Image.{entries, body_field}
use Rattle.journal.specs.Damage.{Begins}
use Rattle.journal.specs.inner.Fields.{NoBody}
use Rattle.journal.proofs.Entries.{reached_none, reached_more, reached_end, reached_broken}
use Rattle.journal.proofs.reading.end_of_entries.Goals as goal

pub loop-at-init : goal.loop-at-init
loop-at-init c = ([], reached_none [] c.args.bytes.now refl)

pub returns-then-bytes-at-ne-OPEN_GATE : goal.returns-then-bytes-at-ne-OPEN_GATE
returns-then-bytes-at-ne-OPEN_GATE c =
    let bytes = c.args.bytes.now in let at = c.loop-at.at in let bodies = c.loop-at.invariant.0
    in let r = c.loop-at.invariant.1 in (
      bodies,
      r.fit,
      sym r.there.there,
      (
        get_or bytes at 0,
        drop (at + 1) bytes,
        c.if-bytes-at-ne-OPEN_GATE.true,
        r.there.split ∙ ap (λ (l : List ℕ). entries bodies ++ l) (drop_more bytes at 0 c.loop-at-test.true),
      ),
    )

pub returns-in_default : goal.returns-in_default
returns-in_default c =
    reached_broken c.loop-at.invariant.0 c.args.bytes.now c.loop-at.at
    (c.loop-at.at + 1) c.loop-at.invariant.1 c.loop-at-test.true c.if-bytes-at-ne-OPEN_GATE.false
    (subst NoBody c.behind-after_gate.ensures c.in_default.ensures) refl

pub loop-at-preserved : goal.loop-at-preserved
loop-at-preserved c =
    let bodies = c.loop-at.invariant.0 in let body = c.in-Some.body.now in (
      bodies ++ body ∷ [],
      reached_more bodies (bodies ++ body ∷ []) body c.args.bytes.now c.loop-at.at _ c.loop-at.invariant.1
          c.loop-at-test.true c.if-bytes-at-ne-OPEN_GATE.false
          c.in-Some.ensures.0 (subst (Begins (body_field body)) c.behind-after_gate.ensures c.in-Some.ensures.1) refl
          refl,
    )

pub returns : goal.returns
returns c = reached_end c.loop-at.invariant.0 c.args.bytes.now c.loop-at.at c.loop-at.invariant.1 c.loop-at-test.false
