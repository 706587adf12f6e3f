-- One piece more is read.
use Rattle.std.proofs.Common.{◌≡◌, ℕ, ◌+◌, ◌-◌, ◌^◌, ◌<◌, ◌≤◌, min, List, ◌++◌, length, take, drop, ◌∙◌, ap, sym, subst}
use Rattle.std.proofs.Common.{arith, length-append, length-take, length-drop}
use Rattle.std.proofs.lemmas.List.{ext_get_or, places}
use borrow.Rule.Slice.PartMut.{put_mid}
use Rattle.std.proofs.lemmas.Slice.{take-put_mid}
use Rattle.disk_model.specs.Disk.{IsCrashImage}
use Rattle.disk_model.specs.Counts.{called, pieces}
use Rattle.disk_model.proofs.Runs.{looked, looked_now, looked_beside}
use Rattle.disk_model.proofs.Counts.{IsPieceEnd, called_again, one_more, next_end}
use Rattle.disk_model.proofs.synced.fill.Goals as goal

-- a front and the next piece are a longer front
longer_front : (xs : List ℕ) (at e : ℕ) → at ≤ e → take at xs ++ take (e - at) (drop at xs) ≡ take e xs
longer_front xs at e h = ext_get_or 0 _ _ (simp (length-append, length-take, length-drop) (omega arith))
    (λ k l. grind (arith, places))

piece_read : (at e : ℕ) (into seen piece : List ℕ) → at ≤ e → e ≤ length into → length into ≤ length seen
    → piece ≡ take (length (take (e - at) (drop at into))) (drop at seen) → take at into ≡ take at seen
    → take e (put_mid at (e - at) into piece) ≡ take e seen
piece_read at e into seen piece low high fits is front =
    let size : length (take (e - at) (drop at into)) ≡ e - at = simp (length-take, length-drop) (omega arith) in
    let piece_is : piece ≡ take (e - at) (drop at seen) = is ∙ ap (λ (n : ℕ). take n (drop at seen)) size in
    let long : length piece ≡ e - at = ap length piece_is ∙ simp (length-take, length-drop) (omega arith) in
    take-put_mid at (e - at) into piece e (omega (arith, long)) (omega arith)
    ∙ ap (λ (l : List ℕ). l ++ piece) front ∙ ap (λ (l : List ℕ). take at seen ++ l) piece_is
    ∙ longer_front seen at e low

long_enough : (at e : ℕ) (into piece : List ℕ) → at ≤ e → e ≤ length into
    → length piece ≡ length (take (e - at) (drop at into))
    → e ≤ length (put_mid at (e - at) into piece)
long_enough at e into piece low high size = simp (length-append, length-take, length-drop, size) (omega arith)

pub returns-in_err-read_at-clause-any_moment : goal.returns-in_err-read_at-clause-any_moment
returns-in_err-read_at-clause-any_moment g c t =
    let known = g.D.Disk.known in let old = known c.args.disk.now in
    looked old (known c.loop-at.disk) (known c.read_at.new.self) (IsCrashImage old.now)
    (c.loop-at.invariant.any_moment t) (c.in_err-read_at.ensures.crash t)

pub loop-at-preserved : goal.loop-at-preserved
loop-at-preserved g c =
    let known = g.D.Disk.known in let old = known c.args.disk.now in let mid = known c.loop-at.disk
    in let new = known c.read_at.new.self in
    let at = c.loop-at.at in let e = c.min-end.result in let into = c.loop-at.into in
    let low : at ≤ e = omega arith in
    let high : e ≤ length into = omega arith in
    let inside : at < length into = omega arith in
    let next : e ≡ min (length into) (at + 2 ^ 20) = omega arith in
    let same_length : length (put_mid at (e - at) into c.read_at.new.into) ≡ length into =
    simp (length-append, length-take, length-drop, c.read_at.auto.into) (omega arith) in
    record {
      in_range = long_enough at e into c.read_at.new.into low high c.read_at.auto.into;
      so_far = λ t.
          let mid_is : mid.seen ≡ old.seen = c.loop-at.invariant.seen t in
          let fits : length into ≤ length mid.seen = omega (arith, c.requires t, ap length mid_is, c.loop-at.auto.into)
          in
          piece_read at e into mid.seen c.read_at.new.into low high fits (c.in_ok-read_at.ensures.bytes t)
          (c.loop-at.invariant.so_far t)
          ∙ ap (take e) (sym (c.in_ok-read_at.ensures.seen t));
      seen = λ t. c.in_ok-read_at.ensures.seen t ∙ c.loop-at.invariant.seen t;
      now = λ t. looked_now mid new (c.in_ok-read_at.ensures.crash t) ∙ c.loop-at.invariant.now t;
      beside = λ t. looked_beside mid new (c.in_ok-read_at.ensures.crash t) ∙ c.loop-at.invariant.beside t;
      any_moment = λ t. looked old mid new (IsCrashImage old.now) (c.loop-at.invariant.any_moment t)
          (c.in_ok-read_at.ensures.crash t);
      whole = subst (λ (n : ℕ). IsPieceEnd n e) (sym same_length)
          (next_end (length into) at e c.loop-at.invariant.whole inside next);
      made = c.in_ok-read_at.ensures.counted ∙ ap (called 1) c.loop-at.invariant.made
          ∙ called_again 1 (pieces at) old.made
          ∙ ap (λ (n : ℕ). called n old.made) (sym (one_more (length into) at e c.loop-at.invariant.whole inside next));
      later = omega (arith, c.in_ok-read_at.ensures.cause.later, c.loop-at.invariant.later);
    }
