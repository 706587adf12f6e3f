-- What a reader finds behind the end that it gave.
use Rattle.std.proofs.Common.{◌≡◌, ◌≢◌, ℕ, Bool, true, cond, List, [], ◌∷◌, Option, Some, None, Err, inl, inr, refl}
use Rattle.std.proofs.Common.{sym, subst, append-nil}
use Rattle.sync_stream.specs.HeldText.{Finishes, HeldText, StandsFor}
use Rattle.sync_stream.specs.Stream.{after_end, end_fault, is_closed, is_empty}
use Rattle.sync_stream.specs.declared.fault.LineFault.{LineFault}
use Rattle.sync_stream.specs.declared.fault.LineFault.TheVariants as line
use Rattle.sync_stream.specs.declared.fault.StreamFault.{StreamFault}
use Rattle.sync_stream.specs.declared.fault.StreamFault.TheVariants.{At, TooLong, Memory}
use Rattle.sync_asking.specs.Lines.{HasGiven, IsFaulty, reader_fault}
use Rattle.sync_phases.specs.Phases.{line_fault}

none_is : {A : Type 0} {x : A} → None ≡ Some x → ⊥
none_is e = cc

some_is : {A : Type 0} {x y : A} → Some x ≡ Some y → x ≡ y
some_is e = cc

nil_is : {A : Type 0} {x : A} {xs : List A} → x ∷ xs ≡ [] → ⊥
nil_is e = cc

-- a reader that has found a fault has given the same lines
same_lines : (old : HeldText) (fault : LineFault) → end_fault old.kind old.number old.place old.rest ≡ Some fault
    → HasGiven old (record old { fault = Some fault }) []
same_lines old fault found text given stands =
    subst (λ lines. StandsFor (record old { fault = Some fault }) text lines) (sym (append-nil given))
    (record { lines = stands.lines; begins = stands.begins; number = stands.number; fault = inr found })

-- behind the end any byte is a fault of its line
closed_fault : (closed : Bool) (rest : List ℕ) (n : ℕ) (other : Option LineFault) (fault : LineFault)
    → closed ≡ true
    → cond closed (cond (is_empty rest) None (Some (line.At n))) other ≡ Some fault
    → (rest ≢ []) × (fault ≡ line.At n)
closed_fault closed [] n other fault is found = absurd (none_is (subst (λ b. cond b None other ≡ Some fault) is found))
closed_fault closed (byte ∷ rest) n other fault is found = (
  (λ e. nil_is e),
  some_is (sym (subst (λ b. cond b (Some (line.At n)) other ≡ Some fault) is found)),
)

found_at : (old : HeldText) (fault : LineFault) → is_closed old.place ≡ true
    → end_fault old.kind old.number old.place old.rest ≡ Some fault
    → HasGiven old (record old { fault = Some fault }) [] × IsFaulty (record old { fault = Some fault }) (line_fault fault)
found_at old fault closed found =
    let f = closed_fault (is_closed old.place) old.rest old.number _ fault closed found in
    (same_lines old fault found, inr (fault, after_end closed f.0 f.1, refl))

-- so what `finish` finds there is a faulty line
pub at_end : (old new : HeldText) (e : StreamFault) → is_closed old.place ≡ true → old.fault ≡ None
    → Finishes old new (Err e) → HasGiven old new [] × IsFaulty new (reader_fault e)
at_end old new Memory closed none is = (
  (λ text given stands. subst (λ lines. StandsFor new text lines) (sym (append-nil given))
      (subst (λ r. StandsFor r text given) (sym is) stands)),
  inl refl,
)
at_end old new (At n) closed none is =
    subst (λ r. HasGiven old r [] × IsFaulty r (reader_fault (At n))) (sym is.0) (found_at old (line.At n) closed (is.1 none))
at_end old new (TooLong n) closed none is =
    subst (λ r. HasGiven old r [] × IsFaulty r (reader_fault (TooLong n))) (sym is.0)
    (found_at old (line.TooLong n) closed (is.1 none))
