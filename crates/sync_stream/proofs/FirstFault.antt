-- A text has at most one first faulty line.
use Rattle.std.proofs.Common.{◌≡◌, ℕ, suc, ◌+◌, Bool, true, false, cond, List, [], ◌∷◌, ◌++◌, length, get_or, flat_map}
use Rattle.std.proofs.Common.{◌⊎◌, inl, inr, Some, None, refl, sym, ap, ap₂, ◌∙◌, subst, arith}
use Rattle.std.proofs.lemmas.Bool.{false≢true}
use Rattle.std.specs.List.{AllByRecursion}
use Rattle.std.proofs.lemmas.List.{append_assoc, append-nil}
use Rattle.key_lanes.specs.Breaks.{IsBreak}
use Rattle.sync_stream.specs.Lines.{ended, IsUnbroken}
use Rattle.sync_stream.specs.Says.{says}
use Rattle.sync_stream.specs.Stream.{counted, fault_of, fault_if, is_closed, IsGood, Passes, HasFault, IsFaultyAt}
use Rattle.sync_stream.specs.Stream.IsFaultyAt.{whole_line, long_rest, after_end}
use Rattle.sync_stream.specs.declared.line.HeadKind.{HeadKind}
use Rattle.sync_stream.specs.declared.line.Next.{Next}
use Rattle.sync_stream.specs.declared.line.Next.TheVariants.{Opening, Heading, After, Closed}
use Rattle.sync_stream.specs.declared.line.Passed.{Passed}
use Rattle.sync_stream.specs.declared.fault.LineFault.{LineFault}
use Rattle.sync_stream.specs.declared.fault.LineFault.TheVariants.{TooLong}
use Rattle.sync_stream.proofs.Unique.{same_line, passes_on}

-- of two splittings one goes on in the other's rest
abbrev OnIn : List (List ℕ) → List ℕ → List (List ℕ) → List ℕ → Type 0
OnIn ls r ms s = (more : List (List ℕ)) × (ms ≡ ls ++ more) × (r ≡ flat_map ended more ++ s)

pub same_parts : (ls ms : List (List ℕ)) (r s : List ℕ) → AllByRecursion IsUnbroken ls → AllByRecursion IsUnbroken ms
    → flat_map ended ls ++ r ≡ flat_map ended ms ++ s → OnIn ls r ms s ⊎ OnIn ms s ls r
same_parts [] ms r s u v e = inl (ms, refl, e)
same_parts (l ∷ ls) [] r s u v e = inr (l ∷ ls, refl, sym e)
same_parts (l ∷ ls) (m ∷ ms) r s u v e =
    let one = same_line l m (flat_map ended ls ++ r) (flat_map ended ms ++ s) u.0 v.0
    (sym (append_assoc (ended l) (flat_map ended ls) r) ∙ e ∙ append_assoc (ended m) (flat_map ended ms) s) in
    elim (same_parts ls ms r s u.1 v.1 one.1) [
      | inl h ↦ inl (h.0, ap₂ (λ x xs. x ∷ xs) (sym one.0) h.1, h.2)
      | inr h ↦ inr (h.0, ap₂ (λ x xs. x ∷ xs) one.0 h.1, h.2)
    ]

pub all_more_front : (ls : List (List ℕ)) (m : List ℕ) (ms : List (List ℕ)) → AllByRecursion IsUnbroken (ls ++ m ∷ ms)
    → IsUnbroken m
all_more_front [] m ms h = h.0
all_more_front (l ∷ ls) m ms h = all_more_front ls m ms h.1

-- a line with its CR LF is broken
has_break : (l x : List ℕ) → IsBreak (ended l ++ x) (length l)
has_break [] x = (omega arith, refl, refl)
has_break (a ∷ l) x =
    let h = has_break l x in
    let next : suc (length l + 1) ≡ suc (length l) + 1 = omega arith in
    (omega (arith, h.0), h.1, subst (λ n. get_or (ended (a ∷ l) ++ x) n 0 ≡ 10) next h.2)

pub broken : (l x : List ℕ) → IsUnbroken (ended l ++ x) → ⊥
broken l x u = let b = has_break l x in u (length l) (omega arith) (omega (arith, b.0)) b

none_some : {f : LineFault} → None ≡ Some f → ⊥
none_some e = cc

good_is_not : (kind : HeadKind) (n : ℕ) (place : Next) (line : List ℕ) (passed : Passed) (f : LineFault)
    → IsGood kind place line passed → fault_of kind n place line ≡ Some f → ⊥
good_is_not kind n place line passed f good is =
    none_some (sym (ap₂ (λ b o. cond b (Some (TooLong n)) (fault_if n o)) good.fits good.says) ∙ is)

pub closed_is : (place : Next) → is_closed place ≡ true → place ≡ Closed
closed_is Opening e = absurd (false≢true e)
closed_is Heading e = absurd (false≢true e)
closed_is (After c) e = absurd (false≢true e)
closed_is Closed e = refl

nothing_closed : (kind : HeadKind) (line : List ℕ) (passed : Passed) → says kind Closed line ≡ Some passed → ⊥
unfolding says
nothing_closed kind line passed h = cc

-- a good line is at no fault
pub not_both : (kind : HeadKind) (n : ℕ) (place : Next) (line x bytes : List ℕ) (passed : Passed) (f : LineFault)
    → IsGood kind place line passed → IsUnbroken line → bytes ≡ ended line ++ x → IsFaultyAt kind n place bytes f → ⊥
not_both kind n place line x bytes passed f good u is (whole_line l more open_ bytes_ v fault) =
    let same = same_line line l x more u v (sym is ∙ bytes_) in
    good_is_not kind n place line passed f good (subst (λ k. fault_of kind n place k ≡ Some f) (sym same.0) fault)
not_both kind n place line x bytes passed f good u is (long_rest open_ v long fault) =
    broken line x (subst IsUnbroken is v)
not_both kind n place line x bytes passed f good u is (after_end closed some fault) =
    nothing_closed kind line passed (subst (λ p. says kind p line ≡ Some passed) (closed_is place closed) good.says)

same_fault : {f g : LineFault} → Some f ≡ Some g → f ≡ g
same_fault e = cc

pub both_open : {b : Bool} → b ≡ false → b ≡ true → ⊥
both_open e f = false≢true (sym e ∙ f)

-- at one place there is one fault
pub one_fault : (kind : HeadKind) (n : ℕ) (place : Next) (bytes : List ℕ) (f g : LineFault)
    → IsFaultyAt kind n place bytes f → IsFaultyAt kind n place bytes g → f ≡ g
one_fault kind n place bytes f g (whole_line l x o is u fault) (whole_line m y p is' v fault') =
    let same = same_line l m x y u v (sym is ∙ is') in
    same_fault (sym fault ∙ ap (λ k. fault_of kind n place k) same.0 ∙ fault')
one_fault kind n place bytes f g (whole_line l x o is u fault) (long_rest p v long fault') =
    absurd (broken l x (subst IsUnbroken is v))
one_fault kind n place bytes f g (whole_line l x o is u fault) (after_end p some fault') = absurd (both_open o p)
one_fault kind n place bytes f g (long_rest o v long fault) (whole_line m y p is u fault') =
    absurd (broken m y (subst IsUnbroken is v))
one_fault kind n place bytes f g (long_rest o v long fault) (long_rest p w long' fault') = fault ∙ sym fault'
one_fault kind n place bytes f g (long_rest o v long fault) (after_end p some fault') = absurd (both_open o p)
one_fault kind n place bytes f g (after_end o some fault) (whole_line m y p is u fault') = absurd (both_open p o)
one_fault kind n place bytes f g (after_end o some fault) (long_rest p w long' fault') = absurd (both_open p o)
one_fault kind n place bytes f g (after_end o some fault) (after_end p some' fault') = fault ∙ sym fault'

-- a reading goes on in another's rest: then there is no more, and the fault is the same
on_in : (kind : HeadKind) (text : List ℕ) (f g : LineFault) (h : HasFault kind text f) (k : HasFault kind text g)
    (more : List (List ℕ))
    → k.lines ≡ h.lines ++ more → h.rest ≡ flat_map ended more ++ k.rest → f ≡ g
on_in kind text f g h k [] lines rest =
    let same : k.lines ≡ h.lines = lines ∙ append-nil h.lines in
    let on = passes_on kind Opening h.place k.place h.lines [] h.said k.said h.begins.passes
    (subst (λ x. Passes kind Opening x k.said k.place) lines k.begins.passes) in
    one_fault kind (counted (length h.lines + 1)) h.place h.rest f g h.faulty
    (subst (λ x. IsFaultyAt kind (counted (length x + 1)) h.place h.rest g) same
    (subst (λ p. IsFaultyAt kind (counted (length k.lines + 1)) p h.rest g) on.2.1
    (subst (λ r. IsFaultyAt kind (counted (length k.lines + 1)) k.place r g) (sym rest) k.faulty)))
on_in kind text f g h k (m ∷ more) lines rest =
    let on = passes_on kind Opening h.place k.place h.lines (m ∷ more) h.said k.said h.begins.passes
    (subst (λ x. Passes kind Opening x k.said k.place) lines k.begins.passes) in
    absurd (not_both kind (counted (length h.lines + 1)) h.place m
    (flat_map ended more ++ k.rest) h.rest on.2.0 f on.2.2
    (all_more_front h.lines m more (subst (AllByRecursion IsUnbroken) lines k.begins.splits.each))
    (rest ∙ append_assoc (ended m) (flat_map ended more) k.rest) h.faulty)

pub first_fault : (kind : HeadKind) (text : List ℕ) (f g : LineFault) → HasFault kind text f
    → HasFault kind text g → f ≡ g
first_fault kind text f g h k =
    elim (same_parts h.lines k.lines h.rest k.rest h.begins.splits.each k.begins.splits.each
    (sym h.begins.splits.whole ∙ k.begins.splits.whole)) [
      | inl on ↦ on_in kind text f g h k on.0 on.1 on.2
      | inr on ↦ sym (on_in kind text g f k h on.0 on.1 on.2)
    ]
