-- A text has one reading: of two beginnings one goes on from the other.
use Rattle.std.proofs.Common.{◌≡◌, ℕ, suc, ◌+◌, List, [], ◌∷◌, ◌++◌, get_or, drop, flat_map, ◌⊎◌, inl, inr, Some, refl}
use Rattle.std.proofs.Common.{sym, ap, ap₂, ◌∙◌, subst, arith}
use Rattle.std.specs.List.{AllByRecursion}
use Rattle.std.proofs.lemmas.List.{append_assoc}
use Rattle.sync_stream.specs.Lines.{ended, IsUnbroken, GoOn}
use Rattle.sync_stream.specs.Stream.{said_by, Passes, Begins}
use Rattle.sync_stream.specs.declared.line.HeadKind.{HeadKind}
use Rattle.sync_stream.specs.declared.line.Line.{Line}
use Rattle.sync_stream.specs.declared.line.Next.{Next}
use Rattle.sync_stream.specs.declared.line.Next.TheVariants.{Opening}
use Rattle.sync_stream.specs.declared.line.Passed.{Passed}

tail_unbroken : (a : ℕ) (l : List ℕ) → IsUnbroken (a ∷ l) → IsUnbroken l
tail_unbroken a l u k from to b = u (suc k) (omega arith) (omega (arith, to)) (
  omega (arith, b.0),
  b.1,
  (let next : suc (k + 1) ≡ suc k + 1 = omega arith
      in subst (λ n. get_or (a ∷ l) n 0 ≡ 10) next b.2),
)

first_is : (a b : ℕ) (x y : List ℕ) → a ∷ x ≡ b ∷ y → a ≡ b
first_is a b x y e = ap (λ l. get_or l 0 0) e

rest_is : (a b : ℕ) (x y : List ℕ) → a ∷ x ≡ b ∷ y → x ≡ y
rest_is a b x y e = ap (λ l. drop 1 l) e

-- an empty line is no beginning of another one
no_empty : (m x y : List ℕ) (b : ℕ) → IsUnbroken (b ∷ m) → 13 ∷ 10 ∷ x ≡ ended (b ∷ m) ++ y → ⊥
no_empty [] x y b u e = absurd (omega (arith, first_is _ _ _ _ (rest_is _ _ _ _ e)))
no_empty (c ∷ m) x y b u e = u 0 (omega arith) (omega arith)
    (omega arith, sym (first_is _ _ _ _ e), sym (first_is _ _ _ _ (rest_is _ _ _ _ e)))

pub same_line : (l m x y : List ℕ) → IsUnbroken l → IsUnbroken m → ended l ++ x ≡ ended m ++ y → (l ≡ m) × (x ≡ y)
same_line [] [] x y u v e = (refl, rest_is _ _ _ _ (rest_is _ _ _ _ e))
same_line [] (b ∷ m) x y u v e = absurd (no_empty m x y b v e)
same_line (a ∷ l) [] x y u v e = absurd (no_empty l y x a u (sym e))
same_line (a ∷ l) (b ∷ m) x y u v e =
    let rest = same_line l m x y (tail_unbroken a l u) (tail_unbroken b m v) (rest_is _ _ _ _ e) in
    (ap₂ (λ h t. h ∷ t) (first_is _ _ _ _ e) rest.0, rest.1)

pub same_lines : (ls ms : List (List ℕ)) (r s : List ℕ) → AllByRecursion IsUnbroken ls → AllByRecursion IsUnbroken ms
    → flat_map ended ls ++ r ≡ flat_map ended ms ++ s → GoOn ls ms ⊎ GoOn ms ls
same_lines [] ms r s u v e = inl (ms, refl)
same_lines (l ∷ ls) [] r s u v e = inr (l ∷ ls, refl)
same_lines (l ∷ ls) (m ∷ ms) r s u v e =
    let one = same_line l m (flat_map ended ls ++ r) (flat_map ended ms ++ s) u.0 v.0
    (sym (append_assoc (ended l) (flat_map ended ls) r) ∙ e ∙ append_assoc (ended m) (flat_map ended ms) s) in
    elim (same_lines ls ms r s u.1 v.1 one.1) [
      | inl h ↦ inl (h.0, ap₂ (λ x xs. x ∷ xs) (sym one.0) h.1)
      | inr h ↦ inr (h.0, ap₂ (λ x xs. x ∷ xs) one.0 h.1)
    ]

same_passed : {x y : Passed} → Some x ≡ Some y → x ≡ y
same_passed h = cc

-- what more lines say comes after what these say
pub passes_on : (kind : HeadKind) (p q q' : Next) (ls more : List (List ℕ)) (said said' : List Line)
    → Passes kind p ls said q → Passes kind p (ls ++ more) said' q' → (later : List Line) × (said' ≡ said ++ later)
    × Passes kind q more later q'
passes_on kind p q q' [] more said said' h g =
    (said', ap (λ s. s ++ said') (sym h.0), subst (λ x. Passes kind x more said' q') (sym h.1) g)
passes_on kind p q q' (l ∷ ls) more said said' h g =
    let same : h.0 ≡ g.0 = same_passed (sym h.2.says ∙ g.2.says) in
    let rest = passes_on kind h.0.place q q' ls more h.1 g.1 h.4
    (subst (λ x. Passes kind x.place (ls ++ more) g.1 q') (sym same) g.4) in (
      rest.0,
      g.3 ∙ ap₂ (λ x s. said_by x.line ++ s) (sym same) rest.1
          ∙ sym (append_assoc (said_by h.0.line) h.1 rest.0) ∙ ap (λ s. s ++ rest.0) (sym h.3),
      rest.2,
    )

pub one_reading : (kind : HeadKind) (text : List ℕ) (ls ms : List (List ℕ)) (said said' : List Line) (p q : Next)
    (r s : List ℕ)
    → Begins kind text ls said p r → Begins kind text ms said' q s → GoOn said said' ⊎ GoOn said' said
one_reading kind text ls ms said said' p q r s h g =
    elim (same_lines ls ms r s h.splits.each g.splits.each (sym h.splits.whole ∙ g.splits.whole)) [
      | inl on ↦ (let rest = passes_on kind Opening p q ls on.0 said said' h.passes
          (subst (λ x. Passes kind Opening x said' q) on.1 g.passes) in inl (rest.0, rest.1))
      | inr on ↦ (let rest = passes_on kind Opening q p ms on.0 said' said g.passes
          (subst (λ x. Passes kind Opening x said p) on.1 h.passes) in inr (rest.0, rest.1))
    ]
