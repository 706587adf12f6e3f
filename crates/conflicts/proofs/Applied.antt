-- What is kept after an acceptance stands for the document after it.
use Rattle.std.specs.Prelude.{◌≡◌, ℕ, zero, suc, ◌+◌, ◌<◌, ◌≤◌, Bool, true, false, cond, not, ◌&&◌, ◌||◌, ◌⊎◌, List, []}
use Rattle.std.specs.Prelude.{◌∷◌, ◌++◌, filter, length, take, slice_get, Option, Some, None, Result, Ok, Err, IfOk}
use Rattle.std.specs.Prelude.{refl}
use Rattle.std.specs.List.{list_any}
use Rattle.std.proofs.Common.{sym, ◌∙◌, ap, ap₂, inl, inr, arith, length-append, get_or}
use Rattle.std.proofs.lemmas.List.{length-take, take_more}
use Rattle.std.proofs.lemmas.List.Elements.{filter-append}
use Rattle.std.proofs.lemmas.Option.{none-some, same_Some, slice_get_within}
use Rattle.vector_rev.specs.Clock.{Clock, covers, dominates}
use Rattle.vector_rev.specs.Compare.{same}
use Rattle.conflicts.specs.Lists.{In}
use Rattle.conflicts.specs.Pruning.{pruned}
use Rattle.conflicts.specs.Document.{member_of, covers_member, has_rev, current_after, no_document, document_after}
use Rattle.conflicts.specs.Document.{StaysBeside, FitsDocument}
use Rattle.conflicts.specs.Kept.{Kept, all_apart, current, document}
use Rattle.conflicts.specs.declared.member.Member.{Member}
use Rattle.conflicts.specs.declared.accept.Accept.{Accept}
use Rattle.conflicts.proofs.Apart.{same_itself, apart_with}
use Rattle.conflicts.proofs.Sets.{current_at, is_current, current_in, kept_apart}
use Rattle.u1_base.proofs.Booleans.{not_both}
use Rattle.conflicts.proofs.Members.{finds, In-left, In-last, In-filter}

pub has_rev-In : (m : Member) (ms : List Member) → In m ms → has_rev ms m.rev ≡ true
has_rev-In m ms h = finds (λ n. same n.rev m.rev) m ms h (same_itself m.rev)

-- ---- the current revision after an acceptance

pub pruned-fits : (ms : List Member) (a : Accept) → list_any (λ m. dominates m.rev a.rev) ms ≡ false
    → pruned covers_member ms (member_of a) ≡ filter (λ m. not (covers a.rev m.rev)) ms ++ member_of a ∷ []
pruned-fits ms a none = ap (λ b. cond b ms (filter (λ m. not (covers a.rev m.rev)) ms ++ member_of a ∷ [])) none

pub accepted_is_there : (ms : List Member) (a : Accept) → has_rev (ms ++ member_of a ∷ []) a.rev ≡ true
accepted_is_there ms a = has_rev-In (member_of a) _ (In-last (member_of a) ms)

-- the accepted one, where it is marked
pub leads_marked : (ms : List Member) (c : Option Clock) (a : Accept) → has_rev ms a.rev ≡ true → a.current ≡ true
    → current_after ms c a ≡ Some a.rev
leads_marked ms None a here m = ap (λ b. cond b (Some a.rev) None) here
leads_marked ms (Some c) a here m = ap₂ (λ h b. cond (h && (b || not (has_rev ms c))) (Some a.rev) (Some c)) here m

-- the former one, where it is not
pub stays_unmarked : (ms : List Member) (c : Clock) (a : Accept) → has_rev ms c ≡ true → a.current ≡ false
    → current_after ms (Some c) a ≡ Some c
stays_unmarked ms c a stays m =
    ap₂ (λ s b. cond (has_rev ms a.rev && (b || not s)) (Some a.rev) (Some c)) stays m
    ∙ elim (has_rev ms a.rev) as (λ h. cond (h && (false || not true)) (Some a.rev) (Some c) ≡ Some c) [
      | true ↦ refl
      | false ↦ refl
    ]

-- ---- places

module _ {A : Type 0} where
  get_left : (xs ys : List A) (i : ℕ) (x : A) → slice_get xs i ≡ Some x → slice_get (xs ++ ys) i ≡ Some x
  get_left [] ys i x e = absurd (none-some x e)
  get_left (y ∷ xs) ys zero x e = e
  get_left (y ∷ xs) ys (suc i) x e = get_left xs ys i x e

  get_last : (xs : List A) (x : A) → slice_get (xs ++ x ∷ []) (length xs) ≡ Some x
  get_last [] x = refl
  get_last (y ∷ xs) x = get_last xs x

  -- a value that a filter keeps has so many before it as the filter keeps of those before it
  pub get_filtered : (q : A → Bool) (xs : List A) (i : ℕ) (x : A) → slice_get xs i ≡ Some x → q x ≡ true
      → slice_get (filter q xs) (length (filter q (take i xs))) ≡ Some x
  get_filtered q [] i x e kept = absurd (none-some x e)
  get_filtered q (y ∷ xs) zero x e kept =
      ap (λ b. slice_get (cond b (y ∷ filter q xs) (filter q xs)) 0) (ap q (same_Some y x e) ∙ kept) ∙ e
  get_filtered q (y ∷ xs) (suc i) x e kept =
      elim (q y) as (λ b. slice_get (cond b (y ∷ filter q xs) (filter q xs))
      (length (cond b (y ∷ filter q (take i xs)) (filter q (take i xs)))) ≡ Some x) [
        | true ↦ get_filtered q xs i x e kept
        | false ↦ get_filtered q xs i x e kept
      ]

  length-filter : (q : A → Bool) (xs : List A) → length (filter q xs) ≤ length xs
  length-filter q [] = omega arith
  length-filter q (x ∷ xs) =
      elim (q x) as (λ b. length (cond b (x ∷ filter q xs) (filter q xs)) ≤ suc (length xs)) [
        | true ↦ omega (arith, length-filter q xs)
        | false ↦ omega (arith, length-filter q xs)
      ]

  -- how many of the first ones a filter keeps, one further
  pub one_kept : (q : A → Bool) (xs : List A) (i count : ℕ) (x : A) → i < length xs → x ≡ get_or xs i x → q x ≡ true
      → count ≡ length (filter q (take i xs)) → count + 1 ≡ length (filter q (take (i + 1) xs))
  one_kept q xs i count x low here kept e =
      omega (
        arith,
        e,
        ap (λ (ys : List A). length (filter q ys)) (take_more xs i x low),
        ap length (filter-append q (take i xs) (get_or xs i x ∷ [])),
        length-append (filter q (take i xs)) (filter q (get_or xs i x ∷ [])),
        ap (λ b. length (cond b (get_or xs i x ∷ []) [])) (ap q (sym here) ∙ kept),
      )

  pub one_left : (q : A → Bool) (xs : List A) (i count : ℕ) (x : A) → i < length xs → x ≡ get_or xs i x → q x ≡ false
      → count ≡ length (filter q (take i xs)) → count ≡ length (filter q (take (i + 1) xs))
  one_left q xs i count x low here left e =
      omega (
        arith,
        e,
        ap (λ (ys : List A). length (filter q ys)) (take_more xs i x low),
        ap length (filter-append q (take i xs) (get_or xs i x ∷ [])),
        length-append (filter q (take i xs)) (filter q (get_or xs i x ∷ [])),
        ap (λ b. length (cond b (get_or xs i x ∷ []) [])) (ap q (sym here) ∙ left),
      )

  pub few_kept : (q : A → Bool) (xs : List A) (i : ℕ) → length (filter q (take i xs)) ≤ i
  few_kept q xs i = omega (arith, length-filter q (take i xs), length-take i xs)

-- ---- an acceptance that fits

-- the members that stay
abbrev staying : Kept → Accept → List Member
staying k a = filter (λ m. not (covers a.rev m.rev)) k.members

-- how many of them stand before the current one
abbrev before_current : Kept → Accept → ℕ
before_current k a = length (filter (λ m. not (covers a.rev m.rev)) (take k.place k.members))

pub stays_apart : (k : Kept) (a : Accept) → FitsDocument (document (Some k)) a
    → all_apart (staying k a ++ member_of a ∷ []) ≡ true
stays_apart k a fits = apart_with k.members (member_of a) (kept_apart k) fits.not_older

-- where it is not marked it does not cover the current member
uncovered : (k : Kept) (a : Accept) → FitsDocument (document (Some k)) a → a.current ≡ false
    → not (covers a.rev (current k).rev) ≡ true
uncovered k a fits off = ap not (kept_from fits.settled)
  where
    kept_from : (a.current ≡ true) ⊎ StaysBeside (Some (current k).rev) a.rev → covers a.rev (current k).rev ≡ false
    kept_from (inl on) = absurd (not_both a.current on off)
    kept_from (inr kept) = kept

current_stays_at : (k : Kept) (a : Accept) → FitsDocument (document (Some k)) a → a.current ≡ false
    → slice_get (staying k a) (before_current k a) ≡ Some (current k)
current_stays_at k a fits off =
    get_filtered (λ m. not (covers a.rev m.rev)) k.members k.place (current k) (current_at k) (uncovered k a fits off)

pub before_there : (k : Kept) (a : Accept) → FitsDocument (document (Some k)) a → a.current ≡ false
    → before_current k a < length (staying k a)
before_there k a fits off =
    slice_get_within (staying k a) (before_current k a) (current k) (current_stays_at k a fits off)

-- the member at the place of a set
at_its_place : (s : Kept) (ms : List Member) (place : ℕ) (m : Member) → s.members ≡ ms → s.place ≡ place
    → slice_get ms place ≡ Some m → (current s).rev ≡ m.rev
at_its_place s ms place m members at e =
    ap (λ (n : Member). n.rev) (sym (is_current s m ((λ i. slice_get (members i) (at i)) ∙ e)))

module _ (k s : Kept) (a : Accept) (fits : FitsDocument (document (Some k)) a)
    (members : s.members ≡ staying k a ++ member_of a ∷ []) where
  -- by what the current revision of the set is
  by_current : (r : Clock) → (current s).rev ≡ r
      → Some r ≡ current_after (staying k a ++ member_of a ∷ []) (Some (current k).rev) a
      → document (Some s) ≡ document_after (document (Some k)) a
  by_current r is after =
      (λ i. record { members = members i; current = Some (is i) })
      ∙ (λ i. record { members = staying k a ++ member_of a ∷ []; current = after i })
      ∙ ap (λ (ms : List Member). record { members = ms; current = current_after ms (Some (current k).rev) a })
      (sym (pruned-fits k.members a fits.not_older))

  led : a.current ≡ true → s.place ≡ length (staying k a) → document (Some s) ≡ document_after (document (Some k)) a
  led on place =
      by_current a.rev
      (at_its_place s (staying k a ++ member_of a ∷ []) (length (staying k a)) (member_of a) members place
      (get_last (staying k a) (member_of a)))
      (sym (leads_marked (staying k a ++ member_of a ∷ []) (Some (current k).rev) a
      (accepted_is_there (staying k a) a) on))

  joined : a.current ≡ false → s.place ≡ before_current k a → document (Some s) ≡ document_after (document (Some k)) a
  joined off place =
      by_current (current k).rev
      (at_its_place s (staying k a ++ member_of a ∷ []) (before_current k a) (current k) members place
      (get_left (staying k a) (member_of a ∷ []) (before_current k a) (current k) (current_stays_at k a fits off)))
      (sym (stays_unmarked (staying k a ++ member_of a ∷ []) (current k).rev a
      (has_rev-In (current k) _
      (In-left (current k) (staying k a) (member_of a ∷ [])
      (In-filter (λ m. not (covers a.rev m.rev)) (current k) k.members (current_in k) (uncovered k a fits off)))) off))

  applied : (b : Bool) → a.current ≡ b → s.place ≡ cond b (length (staying k a)) (before_current k a)
      → document (Some s) ≡ document_after (document (Some k)) a
  applied true on place = led on place
  applied false off place = joined off place

-- the answer where the members that stay were found, and how many stand before the current one
pub applied_ok : {E : Type 0} (r : Result Kept E) (k : Kept) (a : Accept) (kept : List Member) (before : ℕ)
    → FitsDocument (document (Some k)) a → kept ≡ filter (λ m. not (covers a.rev m.rev)) k.members →
    before ≡ cond a.current 0 (length (filter (λ m. not (covers a.rev m.rev)) (take k.place k.members))) →
    IfOk r (λ s. s.members ≡ kept ++ member_of a ∷ []) → IfOk r (λ s. s.place ≡ cond a.current (length kept) before)
    → IfOk r (λ s. document (Some s) ≡ document_after (document (Some k)) a)
applied_ok (Ok s) k a kept before fits is count members place =
    applied k s a fits (members ∙ ap (λ (ms : List Member). ms ++ member_of a ∷ []) is) a.current refl
    (place ∙ ap₂ (λ (ms : List Member) (n : ℕ). cond a.current (length ms) n) is count
    ∙ same_else a.current (length (staying k a)) (before_current k a))
  where
    same_else : (b : Bool) (x y : ℕ) → cond b x (cond b 0 y) ≡ cond b x y
    same_else true x y = refl
    same_else false x y = refl
applied_ok (Err x) k a kept before fits is count members place = tt

-- what `accepted` asks for
pub there_of : (k : Kept) (a : Accept) (kept : List Member) (before : ℕ) → FitsDocument (document (Some k)) a
    → kept ≡ filter (λ m. not (covers a.rev m.rev)) k.members →
    before ≡ cond a.current 0 (length (filter (λ m. not (covers a.rev m.rev)) (take k.place k.members)))
    → a.current ≡ false → before < length kept
there_of k a kept before fits is count off =
    omega (arith, before_there k a fits off, ap length is, count ∙ ap (λ b. cond b 0 (before_current k a)) off)

pub apart_of : (k : Kept) (a : Accept) (kept : List Member) → FitsDocument (document (Some k)) a
    → kept ≡ filter (λ m. not (covers a.rev m.rev)) k.members → all_apart (kept ++ member_of a ∷ []) ≡ true
apart_of k a kept fits is =
    ap (λ (ms : List Member). all_apart (ms ++ member_of a ∷ [])) is ∙ stays_apart k a fits

-- ---- the first acceptance

pub only_marked : (a : Accept) → FitsDocument no_document a → a.current ≡ true
only_marked a fits = from fits.settled
  where
    from : (a.current ≡ true) ⊎ ⊥ → a.current ≡ true
    from (inl on) = on
    from (inr none) = absurd none

pub first_ok : {E : Type 0} (r : Result Kept E) (a : Accept) (kept : List Member) → FitsDocument no_document a
    → kept ≡ [] →
    IfOk r (λ s. s.members ≡ kept ++ member_of a ∷ []) → IfOk r (λ s. s.place ≡ cond a.current (length kept) 0)
    → IfOk r (λ s. document (Some s) ≡ document_after no_document a)
first_ok (Ok s) a kept fits none members place =
    (λ i. record {
      members = (members ∙ ap (λ (ms : List Member). ms ++ member_of a ∷ []) none) i;
      current =
          Some (at_its_place s (member_of a ∷ []) 0 (member_of a)
          (members ∙ ap (λ (ms : List Member). ms ++ member_of a ∷ []) none)
          (place ∙ ap₂ (λ (b : Bool) (ms : List Member). cond b (length ms) 0) (only_marked a fits) none) refl i);
    })
    ∙ (λ i. record { members = member_of a ∷ []; current = cond (sym (accepted_is_there [] a) i) (Some a.rev) None })
first_ok (Err x) a kept fits none members place = tt
