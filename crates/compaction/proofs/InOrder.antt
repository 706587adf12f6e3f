-- A revision is that of a member where a walk along the members finds it, the current one first.
use Rattle.std.proofs.Common.{◌≡◌, ℕ, zero, suc, ◌+◌, ◌≤◌, Bool, true, false, cond, List, [], ◌∷◌, length, take, filter}
use Rattle.std.proofs.Common.{Option, refl, sym, ap, ◌∙◌, arith, length-append, take_all, true≢false}
use Rattle.std.specs.Prelude.{not, ◌||◌, slice_get}
use Rattle.std.specs.List.{list_any}
use Rattle.std.specs.Option.{option_to_list}
use Rattle.std.proofs.lemmas.List.Filters.{length-filter_both}
use Rattle.std.proofs.lemmas.List.Folds.{list_any-append}
use Rattle.vector_rev.specs.Clock.{Clock}
use Rattle.vector_rev.specs.Compare.{same}
use Rattle.conflicts.specs.Document.{has_rev, in_order}
use Rattle.conflicts.specs.Kept.{Kept, current, current_first}
use Rattle.conflicts.specs.declared.member.Member.{Member}

parts : (a x y : Bool) → ((a || x) || y) ≡ (a || (x || y))
parts true x y = refl
parts false x y = refl

swap : (a x y : Bool) → (x || (a || y)) ≡ (a || (x || y))
swap true true y = refl
swap true false y = refl
swap false x y = refl

split : (p q : Member → Bool) (ms : List Member)
    → (list_any p (filter q ms) || list_any p (filter (λ m. not (q m)) ms)) ≡ list_any p ms
split p q [] = refl
split p q (m ∷ ms) =
    let x = list_any p (filter q ms) in
    let y = list_any p (filter (λ n. not (q n)) ms) in
    elim (q m) as (λ b. (list_any p (cond b (m ∷ filter q ms) (filter q ms))
    || list_any p (cond (not b) (m ∷ filter (λ n. not (q n)) ms) (filter (λ n. not (q n)) ms)))
    ≡ (p m || list_any p ms)) [
      | true ↦ parts (p m) x y ∙ ap (λ b. p m || b) (split p q ms)
      | false ↦ swap (p m) x y ∙ ap (λ b. p m || b) (split p q ms)
    ]

pub has_rev-in_order : (c r : Clock) (ms : List Member) → has_rev (in_order c ms) r ≡ has_rev ms r
has_rev-in_order c r ms =
    list_any-append (λ m. same m.rev r) (filter (λ m. same m.rev c) ms) (filter (λ m. not (same m.rev c)) ms)
    ∙ split (λ m. same m.rev r) (λ m. same m.rev c) ms

pub length-in_order : (c : Clock) (ms : List Member) → length (in_order c ms) ≡ length ms
length-in_order c ms =
    length-append (filter (λ m. same m.rev c) ms) (filter (λ m. not (same m.rev c)) ms)
    ∙ length-filter_both (λ m. same m.rev c) (λ m. not (same m.rev c)) (λ m. refl) ms

has_rev-next : (ms : List Member) (r : Clock) (n : ℕ)
    → has_rev (take (suc n) ms) r ≡ (has_rev (take n ms) r || has_rev (option_to_list (slice_get ms n)) r)
has_rev-next [] r zero = refl
has_rev-next [] r (suc n) = refl
has_rev-next (m ∷ ms) r zero = refl
has_rev-next (m ∷ ms) r (suc n) =
    ap (λ b. same m.rev r || b) (has_rev-next ms r n) ∙ sym (parts (same m.rev r) (has_rev (take n ms) r) _)

-- one member more of the walk
pub has_rev-more : (ms : List Member) (r : Clock) (n : ℕ)
    → has_rev (take (n + 1) ms) r ≡ (has_rev (take n ms) r || has_rev (option_to_list (slice_get ms n)) r)
has_rev-more ms r n =
    let next : n + 1 ≡ suc n = omega arith in
    ap (λ k. has_rev (take k ms) r) next ∙ has_rev-next ms r n

at_place : (ms : List Member) (r : Clock) (n : ℕ) → has_rev (option_to_list (slice_get ms n)) r ≡ true
    → has_rev ms r ≡ true
at_place [] r n e = absurd (true≢false (sym e))
at_place (m ∷ ms) r zero e = either (same m.rev r) e
  where
    either : (b : Bool) → (b || false) ≡ true → (b || has_rev ms r) ≡ true
    either true e = refl
    either false e = absurd (true≢false (sym e))
at_place (m ∷ ms) r (suc n) e = last (same m.rev r) (at_place ms r n e)
  where
    last : (b : Bool) → has_rev ms r ≡ true → (b || has_rev ms r) ≡ true
    last true e = refl
    last false e = e

-- ---- of a document that is there

pub is_found : (k : Kept) (r : Clock) (n : ℕ) (o : Option Member) (b : Bool) → o ≡ slice_get (current_first k) n
    → b ≡ has_rev (option_to_list o) r → b ≡ true → true ≡ has_rev k.members r
is_found k r n o b is_member is_that found =
    sym (at_place (current_first k) r n (ap (λ p. has_rev (option_to_list p) r) (sym is_member) ∙ sym is_that ∙ found))
    ∙ has_rev-in_order (current k).rev r k.members

or_none : (x y : Bool) → x ≡ false → y ≡ false → (x || y) ≡ false
or_none false y e f = f
or_none true y e f = e

pub none_so_far : (k : Kept) (r : Clock) (n : ℕ) (o : Option Member) (b : Bool) → o ≡ slice_get (current_first k) n
    → b ≡ has_rev (option_to_list o) r → b ≡ false → has_rev (take n (current_first k)) r ≡ false
    → has_rev (take (n + 1) (current_first k)) r ≡ false
none_so_far k r n o b is_member is_that other before =
    has_rev-more (current_first k) r n
    ∙ or_none _ _ before (ap (λ p. has_rev (option_to_list p) r) (sym is_member) ∙ sym is_that ∙ other)

pub none_at_all : (k : Kept) (r : Clock) (n : ℕ) → length k.members ≤ n → has_rev (take n (current_first k)) r ≡ false
    → false ≡ has_rev k.members r
none_at_all k r n past none =
    sym none
    ∙ ap (λ ms. has_rev ms r)
    (take_all n (current_first k) (omega (arith, length-in_order (current k).rev k.members, past)))
    ∙ has_rev-in_order (current k).rev r k.members
