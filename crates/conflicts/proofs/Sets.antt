-- A kept document: what is asked of it as a document is asked of its members and of the place of the current one.
use Rattle.std.specs.Prelude.{◌≡◌, ℕ, zero, suc, ◌-◌, ◌<◌, ◌≤◌, Bool, true, false, cond, not, ◌||◌, T, List, [], ◌∷◌}
use Rattle.std.specs.Prelude.{◌++◌, filter, length, slice_get, Option, None, Some, is_some, is_none, refl}
use Rattle.std.proofs.Common.{sym, ◌∙◌, ap, arith}
use Rattle.std.proofs.lemmas.Option.{same_Some, slice_get_within}
use Rattle.content.specs.Tree.{Tree}
use Rattle.vector_rev.proofs.Truths.{T_true}
use Rattle.vector_rev.specs.Clock.{Clock}
use Rattle.vector_rev.specs.Compare.{same}
use Rattle.conflicts.specs.Lists.{In}
use Rattle.conflicts.specs.Document.{has_rev, others, content_at, current_member, content_of, is_live}
use Rattle.conflicts.specs.Kept.{Kept, all_apart, value_of, current, current_first, document}
use Rattle.conflicts.specs.Decision.{is_alike, alike}
use Rattle.conflicts.specs.declared.member.Member.{Member}
use Rattle.conflicts.proofs.Apart.{same_itself, In-get, other_clock, one_at, without, others_at}
use Rattle.u1_base.proofs.Booleans.{not_true}
use Rattle.conflicts.proofs.Members.{passes_none, from_filter}

-- ---- the current member

value_is : {A : Type 0} (o : Option A) (there : T (is_some o)) → o ≡ Some (value_of o there)
value_is None there = absurd there
value_is (Some x) there = refl

-- it stands at its place
pub current_at : (k : Kept) → slice_get k.members k.place ≡ Some (current k)
current_at k = value_is (slice_get k.members k.place) k.there

pub is_current : (k : Kept) (m : Member) → slice_get k.members k.place ≡ Some m → m ≡ current k
is_current k m e = same_Some m (current k) (sym e ∙ current_at k)

pub place_there : (k : Kept) → k.place < length k.members
place_there k = slice_get_within k.members k.place (current k) (current_at k)

pub current_in : (k : Kept) → In (current k) k.members
current_in k = In-get k.members k.place (current k) (current_at k)

pub kept_apart : (k : Kept) → all_apart k.members ≡ true
kept_apart k = T_true _ k.apart

-- a member at another place has another clock
pub other_at : (k : Kept) (i : ℕ) (m : Member) → slice_get k.members i ≡ Some m → (i ≡ k.place → ⊥)
    → same m.rev (current k).rev ≡ false
other_at k i m e other = other_clock k.members (kept_apart k) i k.place m (current k) e (current_at k) other

-- ---- the members, the current one first

pub current_first_is : (k : Kept) → current_first k ≡ current k ∷ others (current k).rev k.members
current_first_is k =
    ap (λ (ms : List Member). ms ++ others (current k).rev k.members)
    (one_at k.members k.place (current k) (kept_apart k) (current_at k))

without_before : {A : Type 0} (xs : List A) (place i : ℕ) → i < place → slice_get (without place xs) i ≡ slice_get xs i
without_before [] place i less = refl
without_before (x ∷ xs) zero i less = absurd (omega (arith, less))
without_before (x ∷ xs) (suc place) zero less = refl
without_before (x ∷ xs) (suc place) (suc i) less = without_before xs place i (omega (arith, less))

without_behind : {A : Type 0} (xs : List A) (place i : ℕ) → place ≤ i
    → slice_get (without place xs) i ≡ slice_get xs (suc i)
without_behind [] place i most = refl
without_behind (x ∷ xs) zero i most = refl
without_behind (x ∷ xs) (suc place) zero most = absurd (omega (arith, most))
without_behind (x ∷ xs) (suc place) (suc i) most = without_behind xs place i (omega (arith, most))

listed : (k : Kept) → current_first k ≡ current k ∷ without k.place k.members
listed k =
    current_first_is k ∙ ap (λ ms. current k ∷ ms)
    (others_at k.members k.place (current k) (kept_apart k) (current_at k))

pub first_listed : (k : Kept) (m : Member) → m ≡ current k → Some m ≡ slice_get (current_first k) 0
first_listed k m e = ap Some e ∙ ap (λ (ms : List Member). slice_get ms 0) (sym (listed k))

pub listed_before : (k : Kept) (i : ℕ) → (i ≡ 0 → ⊥) → i ≤ k.place
    → slice_get k.members (i - 1) ≡ slice_get (current_first k) i
listed_before k zero some most = absurd (some refl)
listed_before k (suc i) some most =
    ap (slice_get k.members) (one_less i)
    ∙ sym (without_before k.members k.place i (omega (arith, most)))
    ∙ ap (λ (ms : List Member). slice_get ms (suc i)) (sym (listed k))
  where
    one_less : (i : ℕ) → suc i - 1 ≡ i
    one_less i = omega arith

pub listed_behind : (k : Kept) (i : ℕ) → k.place < i → slice_get k.members i ≡ slice_get (current_first k) i
listed_behind k zero most = absurd (omega (arith, most))
listed_behind k (suc i) most =
    sym (without_behind k.members k.place i (omega (arith, most)))
    ∙ ap (λ (ms : List Member). slice_get ms (suc i)) (sym (listed k))

-- ---- the content of the current member

content_there : (ms : List Member) (place : ℕ) (c : Member) → all_apart ms ≡ true → slice_get ms place ≡ Some c
    → content_at c.rev ms ≡ c.content
content_there ms place c h e = through (one_at ms place c h e)
  where
    -- the first member with the clock is the first one that a filter by it leaves
    first_left : (r : Clock) (ns : List Member) (n : Member) (more : List Member)
        → filter (λ m. same m.rev r) ns ≡ n ∷ more → content_at r ns ≡ n.content
    first_left r [] n more q = cc
    first_left r (x ∷ ns) n more q =
        elim (same x.rev r) as (λ b. cond b (x ∷ filter (λ m. same m.rev r) ns) (filter (λ m. same m.rev r) ns) ≡ n
        ∷ more → cond b x.content (content_at r ns) ≡ n.content) [
          | true ↦ λ z. ap (λ (ms : List Member). head_content n ms) z
          | false ↦ λ z. first_left r ns n more z
        ] q
      where
        head_content : Member → List Member → Option Tree
        head_content n [] = n.content
        head_content n (m ∷ ms) = m.content

    through : filter (λ m. same m.rev c.rev) ms ≡ c ∷ [] → content_at c.rev ms ≡ c.content
    through q = first_left c.rev ms c [] q

pub content_kept : (k : Kept) → content_of (document (Some k)) ≡ (current k).content
content_kept k = content_there k.members k.place (current k) (kept_apart k) (current_at k)

pub member_kept : (k : Kept) → current_member (document (Some k)) ≡ Some (current k)
member_kept k = ap (λ t. Some (record { rev = (current k).rev; content = t })) (content_kept k)

-- the current member is among those that are alike where it is alike
pub alike_current : (k : Kept) (x : Member)
    → has_rev (alike x (current_first k)) (current k).rev ≡ is_alike x (current k)
alike_current k x =
    let rest = others (current k).rev k.members in
    let none : has_rev (alike x rest) (current k).rev ≡ false =
    passes_none (λ m. same m.rev (current k).rev) (alike x rest) (λ m i.
    not_true _ (from_filter (λ m. not (same m.rev (current k).rev)) m k.members
    (from_filter (is_alike x) m rest i).0).1) in
    ap (λ (ms : List Member). has_rev (alike x ms) (current k).rev) (current_first_is k)
    ∙ elim (is_alike x (current k)) as
    (λ b. has_rev (cond b (current k ∷ alike x rest) (alike x rest)) (current k).rev ≡ b) [
      | true ↦ ap (λ b. b || has_rev (alike x rest) (current k).rev) (same_itself (current k).rev)
      | false ↦ none
    ]

-- an edit that names no revision
pub named_none : (k : Kept) (o : Option Tree) (b : Bool) → o ≡ (current k).content → b ≡ is_none o
    → b ≡ not (is_live (document (Some k)))
named_none k o b e is = is ∙ ap (λ (t : Option Tree). not (is_some t)) (e ∙ sym (content_kept k))
