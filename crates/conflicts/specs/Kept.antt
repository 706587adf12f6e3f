-- A document that is there, as it is kept: its members, and the place of the current one among them. How it is stored,
-- at the end of this file, is private.
use Rattle.std.specs.Prelude.{◌≡◌, ℕ, zero, suc, ◌<◌, Bool, true, not, ◌&&◌, T, is_some, List, [], ◌∷◌, length}
use Rattle.std.specs.Prelude.{slice_get, Option, Some, None, refl}
use Rattle.std.specs.List.{list_all}
use Rattle.std.specs.Coded.{Coded, code_by, coded×, coded_ℕ, coded_list, coded_option}
use base.Stored.{coded_via}
use mathlib.Core.HLevel.{Σ_prop_path}
use Rattle.std.proofs.Common.{arith}
use Rattle.std.proofs.Math.Dec.{T_prop}
use Rattle.content.specs.Tree.{Tree}
use Rattle.content.specs.TreeCode.{tree_code}
use Rattle.vector_rev.specs.Clock.{Clock, covers}
use Rattle.vector_rev.specs.Stored.{clock_code}
use Rattle.conflicts.specs.Document.{Document, no_document, in_order}
use Rattle.conflicts.specs.declared.member.Member.{Member}

-- neither of two members covers the other
abbrev pub are_apart : Member → Member → Bool
are_apart m n = not (covers m.rev n.rev) && not (covers n.rev m.rev)

-- no two members of the list are ordered by their clocks
abbrev pub all_apart : List Member → Bool
all_apart [] = true
all_apart (m ∷ ms) = list_all (are_apart m) ms && all_apart ms

-- the members in the order of their last acceptances, and the place of the current one, counted from 0
pub record Kept : Type 0 where
  pub members : List Member
  pub place : ℕ
  pub there : T (is_some (slice_get members place))
  pub apart : T (all_apart members)

-- the value that is there
abbrev pub value_of : {A : Type 0} (o : Option A) → T (is_some o) → A
value_of None there = absurd there
value_of (Some x) there = x

-- the current member
abbrev pub current : Kept → Member
current k = value_of (slice_get k.members k.place) k.there

-- the members, the current one first
abbrev pub current_first : Kept → List Member
current_first k = in_order (current k).rev k.members

-- the document that is kept so
abbrev pub document : Option Kept → Document
document None = no_document
document (Some k) = record { members = k.members; current = Some (current k).rev }

-- ---- how it is stored: as its members and the place, since they determine it

pub at_place : {A : Type 0} (xs : List A) (place : ℕ) → place < length xs → T (is_some (slice_get xs place))
at_place [] place low = absurd (omega (arith, low))
at_place (x ∷ xs) zero low = tt
at_place (x ∷ xs) (suc place) low = at_place xs place (omega (arith, low))

pub same_kept : (j k : Kept) → j.members ≡ k.members → j.place ≡ k.place → j ≡ k
same_kept j k members place =
    let pairs : ◌≡◌ {A = List Member × ℕ} (j.members, j.place) (k.members, k.place) = λ i. (members i, place i) in
    let there : ◌≡◌ {A = (p : List Member × ℕ) × T (is_some (slice_get p.0 p.1))} ((j.members, j.place), j.there)
    ((k.members, k.place), k.there) = Σ_prop_path (λ p. T_prop _) pairs in
    let apart : ◌≡◌ {A = (ms : List Member) × T (all_apart ms)} (j.members, j.apart) (k.members, k.apart) =
    Σ_prop_path (λ ms. T_prop _) members in
    λ i. record { members = members i; place = place i; there = (there i).1; apart = (apart i).1 }

abbrev pub member_code : Coded Member
member_code =
    code_by (Clock × Option Tree) (coded× clock_code (coded_option tree_code)) (λ m. (m.rev, m.content))
    (λ p. record { rev = p.0; content = p.1 }) (λ _. refl)

abbrev pub kept_code : Coded Kept
kept_code =
    coded_via (coded× (coded_list member_code) coded_ℕ) (λ (k : Kept). (k.members, k.place))
    (λ j k e. same_kept j k (λ i. (e i).0) (λ i. (e i).1))
