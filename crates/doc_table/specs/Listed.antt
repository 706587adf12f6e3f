-- What a contract sees of a table. How it is stored, at the end of this file, is private.
use Rattle.std.specs.Prelude.{◌≡◌, ℕ, not, List, T}
use Rattle.std.specs.Coded.{Coded, coded×, coded_ℕ, coded_list}
use Rattle.std.specs.FinMap.Entries.{is_sorted, where_key}
use Rattle.std.proofs.Math.Dec.{T_prop}
use base.Stored.{coded_via}
use mathlib.Core.HLevel.{Σ_prop_path}
use Rattle.u1_base.specs.Ids.{id_cmp, same_id}

-- the pairs of an id and a value, and that they go by id, each id once; and how many new ids may be put without memory
pub record Listed (V : Type 0) : Type 0 where
  pub pairs : List (List ℕ × V)
  pub sorted : T (is_sorted id_cmp pairs)
  pub room : ℕ

-- the pairs but that of the id
abbrev pub without : {V : Type 0} → List ℕ → List (List ℕ × V) → List (List ℕ × V)
without id pairs = where_key id_cmp (λ other. not (same_id id other)) pairs

-- ---- how it is stored

-- pairs and room tell a table
pub same_listed : {V : Type 0} (x y : Listed V)
    → ◌≡◌ {A = List (List ℕ × V) × ℕ} (x.pairs, x.room) (y.pairs, y.room) → x ≡ y
same_listed {V} x y e =
    let sorted : ◌≡◌ {A = (es : List (List ℕ × V)) × T (is_sorted id_cmp es)} (x.pairs, x.sorted) (y.pairs, y.sorted) =
    Σ_prop_path (λ es. T_prop _) (λ i. (e i).0) in
    λ i. record { pairs = (sorted i).0; sorted = (sorted i).1; room = (e i).1 }

-- a table is stored as these two
abbrev pub listed_code : {V : Type 0} → Coded V → Coded (Listed V)
listed_code {V} code =
    coded_via (coded× (coded_list (coded× (coded_list coded_ℕ) code)) coded_ℕ) (λ v. (v.pairs, v.room)) same_listed
