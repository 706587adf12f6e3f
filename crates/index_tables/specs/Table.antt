-- What a contract sees of the table of an index. How it is stored, at the end of this file, is private.
use Rattle.std.specs.Prelude.{◌≡◌, ℕ, List}
use Rattle.std.specs.Coded.{Coded, coded×, coded_ℕ, coded_list}
use Rattle.std.specs.Ordering.{Ordering-set}
use base.Stored.{coded_via}
use mathlib.Core.HLevel.{Σ_prop_path}
use Rattle.index_tables.specs.Order.{Entry, IsInOrder}

-- the entries, and that they are in order; and how many more may be put in without memory
pub record Indexed : Type 0 where
  pub pairs : List Entry
  pub order : IsInOrder pairs
  pub room : ℕ

-- ---- how it is stored

-- entries and room tell a table: entries are in order in one way alone
pub in_order_once : (entries : List Entry) (one other : IsInOrder entries) → one ≡ other
in_order_once entries one other i j k d lt le = Ordering-set _ _ (one j k d lt le) (other j k d lt le) i

pub same_indexed : (x y : Indexed) → ◌≡◌ {A = List Entry × ℕ} (x.pairs, x.room) (y.pairs, y.room) → x ≡ y
same_indexed x y e =
    let ordered : ◌≡◌ {A = (entries : List Entry) × IsInOrder entries} (x.pairs, x.order) (y.pairs, y.order) =
    Σ_prop_path in_order_once (λ i. (e i).0) in
    λ i. record { pairs = (ordered i).0; order = (ordered i).1; room = (e i).1 }

-- it is stored as these two
abbrev pub indexed_code : Coded Indexed
indexed_code =
    coded_via (coded× (coded_list (coded× (coded_list (coded_list coded_ℕ)) (coded_list coded_ℕ))) coded_ℕ)
    (λ v. (v.pairs, v.room)) same_indexed
