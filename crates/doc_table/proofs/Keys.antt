-- What abbreviated keys that differ say of their ids.
use Rattle.std.proofs.Common.{◌≡◌, ◌∙◌, ℕ, false, List, nat_lt, arith, ap, inl, inr}
use Rattle.std.proofs.lemmas.Bool.{cases_lt, le-ltb, lt-ltb}
use Rattle.std.specs.Ordering.{is_eq, is_lt}
use Rattle.key_lanes.proofs.AbbreviatedKeys.{greater_by_key, less_by_key}
use Rattle.u1_base.specs.Ids.{id_cmp}
use Rattle.doc_table.specs.Abbreviated.{IsAbbreviated}

module _ (xs ys : List ℕ) (a b : ℕ) (of_xs : IsAbbreviated xs a) (of_ys : IsAbbreviated ys b) (apart : a ≡ b → ⊥) where
  -- the lower one has the lower id
  pub lower_by_key : nat_lt a b ≡ is_lt (id_cmp xs ys)
  lower_by_key = elim (cases_lt a b) [
    | inl less ↦ lt-ltb a b less ∙ ap is_lt (less_by_key 8 xs ys a b of_xs of_ys less)
    | inr most ↦ le-ltb a b most
        ∙ ap is_lt (greater_by_key 8 xs ys a b of_xs of_ys (omega (arith, most, apart)))
  ]

  -- the ids differ
  pub apart_by_key : false ≡ is_eq (id_cmp xs ys)
  apart_by_key = elim (cases_lt a b) [
    | inl less ↦ ap is_eq (less_by_key 8 xs ys a b of_xs of_ys less)
    | inr most ↦ ap is_eq (greater_by_key 8 xs ys a b of_xs of_ys (omega (arith, most, apart)))
  ]
