-- The numbers of uids: a body names a uid by its number, and gives its text where it is named for the first time.
use Rattle.std.specs.Prelude.{ℕ, ◌≤◌, ◌^◌, Bool, true, not, ◌&&◌, IsTrue, if◌then◌else◌, is_some, List, [], ◌∷◌, ◌++◌}
use Rattle.std.specs.Prelude.{length, position, Option, refl}
use Rattle.std.specs.Coded.{Coded, code_by, coded×, coded_ℕ, coded_list}
use Rattle.std.specs.List.{list_all, list_any}
use Rattle.u1_base.specs.Ids.{is_id, same_id}
use Rattle.u1_base.specs.declared.ids.Form.TheVariants.{Replica}

-- a uid, an id or another text, as its bytes
abbrev pub Text : Type 0
Text = List ℕ

-- the uids that have numbers: those that had one before the body, and those to which the body gives one
pub record Table : Type 0 where
  pub given : List Text
  pub added : List Text

-- the uids in the order of their numbers, which count from 0
abbrev pub uids : Table → List Text
uids t = t.given ++ t.added

abbrev pub number_of : List Text → Text → Option ℕ
number_of us u = position (same_id u) us

-- the table before a body: these uids have numbers
abbrev pub table_with : List Text → Table
table_with us = record { given = us; added = [] }

-- the table when the uid was named: if it had no number, it has the next free one
abbrev pub with_uid : Table → Text → Table
with_uid t u = if is_some (number_of (uids t) u) then t else record { given = t.given; added = t.added ++ u ∷ [] }

-- the table when all of these were named, one after the other
abbrev pub after : Table → List Text → Table
after t [] = t
after t (u ∷ us) = after (with_uid t u) us

abbrev pub are_distinct : List Text → Bool
are_distinct [] = true
are_distinct (u ∷ us) = not (list_any (same_id u) us) && are_distinct us

-- uids as they have numbers: each is one, none has two numbers, and each number fits the four bytes of a reference
pub record AreNumbered (us : List Text) : Type 0 where
  pub ids : IsTrue (list_all (is_id Replica) us)
  pub distinct : IsTrue (are_distinct us)
  pub few : length us ≤ 2 ^ 32

-- what contracts see of the uids that have numbers: them, and how many more may get one without memory
pub record Numbers : Type 0 where
  pub uids : List Text
  pub room : ℕ

abbrev pub numbers_code : Coded Numbers
numbers_code =
    code_by (List Text × ℕ) (coded× (coded_list (coded_list coded_ℕ)) coded_ℕ) (λ n. (n.uids, n.room))
    (λ p. record { uids = p.0; room = p.1 }) (λ _. refl)
