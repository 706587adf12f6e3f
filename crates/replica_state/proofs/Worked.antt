-- The definitions at small states, by computation.
use Rattle.std.specs.Prelude.{◌≡◌, ℕ, List, [], ◌∷◌, Some, refl}
use Rattle.conflicts.specs.declared.moves.PosTable.TheVariants.{Known, Told}
use Rattle.u1_base.specs.Places.{Place}
use Rattle.replica_state.specs.Prepared.{entries_with, names_with, places_with}
use Rattle.replica_state.specs.declared.prepared.Replacement.TheVariants.{NoIndex}

-- ids of one byte: a is 97, b is 98, c is 99
abbrev a : List ℕ
a = 97 ∷ []

abbrev b : List ℕ
b = 98 ∷ []

abbrev c : List ℕ
c = 99 ∷ []

abbrev place : ℕ → Place
place n = record { generation = n; trans = Some (84 ∷ []) }

-- a told move of a peer that is there replaces its place, in the table of told places alone
told_moves : places_with Told (Some (record { table = Told; uid = b; at = place 5 }))
    ((a, place 1) ∷ (b, place 2) ∷ []) ≡ (a, place 1) ∷ (b, place 5) ∷ []
told_moves = refl

known_stays : places_with Known (Some (record { table = Told; uid = b; at = place 5 })) ((b, place 2) ∷ [])
    ≡ (b, place 2) ∷ []
known_stays = refl

-- one of a new peer stands in the order of uids
new_peer : places_with Known (Some (record { table = Known; uid = b; at = place 5 }))
    ((a, place 1) ∷ (c, place 2) ∷ []) ≡ (a, place 1) ∷ (b, place 5) ∷ (c, place 2) ∷ []
new_peer = refl

-- an entry comes last
entry_last : entries_with (Some (record { doc = a; trans = b })) (record { doc = c; trans = c } ∷ [])
    ≡ record { doc = c; trans = c } ∷ record { doc = a; trans = b } ∷ []
entry_last = refl

-- an index goes by its name, and one that is not there changes nothing
index_goes : names_with (NoIndex b) ((a, []) ∷ (b, []) ∷ []) ≡ (a, []) ∷ []
index_goes = refl

none_goes : names_with (NoIndex c) ((a, []) ∷ (b, []) ∷ []) ≡ (a, []) ∷ (b, []) ∷ []
none_goes = refl
