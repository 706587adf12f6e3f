-- Counters by uid: what a vector clock says.
use Rattle.std.specs.Prelude.{ℕ, suc, max, List, [], ◌∷◌, unwrap_or}
use Rattle.std.specs.FinMap.Entries.{find, put}
use Rattle.u1_base.specs.Ids.{id_cmp}

-- a uid as the list of its bytes
abbrev pub Uid : Type 0
Uid = List ℕ

-- uids with their counters; in a clock they stand in the order of the uids, which `find` and `put` keep
abbrev pub Entries : Type 0
Entries = List (Uid × ℕ)

-- the counter of a uid, 0 where it has no entry
abbrev pub count_in : Entries → Uid → ℕ
count_in es u = unwrap_or (find id_cmp u es) 0

-- the entries with the counter of a uid raised by one
abbrev pub raised : Entries → Uid → Entries
raised es u = put id_cmp u (suc (count_in es u)) es

-- of each uid the greater counter: each entry of the first is put into the second
abbrev pub join : Entries → Entries → Entries
join [] ys = ys
join (e ∷ es) ys = put id_cmp e.0 (max e.1 (count_in ys e.0)) (join es ys)

-- of each uid the greatest counter among the entries of a list
abbrev pub join_all : List Entries → Entries
join_all [] = []
join_all (es ∷ more) = join es (join_all more)
