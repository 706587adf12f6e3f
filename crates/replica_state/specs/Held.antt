-- What a contract sees of a state, and the state that it stands for. How it is stored, at the end of this file, is
-- private.
use Rattle.std.specs.Prelude.{◌≡◌, ℕ, List, [], map, T, refl}
use Rattle.std.specs.Coded.{Coded, code_by, coded×, coded_ℕ, coded_list}
use Rattle.std.specs.FinMap.Entries.{find, is_sorted}
use Rattle.std.proofs.Math.Dec.{T_prop}
use base.Stored.{coded_via}
use mathlib.Core.HLevel.{Σ_prop_path}
use Rattle.u1_base.specs.Ids.{id_cmp}
use Rattle.u1_base.specs.Places.{Place, place_code}
use Rattle.vector_rev.specs.Counts.{Uid}
use Rattle.translog.specs.declared.entry.Entry.{Entry}
use Rattle.translog.specs.Log.{Log}
use Rattle.conflicts.specs.Kept.{Kept, kept_code, document}
use Rattle.conflicts.specs.State.{State, Text}
use Rattle.conflicts.specs.declared.moves.PosTable.{PosTable}
use Rattle.conflicts.specs.declared.moves.PosTable.TheVariants.{Known, Told}
use Rattle.doc_table.specs.Listed.{Listed, listed_code}
use Rattle.replica_state.specs.Keyed.{Docs}

-- ---- documents and indexes

-- names of indexes with the canonical texts of their expressions
abbrev pub Names : Type 0
Names = List (Text × List Text)

-- an index without its table: its name, the canonical texts of its expressions, and how many pairs its table may take
-- without memory
pub record Heading : Type 0 where
  pub name : Text
  pub exprs : List Text
  pub room : ℕ

abbrev pub named : List Heading → Names
named indexes = map (λ x. (x.name, x.exprs)) indexes

-- the documents in the order of their ids, the indexes in the order of their names, each once, and how many indexes may
-- be added without memory
pub record Collected : Type 0 where
  pub docs : Listed Kept
  pub indexes : List Heading
  pub sorted : T (is_sorted id_cmp (named indexes))
  pub vacant : ℕ

-- ---- the state

-- the name, the uid, documents with indexes, the log, and the positions that are known and told
pub record Held : Type 0 where
  pub name : Text
  pub uid : Uid
  pub collection : Collected
  pub log : Log
  pub known : Listed Place
  pub told : Listed Place

-- ---- what it stands for

-- a state as sorted lists: documents by their ids, positions by uids, indexes by names; the log oldest entry first
pub record Lists : Type 0 where
  pub name : Text
  pub uid : Uid
  pub docs : Docs
  pub log : List Entry
  pub known : List (Uid × Place)
  pub told : List (Uid × Place)
  pub indexes : Names

-- the lists of a state: it without its room
abbrev pub lists_of : Held → Lists
lists_of s = record {
  name = s.name;
  uid = s.uid;
  docs = s.collection.docs.pairs;
  log = s.log.entries;
  known = s.known.pairs;
  told = s.told.pairs;
  indexes = named s.collection.indexes;
}

-- those of the empty history
abbrev pub no_lists : Text → Uid → Lists
no_lists name uid = record { name = name; uid = uid; docs = []; log = []; known = []; told = []; indexes = [] }

-- one of the two tables of positions
abbrev pub chosen : {A : Type 0} → PosTable → A → A → A
chosen Known known told = known
chosen Told known told = told

-- what the lists answer for an id, a uid and a name
abbrev pub meaning_of : Lists → State
meaning_of l = record {
  name = l.name;
  uid = l.uid;
  document = λ d. document (find id_cmp d l.docs);
  log = l.log;
  position = λ t u. find id_cmp u (chosen t l.known l.told);
  index = λ n. find id_cmp n l.indexes;
}

-- THE STATE that a value stands for
abbrev pub meaning : Held → State
meaning s = meaning_of (lists_of s)

-- ---- how it is stored: an order is told by what is ordered

abbrev pub heading_code : Coded Heading
heading_code =
    code_by (Text × (List Text × ℕ)) (coded× (coded_list coded_ℕ) (coded× (coded_list (coded_list coded_ℕ)) coded_ℕ))
    (λ x. (x.name, (x.exprs, x.room))) (λ p. record { name = p.0; exprs = p.1.0; room = p.1.1 }) (λ _. refl)

pub same_collected : (x y : Collected)
    → ◌≡◌ {A = Listed Kept × (List Heading × ℕ)} (x.docs, (x.indexes, x.vacant)) (y.docs, (y.indexes, y.vacant)) → x ≡ y
same_collected x y e =
    let sorted : ◌≡◌ {A = (hs : List Heading) × T (is_sorted id_cmp (named hs))} (x.indexes, x.sorted)
    (y.indexes, y.sorted) = Σ_prop_path (λ hs. T_prop _) (λ i. (e i).1.0) in
    λ i. record { docs = (e i).0; indexes = (sorted i).0; sorted = (sorted i).1; vacant = (e i).1.1 }

abbrev pub collected_code : Coded Collected
collected_code =
    coded_via (coded× (listed_code kept_code) (coded× (coded_list heading_code) coded_ℕ))
    (λ c. (c.docs, (c.indexes, c.vacant))) same_collected

abbrev pub entry_code : Coded Entry
entry_code =
    code_by (Text × Text) (coded× (coded_list coded_ℕ) (coded_list coded_ℕ)) (λ e. (e.doc, e.trans))
    (λ p. record { doc = p.0; trans = p.1 }) (λ _. refl)

abbrev pub log_code : Coded Log
log_code =
    code_by (List Entry × ℕ) (coded× (coded_list entry_code) coded_ℕ) (λ l. (l.entries, l.room))
    (λ p. record { entries = p.0; room = p.1 }) (λ _. refl)

abbrev pub held_code : Coded Held
held_code =
    code_by ((Text × Uid) × (Collected × (Log × (Listed Place × Listed Place))))
    (coded× (coded× (coded_list coded_ℕ) (coded_list coded_ℕ))
    (coded× collected_code (coded× log_code (coded× (listed_code place_code) (listed_code place_code)))))
    (λ s. ((s.name, s.uid), (s.collection, (s.log, (s.known, s.told)))))
    (λ p. record { name = p.0.0; uid = p.0.1; collection = p.1.0; log = p.1.1.0; known = p.1.1.1.0; told = p.1.1.1.1 })
    (λ _. refl)
