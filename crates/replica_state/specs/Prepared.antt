-- What is prepared for a step, what it leaves where it is put in, and which state can take it.
use Rattle.std.specs.Prelude.{◌≡◌, ◌≤◌, ℕ, cond, List, [], ◌∷◌, ◌++◌, map, length, Option, Some, None, IfSome}
use Rattle.std.specs.List.{All}
use Rattle.std.specs.FinMap.Entries.{find, put}
use Rattle.u1_base.specs.Ids.{id_cmp}
use Rattle.u1_base.specs.Places.{Place}
use Rattle.vector_rev.specs.Counts.{Uid}
use Rattle.translog.specs.declared.entry.Entry.{Entry}
use Rattle.conflicts.specs.Kept.{Kept}
use Rattle.conflicts.specs.State.{Text, after, same_table}
use Rattle.conflicts.specs.declared.moves.Move.{Move}
use Rattle.conflicts.specs.declared.moves.PosTable.{PosTable}
use Rattle.conflicts.specs.declared.moves.PosTable.TheVariants.{Known, Told}
use Rattle.doc_table.specs.Listed.{Listed, without}
use Rattle.index_tables.specs.Entries.{entries_of}
use Rattle.replica_state.specs.Held.{Heading, Held, Lists, Names, chosen, lists_of, meaning, meaning_of}
use Rattle.replica_state.specs.Keyed.{Docs, IsTable, keys_of_kept, keys_there}
use Rattle.replica_state.specs.Steps.{step_of}
use Rattle.replica_state.specs.declared.prepared.KeyChange.{KeyChange}
use Rattle.replica_state.specs.declared.prepared.Parts.{Parts}
use Rattle.replica_state.specs.declared.prepared.Prepared.{Prepared}
use Rattle.replica_state.specs.declared.prepared.Replacement.{Replacement}
use Rattle.replica_state.specs.declared.prepared.Replacement.TheVariants.{Nothing, Document, NewIndex, NoIndex}
use Rattle.replica_state.specs.declared.step.Step.{Step}

-- ---- what is put in

abbrev pub docs_with : Replacement → Docs → Docs
docs_with Nothing docs = docs
docs_with (Document id set changes) docs = put id_cmp id set docs
docs_with (NewIndex index) docs = docs
docs_with (NoIndex name) docs = docs

abbrev pub names_with : Replacement → Names → Names
names_with Nothing names = names
names_with (Document id set changes) names = names
names_with (NewIndex index) names = put id_cmp index.name index.exprs.texts names
names_with (NoIndex name) names = without name names

abbrev pub entries_with : Option Entry → List Entry → List Entry
entries_with None log = log
entries_with (Some entry) log = log ++ entry ∷ []

-- the positions of a table with a move, where it is one of this table
abbrev pub places_with : PosTable → Option Move → List (Uid × Place) → List (Uid × Place)
places_with table None places = places
places_with table (Some moved) places = cond (same_table table moved.table)
    (put id_cmp moved.uid moved.at places) places

-- THE LISTS WITH THE PARTS that are prepared
abbrev pub lists_with : Parts → Lists → Lists
lists_with p l = record {
  name = l.name;
  uid = l.uid;
  docs = docs_with p.replacement l.docs;
  log = entries_with p.entry l.log;
  known = places_with Known p.moved l.known;
  told = places_with Told p.moved l.told;
  indexes = names_with p.replacement l.indexes;
}

-- these are the parts of the state after the step
abbrev pub IsPartsOf : Held → Step → Prepared → Type 0
IsPartsOf s x p = meaning_of (lists_with p.parts.value (lists_of s)) ≡ after (meaning s) (step_of x)

-- ---- which state can take it

-- where a document is put, the keys go that an index has of the old one, and the pairs of those of the new one come
abbrev pub key_change : Text → Option Kept → Kept → List Text → KeyChange
key_change id old new exprs = record { gone = keys_there exprs old; pairs = entries_of id (keys_of_kept exprs new) }

-- documents have room for one more, and the tables of the indexes for its pairs; the changes of the indexes are those
-- of this document
pub record TakesDocument (docs : Listed Kept) (indexes : List Heading) (id : Text) (set : Kept)
    (changes : List KeyChange) : Type 0 where
  pub place : 1 ≤ docs.room
  pub changed : changes ≡ map (λ x. key_change id (find id_cmp id docs.pairs) set x.exprs) indexes
  pub room : All (λ x. length (keys_of_kept x.exprs set) ≤ x.room) indexes

-- documents and indexes, with so many places for further ones, can take what is to be replaced. The table of a new
-- index is that of these documents
abbrev pub Takes : Listed Kept → List Heading → ℕ → Replacement → Type 0
Takes docs indexes vacant Nothing = Unit {0}
Takes docs indexes vacant (Document id set changes) = TakesDocument docs indexes id set changes.items
Takes docs indexes vacant (NewIndex index) = (1 ≤ vacant) × IsTable docs.pairs index
Takes docs indexes vacant (NoIndex name) = Unit {0}

-- the state has room for the parts, and they are of its documents
pub record TakesParts (s : Held) (p : Parts) : Type 0 where
  pub collection : Takes s.collection.docs s.collection.indexes s.collection.vacant p.replacement
  pub log : IfSome p.entry (λ _. 1 ≤ s.log.room)
  pub moved : IfSome p.moved (λ m. 1 ≤ (chosen m.table s.known s.told).room)

-- THE STATE IS READY for what is prepared
abbrev pub IsReady : Held → Prepared → Type 0
IsReady s p = TakesParts s p.parts.value
