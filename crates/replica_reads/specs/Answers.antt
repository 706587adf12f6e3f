-- What an index answers, as a list that is computed from the documents.
use Rattle.std.specs.Prelude.{◌≡◌, ℕ, Bool, cond, List, [], ◌∷◌, map, T, Option, Some, None}
use Rattle.std.specs.BTreeSet.{insert_key}
use Rattle.std.specs.FinMap.Entries.{find, is_sorted}
use Rattle.std.specs.List.{filter_map, flat_map}
use Rattle.std.specs.Option.{option_map}
use Rattle.std.specs.Ordering.{is_lt}
use Rattle.std.specs.declared.cmp.Ordering.{Ordering}
use Rattle.u1_base.specs.Ids.{id_cmp}
use Rattle.index_tables.specs.Documents.{Documents, keys_at}
use Rattle.index_tables.specs.Order.{Entry, Key, entry_cmp, key_cmp}
use Rattle.query_range.specs.Answers.{AreKeysBy, IsAnswerBy}
use Rattle.conflicts.specs.Document.{content_of}
use Rattle.conflicts.specs.Kept.{document}
use Rattle.conflicts.specs.State.{Text}
use Rattle.replica_state.specs.Keyed.{Docs, keyed, keys_in}

-- the items in their order, each once
abbrev pub sorted_once : {X : Type 0} → (X → X → Ordering) → List X → List X
sorted_once R [] = []
sorted_once R (x ∷ xs) = insert_key R (sorted_once R xs) x

-- the lesser one of a key and another, if there is another
abbrev pub lesser : Key → Option Key → Key
lesser key None = key
lesser key (Some other) = cond (is_lt (key_cmp other key)) other key

-- the least wanted one of some keys, if one of them is wanted
abbrev pub least_of : (Key → Bool) → List Key → Option Key
least_of wanted [] = None
least_of wanted (key ∷ keys) = cond (wanted key) (Some (lesser key (least_of wanted keys))) (least_of wanted keys)

-- a document under its least wanted key
abbrev pub least_entry : (Key → Bool) → List ℕ × List Key → Option Entry
least_entry wanted d = option_map (λ key. (key, d.0)) (least_of wanted d.1)

-- THE ANSWER: the documents that have a wanted key, by their least such key and then by id
abbrev pub answer_by : (Key → Bool) → Documents → List (List ℕ)
answer_by wanted documents = map (λ entry. entry.1) (sorted_once entry_cmp (filter_map (least_entry wanted) documents))

-- THE KEYS of the documents, in order, each once
abbrev pub keys_by : Documents → List Key
keys_by documents = sorted_once key_cmp (flat_map (λ d. d.1) documents)

-- over documents in the order of their ids
pub record AnswersAreFilters : Type 0 where
  -- the answer has the documents with a wanted key and no others, by least wanted key and then by id, and is the one
  -- list that does
  pub answer : (wanted : Key → Bool) (documents : Documents) → T (is_sorted id_cmp documents)
      → IsAnswerBy wanted documents (answer_by wanted documents)
  pub one_answer : (wanted : Key → Bool) (documents : Documents) (ids : List (List ℕ)) → T (is_sorted id_cmp documents)
      → IsAnswerBy wanted documents ids → ids ≡ answer_by wanted documents
  -- the keys are those of the documents and no others, they rise, and they are the one list that does
  pub keys : (documents : Documents) → T (is_sorted id_cmp documents) → AreKeysBy documents (keys_by documents)
  pub one_list : (documents : Documents) (keys : List Key) → T (is_sorted id_cmp documents) → AreKeysBy documents keys
      → keys ≡ keys_by documents
  -- the keys of a document are those of its content; what is deleted or not there has none
  pub contents : (exprs : List Text) (docs : Docs) (id : Text)
      → keys_at (keyed exprs docs) id ≡ keys_in exprs (content_of (document (find id_cmp id docs)))
