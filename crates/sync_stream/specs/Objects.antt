-- What the objects of a stream say. Members come in any order; members of other names are ignored, and of a repeated
-- name the last one counts.
use Rattle.std.specs.Prelude.{ℕ, nat_lt, List, codes, Option, Some, None, option_map}
use Rattle.serde_json.specs.Data.{Data, null, boolean, number, string, array, object}
use Rattle.serde_json.specs.Find.{get, as_str}
use Rattle.content.specs.Faults.{value_of}
use Rattle.content.specs.Reading.{content_in}
use Rattle.content.specs.Tree.{Tree}
use Rattle.vector_rev.specs.ClockText.{clock_in}
use Rattle.u1_base.specs.Ids.{id_in}
use Rattle.u1_base.specs.Places.{Place}
use Rattle.u1_base.specs.declared.ids.Form.TheVariants.{Document}
use Rattle.sync_http.specs.Chained.{◌>>=◌, only_if}
use Rattle.sync_http.specs.Positions.{position_in}
use Rattle.sync_stream.specs.declared.line.HeadKind.{HeadKind}
use Rattle.sync_stream.specs.declared.line.HeadKind.TheVariants.{Request, Reply}
use Rattle.sync_stream.specs.declared.line.SyncDoc.{SyncDoc}

-- ---- heads

-- the names of a head's generation and of its transaction id
abbrev pub head_names : HeadKind → List ℕ × List ℕ
head_names Request = (codes "last_known_generation", codes "last_known_trans_id")
head_names Reply = (codes "new_generation", codes "new_transaction_id")

-- the position that the bytes of a head's object say, if they say one
unfoldable pub head_in : HeadKind → List ℕ → Option Place
head_in kind bytes = do
  d ← value_of bytes
  position_in (head_names kind).0 (head_names kind).1 d

-- ---- documents

-- the string that a member is
abbrev pub text_in : List ℕ → Data → Option (List ℕ)
text_in name d = do
  t ← get name d
  as_str t

-- the content that a member says: null is a deletion, and a string is read as a content
abbrev pub content_of : Data → Option (Option Tree)
content_of null = Some None
content_of (boolean b) = None
content_of (number n) = None
content_of (string s) = option_map Some (content_in s)
content_of (array ds) = None
content_of (object ms) = None

-- the document that an object says; its generation is at least 1
unfoldable pub doc_of : Data → Option SyncDoc
doc_of d = do
  id_text ← text_in (codes "id") d
  id ← id_in Document id_text
  rev_text ← text_in (codes "rev") d
  rev ← clock_in rev_text
  member ← get (codes "content") d
  content ← content_of member
  at ← position_in (codes "gen") (codes "trans_id") d
  later ← only_if (nat_lt 0 at.generation) at
  Some (record { id = id; member = record { rev = rev; content = content }; at = later })

-- the document that the bytes of its object say, if they say one
unfoldable pub doc_in : List ℕ → Option SyncDoc
doc_in bytes = do
  d ← value_of bytes
  doc_of d
