-- What an object says of the names that the object of a document has, as far as a document is
-- made of it.
use Rattle.std.specs.Prelude.{◌≡◌, ◌&&◌, ℕ, nat_le, nat_lt, if◌then◌else◌, List, ◌∷◌, codes, Option, Some, None}
use Rattle.std.specs.Prelude.{option_map}
use Rattle.std.specs.Str.{bytes_eq}
use Rattle.json.specs.Token as json
use Rattle.json.specs.Json.{read_key}
use Rattle.serde_json.specs.Data.{Num, unsigned, negative, float, Data, null, boolean, number, string, array, object}
use Rattle.serde_json.specs.Find.{get}
use Rattle.serde_json.specs.Read.{number_of}
use Rattle.content.specs.Reading.{content_in}
use Rattle.content.specs.Tree.{Tree}
use Rattle.vector_rev.specs.ClockText.{clock_in}
use Rattle.u1_base.specs.Ids.{id_in}
use Rattle.u1_base.specs.Places.{Place}
use Rattle.u1_base.specs.declared.limits.TheConstants.{GREATEST_COUNT}
use Rattle.u1_base.specs.declared.ids.Form.TheVariants.{Document, Transaction}
use Rattle.sync_http.specs.Chained.{◌>>=◌, only_if}
use Rattle.sync_http.specs.Positions.{made_by}
use Rattle.sync_stream.specs.declared.line.SyncDoc.{SyncDoc}
use Rattle.sync_stream.specs.declared.fields.Field.{Field}
use Rattle.sync_stream.specs.declared.fields.Field.TheVariants.{Absent, Null, Whole, Text, Other}
use Rattle.sync_stream.specs.declared.fields.Fields.{Fields}
use Rattle.sync_stream.specs.declared.fields.PlainMember.{PlainMember}

-- what is said of a name: nothing, null, a whole number, a text, or another value
pub data Saying : Type 0 where
  absent : Saying
  nothing : Saying
  whole : ℕ → Saying
  text : List ℕ → Saying
  other : Saying

abbrev pub said_number : Num → Saying
said_number (unsigned n) = whole n
said_number (negative z) = other
said_number (float x) = other

-- what a member says
abbrev pub said : Data → Saying
said null = nothing
said (boolean b) = other
said (number n) = said_number n
said (string s) = text s
said (array ds) = other
said (object ms) = other

abbrev pub said_or : Option Data → Saying
said_or None = absent
said_or (Some d) = said d

-- what a value says of a name
abbrev pub said_in : List ℕ → Data → Saying
said_in name d = said_or (get name d)

-- what is said of each name
pub record Sayings : Type 0 where
  pub id : Saying
  pub rev : Saying
  pub content : Saying
  pub generation : Saying
  pub trans : Saying

abbrev pub sayings_of : Data → Sayings
sayings_of d = record {
  id = said_in (codes "id") d;
  rev = said_in (codes "rev") d;
  content = said_in (codes "content") d;
  generation = said_in (codes "gen") d;
  trans = said_in (codes "trans_id") d;
}

abbrev chosen : List ℕ → List ℕ → Saying → Saying → Saying
chosen name other_name x y = if bytes_eq name other_name then x else y

-- with one more member, of this name
abbrev pub with_saying : List ℕ → Saying → Sayings → Sayings
with_saying name x s = record {
  id = chosen name (codes "id") x s.id;
  rev = chosen name (codes "rev") x s.rev;
  content = chosen name (codes "content") x s.content;
  generation = chosen name (codes "gen") x s.generation;
  trans = chosen name (codes "trans_id") x s.trans;
}

-- ---- the document that the sayings make

abbrev pub text_said : Saying → Option (List ℕ)
text_said absent = None
text_said nothing = None
text_said (whole n) = None
text_said (text s) = Some s
text_said other = None

abbrev pub content_said : Saying → Option (Option Tree)
content_said absent = None
content_said nothing = Some None
content_said (whole n) = None
content_said (text s) = option_map Some (content_in s)
content_said other = None

-- a generation from 1 to the greatest count
abbrev pub generation_said : Saying → Option ℕ
generation_said absent = None
generation_said nothing = None
generation_said (whole n) = only_if (nat_lt 0 n && nat_le n GREATEST_COUNT) n
generation_said (text s) = None
generation_said other = None

unfoldable pub place_said : Saying → Saying → Option Place
place_said generation trans = do
  g ← generation_said generation
  id_text ← text_said trans
  id ← id_in Transaction id_text
  Some (made_by g id)

unfoldable pub doc_said : Sayings → Option SyncDoc
doc_said s = do
  id_text ← text_said s.id
  id ← id_in Document id_text
  rev_text ← text_said s.rev
  rev ← clock_in rev_text
  content ← content_said s.content
  at ← place_said s.generation s.trans
  Some (record { id = id; member = record { rev = rev; content = content }; at = at })

-- ---- what is read

-- the value that a token alone is
abbrev pub data_of_token : json.Token → Option Data
data_of_token json.begin_object = None
data_of_token json.end_object = None
data_of_token json.begin_array = None
data_of_token json.end_array = None
data_of_token (json.key s) = None
data_of_token (json.string s) = Some (string s)
data_of_token (json.number s) = option_map number (number_of s)
data_of_token (json.boolean b) = Some (boolean b)
data_of_token json.null = Some null
data_of_token json.bad = None

-- what a field of the code says
abbrev pub told : Field → Saying
told Absent = absent
told Null = nothing
told (Whole n) = whole n
told (Text s) = text s.now
told Other = other

abbrev pub told_of : Fields → Sayings
told_of f = record {
  id = told f.id;
  rev = told f.rev;
  content = told f.content;
  generation = told f.generation;
  trans = told f.trans;
}

-- the tokens begin with this member, whose value is one token, and go on with those
abbrev pub IsPlainMember : List json.Token → PlainMember → List json.Token → Type 0
IsPlainMember ts m more = (t : json.Token) × (read_key ts ≡ Some (Some m.name.now, t ∷ more))
    × (option_map said (data_of_token t) ≡ Some (told m.field))
