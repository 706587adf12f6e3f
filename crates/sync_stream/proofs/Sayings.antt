-- What is said of names: by an object to which one more member comes, by tokens, and by the document that it makes.
use Rattle.std.proofs.Common.{◌≡◌, ℕ, zero, suc, ◌-◌, ◌<◌, ◌≤◌, ◌==◌, ◌&&◌, Bool, true, false, true≢false, nat_le}
use Rattle.std.proofs.Common.{nat_lt, if◌then◌else◌, List, [], ◌∷◌, length, codes, Option, Some, None, IfSome}
use Rattle.std.proofs.Common.{option_map, option_and_then, refl, sym, ap, ◌∙◌, arith, lt-ltb, ne_eqb}
use Rattle.std.specs.Str.{IsUtf8, bytes_eq}
use Rattle.std.proofs.lemmas.Slice.Eq.{bytes_eq-Decides}
use Rattle.std.proofs.lemmas.Str.{is_utf8-from_IsUtf8}
use Rattle.json.specs.Token.{Token}
use Rattle.json.specs.Lex.{tokens}
use Rattle.json.specs.Json as json
use Rattle.json.specs.Json.{parse_map, read_key, if_last, members, value}
use Rattle.json.proofs.Grammar.{read_key-shorter, value_is, value-begin_object, members_end, members_more}
use Rattle.serde_json.specs.Data.{Data, null, boolean, number, string, array, object, unsigned, negative, float}
use Rattle.serde_json.specs.Data.{Members, no_members, put}
use Rattle.serde_json.specs.Find.{get, get_member, as_str}
use Rattle.serde_json.specs.Read.{converted, of_json, of_members, read}
use Rattle.serde_json.proofs.Views.{get_member-put, get_member-put_other}
use Rattle.content.specs.Faults.{value_of}
use Rattle.content.specs.Tree.{Tree}
use Rattle.vector_rev.specs.ClockText.{clock_in}
use Rattle.u1_base.specs.Ids.{id_in}
use Rattle.u1_base.specs.Places.{Place}
use Rattle.u1_base.specs.declared.limits.TheConstants.{GREATEST_COUNT}
use Rattle.u1_base.specs.declared.ids.Form.TheVariants.{Document, Transaction}
use Rattle.sync_http.specs.Chained.{◌>>=◌, only_if}
use Rattle.sync_http.specs.Positions.{generation_in, made_by, place_at, position_in}
use Rattle.sync_stream.specs.declared.line.SyncDoc.{SyncDoc}
use Rattle.sync_stream.specs.Objects.{content_of, doc_in, doc_of}
use Rattle.sync_stream.specs.inner.Fields.{IsPlainMember, Saying, Sayings, content_said, data_of_token, doc_said}
use Rattle.sync_stream.specs.inner.Fields.{place_said}
use Rattle.sync_stream.specs.inner.Fields.{said, said_in, said_or, sayings_of, text_said, told, told_of, with_saying}
use Rattle.sync_stream.specs.declared.fields.Fields.{Fields}
use Rattle.sync_stream.specs.declared.fields.PlainMember.{PlainMember}

-- ---- one more member

put_at : (b : Bool) (q k : List ℕ) (d : Data) (ms : Members) → bytes_eq k q ≡ b
    → said_in q (object (put k d ms)) ≡ (if b then said d else said_in q (object ms))
put_at true q k d ms e =
    let same : k ≡ q = (bytes_eq-Decides k q).0 e in
    ap said_or (ap (λ name. get_member name (put k d ms)) (sym same) ∙ get_member-put k d ms)
put_at false q k d ms e =
    let other = λ (same : q ≡ k). true≢false (sym ((bytes_eq-Decides k q).1 (sym same)) ∙ e) in
    ap said_or (get_member-put_other q k d ms other)

pub sayings_of_put : (k : List ℕ) (d : Data) (ms : Members)
    → sayings_of (object (put k d ms)) ≡ with_saying k (said d) (sayings_of (object ms))
sayings_of_put k d ms =
    let at = λ (q : List ℕ). put_at (bytes_eq k q) q k d ms refl in
    rw (at (codes "id"), at (codes "rev"), at (codes "content"), at (codes "gen"), at (codes "trans_id")) refl

-- ---- a member whose value is one token

abbrev pick : {A : Type 0} → A → Option A → A
pick d None = d
pick d (Some a) = a

read_token : (depth : ℕ) (t : Token) (r : List Token) (d : Data) → data_of_token t ≡ Some d
    → (j : json.Json) × (value depth (t ∷ r) ≡ Some (j, r)) × (of_json j ≡ Some d)
read_token depth Token.begin_object r d e = absurd (cc)
read_token depth Token.end_object r d e = absurd (cc)
read_token depth Token.begin_array r d e = absurd (cc)
read_token depth Token.end_array r d e = absurd (cc)
read_token depth (Token.key s) r d e = absurd (cc)
read_token depth (Token.string s) r d e = (json.string s, value_is depth (Token.string s ∷ r), e)
read_token depth (Token.number s) r d e = (json.number s, value_is depth (Token.number s ∷ r), e)
read_token depth (Token.boolean b) r d e = (json.boolean b, value_is depth (Token.boolean b ∷ r), e)
read_token depth Token.null r d e = (json.null, value_is depth (Token.null ∷ r), e)
read_token depth Token.bad r d e = absurd (cc)

with_member : (k : List ℕ) (j : json.Json) (d : Data) (old : Members) → of_json j ≡ Some d
    → (o : Option (json.Members × List Token))
    → converted (λ ms. of_members ms old) (parse_map (json.member k j) o)
    ≡ converted (λ ms. of_members ms (put k d old)) o
with_member k j d old e None = refl
with_member k j d old e (Some p) = rw e

pub member_read : (depth n : ℕ) (k : List ℕ) (ts r : List Token) (t : Token) (d : Data) (old : Members)
    → 0 < n → read_key ts ≡ Some (Some k, t ∷ r) → data_of_token t ≡ Some d
    → converted (λ ms. of_members ms old) (members (value depth) n ts)
    ≡ converted (λ ms. of_members ms (put k d old)) (members (value depth) (n - 1) r)
member_read depth n k ts r t d old some key e =
    let j = read_token depth t r d e in
    ap (converted (λ ms. of_members ms old)) (members_more (value depth) n k ts (t ∷ r) r j.0 some key j.1)
    ∙ with_member k j.0 d old j.2 _

pub members_over : (depth n : ℕ) (ts r : List Token) (old : Members) → length ts ≤ n → read_key ts ≡ Some (None, r)
    → converted (λ ms. of_members ms old) (members (value depth) n ts) ≡ Some (old, r)
members_over depth n ts r old enough e = ap (converted (λ ms. of_members ms old))
    (members_end (value depth) n ts r enough e)

said_by : (o : Option Data) (x : Saying) → option_map said o ≡ Some x → (d : Data) × (o ≡ Some d) × (said d ≡ x)
said_by None x e = absurd (cc)
said_by (Some d) x e = (d, refl, ap (pick x) e)

-- a turn takes a member, and leaves the object with it
pub member_turn : (n : ℕ) (ts r : List Token) (m : PlainMember) (old : Members) → length ts ≤ n → IsPlainMember ts m r
    → (d : Data) × (length r ≤ n - 1) × (said d ≡ told m.field)
    × (converted (λ ms. of_members ms old) (members (value 126) n ts)
    ≡ converted (λ ms. of_members ms (put m.name.now d old)) (members (value 126) (n - 1) r))
member_turn n ts r m old enough plain =
    let less = read_key-shorter ts (Some m.name.now) (plain.0 ∷ r) plain.1 in
    let d = said_by (data_of_token plain.0) (told m.field) plain.2 in
    let some : 0 < n = omega (arith, less, enough) in (
      d.0,
      omega (arith, less, enough),
      d.2,
      member_read 126 n m.name.now ts r plain.0 d.0 old some plain.1 d.1,
    )

-- ---- the whole object

twice : {A B : Type 0} (g : A → B) (r : List Token) (x : Option A)
    → option_map (λ b. (b, r)) (option_map g x) ≡ parse_map g (option_map (λ a. (a, r)) x)
twice g r None = refl
twice g r (Some a) = refl

converted-object : (o : Option (json.Members × List Token))
    → converted of_json (parse_map json.object o) ≡ parse_map object (converted (λ ms. of_members ms no_members) o)
converted-object None = refl
converted-object (Some p) = twice object p.1 (of_members p.0 no_members)

pub object_read : (ts r : List Token) (ms : Members)
    → converted (λ ms. of_members ms no_members) (members (value 126) (length ts) ts) ≡ Some (ms, r)
    → converted of_json (value 127 (Token.begin_object ∷ ts)) ≡ Some (object ms, r)
object_read ts r ms e =
    ap (converted of_json) (value-begin_object 127 ts (omega arith))
    ∙ converted-object (members (value 126) (length ts) ts) ∙ ap (parse_map object) e

abbrev whole : Option (json.Json × List Token) → Option Data
whole o = option_and_then of_json (option_and_then (λ p. if_last p.0 p.1) o)

last : (j : json.Json) (r : List Token) (x : Option Data) (d : Data) → of_json j ≡ x
    → option_map {U = Data × List Token} (λ b. (b, r)) x ≡ Some (d, []) → option_and_then of_json (if_last j r) ≡ Some d
last j r None d is e = absurd (cc)
last j [] (Some y) d is e = is ∙ ap (λ p. Some p.0) (ap (pick (y, [])) e)
last j (t ∷ r) (Some y) d is e = let same = ap (λ p. length p.1) (ap (pick (y, t ∷ r)) e)
    in absurd (omega (arith, same))

whole_read : (o : Option (json.Json × List Token)) (d : Data) → converted of_json o ≡ Some (d, []) → whole o ≡ Some d
whole_read None d e = absurd (cc)
whole_read (Some p) d e = last p.0 p.1 (of_json p.0) d refl e

pub text_read : (text : List ℕ) (d : Data) → converted of_json (value 127 (tokens text)) ≡ Some (d, [])
    → read text ≡ Some d
text_read text d e = whole_read (value 127 (tokens text)) d e

pub valid_read : (bytes : List ℕ) → IsUtf8 bytes → value_of bytes ≡ read bytes
valid_read bytes h = rw (is_utf8-from_IsUtf8 bytes h) refl

pub object_said : (ts more r : List Token) (o : Option Fields) → ts ≡ Token.begin_object ∷ more
    → IfSome o (λ fields. (ms : Members)
    × (converted (λ ms. of_members ms no_members) (members (value 126) (length more) more) ≡ Some (ms, r))
    × (told_of fields ≡ sayings_of (object ms)))
    → IfSome o (λ fields. (ms : Members) × (converted of_json (value 127 ts) ≡ Some (object ms, r))
    × (told_of fields ≡ sayings_of (object ms)))
object_said ts more r None is h = tt
object_said ts more r (Some fields) is h =
    (h.0, ap (λ all. converted of_json (value 127 all)) is ∙ object_read more r h.0 h.1, h.2)

-- ---- the document

text_same : (o : Option Data) → (o >>= as_str) ≡ text_said (said_or o)
text_same None = refl
text_same (Some null) = refl
text_same (Some (boolean b)) = refl
text_same (Some (number (unsigned n))) = refl
text_same (Some (number (negative z))) = refl
text_same (Some (number (float x))) = refl
text_same (Some (string s)) = refl
text_same (Some (array ds)) = refl
text_same (Some (object ms)) = refl

content_same : (o : Option Data) → (o >>= content_of) ≡ content_said (said_or o)
content_same None = refl
content_same (Some null) = refl
content_same (Some (boolean b)) = refl
content_same (Some (number (unsigned n))) = refl
content_same (Some (number (negative z))) = refl
content_same (Some (number (float x))) = refl
content_same (Some (string s)) = refl
content_same (Some (array ds)) = refl
content_same (Some (object ms)) = refl

-- the place, if its generation is at least 1
abbrev later : Place → Option Place
later at = only_if (nat_lt 0 at.generation) at

made : (g : ℕ) (o : Option (List ℕ))
    → (option_map (made_by (suc g)) o >>= later) ≡ (o >>= (λ id. Some (made_by (suc g) id)))
made g None = refl
made g (Some id) = let some : 0 < suc g = omega arith in rw (lt-ltb 0 (suc g) some) refl

above : (n : ℕ) → (suc n == 0) ≡ false
above n = ne_eqb (suc n) 0 (λ e. omega (arith, e))

-- at a generation above 0
named : (n : ℕ) (o : Option Data)
    → ((o >>= (λ t. place_at (suc n) t)) >>= later)
    ≡ (text_said (said_or o) >>= (λ s. id_in Transaction s >>= (λ id. Some (made_by (suc n) id))))
named n None = refl
named n (Some null) = rw (above n) refl
named n (Some (boolean b)) = rw (above n) refl
named n (Some (number (unsigned m))) = rw (above n) refl
named n (Some (number (negative z))) = rw (above n) refl
named n (Some (number (float x))) = rw (above n) refl
named n (Some (string s)) = rw (above n) (made n (id_in Transaction s))
named n (Some (array ds)) = rw (above n) refl
named n (Some (object ms)) = rw (above n) refl

counted : (b : Bool) (n : ℕ) (o : Option Data)
    → (((only_if b n) >>= (λ g. o >>= (λ t. place_at g t))) >>= later)
    ≡ ((only_if (nat_lt 0 n && b) n) >>=
    (λ g. text_said (said_or o) >>= (λ s. id_in Transaction s >>= (λ id. Some (made_by g id)))))
counted false zero o = refl
counted false (suc n) o = let some : 0 < suc n = omega arith in rw (lt-ltb 0 (suc n) some) refl
counted true zero None = refl
counted true zero (Some null) = refl
counted true zero (Some (boolean b)) = refl
counted true zero (Some (number (unsigned n))) = refl
counted true zero (Some (number (negative z))) = refl
counted true zero (Some (number (float x))) = refl
counted true zero (Some (string s)) = refl
counted true zero (Some (array ds)) = refl
counted true zero (Some (object ms)) = refl
counted true (suc n) o = let some : 0 < suc n = omega arith in rw (lt-ltb 0 (suc n) some) (named n o)

place_same : (g t : Option Data) → ((g >>= (λ d. generation_in d >>= (λ n. t >>= (λ s. place_at n s)))) >>= later)
    ≡ place_said (said_or g) (said_or t)
unfolding place_said
place_same None t = refl
place_same (Some null) t = refl
place_same (Some (boolean b)) t = refl
place_same (Some (number (unsigned n))) t = counted (nat_le n GREATEST_COUNT) n t
place_same (Some (number (negative z))) t = refl
place_same (Some (number (float x))) t = refl
place_same (Some (string s)) t = refl
place_same (Some (array ds)) t = refl
place_same (Some (object ms)) t = refl

-- the document of the texts of an id and of a clock, of a content and of a position
abbrev made_of : Option (List ℕ) → Option (List ℕ) → Option (Option Tree) → Option Place → Option SyncDoc
made_of id_text rev_text content at = do
  i ← id_text
  id ← id_in Document i
  r ← rev_text
  rev ← clock_in r
  c ← content
  a ← at
  Some (record { id = id; member = record { rev = rev; content = c }; at = a })

-- the same of the member of a content, and of a position that may be at generation 0
abbrev read_of : Option (List ℕ) → Option (List ℕ) → Option Data → Option Place → Option SyncDoc
read_of id_text rev_text member at = do
  i ← id_text
  id ← id_in Document i
  r ← rev_text
  rev ← clock_in r
  m ← member
  c ← content_of m
  a ← at
  l ← later a
  Some (record { id = id; member = record { rev = rev; content = c }; at = l })

regrouped : (i r : Option (List ℕ)) (m : Option Data) (at : Option Place)
    → read_of i r m at ≡ made_of i r (m >>= content_of) (at >>= later)
regrouped i r None at = refl
regrouped i r (Some m) None = refl
regrouped i r (Some m) (Some at) = refl

doc_of_said : (d : Data) → doc_of d ≡ doc_said (sayings_of d)
unfolding doc_of doc_said position_in
doc_of_said d =
    let id = get (codes "id") d in
    let rev = get (codes "rev") d in
    let content = get (codes "content") d in
    let at = position_in (codes "gen") (codes "trans_id") d in
    regrouped (id >>= as_str) (rev >>= as_str) content at
    ∙ ap (λ t. made_of t (rev >>= as_str) (content >>= content_of) (at >>= later)) (text_same id)
    ∙ ap (λ t. made_of (text_said (said_or id)) t (content >>= content_of) (at >>= later)) (text_same rev)
    ∙ ap (λ c. made_of (text_said (said_or id)) (text_said (said_or rev)) c (at >>= later)) (content_same content)
    ∙ ap (made_of (text_said (said_or id)) (text_said (said_or rev)) (content_said (said_or content)))
    (place_same (get (codes "gen") d) (get (codes "trans_id") d))

said_of : (o : Option Data) (s : Sayings) → option_map sayings_of o ≡ Some s → (o >>= doc_of) ≡ doc_said s
said_of None s e = absurd (cc)
said_of (Some d) s e = doc_of_said d ∙ ap doc_said (ap (pick (sayings_of d)) e)

pub doc_in_said : (bytes : List ℕ) (s : Sayings) → option_map sayings_of (value_of bytes) ≡ Some s
    → doc_in bytes ≡ doc_said s
unfolding doc_in
doc_in_said bytes s e = said_of (value_of bytes) s e

pub doc_in_none : (bytes : List ℕ) → None ≡ value_of bytes → None ≡ doc_in bytes
unfolding doc_in
doc_in_none bytes e = ap (λ o. o >>= doc_of) e
