-- A file begins with at most one field of each kind, and the reader finds it.
use Rattle.std.proofs.Common.{◌≡◌, ℕ, zero, suc, ⊎_elim, ◌+◌, ◌^◌, ◌<◌, ◌≤◌, Bool, true, List, [], ◌∷◌}
use Rattle.std.proofs.Common.{◌++◌, length, get_or, take, drop, refl, sym, ◌∙◌, ap, subst, arith, length-append}
use Rattle.std.specs.Prelude.{None, codes}
use Rattle.std.specs.Int.{w16, w32, w64, from_be_bytes}
use Rattle.std.specs.List.{list_all}
use Rattle.std.specs.Str.{IsUtf8, IsAscii}
use Rattle.std.proofs.lemmas.Nat.{from_be_bytes-to_be_bytes_2, from_be_bytes-to_be_bytes_4, from_be_bytes-to_be_bytes_8}
use Rattle.std.proofs.lemmas.List.{take_at, drop_at, take-append-drop, append_assoc, length-take-le, get_or_past}
use Rattle.std.proofs.lemmas.List.{drop_more}
use Rattle.std.proofs.lemmas.Bool.{and_parts, cases_lt}
use Rattle.std.proofs.lemmas.Bool.Decides.{nat_tests}
use Rattle.std.proofs.lemmas.Str.{IsUtf8-from_ascii}
use Rattle.u1_base.specs.Fields.{u16_bytes, u32_bytes, u64_bytes, text_field}
use Rattle.u1_base.specs.Ids.{IsId, id_in, is_allowed}
use Rattle.u1_base.proofs.Alphabets.{IsUtf8-from_allowed}
use Rattle.u1_base.proofs.IdFacts.{id_facts, in_id}
use Rattle.u1_base.specs.declared.ids.Form.{Form}
use Rattle.u1_base.specs.declared.ids.Form.TheVariants as form_of
use Rattle.journal.specs.Image.{first_field, body_field}
use Rattle.journal.specs.Damage.{Begins}
use Rattle.journal.specs.declared.layout.TheConstants.{FIRST_FIELD_BYTES, LETTERS_BYTES}

u16-same : (a b : ℕ) → a < 2 ^ 16 → b < 2 ^ 16 → u16_bytes a ≡ u16_bytes b → a ≡ b
unfolding u16_bytes
u16-same a b la lb e = sym (from_be_bytes-to_be_bytes_2 a la) ∙ ap (from_be_bytes w16) e
    ∙ from_be_bytes-to_be_bytes_2 b lb

u32-same : (a b : ℕ) → a < 2 ^ 32 → b < 2 ^ 32 → u32_bytes a ≡ u32_bytes b → a ≡ b
unfolding u32_bytes
u32-same a b la lb e = sym (from_be_bytes-to_be_bytes_4 a la) ∙ ap (from_be_bytes w32) e
    ∙ from_be_bytes-to_be_bytes_4 b lb

pub u64-same : (a b : ℕ) → a < 2 ^ 64 → b < 2 ^ 64 → u64_bytes a ≡ u64_bytes b → a ≡ b
unfolding u64_bytes
u64-same a b la lb e = sym (from_be_bytes-to_be_bytes_8 a la) ∙ ap (from_be_bytes w64) e
    ∙ from_be_bytes-to_be_bytes_8 b lb

pub length-u16 : (n : ℕ) → length (u16_bytes n) ≡ 2
unfolding u16_bytes
length-u16 n = refl

pub length-u32 : (n : ℕ) → length (u32_bytes n) ≡ 4
unfolding u32_bytes
length-u32 n = refl

pub length-u64 : (n : ℕ) → length (u64_bytes n) ≡ 8
unfolding u64_bytes
length-u64 n = refl

pub length-first_field : (format : ℕ) → length (first_field format) ≡ 8
unfolding first_field
length-first_field format = refl

pub length-text_field : (text : List ℕ) → length (text_field text) ≡ 2 + length text
unfolding text_field
length-text_field text = length-append (u16_bytes (length text)) text
    ∙ ap (λ (n : ℕ). n + length text) (length-u16 (length text))

pub length-body_field : (body : List ℕ) → length (body_field body) ≡ 4 + length body
unfolding body_field
length-body_field body = length-append (u32_bytes (length body)) body
    ∙ ap (λ (n : ℕ). n + length body) (length-u32 (length body))

-- what the bytes begin with is their front
pub begins_front : (field bytes : List ℕ) → Begins field bytes → take (length field) bytes ≡ field
begins_front field bytes b = ap (take (length field)) b.1 ∙ take_at field b.0 (length field) refl

pub front_begins : (field bytes : List ℕ) (n : ℕ) → take n bytes ≡ field → Begins field bytes
front_begins field bytes n e = (drop n bytes, sym (take-append-drop n bytes) ∙ ap (λ (l : List ℕ). l ++ drop n bytes) e)

pub begins_long : (field bytes : List ℕ) → Begins field bytes → length field ≤ length bytes
begins_long field bytes b = omega (arith, ap length b.1, length-append field b.0)

-- a number of some bytes, and as many bytes behind it
counted_front : (number item bytes : List ℕ) (n : ℕ) → length number ≡ n → Begins (number ++ item) bytes
    → (take n bytes ≡ number) × (take (length item) (drop n bytes) ≡ item) × (length item ≤ length (drop n bytes))
counted_front number item bytes n size b =
    let is : bytes ≡ number ++ (item ++ b.0) = b.1 ∙ append_assoc number item b.0 in
    let rest : drop n bytes ≡ item ++ b.0 = ap (drop n) is ∙ drop_at number (item ++ b.0) n size in (
      ap (take n) is ∙ take_at number (item ++ b.0) n size,
      ap (take (length item)) rest ∙ take_at item b.0 (length item) refl,
      omega (arith, ap length rest, length-append item b.0),
    )

pub text_front : (text bytes : List ℕ) → Begins (text_field text) bytes
    → (take 2 bytes ≡ u16_bytes (length text)) × (take (length text) (drop 2 bytes) ≡ text)
    × (length text ≤ length (drop 2 bytes))
unfolding text_field
text_front text bytes b = counted_front (u16_bytes (length text)) text bytes 2 (length-u16 (length text)) b

pub body_front : (body bytes : List ℕ) → Begins (body_field body) bytes
    → (take 4 bytes ≡ u32_bytes (length body)) × (take (length body) (drop 4 bytes) ≡ body)
    × (length body ≤ length (drop 4 bytes))
unfolding body_field
body_front body bytes b = counted_front (u32_bytes (length body)) body bytes 4 (length-u32 (length body)) b

-- the text that stands there, from the number that stands there
pub text_is : (n : ℕ) (text bytes : List ℕ) → n < 65536 → length text < 65536 → take 2 bytes ≡ u16_bytes n
    → Begins (text_field text) bytes
    → (n ≤ length (drop 2 bytes)) × (take n (drop 2 bytes) ≡ text)
text_is n text bytes small short e b =
    let f = text_front text bytes b in
    let same : n ≡ length text = u16-same n (length text) small short (sym e ∙ f.0) in
    (omega (arith, same, f.2), ap (λ (k : ℕ). take k (drop 2 bytes)) same ∙ f.1)

pub body_is : (n : ℕ) (body bytes : List ℕ) → n < 2 ^ 32 → length body < 2 ^ 32 → take 4 bytes ≡ u32_bytes n
    → Begins (body_field body) bytes
    → (n ≤ length (drop 4 bytes)) × (take n (drop 4 bytes) ≡ body)
body_is n body bytes small short e b =
    let f = body_front body bytes b in
    let same : n ≡ length body = u32-same n (length body) small short (sym e ∙ f.0) in
    (omega (arith, same, f.2), ap (λ (k : ℕ). take k (drop 4 bytes)) same ∙ f.1)

counted_begins : (number bytes : List ℕ) (n size : ℕ) → take size bytes ≡ number
    → Begins (number ++ take n (drop size bytes)) bytes
counted_begins number bytes n size e = (
  drop n (drop size bytes),
  sym (take-append-drop size bytes) ∙ ap (λ (l : List ℕ). l ++ drop size bytes) e
      ∙ ap (λ (l : List ℕ). number ++ l) (sym (take-append-drop n (drop size bytes)))
      ∙ sym (append_assoc number (take n (drop size bytes)) (drop n (drop size bytes))),
)

pub text_begins : (n : ℕ) (bytes : List ℕ) → take 2 bytes ≡ u16_bytes n → n ≤ length (drop 2 bytes)
    → Begins (text_field (take n (drop 2 bytes))) bytes
unfolding text_field
text_begins n bytes e h =
    counted_begins (u16_bytes (length (take n (drop 2 bytes)))) bytes n 2
    (e ∙ ap u16_bytes (sym (length-take-le n (drop 2 bytes) h)))

pub body_begins : (n : ℕ) (bytes : List ℕ) → take 4 bytes ≡ u32_bytes n → n ≤ length (drop 4 bytes)
    → Begins (body_field (take n (drop 4 bytes))) bytes
unfolding body_field
body_begins n bytes e h =
    counted_begins (u32_bytes (length (take n (drop 4 bytes)))) bytes n 4
    (e ∙ ap u32_bytes (sym (length-take-le n (drop 4 bytes) h)))

-- the texts of two fields that stand there are one
pub text_same : (a b bytes : List ℕ) → length a < 65536 → length b < 65536 → Begins (text_field a) bytes
    → Begins (text_field b) bytes → a ≡ b
text_same a b bytes la lb ba bb =
    let f = text_front a bytes ba in sym f.1 ∙ (text_is (length a) b bytes la lb f.0 bb).1

-- ids are short and ASCII
pub id_short : (form : Form) (text : List ℕ) → IsId form text → length text < 65536
id_short form_of.Document text i = omega (arith, (id_facts form_of.Document text i).1)
id_short form_of.Replica text i = omega (arith, (id_facts form_of.Replica text i).1)
id_short form_of.Transaction text i = omega (arith, (id_facts form_of.Transaction text i).1)
id_short form_of.Name text i = omega (arith, (id_facts form_of.Name text i).1)

pub id_utf8 : (form : Form) (text : List ℕ) → IsId form text → IsUtf8 text
id_utf8 form text i = IsUtf8-from_allowed form text (id_facts form text i).2

pub first_front : (format : ℕ) (bytes : List ℕ) → Begins (first_field format) bytes → take 8 bytes ≡ first_field format
first_front format bytes b = ap (λ (n : ℕ). take n bytes) (sym (length-first_field format))
    ∙ begins_front (first_field format) bytes b

-- the letters, and then the format
pub first_begins : (format : ℕ) (bytes : List ℕ) → take LETTERS_BYTES bytes ≡ codes "U1DBVOL"
    → LETTERS_BYTES < length bytes → get_or bytes LETTERS_BYTES 0 ≡ format → Begins (first_field format) bytes
unfolding first_field
first_begins format bytes letters low at = (
  drop FIRST_FIELD_BYTES bytes,
  sym (take-append-drop LETTERS_BYTES bytes)
      ∙ ap (λ (l : List ℕ). l ++ drop LETTERS_BYTES bytes) letters
      ∙ ap (λ (l : List ℕ). codes "U1DBVOL" ++ l)
      (drop_more bytes LETTERS_BYTES 0 low ∙ ap (λ (b : ℕ). b ∷ drop FIRST_FIELD_BYTES bytes) at)
      ∙ sym (append_assoc (codes "U1DBVOL") (format ∷ []) (drop FIRST_FIELD_BYTES bytes)),
)

pub first_parts : (format : ℕ) (bytes : List ℕ) → Begins (first_field format) bytes
    → (take LETTERS_BYTES bytes ≡ codes "U1DBVOL") × (get_or bytes LETTERS_BYTES 0 ≡ format)
unfolding first_field
first_parts format bytes b = (ap (take LETTERS_BYTES) b.1, ap (λ (l : List ℕ). get_or l LETTERS_BYTES 0) b.1)

pub limit_front : (limit : ℕ) (bytes : List ℕ) → Begins (u64_bytes limit) bytes → take 8 bytes ≡ u64_bytes limit
limit_front limit bytes b = ap (λ (n : ℕ). take n bytes) (sym (length-u64 limit))
    ∙ begins_front (u64_bytes limit) bytes b

-- a text of a field that is no id leaves no id there
pub other_id : (form : Form) (text id bytes : List ℕ) → length text < 65536 → Begins (text_field text) bytes
    → IsId form id → Begins (text_field id) bytes → IsId form text
other_id form text id bytes short b is bi = subst (IsId form)
    (text_same id text bytes (id_short form id is) short bi b) is

-- a text that reads as no id is none
pub none_no_id : (form : Form) (text : List ℕ) → id_in form text ≡ None → IsId form text → ⊥
none_no_id form text none is = absurd (cc (none, in_id form text is))
