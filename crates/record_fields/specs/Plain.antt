-- The fields that name no uid: bytes, numbers, texts, ids, contents, expressions, flags.
use Rattle.std.specs.Prelude.{ℕ, zero, suc, Bool, true, false, ◌&&◌, nat_lt, nat_le, List, [], ◌∷◌, length, take, drop}
use Rattle.std.specs.Prelude.{if◌then◌else◌, Option, Some, None, Ok, Err}
use Rattle.std.specs.Int.{Width, w16, w32, w64, byte_len, from_be_bytes, to_be_bytes}
use Rattle.std.specs.Str.{bytes_eq}
use Rattle.u1_base.specs.Ids.{IsId, id_in}
use Rattle.u1_base.specs.declared.ids.Form.{Form}
use Rattle.u1_base.specs.declared.ids.Form.TheVariants.{Transaction}
use Rattle.u1_base.specs.declared.limits.TheConstants.{GREATEST_COUNT}
use Rattle.content.specs.Tree.{Tree}
use Rattle.content.specs.Canonical.{canonical}
use Rattle.content.specs.Reading.{content_in}
use Rattle.expr_parser.specs.Limits.{most_exprs}
use Rattle.expr_parser.specs.Reading.{is_spelled}
use Rattle.record_fields.specs.Table.{Text, Table}
use Rattle.record_fields.specs.Fields.{Rest, Read, Field, no_field, ◌then◌, mapped, checked, counted}

-- no bytes
abbrev pub nothing : Field (Unit {0})
nothing = record { named = λ _. []; spelled = λ _ _. []; read = λ r. Ok (tt, r) }

-- ---- bytes and numbers

abbrev pub byte_in : Table → List ℕ → Read ℕ
byte_in t [] = Err 0
byte_in t (b ∷ more) = Ok (b, record { table = t; bytes = more })

-- one byte
abbrev pub byte : Field ℕ
byte = record { named = λ _. []; spelled = λ _ b. b ∷ []; read = λ r. byte_in r.table r.bytes }

-- what stands after so many bytes
abbrev pub beyond : ℕ → Rest → Rest
beyond n r = record { table = r.table; bytes = drop n r.bytes }

abbrev pub bytes_at : ℕ → Rest → Read (List ℕ)
bytes_at n r = if nat_lt (length r.bytes) n then no_field r else Ok (take n r.bytes, beyond n r)

-- so many bytes
abbrev pub bytes : ℕ → Field (List ℕ)
bytes n = record { named = λ _. []; spelled = λ _ s. s; read = bytes_at n }

abbrev pub number_at : Width → Rest → Read ℕ
number_at w r =
    if nat_lt (length r.bytes) (byte_len w) then no_field r
    else Ok (from_be_bytes w (take (byte_len w) r.bytes), beyond (byte_len w) r)

-- a number in so many bytes, the highest first
abbrev pub number : Width → Field ℕ
number w = record { named = λ _. []; spelled = λ _ n. to_be_bytes w n; read = number_at w }

-- ---- texts

-- a length, and so many bytes
abbrev pub sized : Width → Field ((n : ℕ) × List ℕ)
sized w = number w then bytes

-- a text after its length, as one field
abbrev pub text : Width → Field Text
text w = checked (sized w) (λ s. Some s.1) (λ s. (length s, s))

-- a text that passes a test
abbrev pub text_of : {B : Type 0} → Width → (Text → Option B) → (B → Text) → Field B
text_of w test from = checked (text w) test from

-- an id after two bytes of length
abbrev pub id : Form → Field Text
id form = text_of w16 (id_in form) (λ u. u)

-- ---- one byte that tells

abbrev pub flag_in : ℕ → Option Bool
flag_in zero = Some false
flag_in (suc zero) = Some true
flag_in (suc (suc b)) = None

abbrev pub flag_byte : Bool → ℕ
flag_byte false = 0
flag_byte true = 1

-- 0 for no, 1 for yes
abbrev pub flag : Field Bool
flag = checked byte flag_in flag_byte

-- ---- contents

abbrev pub if_canonical : Text → Option Tree → Option Tree
if_canonical s None = None
if_canonical s (Some t) = if bytes_eq (canonical t) s then Some t else None

-- the content whose canonical text this is
abbrev pub canonical_in : Text → Option Tree
canonical_in s = if_canonical s (content_in s)

abbrev pub Held : Bool → Type 0
Held false = Unit {0}
Held true = Tree

-- the canonical text after four bytes of length
abbrev pub held : (b : Bool) → Field (Held b)
held false = nothing
held true = text_of w32 canonical_in canonical

abbrev pub content_of : (b : Bool) → Held b → Option Tree
content_of false t = None
content_of true t = Some t

abbrev pub held_of : Option Tree → (b : Bool) × Held b
held_of None = (false, tt)
held_of (Some t) = (true, t)

-- a flag, and after a 1 the content
abbrev pub content : Field (Option Tree)
content = mapped (flag then held) (λ p. content_of p.0 p.1) held_of

-- ---- the expressions of an index

-- the text, if it is the canonical text of an expression
abbrev pub expression_in : Text → Option Text
expression_in s = if is_spelled s then Some s else None

abbrev pub expression : Field Text
expression = text_of w16 expression_in (λ s. s)

-- how many there are: 1 to 8
abbrev pub count_in : ℕ → Option ℕ
count_in n = if nat_le 1 n && nat_le n most_exprs then Some n else None

abbrev pub count : Field ℕ
count = checked byte count_in (λ n. n)

abbrev pub expressions : Field (List Text)
expressions = counted count expression

-- ---- places of a log

abbrev pub generation_in : ℕ → Option ℕ
generation_in n = if nat_le n GREATEST_COUNT then Some n else None

-- eight bytes, at most 2^63-1
abbrev pub generation : Field ℕ
generation = checked (number w64) generation_in (λ n. n)

abbrev pub some_id : Option Text → Option (Option Text)
some_id None = None
some_id (Some t) = Some (Some t)

abbrev pub trans_in : ℕ → Text → Option (Option Text)
trans_in zero [] = Some None
trans_in zero (b ∷ s) = None
trans_in (suc g) s = some_id (id_in Transaction s)

abbrev pub trans_text : Option Text → Text
trans_text None = []
trans_text (Some t) = t

-- at generation 0 there is no transaction id, above it there is one
abbrev pub IsTransAt : ℕ → Option Text → Type 0
IsTransAt zero None = Unit {0}
IsTransAt zero (Some trans) = ⊥
IsTransAt (suc g) None = ⊥
IsTransAt (suc g) (Some trans) = IsId Transaction trans

-- a transaction id, which is empty exactly where the generation is 0
abbrev pub trans_at : ℕ → Field (Option Text)
trans_at g = text_of w16 (trans_in g) trans_text
