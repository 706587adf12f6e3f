-- Going through a file field by field.
use Rattle.std.proofs.Common.{◌≡◌, ℕ, ◌+◌, ◌≤◌, inl, List, [], ◌∷◌, ◌++◌, length, drop, refl, sym, ◌∙◌, ap, subst}
use Rattle.std.proofs.Common.{arith, length-append}
use Rattle.std.proofs.lemmas.List.{drop_at, append_assoc, append_cancel_left}
use Rattle.u1_base.specs.Fields.{text_field, u64_bytes}
use Rattle.u1_base.specs.Ids.{IsId}
use Rattle.u1_base.specs.declared.ids.Form.TheVariants as form
use Rattle.journal.specs.Image.{Head, IsFormat, IsHeader, first_field, header_bytes}
use Rattle.journal.specs.Damage.{Part, Begins, IsField, IsBefore, DamagedAt}
use Rattle.journal.specs.Damage.Part.{First, Name, Uid, Limit}
use Rattle.journal.specs.inner.Fields.{IsAt, NoFirst, NoId, NoLimit}
use Rattle.journal.proofs.Fields.{length-first_field, length-text_field, length-u64}

pub at_start : (bytes : List ℕ) → IsAt [] 0 bytes
at_start bytes = record { there = refl; split = refl }

-- one field on
pub advance : (front field bytes : List ℕ) (p q : ℕ) → IsAt front p bytes → Begins field (drop p bytes)
    → q ≡ p + length field → IsAt (front ++ field) q bytes
advance front field bytes p q i b e =
    let is : bytes ≡ (front ++ field) ++ b.0 = i.split ∙ ap (λ (l : List ℕ). front ++ l) b.1
    ∙ sym (append_assoc front field b.0) in
    let size : length (front ++ field) ≡ q = omega (arith, length-append front field, i.there, e) in
    record {
      there = size;
      split = is ∙ ap (λ (l : List ℕ). (front ++ field) ++ l)
          (sym (ap (drop q) is ∙ drop_at (front ++ field) b.0 q size));
    }

-- a field behind the place
pub behind : (front field bytes : List ℕ) (p : ℕ) → IsAt front p bytes → Begins (front ++ field) bytes
    → Begins field (drop p bytes)
behind front field bytes p i b =
    (b.0, append_cancel_left front (drop p bytes) (field ++ b.0) (sym i.split ∙ b.1 ∙ append_assoc front field b.0))

pub ahead : (front field bytes : List ℕ) (p : ℕ) → IsAt front p bytes → Begins field (drop p bytes)
    → Begins (front ++ field) bytes
ahead front field bytes p i b = (
  b.0,
  i.split ∙ ap (λ (l : List ℕ). front ++ l) b.1
      ∙ sym (append_assoc front field b.0),
)

-- no field that is due stands there
pub damaged : (part : Part) (front bytes : List ℕ) (p : ℕ) → IsAt front p bytes → IsBefore part front
    → ((field : List ℕ) → IsField part field → ¬ (Begins field (drop p bytes))) → DamagedAt p bytes
damaged part front bytes p i whole none = record {
  part = part;
  before = front;
  whole = whole;
  there = i.there;
  begins = (drop p bytes, i.split);
  broken = λ field f b. none field f (behind front field bytes p i b);
}

pub in_range : (front bytes : List ℕ) (p : ℕ) → IsAt front p bytes → p ≤ length bytes
in_range front bytes p i = omega (arith, ap length i.split, length-append front (drop p bytes), i.there)

-- the fields of a header, one on
pub first_at : (format : ℕ) (bytes : List ℕ) → Begins (first_field format) bytes → IsAt (first_field format) 8 bytes
first_at format bytes b = advance [] (first_field format) bytes 0 8 (at_start bytes) b
    (omega (arith, length-first_field format))

pub text_at : (front text bytes : List ℕ) (p q : ℕ) → IsAt front p bytes → Begins (text_field text) (drop p bytes)
    → q ≡ p + 2 + length text
    → IsAt (front ++ text_field text) q bytes
text_at front text bytes p q i b e = advance front (text_field text) bytes p q i b
    (omega (arith, e, length-text_field text))

pub limit_at : (front : List ℕ) (limit : ℕ) (bytes : List ℕ) (p q : ℕ) → IsAt front p bytes
    → Begins (u64_bytes limit) (drop p bytes) → q ≡ p + 8
    → IsAt (front ++ u64_bytes limit) q bytes
limit_at front limit bytes p q i b e = advance front (u64_bytes limit) bytes p q i b
    (omega (arith, e, length-u64 limit))

-- ---- and where one is missing

-- an image that has this name and this uid, to say what stands before the fields that it is not about
header_of : List ℕ → List ℕ → Head
header_of name uid = record { name = name; uid = uid; limit = 1024 }

is_header : (format : ℕ) (name uid : List ℕ) → IsFormat format → IsId form.Name name → IsId form.Replica uid
    → IsHeader format (header_of name uid)
unfolding header_of
is_header format name uid known is iu =
    record { known = known; name = is; uid = iu; limit = (omega arith, omega arith) }

-- a letter is a name, and a uid
letter : List ℕ
letter = 97 ∷ []

letter_is_name : IsId form.Name letter
unfolding letter
letter_is_name = refl

letter_is_uid : IsId form.Replica letter
unfolding letter
letter_is_uid = refl

pub no_first : (bytes : List ℕ) → NoFirst bytes → DamagedAt 0 bytes
no_first bytes none =
    let whole : IsBefore First [] =
    record {
      format = 1;
      head = header_of letter letter;
      bodies = [];
      header =
          is_header 1 letter letter (inl refl) letter_is_name letter_is_uid;
      fit = tt;
      is = refl;
    } in
    damaged First [] bytes 0 (at_start bytes) whole
    (λ field f b. none f.0 f.1 (subst (λ (l : List ℕ). Begins l bytes) f.2 b))

pub no_name : (format : ℕ) (bytes rest : List ℕ) → IsFormat format → IsAt (first_field format) 8 bytes
    → rest ≡ drop 8 bytes → NoId form.Name rest → DamagedAt 8 bytes
no_name format bytes rest known i e none =
    let whole : IsBefore Name (first_field format) =
    record {
      format = format;
      head = header_of letter letter;
      bodies = [];
      header =
          is_header format letter letter known letter_is_name letter_is_uid;
      fit = tt;
      is = refl;
    } in
    damaged Name (first_field format) bytes 8 i whole
    (λ field f b. none f.0 f.1 (subst (λ (l : List ℕ). Begins l rest) f.2 (subst (Begins field) (sym e) b)))

before_uid : (format : ℕ) (name : List ℕ) → IsFormat format → IsId form.Name name
    → IsBefore Uid (first_field format ++ text_field name)
unfolding header_of
before_uid format name known is =
    record {
      format = format;
      head = header_of name letter;
      bodies = [];
      header =
          is_header format name letter known is letter_is_uid;
      fit = tt;
      is = refl;
    }

pub no_uid : (format : ℕ) (name bytes rest : List ℕ) (p : ℕ) → IsFormat format → IsId form.Name name
    → IsAt (first_field format ++ text_field name) p bytes
    → rest ≡ drop p bytes → NoId form.Replica rest → DamagedAt p bytes
no_uid format name bytes rest p known is i e none =
    damaged Uid (first_field format ++ text_field name) bytes p i (before_uid format name known is)
    (λ field f b. none f.0 f.1 (subst (λ (l : List ℕ). Begins l rest) f.2 (subst (Begins field) (sym e) b)))

before_limit : (format : ℕ) (name uid : List ℕ) → IsFormat format → IsId form.Name name → IsId form.Replica uid
    → IsBefore Limit (first_field format ++ text_field name ++ text_field uid)
unfolding header_of
before_limit format name uid known is iu =
    record {
      format = format;
      head = header_of name uid;
      bodies = [];
      header = is_header format name uid known is iu;
      fit = tt;
      is = refl;
    }

pub no_limit : (format : ℕ) (name uid bytes rest : List ℕ) (p : ℕ) → IsFormat format → IsId form.Name name
    → IsId form.Replica uid
    → IsAt (first_field format ++ text_field name ++ text_field uid) p bytes → rest ≡ drop p bytes → NoLimit rest
    → DamagedAt p bytes
no_limit format name uid bytes rest p known is iu i e none =
    damaged Limit (first_field format ++ text_field name ++ text_field uid) bytes p i
    (before_limit format name uid known is iu)
    (λ field f b. none f.0 f.1 (subst (λ (l : List ℕ). Begins l rest) f.2 (subst (Begins field) (sym e) b)))

pub header_at : (format : ℕ) (name uid : List ℕ) (limit : ℕ) (bytes : List ℕ) (p : ℕ)
    → IsAt (first_field format ++ text_field name ++ text_field uid ++ u64_bytes limit) p bytes
    → IsAt (header_bytes format (record { name = name; uid = uid; limit = limit })) p bytes
unfolding header_bytes
header_at format name uid limit bytes p i = i
