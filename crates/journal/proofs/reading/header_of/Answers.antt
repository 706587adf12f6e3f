-- The fields of a header one by one, and where one is missing.
use Rattle.std.proofs.Common.{◌≡◌, ℕ, List, ◌++◌, ◌+◌, length, drop, subst, ap, arith}
use Rattle.u1_base.specs.Fields.{text_field, u64_bytes}
use Rattle.journal.specs.Image.{first_field}
use Rattle.journal.specs.Damage.{Begins}
use Rattle.journal.specs.inner.Fields.{IsAt}
use Rattle.journal.proofs.Places.{in_range, first_at, text_at, limit_at, header_at, no_first, no_name, no_uid, no_limit}
use Rattle.journal.proofs.reading.header_of.Goals as goal

-- behind the name
name_at : (format : ℕ) (name text bytes rest : List ℕ) → Begins (first_field format) bytes → rest ≡ drop 8 bytes
    → Begins (text_field name) rest → text ≡ name
    → IsAt (first_field format ++ text_field name) (10 + length text) bytes
name_at format name text bytes rest b e n t =
    text_at (first_field format) name bytes 8 (10 + length text) (first_at format bytes b)
    (subst (Begins (text_field name)) e n) (omega (arith, ap length t))

-- behind the uid
uid_at : (format : ℕ) (name uid text bytes rest : List ℕ) (p : ℕ)
    → IsAt (first_field format ++ text_field name) p bytes → rest ≡ drop p bytes → Begins (text_field uid) rest
    → text ≡ uid → IsAt (first_field format ++ text_field name ++ text_field uid) (p + 2 + length text) bytes
uid_at format name uid text bytes rest p i e n t =
    text_at (first_field format ++ text_field name) uid bytes p (p + 2 + length text) i
    (subst (Begins (text_field uid)) e n) (omega (arith, ap length t))

pub returns-in_default : goal.returns-in_default
returns-in_default c = no_first c.args.bytes.now c.in_default.ensures

pub behind-after_first-requires : goal.behind-after_first-requires
behind-after_first-requires c =
    in_range (first_field c.in-Some.format) c.args.bytes.now 8
    (first_at c.in-Some.format c.args.bytes.now c.in-Some.ensures.1)

pub returns-in-Broken : goal.returns-in-Broken
returns-in-Broken c =
    no_name c.in-Some.format c.args.bytes.now c.behind-after_first.result.now c.in-Some.ensures.0
    (first_at c.in-Some.format c.args.bytes.now c.in-Some.ensures.1)
    c.behind-after_first.ensures c.in-Broken.ensures

pub behind-after_name-requires : goal.behind-after_name-requires
behind-after_name-requires c =
    let format = c.in-Some.format in let name = c.in-Whole.name in let bytes = c.args.bytes.now in
    in_range (first_field format ++ text_field name) bytes (10 + length c.as_str.result.now)
    (name_at format name c.as_str.result.now bytes c.behind-after_first.result.now c.in-Some.ensures.1
    c.behind-after_first.ensures c.in-Whole.ensures.1 c.as_str.ensures.value)

pub returns-in-Broken-id_of : goal.returns-in-Broken-id_of
returns-in-Broken-id_of c =
    let format = c.in-Some.format in let name = c.in-Whole.name in let bytes = c.args.bytes.now in
    no_uid format name bytes c.behind-after_name.result.now
    (10 + length c.as_str.result.now) c.in-Some.ensures.0 c.in-Whole.ensures.0
    (name_at format name c.as_str.result.now bytes c.behind-after_first.result.now c.in-Some.ensures.1
    c.behind-after_first.ensures c.in-Whole.ensures.1 c.as_str.ensures.value)
    c.behind-after_name.ensures c.in-Broken-id_of.ensures

pub behind-after_uid-requires : goal.behind-after_uid-requires
behind-after_uid-requires c =
    let format = c.in-Some.format in let name = c.in-Whole.name in let uid = c.in-Whole-id_of.uid
    in let bytes = c.args.bytes.now in
    let at = 10 + length c.as_str.result.now in
    in_range (first_field format ++ text_field name ++ text_field uid) bytes (at + 2 + length c.as_str-2.result.now)
    (uid_at format name uid c.as_str-2.result.now bytes c.behind-after_name.result.now at
    (name_at format name c.as_str.result.now bytes c.behind-after_first.result.now c.in-Some.ensures.1
    c.behind-after_first.ensures c.in-Whole.ensures.1 c.as_str.ensures.value)
    c.behind-after_name.ensures c.in-Whole-id_of.ensures.1 c.as_str-2.ensures.value)

pub returns-in_default-limit_of : goal.returns-in_default-limit_of
returns-in_default-limit_of c =
    let format = c.in-Some.format in let name = c.in-Whole.name in let uid = c.in-Whole-id_of.uid
    in let bytes = c.args.bytes.now in
    let at = 10 + length c.as_str.result.now in
    no_limit format name uid bytes c.behind-after_uid.result.now
    (at + 2 + length c.as_str-2.result.now) c.in-Some.ensures.0 c.in-Whole.ensures.0 c.in-Whole-id_of.ensures.0
    (uid_at format name uid c.as_str-2.result.now bytes c.behind-after_name.result.now at
    (name_at format name c.as_str.result.now bytes c.behind-after_first.result.now c.in-Some.ensures.1
    c.behind-after_first.ensures c.in-Whole.ensures.1 c.as_str.ensures.value)
    c.behind-after_name.ensures c.in-Whole-id_of.ensures.1 c.as_str-2.ensures.value)
    c.behind-after_uid.ensures c.in_default-limit_of.ensures

pub returns : goal.returns
returns c =
    let format = c.in-Some.format in let name = c.in-Whole.name in let uid = c.in-Whole-id_of.uid
    in let limit = c.in-Some-limit_of.limit in let bytes = c.args.bytes.now in
    let at = 10 + length c.as_str.result.now in let behind = at + 2 + length c.as_str-2.result.now in (
      record {
        known = c.in-Some.ensures.0;
        name = c.in-Whole.ensures.0;
        uid = c.in-Whole-id_of.ensures.0;
        limit =
            c.in-Some-limit_of.ensures.0;
      },
      header_at format name uid limit bytes (behind + 8)
          (limit_at (first_field format ++ text_field name ++ text_field uid) limit bytes behind (behind + 8)
          (uid_at format name uid c.as_str-2.result.now bytes c.behind-after_name.result.now at
          (name_at format name c.as_str.result.now bytes c.behind-after_first.result.now c.in-Some.ensures.1
          c.behind-after_first.ensures c.in-Whole.ensures.1 c.as_str.ensures.value)
          c.behind-after_name.ensures c.in-Whole-id_of.ensures.1 c.as_str-2.ensures.value)
          (subst (Begins (u64_bytes limit)) c.behind-after_uid.ensures c.in-Some-limit_of.ensures.1) (omega arith)),
    )
