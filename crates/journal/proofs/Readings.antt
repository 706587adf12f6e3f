-- What the plain reader finds is what the file reads as, or where it is damaged; each file has just one of these.
use Rattle.std.proofs.Common.{◌≡◌, ◌≢◌, ℕ, zero, suc, ◌+◌, ◌<◌, ◌≤◌, inl, inr, Bool, true, false, cond, eqb, Option}
use Rattle.std.proofs.Common.{Some, None, MatchOption, List, [], ◌∷◌, ◌++◌, length, drop, refl, sym, ◌∙◌, ap, subst}
use Rattle.std.proofs.Common.{arith, length-append}
use Rattle.std.proofs.lemmas.List.{append_assoc, drop_at}
use Rattle.std.proofs.lemmas.Bool.Decides.{Decides-eqb}
use Rattle.u1_base.specs.Fields.{text_field, u64_bytes}
use Rattle.u1_base.specs.Ids.{IsId}
use Rattle.u1_base.specs.declared.ids.Form.TheVariants as form
use Rattle.u1_base.proofs.Booleans.{none_true}
use Rattle.journal.specs.Image.{Head, IsFormat, IsLimit, IsHeader, ReadsAs, AreBodies, IsBody, first_field, body_field}
use Rattle.journal.specs.Image.{entry, entries, up_to_gate, header_bytes}
use Rattle.journal.specs.Damage.{Part, Begins, DamagedAt, IsField, IsBefore}
use Rattle.journal.specs.Damage.Part.{First, Name, Uid, Limit, Gate, Body}
use Rattle.journal.specs.inner.Fields.{IsAt, NoFirst, NoId, NoLimit, NoBody, BreaksAt}
use Rattle.journal.specs.Reader.{Reading, or_damaged, with_body, read_first, read_text, read_limit, read_body}
use Rattle.journal.specs.Reader.{read_entries, read_image, after_first, after_name, after_uid, after_limit}
use Rattle.journal.specs.Reader.Reading.{Damaged, Stands}
use Rattle.journal.specs.Opening.{Finds}
use Rattle.journal.proofs.Fields.{length-first_field, length-u64, length-body_field}
use Rattle.journal.proofs.Places.{advance, ahead, behind, first_at, limit_at, header_at, no_first, no_name, no_uid}
use Rattle.journal.proofs.Places.{no_limit}
use Rattle.journal.proofs.Entries.{broken_behind, reads_behind, length-entry}
use Rattle.journal.proofs.ReaderFields.{some_is, none_is, read_first_is, read_text_is, read_limit_is, read_body_is}
use Rattle.journal.proofs.ReaderFields.{first_same, id_same, limit_same, body_same}

or_cases : {A : Type 0} (o : Option A) (place : ℕ) (k : A → Reading) (Q : Reading → Type 0) (No : Type 0)
    (P : A → Type 0) → MatchOption o No P
    → (No → Q (Damaged place)) → ((x : A) → P x → Q (k x)) → Q (or_damaged o place k)
or_cases None place k Q No P m missing there_is = missing m
or_cases (Some x) place k Q No P m missing there_is = there_is x m

-- what was found of the entries that begin at the place
abbrev FindsEntries : ℕ → Head → ℕ → List ℕ → Reading → Type 0
FindsEntries format head place rest (Damaged p) = (q : ℕ) × (p ≡ place + q) × BreaksAt q rest
FindsEntries format head place rest (Stands f h bodies) =
    (f ≡ format) × (h ≡ head) × AreBodies bodies
    × ((gate : ℕ) × (tail : List ℕ) × (gate ≢ 1) × (rest ≡ entries bodies ++ gate ∷ tail))

-- one entry before what was found
more_found : (format : ℕ) (head : Head) (place : ℕ) (body rest : List ℕ) (r : Reading) → IsBody body
    → FindsEntries format head (place + 1 + length (body_field body)) rest r
    → FindsEntries format head place (entry body ++ rest) (with_body body r)
more_found format head place body rest (Damaged p) is (q, e, (bodies, fit, inl (all, end))) = (
  length (entry body) + q,
  omega (arith, e, length-entry body, length-body_field body),
  (
    body ∷ bodies,
    (is, fit),
    inl (ap (λ (l : List ℕ). entry body ++ l) all, omega (arith, end, length-append (entry body) (entries bodies))),
  ),
)
more_found format head place body rest (Damaged p) is (q, e, (bodies, fit, inr (tail, split, end, none))) = (
  length (entry body) + q,
  omega (arith, e, length-entry body, length-body_field body),
  (
    body ∷ bodies,
    (is, fit),
    inr (
      tail,
      ap (λ (l : List ℕ). entry body ++ l) split ∙ sym (append_assoc (entry body) (entries bodies) (1 ∷ tail)),
      omega (arith, end, length-append (entry body) (entries bodies)),
      none,
    ),
  ),
)
more_found format head place body rest (Stands f h bodies) is (ef, eh, fit, (gate, tail, shut, split)) = (
  ef,
  eh,
  (is, fit),
  (
    gate,
    tail,
    shut,
    ap (λ (l : List ℕ). entry body ++ l) split
        ∙ sym (append_assoc (entry body) (entries bodies) (gate ∷ tail)),
  ),
)

after_gate : (fuel : ℕ) (format : ℕ) (head : Head) (place gate : ℕ) (tail : List ℕ) (b : Bool)
    → ((p : ℕ) (rest : List ℕ) → length rest < fuel
    → FindsEntries format head p rest (read_entries fuel format head p rest))
    → (b ≡ true → gate ≡ 1) → (b ≡ false → gate ≢ 1) → length tail < fuel
    → FindsEntries format head place (gate ∷ tail)
    (cond b (or_damaged (read_body tail) (place + 1)
    (λ body. with_body body
    (read_entries fuel format head (place + 1 + length (body_field body)) (drop (length (body_field body)) tail))))
    (Stands format head []))
after_gate fuel format head place gate tail false further is_open is_shut small =
    (refl, refl, tt, (gate, tail, is_shut refl, refl))
after_gate fuel format head place gate tail true further is_open is_shut small =
    or_cases (read_body tail) (place + 1)
    (λ body. with_body body
    (read_entries fuel format head (place + 1 + length (body_field body)) (drop (length (body_field body)) tail)))
    (FindsEntries format head place (gate ∷ tail)) (NoBody tail) (λ body. IsBody body × Begins (body_field body) tail)
    (read_body_is tail)
    (λ none. (1, refl, ([], tt, inr (tail, ap (λ (g : ℕ). g ∷ tail) (is_open refl), refl, none))))
    (λ body p.
    let n = length (body_field body) in
    let behind : drop n tail ≡ p.1.0 = ap (drop n) p.1.1 ∙ drop_at (body_field body) p.1.0 n refl in
    let all : entry body ++ drop n tail ≡ gate ∷ tail =
    ap (λ (l : List ℕ). entry body ++ l) behind ∙ ap (λ (l : List ℕ). 1 ∷ l) (sym p.1.1)
    ∙ ap (λ (g : ℕ). g ∷ tail) (sym (is_open refl)) in
    let found = further (place + 1 + n) (drop n tail)
    (omega (arith, small, ap length behind, ap length p.1.1, length-append (body_field body) p.1.0)) in
    subst (λ (l : List ℕ). FindsEntries format head place l
    (with_body body (read_entries fuel format head (place + 1 + n) (drop n tail)))) all
    (more_found format head place body (drop n tail)
    (read_entries fuel format head (place + 1 + n) (drop n tail)) p.0 found))

is_one : (gate : ℕ) → eqb gate 1 ≡ true → gate ≡ 1
is_one gate e = (Decides-eqb gate 1).0 e

not_one : (gate : ℕ) → eqb gate 1 ≡ false → gate ≢ 1
not_one gate e is = absurd (cc (e, (Decides-eqb gate 1).1 is))

entries_found : (fuel : ℕ) (format : ℕ) (head : Head) (place : ℕ) (rest : List ℕ) → length rest < fuel
    → FindsEntries format head place rest (read_entries fuel format head place rest)
unfolding read_entries
entries_found zero format head place rest small = absurd (omega (arith, small))
entries_found (suc fuel) format head place [] small = (0, omega arith, ([], tt, inl (refl, refl)))
entries_found (suc fuel) format head place (gate ∷ tail) small =
    after_gate fuel format head place gate tail (eqb gate 1) (λ p rest h. entries_found fuel format head p rest h)
    (is_one gate) (not_one gate) (omega (arith, small))

-- behind a header that was read
finish : (format : ℕ) (head : Head) (place : ℕ) (file : List ℕ) (r : Reading) → IsHeader format head
    → IsAt (header_bytes format head) place file
    → FindsEntries format head place (drop place file) r → Finds file r
finish format head place file (Damaged p) is there (q, e, broken) =
    subst (λ (n : ℕ). DamagedAt n file) (sym e) (broken_behind format head file place q is there broken)
finish format head place file (Stands f h bodies) is there (ef, eh, fit, (gate, tail, shut, split)) =
    subst (λ (n : ℕ). ReadsAs n h bodies file) (sym ef)
    (subst (λ (other : Head). ReadsAs format other bodies file) (sym eh)
    (reads_behind format head bodies file place gate tail is there fit shut split))

found_entries : (file : List ℕ) (format : ℕ) (name uid : List ℕ) (limit : ℕ)
    → IsHeader format (record { name = name; uid = uid; limit = limit })
    → IsAt (header_bytes format (record { name = name; uid = uid; limit = limit }))
    (8 + length (text_field name) + length (text_field uid) + 8) file
    → Finds file (after_limit file format name uid limit)
found_entries file format name uid limit is there =
    let head : Head = record { name = name; uid = uid; limit = limit } in
    let place = 8 + length (text_field name) + length (text_field uid) + 8 in
    let rest = drop place file in
    finish format head place file (read_entries (length file) format head place rest) is there
    (entries_found (length file) format head place rest
    (omega (arith, ap length there.split, length-append (header_bytes format head) rest, there.there)))

found_limit : (file : List ℕ) (format : ℕ) (name uid : List ℕ) → IsFormat format → IsId form.Name name
    → IsId form.Replica uid
    → IsAt (first_field format ++ text_field name ++ text_field uid)
    (8 + length (text_field name) + length (text_field uid)) file
    → Finds file (after_uid file format name uid)
found_limit file format name uid known is iu there =
    let place = 8 + length (text_field name) + length (text_field uid) in
    or_cases (read_limit (drop place file)) place (after_limit file format name uid) (Finds file)
    (NoLimit (drop place file))
    (λ limit. IsLimit limit × Begins (u64_bytes limit) (drop place file)) (read_limit_is (drop place file))
    (λ none. no_limit format name uid file (drop place file) place known is iu there refl none)
    (λ limit q. found_entries file format name uid limit (record { known = known; name = is; uid = iu; limit = q.0 })
    (header_at format name uid limit file (place + 8)
    (limit_at (first_field format ++ text_field name ++ text_field uid) limit file place (place + 8) there q.1 refl)))

found_uid : (file : List ℕ) (format : ℕ) (name : List ℕ) → IsFormat format → IsId form.Name name
    → IsAt (first_field format ++ text_field name) (8 + length (text_field name)) file
    → Finds file (after_name file format name)
found_uid file format name known is there =
    let place = 8 + length (text_field name) in
    or_cases (read_text form.Replica (drop place file)) place (after_uid file format name) (Finds file)
    (NoId form.Replica (drop place file))
    (λ uid. IsId form.Replica uid × Begins (text_field uid) (drop place file))
    (read_text_is form.Replica (drop place file))
    (λ none. no_uid format name file (drop place file) place known is there refl none)
    (λ uid q. found_limit file format name uid known is q.0
    (advance (first_field format ++ text_field name) (text_field uid) file place
    (place + length (text_field uid)) there q.1 refl))

found_name : (file : List ℕ) (format : ℕ) → IsFormat format → Begins (first_field format) file
    → Finds file (after_first file format)
found_name file format known b =
    let there = first_at format file b in
    or_cases (read_text form.Name (drop 8 file)) 8 (after_name file format) (Finds file) (NoId form.Name (drop 8 file))
    (λ name. IsId form.Name name × Begins (text_field name) (drop 8 file)) (read_text_is form.Name (drop 8 file))
    (λ none. no_name format file (drop 8 file) known there refl none)
    (λ name q. found_uid file format name known q.0
    (advance (first_field format) (text_field name) file 8 (8 + length (text_field name)) there q.1 refl))

-- each file reads as something, or is damaged somewhere: what the reader finds
pub found : (file : List ℕ) → Finds file (read_image file)
unfolding read_image
found file =
    or_cases (read_first file) 0 (after_first file) (Finds file) (NoFirst file)
    (λ format. IsFormat format × Begins (first_field format) file) (read_first_is file)
    (no_first file) (λ format p. found_name file format p.0 p.1)

-- the reader goes on where the field stands
begins_less : (a b file : List ℕ) → Begins (a ++ b) file → Begins a file
begins_less a b file h = (b ++ h.0, h.1 ∙ append_assoc a b h.0)

to_first : (file : List ℕ) (format : ℕ) → IsFormat format → Begins (first_field format) file
    → read_image file ≡ after_first file format
unfolding read_image
to_first file format known b =
    ap (λ (o : Option ℕ). or_damaged o 0 (after_first file))
    (some_is (read_first file) (NoFirst file) (λ g. IsFormat g × Begins (first_field g) file) format
    (read_first_is file) (λ none. none format known b) (λ g p. first_same g format file p.1 b))

to_name : (file : List ℕ) (format : ℕ) (name : List ℕ) → IsId form.Name name → Begins (text_field name) (drop 8 file)
    → after_first file format ≡ after_name file format name
to_name file format name is b =
    ap (λ (o : Option (List ℕ)). or_damaged o 8 (after_name file format))
    (some_is (read_text form.Name (drop 8 file)) (NoId form.Name (drop 8 file))
    (λ t. IsId form.Name t × Begins (text_field t) (drop 8 file)) name (read_text_is form.Name (drop 8 file))
    (λ none. none name is b) (λ t p. id_same form.Name t name (drop 8 file) p is b))

to_uid : (file : List ℕ) (format : ℕ) (name uid : List ℕ) → IsId form.Replica uid
    → Begins (text_field uid) (drop (8 + length (text_field name)) file)
    → after_name file format name ≡ after_uid file format name uid
to_uid file format name uid is b =
    let place = 8 + length (text_field name) in
    ap (λ (o : Option (List ℕ)). or_damaged o place (after_uid file format name))
    (some_is (read_text form.Replica (drop place file)) (NoId form.Replica (drop place file))
    (λ t. IsId form.Replica t × Begins (text_field t) (drop place file)) uid
    (read_text_is form.Replica (drop place file)) (λ none. none uid is b)
    (λ t p. id_same form.Replica t uid (drop place file) p is b))

to_limit : (file : List ℕ) (format : ℕ) (name uid : List ℕ) (limit : ℕ) → IsLimit limit
    → Begins (u64_bytes limit) (drop (8 + length (text_field name) + length (text_field uid)) file)
    → after_uid file format name uid ≡ after_limit file format name uid limit
to_limit file format name uid limit is b =
    let place = 8 + length (text_field name) + length (text_field uid) in
    ap (λ (o : Option ℕ). or_damaged o place (after_limit file format name uid))
    (some_is (read_limit (drop place file)) (NoLimit (drop place file))
    (λ n. IsLimit n × Begins (u64_bytes n) (drop place file)) limit
    (read_limit_is (drop place file)) (λ none. none limit is b) (λ n p. limit_same n limit (drop place file) p is b))

-- up to the name, the uid, the limit, the entries
past_name : (file : List ℕ) (format : ℕ) (name : List ℕ) → IsFormat format → IsId form.Name name
    → Begins (first_field format ++ text_field name) file
    → read_image file ≡ after_name file format name
past_name file format name known is b =
    let first : Begins (first_field format) file = begins_less (first_field format) (text_field name) file b in
    to_first file format known first
    ∙ to_name file format name is (behind (first_field format) (text_field name) file 8 (first_at format file first) b)

name_there : (file : List ℕ) (format : ℕ) (name : List ℕ) → Begins (first_field format ++ text_field name) file
    → IsAt (first_field format ++ text_field name) (8 + length (text_field name)) file
name_there file format name b =
    let there : IsAt (first_field format) 8 file =
    first_at format file (begins_less (first_field format) (text_field name) file b) in
    advance (first_field format) (text_field name) file 8 (8 + length (text_field name)) there
    (behind (first_field format) (text_field name) file 8 there b) refl

past_uid : (file : List ℕ) (format : ℕ) (name uid : List ℕ) → IsFormat format → IsId form.Name name
    → IsId form.Replica uid
    → Begins (first_field format ++ text_field name ++ text_field uid) file
    → read_image file ≡ after_uid file format name uid
past_uid file format name uid known is iu b =
    let less : Begins (first_field format ++ text_field name) file =
    begins_less (first_field format ++ text_field name) (text_field uid) file b in
    past_name file format name known is less
    ∙ to_uid file format name uid iu
    (behind (first_field format ++ text_field name) (text_field uid) file (8 + length (text_field name))
    (name_there file format name less) b)

uid_there : (file : List ℕ) (format : ℕ) (name uid : List ℕ)
    → Begins (first_field format ++ text_field name ++ text_field uid) file
    → IsAt (first_field format ++ text_field name ++ text_field uid)
    (8 + length (text_field name) + length (text_field uid)) file
uid_there file format name uid b =
    let place = 8 + length (text_field name) in
    let there : IsAt (first_field format ++ text_field name) place file =
    name_there file format name (begins_less (first_field format ++ text_field name) (text_field uid) file b) in
    advance (first_field format ++ text_field name) (text_field uid) file place (place + length (text_field uid)) there
    (behind (first_field format ++ text_field name) (text_field uid) file place there b) refl

past_header : (file : List ℕ) (format : ℕ) (head : Head) → IsHeader format head → Begins (header_bytes format head) file
    → read_image file ≡ read_entries (length file) format head (length (header_bytes format head))
    (drop (length (header_bytes format head)) file)
unfolding header_bytes
past_header file format head is b =
    let name = head.name in let uid = head.uid in let limit = head.limit in
    let place = 8 + length (text_field name) + length (text_field uid) in
    let less : Begins (first_field format ++ text_field name ++ text_field uid) file =
    begins_less (first_field format ++ text_field name ++ text_field uid) (u64_bytes limit) file b in
    let size : place + 8 ≡ length (header_bytes format head) =
    omega (
      arith,
      length-append (first_field format ++ text_field name ++ text_field uid) (u64_bytes limit),
      length-append (first_field format ++ text_field name) (text_field uid),
      length-append (first_field format) (text_field name),
      length-first_field format,
      length-u64 limit,
    ) in
    past_uid file format name uid is.known is.name is.uid less
    ∙ to_limit file format name uid limit is.limit
    (behind (first_field format ++ text_field name ++ text_field uid) (u64_bytes limit) file place
    (uid_there file format name uid less) b)
    ∙ ap (λ (n : ℕ). read_entries (length file) format head n (drop n file)) size

-- bodies before what was found
with_bodies : List (List ℕ) → Reading → Reading
with_bodies [] r = r
with_bodies (body ∷ bodies) r = with_body body (with_bodies bodies r)

with_bodies-Damaged : (bodies : List (List ℕ)) (place : ℕ) → with_bodies bodies (Damaged place) ≡ Damaged place
unfolding with_bodies
with_bodies-Damaged [] place = refl
with_bodies-Damaged (body ∷ bodies) place = ap (with_body body) (with_bodies-Damaged bodies place)

with_bodies-Stands : (bodies : List (List ℕ)) (format : ℕ) (head : Head)
    → with_bodies bodies (Stands format head []) ≡ Stands format head bodies
unfolding with_bodies
with_bodies-Stands [] format head = refl
with_bodies-Stands (body ∷ bodies) format head = ap (with_body body) (with_bodies-Stands bodies format head)

past_entry : (fuel : ℕ) (format : ℕ) (head : Head) (place : ℕ) (body tail rest : List ℕ) → IsBody body
    → tail ≡ body_field body ++ rest
    → read_entries (suc fuel) format head place (1 ∷ tail)
    ≡ with_body body (read_entries fuel format head (place + length (entry body)) rest)
unfolding read_entries
past_entry fuel format head place body tail rest is e =
    let b : Begins (body_field body) tail = (rest, e) in
    let n = length (body_field body) in
    let behind_it : drop n tail ≡ rest = ap (drop n) e ∙ drop_at (body_field body) rest n refl in
    ap (λ (o : Option (List ℕ)). or_damaged o (place + 1)
    (λ (x : List ℕ). with_body x
    (read_entries fuel format head (place + 1 + length (body_field x)) (drop (length (body_field x)) tail))))
    (some_is (read_body tail) (NoBody tail) (λ x. IsBody x × Begins (body_field x) tail) body (read_body_is tail)
    (λ none. none body is b) (λ x p. body_same x body tail p is b))
    ∙ ap (λ (l : List ℕ). with_body body (read_entries fuel format head (place + 1 + n) l)) behind_it
    ∙ ap (λ (p : ℕ). with_body body (read_entries fuel format head p rest))
    (omega (arith, length-entry body, length-body_field body))

past_entries : (bodies : List (List ℕ)) (fuel : ℕ) (format : ℕ) (head : Head) (place : ℕ) (rest : List ℕ)
    → AreBodies bodies → length (entries bodies ++ rest) < fuel
    → (k : ℕ) × (length rest < k)
    × (read_entries fuel format head place (entries bodies ++ rest)
    ≡ with_bodies bodies (read_entries k format head (place + length (entries bodies)) rest))
unfolding with_bodies
past_entries [] fuel format head place rest fit small =
    (fuel, small, ap (λ (p : ℕ). read_entries fuel format head p rest) (omega arith))
past_entries (body ∷ bodies) zero format head place rest fit small = absurd (omega (arith, small))
past_entries (body ∷ bodies) (suc fuel) format head place rest fit small =
    let more = past_entries bodies fuel format head (place + length (entry body)) rest fit.1
    (omega (
      arith,
      small,
      length-append (entry body ++ entries bodies) rest,
      length-append (entry body) (entries bodies),
      length-append (entries bodies) rest,
      length-entry body,
    )) in (
      more.0,
      more.1,
      past_entry fuel format head place body ((body_field body ++ entries bodies) ++ rest)
          (entries bodies ++ rest) fit.0 (append_assoc (body_field body) (entries bodies) rest)
          ∙ ap (with_body body) more.2
          ∙ ap (λ (p : ℕ). with_body body (with_bodies bodies (read_entries more.0 format head p rest)))
          (omega (arith, length-append (entry body) (entries bodies))),
    )

header_long : (format : ℕ) (head : Head) → 8 ≤ length (header_bytes format head)
unfolding header_bytes
header_long format head =
    omega (
      arith,
      length-append (first_field format ++ text_field head.name ++ text_field head.uid) (u64_bytes head.limit),
      length-append (first_field format ++ text_field head.name) (text_field head.uid),
      length-append (first_field format) (text_field head.name),
      length-first_field format,
    )

-- a file with this front
past_front : (file : List ℕ) (format : ℕ) (head : Head) (bodies : List (List ℕ)) (rest : List ℕ) → IsHeader format head
    → AreBodies bodies → file ≡ up_to_gate format head bodies ++ rest
    → (k : ℕ) × (length rest < k)
    × (read_image file ≡ with_bodies bodies (read_entries k format head (length (up_to_gate format head bodies)) rest))
past_front file format head bodies rest is fit e =
    let h = header_bytes format head in let n = length h in
    let regroup : file ≡ h ++ (entries bodies ++ rest) = e ∙ append_assoc h (entries bodies) rest in
    let behind_it : drop n file ≡ entries bodies ++ rest = ap (drop n) regroup
    ∙ drop_at h (entries bodies ++ rest) n refl in
    let some : 8 ≤ n = header_long format head in
    let run = past_entries bodies (length file) format head n rest fit
    (omega (arith, ap length regroup, length-append h (entries bodies ++ rest), some)) in (
      run.0,
      run.1,
      past_header file format head is (entries bodies ++ rest, regroup)
          ∙ ap (read_entries (length file) format head n) behind_it ∙ run.2
          ∙ ap (λ (p : ℕ). with_bodies bodies (read_entries run.0 format head p rest))
          (sym (length-append h (entries bodies))),
    )

ends_shut : (fuel : ℕ) (format : ℕ) (head : Head) (place gate : ℕ) (tail : List ℕ) → 0 < fuel → gate ≢ 1
    → read_entries fuel format head place (gate ∷ tail) ≡ Stands format head []
unfolding read_entries
ends_shut zero format head place gate tail some ne = absurd (omega (arith, some))
ends_shut (suc fuel) format head place gate tail some ne =
    ap (λ (b : Bool). cond b
    (or_damaged (read_body tail) (place + 1)
    (λ (x : List ℕ). with_body x
    (read_entries fuel format head (place + 1 + length (body_field x)) (drop (length (body_field x)) tail))))
    (Stands format head []))
    (none_true (eqb gate 1) (λ e. ne (is_one gate e)))

ends_cut : (fuel : ℕ) (format : ℕ) (head : Head) (place : ℕ) → 0 < fuel
    → read_entries fuel format head place [] ≡ Damaged place
unfolding read_entries
ends_cut zero format head place some = absurd (omega (arith, some))
ends_cut (suc fuel) format head place some = refl

ends_broken : (fuel : ℕ) (format : ℕ) (head : Head) (place : ℕ) (tail : List ℕ) → 0 < fuel → NoBody tail
    → read_entries fuel format head place (1 ∷ tail) ≡ Damaged (place + 1)
unfolding read_entries
ends_broken zero format head place tail some none = absurd (omega (arith, some))
ends_broken (suc fuel) format head place tail some none =
    ap (λ (o : Option (List ℕ)). or_damaged o (place + 1)
    (λ (x : List ℕ). with_body x
    (read_entries fuel format head (place + 1 + length (body_field x)) (drop (length (body_field x)) tail))))
    (none_is (read_body tail) (NoBody tail) (λ x. IsBody x × Begins (body_field x) tail) (read_body_is tail)
    (λ x p. none x p.0 p.1))

-- a file that reads as this is found so
pub reads_found : (file : List ℕ) (format : ℕ) (head : Head) (bodies : List (List ℕ)) → ReadsAs format head bodies file
    → read_image file ≡ Stands format head bodies
reads_found file format head bodies r =
    let run = past_front file format head bodies (r.gate ∷ r.rest) r.header r.fit r.split in
    run.2 ∙ ap (with_bodies bodies)
    (ends_shut run.0 format head (length (up_to_gate format head bodies)) r.gate r.rest (omega (arith, run.1)) r.shut)
    ∙ with_bodies-Stands bodies format head

nothing_left : (rest : List ℕ) → ((g : ℕ) (t : List ℕ) → rest ≡ g ∷ t → ⊥) → rest ≡ []
nothing_left [] missing = refl
nothing_left (g ∷ t) missing = absurd (missing g t refl)

found_at : (part : Part) (place : ℕ) (file bytes : List ℕ) → IsBefore part bytes → length bytes ≡ place
    → Begins bytes file
    → ((field : List ℕ) → IsField part field → ¬ (Begins (bytes ++ field) file)) → read_image file ≡ Damaged place
unfolding read_image
found_at First place file bytes w there b broken =
    let whole = w.is in
    ap (λ (o : Option ℕ). or_damaged o 0 (after_first file))
    (none_is (read_first file) (NoFirst file) (λ g. IsFormat g × Begins (first_field g) file) (read_first_is file)
    (λ g p. broken (first_field g) (g, p.0, refl)
    (subst (λ (l : List ℕ). Begins (l ++ first_field g) file) (sym whole) p.1)))
    ∙ ap Damaged (sym (ap length whole) ∙ there)
found_at Name place file bytes w there b broken =
    let format = w.format in let known = w.header.known in let e = w.is in
    let first : Begins (first_field format) file = subst (λ (l : List ℕ). Begins l file) e b in
    to_first file format known first
    ∙ ap (λ (o : Option (List ℕ)). or_damaged o 8 (after_name file format))
    (none_is (read_text form.Name (drop 8 file)) (NoId form.Name (drop 8 file))
    (λ t. IsId form.Name t × Begins (text_field t) (drop 8 file)) (read_text_is form.Name (drop 8 file))
    (λ t p. broken (text_field t) (t, p.0, refl)
    (subst (λ (l : List ℕ). Begins (l ++ text_field t) file) (sym e)
    (ahead (first_field format) (text_field t) file 8 (first_at format file first) p.1))))
    ∙ ap Damaged (sym (length-first_field format) ∙ sym (ap length e) ∙ there)
found_at Uid place file bytes w there b broken =
    let format = w.format in let name = w.head.name in let known = w.header.known in let is = w.header.name
    in let e = w.is in
    let so_far : Begins (first_field format ++ text_field name) file = subst (λ (l : List ℕ). Begins l file) e b in
    let p = 8 + length (text_field name) in
    past_name file format name known is so_far
    ∙ ap (λ (o : Option (List ℕ)). or_damaged o p (after_uid file format name))
    (none_is (read_text form.Replica (drop p file)) (NoId form.Replica (drop p file))
    (λ t. IsId form.Replica t × Begins (text_field t) (drop p file)) (read_text_is form.Replica (drop p file))
    (λ t q. broken (text_field t) (t, q.0, refl)
    (subst (λ (l : List ℕ). Begins (l ++ text_field t) file) (sym e)
    (ahead (first_field format ++ text_field name) (text_field t) file p (name_there file format name so_far) q.1))))
    ∙ ap Damaged (sym (name_there file format name so_far).there ∙ sym (ap length e) ∙ there)
found_at Limit place file bytes w there b broken =
    let format = w.format in let name = w.head.name in let uid = w.head.uid in
    let known = w.header.known in let is = w.header.name in let iu = w.header.uid in let e = w.is in
    let so_far : Begins (first_field format ++ text_field name ++ text_field uid) file =
    subst (λ (l : List ℕ). Begins l file) e b in
    let p = 8 + length (text_field name) + length (text_field uid) in
    past_uid file format name uid known is iu so_far
    ∙ ap (λ (o : Option ℕ). or_damaged o p (after_limit file format name uid))
    (none_is (read_limit (drop p file)) (NoLimit (drop p file)) (λ n. IsLimit n × Begins (u64_bytes n) (drop p file))
    (read_limit_is (drop p file))
    (λ n q. broken (u64_bytes n) (n, q.0, refl)
    (subst (λ (l : List ℕ). Begins (l ++ u64_bytes n) file) (sym e)
    (ahead (first_field format ++ text_field name ++ text_field uid) (u64_bytes n) file p
    (uid_there file format name uid so_far) q.1))))
    ∙ ap Damaged (sym (uid_there file format name uid so_far).there ∙ sym (ap length e) ∙ there)
found_at Gate place file bytes w there b broken =
    let format = w.format in let head = w.head in let bodies = w.bodies in let is = w.header in let fit = w.fit
    in let e = w.is in
    let all : b.0 ≡ [] = nothing_left b.0 (λ g t eq. broken (g ∷ []) (g, refl)
    (t, b.1 ∙ ap (λ (l : List ℕ). bytes ++ l) eq ∙ sym (append_assoc bytes (g ∷ []) t))) in
    let run = past_front file format head bodies [] is fit
    (b.1 ∙ ap (λ (l : List ℕ). bytes ++ l) all ∙ ap (λ (l : List ℕ). l ++ []) e) in
    run.2 ∙ ap (with_bodies bodies)
    (ends_cut run.0 format head (length (up_to_gate format head bodies)) (omega (arith, run.1)))
    ∙ with_bodies-Damaged bodies (length (up_to_gate format head bodies))
    ∙ ap Damaged (sym (ap length e) ∙ there)
found_at Body place file bytes w there b broken =
    let format = w.format in let head = w.head in let bodies = w.bodies in let is = w.header in let fit = w.fit
    in let e = w.is in
    let f = up_to_gate format head bodies in
    let run = past_front file format head bodies (1 ∷ b.0) is fit
    (b.1 ∙ ap (λ (l : List ℕ). l ++ b.0) e ∙ append_assoc f (1 ∷ []) b.0) in
    let none : NoBody b.0 = λ body isbody h. broken (body_field body) (body, isbody, refl)
    (h.0, b.1 ∙ ap (λ (l : List ℕ). bytes ++ l) h.1 ∙ sym (append_assoc bytes (body_field body) h.0)) in
    run.2 ∙ ap (with_bodies bodies) (ends_broken run.0 format head (length f) b.0 (omega (arith, run.1)) none)
    ∙ with_bodies-Damaged bodies (length f + 1)
    ∙ ap Damaged (omega (arith, ap length e, there, length-append f (1 ∷ [])))

-- a file that is damaged there is found so
pub damaged_found : (file : List ℕ) (place : ℕ) → DamagedAt place file → read_image file ≡ Damaged place
damaged_found file place d = found_at d.part place file d.before d.whole d.there d.begins d.broken

-- so no file has two readings, two places of damage, or one of each
pub one_reading : (file : List ℕ) (a b : Reading) → Finds file a → Finds file b → a ≡ b
one_reading file a b fa fb = sym (is_found a fa) ∙ is_found b fb
  where
    is_found : (r : Reading) → Finds file r → read_image file ≡ r
    is_found (Damaged place) h = damaged_found file place h
    is_found (Stands format head bodies) h = reads_found file format head bodies h
