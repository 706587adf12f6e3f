-- A stream that was written is whole, and says what it was written for.
use Rattle.std.proofs.Common.{◌≡◌, ℕ, suc, ◌-◌, ◌^◌, ◌<◌, ◌≤◌, true, false, ◌&&◌, cond, eqb, nat_lt, zero, pos, List}
use Rattle.std.proofs.Common.{[], ◌∷◌, ◌++◌, length, map, take, get_or, flat_map, decimal, codes, Option, Some, None}
use Rattle.std.proofs.Common.{IfSome, refl, sym, ap, ap₂, ◌∙◌, subst, arith, inl, append_assoc, unwrap_or}
use Rattle.std.specs.List.{AllByRecursion}
use Rattle.std.proofs.lemmas.Bool.{and_parts, le-ltb, lt-ltb}
use Rattle.std.specs.Char.{is_ascii_digit}
use Rattle.std.proofs.lemmas.Bool.Decides.{nat_tests}
use Rattle.std.proofs.lemmas.Fmt.{length-decimal-le}
use Rattle.std.proofs.lemmas.List.{length-append, append-nil, take_at}
use Rattle.content.specs.Tree.{Tree, boolean, whole, text, no_fields, field}
use Rattle.content.specs.Canonical.{canonical}
use Rattle.content.specs.Contents.{IsContent}
use Rattle.vector_rev.specs.ClockText.{clock_text}
use Rattle.u1_base.specs.Ids.{IsId}
use Rattle.u1_base.specs.Places.{Place}
use Rattle.u1_base.specs.declared.ids.Form.TheVariants.{Document, Transaction}
use Rattle.u1_base.proofs.IdFacts.{id_facts}
use Rattle.sync_http.specs.Positions.{IsPosition, trans_text}
use Rattle.sync_http.proofs.HeadBytes.{digits_pass, weaker}
use Rattle.sync_stream.specs.Lines.{ended, IsUnbroken}
use Rattle.sync_stream.specs.Objects.{doc_in, head_in}
use Rattle.sync_stream.specs.Says.{ends_in_comma, object_part, part_comma}
use Rattle.sync_stream.specs.Stream.{Ends, max_line}
use Rattle.sync_stream.specs.Format.{IsBody, IsFitting, commas, doc_line, has_comma}
use Rattle.sync_stream.specs.Written.{content_tree, doc_piece, doc_tree, end_piece, head_piece, head_tree, stream_text}
use Rattle.sync_stream.specs.Laws.{IsSent}
use Rattle.sync_stream.specs.declared.line.HeadKind.{HeadKind}
use Rattle.sync_stream.specs.declared.line.HeadKind.TheVariants.{Request, Reply}
use Rattle.sync_stream.specs.declared.line.Line.TheVariants.{Head, Doc, End}
use Rattle.sync_stream.specs.declared.line.Next.TheVariants.{Closed}
use Rattle.sync_stream.specs.declared.line.SyncDoc.{SyncDoc}
use Rattle.sync_stream.proofs.Bodies.{body_passes}
use Rattle.sync_stream.proofs.CleanTexts.{EndsIn, IsClean, IsClean-append, no_cr, object_clean, object_end}
use Rattle.sync_stream.proofs.CleanTexts.{object_length, quoted_clean, quoted_length}
use Rattle.sync_stream.proofs.ClockTexts.{length-clock_text}
use Rattle.sync_stream.proofs.ObjectsBack.{doc_back, head_back}
use Rattle.sync_stream.proofs.Trims.{trim_end-other}

-- ---- what is needed of an object's text

pub record IsPlain (bytes : List ℕ) : Type 0 where
  clean : IsClean bytes
  end : EndsIn 125 bytes
  short : length bytes < max_line

digit_no_cr : (b : ℕ) → is_ascii_digit b ≡ true → no_cr b ≡ true
digit_no_cr b e = grind (arith, nat_tests, e)

number_clean : (n : ℕ) → n < 2 ^ 64 → IsClean (decimal n)
number_clean n fits = weaker is_ascii_digit no_cr digit_no_cr (decimal n) (digits_pass n fits)

pub trans_length : (trans : Option (List ℕ)) → IfSome trans (IsId Transaction) → length (unwrap_or trans []) ≤ 64
trans_length None h = omega arith
trans_length (Some id) h = (id_facts Transaction id h).1

head_plain : (kind : HeadKind) (p : Place) → IsPosition p → IsPlain (canonical (head_tree kind p))
unfolding head_tree
head_plain Request p h =
    let less = h.counted in
    let fits : p.generation < 2 ^ 64 = omega (arith, less) in
    let fs = field (codes "ensure") (boolean false)
    (field (codes "last_known_generation") (whole (pos p.generation))
    (field (codes "last_known_trans_id") (text (trans_text p)) no_fields)) in
    let digits = length-decimal-le 19 p.generation (omega arith) (omega (arith, less)) fits in
    let trans = trans_length p.trans h.id in
    let quote = quoted_length (trans_text p) in
    let all = object_length fs in
    record {
      clean = object_clean fs (refl, (number_clean p.generation fits, (quoted_clean (trans_text p), tt)));
      end =
          object_end fs;
      short = omega (arith, digits, trans, quote, all);
    }
head_plain Reply p h =
    let less = h.counted in
    let fits : p.generation < 2 ^ 64 = omega (arith, less) in
    let fs = field (codes "new_generation") (whole (pos p.generation))
    (field (codes "new_transaction_id") (text (trans_text p)) no_fields) in
    let digits = length-decimal-le 19 p.generation (omega arith) (omega (arith, less)) fits in
    let trans = trans_length p.trans h.id in
    let quote = quoted_length (trans_text p) in
    let all = object_length fs in
    record {
      clean = object_clean fs (number_clean p.generation fits, (quoted_clean (trans_text p), tt));
      end =
          object_end fs;
      short = omega (arith, digits, trans, quote, all);
    }

content_clean : (c : Option Tree) → IsClean (canonical (content_tree c))
content_clean None = refl
content_clean (Some t) = quoted_clean (canonical t)

content_length : (c : Option Tree) → IfSome c IsContent → length (canonical (content_tree c)) ≤ 25165826
content_length None h = omega arith
content_length (Some t) h = let inside = quoted_length (canonical t) in let short = h.short
    in omega (arith, inside, short)

doc_plain : (doc : SyncDoc) → IsSent doc → IsPlain (canonical (doc_tree doc))
unfolding doc_tree
doc_plain doc s =
    let less = s.at.counted in
    let fits : doc.at.generation < 2 ^ 64 = omega (arith, less) in
    let rev = clock_text doc.member.rev in
    let fs = field (codes "content") (content_tree doc.member.content)
    (field (codes "gen") (whole (pos doc.at.generation))
    (field (codes "id") (text doc.id)
    (field (codes "rev") (text rev) (field (codes "trans_id") (text (trans_text doc.at)) no_fields)))) in
    let content = content_length doc.member.content s.content in
    let digits = length-decimal-le 19 doc.at.generation (omega arith) (omega (arith, less)) fits in
    let id = (id_facts Document doc.id s.id).1 in
    let clock = length-clock_text doc.member.rev in
    let trans = trans_length doc.at.trans s.at.id in
    let quote_id = quoted_length doc.id in
    let quote_rev = quoted_length rev in
    let quote_trans = quoted_length (trans_text doc.at) in
    let all = object_length fs in
    record {
      clean = object_clean fs (
        content_clean doc.member.content,
        (
          number_clean doc.at.generation fits,
          (quoted_clean doc.id, (quoted_clean rev, (quoted_clean (trans_text doc.at), tt))),
        ),
      );
      end = object_end fs;
      short = omega (arith, content, digits, id, clock, trans, quote_id, quote_rev, quote_trans, all);
    }

-- ---- lines

-- bytes without a CR are one line
clean_at : (bytes : List ℕ) (k : ℕ) → IsClean bytes → get_or bytes k 0 ≡ 13 → ⊥
clean_at [] k h e = absurd (omega (arith, e))
clean_at (b ∷ bytes) zero h e = absurd (first b (and_parts (no_cr b) _ h).0 e)
  where
    first : (b : ℕ) → no_cr b ≡ true → b ≡ 13 → ⊥
    first b h e = cc
clean_at (b ∷ bytes) (suc k) h e = clean_at bytes k (and_parts (no_cr b) _ h).1 e

unbroken : (bytes : List ℕ) → IsClean bytes → IsUnbroken bytes
unbroken bytes h k low high b = clean_at bytes k h b.1

-- ---- commas

last_byte : (front : List ℕ) (b : ℕ) → get_or (front ++ b ∷ []) (length (front ++ b ∷ []) - 1) 0 ≡ b
last_byte front b =
    let place : length (front ++ b ∷ []) - 1 ≡ length front = omega (arith, length-append front (b ∷ [])) in
    ap (λ k. get_or (front ++ b ∷ []) k 0) place ∙ at_place front b
  where
    at_place : (front : List ℕ) (b : ℕ) → get_or (front ++ b ∷ []) (length front) 0 ≡ b
    at_place [] b = refl
    at_place (x ∷ front) b = at_place front b

some_byte : (front : List ℕ) (b : ℕ) → nat_lt 0 (length (front ++ b ∷ [])) ≡ true
some_byte front b = lt-ltb 0 (length (front ++ b ∷ [])) (omega (arith, length-append front (b ∷ [])))

ends_so : (front : List ℕ) (b : ℕ) → ends_in_comma (front ++ b ∷ []) ≡ eqb b 44
ends_so front b = ap₂ (λ x y. x && eqb y 44) (some_byte front b) (last_byte front b)

-- an object without a comma, and with one
without_comma : (bytes : List ℕ) → EndsIn 125 bytes → object_part bytes ≡ (bytes, false)
without_comma bytes e = subst (λ (t : List ℕ). object_part t ≡ (t, false)) (sym e.1) (at_end e.0)
  where
    at_end : (front : List ℕ) → object_part (front ++ 125 ∷ []) ≡ (front ++ 125 ∷ [], false)
    at_end front =
        ap part_comma (trim_end-other front 125 refl)
        ∙ ap (λ b. cond b (take (length (front ++ 125 ∷ []) - 1) (front ++ 125 ∷ []), true) (front ++ 125 ∷ [], false))
        (ends_so front 125)

with_comma : (bytes : List ℕ) → object_part (bytes ++ 44 ∷ []) ≡ (bytes, true)
with_comma bytes =
    let all = bytes ++ 44 ∷ [] in
    let place : length all - 1 ≡ length bytes = omega (arith, length-append bytes (44 ∷ [])) in
    ap part_comma (trim_end-other bytes 44 refl)
    ∙ ap (λ b. cond b (take (length all - 1) all, true) (all, false)) (ends_so bytes 44)
    ∙ ap (λ k. (take k all, true)) place ∙ ap (λ (t : List ℕ). (t, true)) (take_at bytes (44 ∷ []) (length bytes) refl)

-- ---- the lines of a stream

-- the object lines from one on: each but the last has a comma
abbrev objects : List ℕ → List SyncDoc → List (List ℕ)
objects bytes [] = bytes ∷ []
objects bytes (doc ∷ docs) = (bytes ++ 44 ∷ []) ∷ objects (canonical (doc_tree doc)) docs

abbrev lines_from : List ℕ → List SyncDoc → List (List ℕ)
lines_from bytes docs = objects bytes docs ++ (93 ∷ []) ∷ []

joined : (bytes : List ℕ) (docs : List SyncDoc)
    → bytes ++ (flat_map doc_piece docs ++ end_piece) ≡ flat_map ended (lines_from bytes docs)
unfolding doc_piece
joined bytes [] = sym (append_assoc bytes (13 ∷ 10 ∷ []) (93 ∷ 13 ∷ 10 ∷ []))
joined bytes (doc ∷ docs) =
    let own = canonical (doc_tree doc) in
    let rest = flat_map doc_piece docs in
    let more = flat_map ended (lines_from own docs) in
    ap (λ (t : List ℕ). bytes ++ 44 ∷ 13 ∷ 10 ∷ t) (append_assoc own rest end_piece ∙ joined own docs)
    ∙ sym (append_assoc (bytes ++ 44 ∷ []) (13 ∷ 10 ∷ []) more ∙ append_assoc bytes (44 ∷ []) (13 ∷ 10 ∷ more))

-- every object line is one line, and fits
objects_unbroken : (bytes : List ℕ) (docs : List SyncDoc) → IsPlain bytes → AllByRecursion IsSent docs
    → AllByRecursion IsUnbroken (lines_from bytes docs)
objects_unbroken bytes [] plain sent = (unbroken bytes plain.clean, (unbroken (93 ∷ []) refl, tt))
objects_unbroken bytes (doc ∷ docs) plain sent = (
  unbroken (bytes ++ 44 ∷ []) (IsClean-append bytes (44 ∷ []) plain.clean refl),
  objects_unbroken (canonical (doc_tree doc)) docs (doc_plain doc sent.0) sent.1,
)

objects_fit : (bytes : List ℕ) (docs : List SyncDoc) → IsPlain bytes → AllByRecursion IsSent docs
    → AllByRecursion IsFitting (lines_from bytes docs)
objects_fit bytes [] plain sent =
    let short = plain.short in (le-ltb max_line (length bytes) (omega (arith, short)), (refl, tt))
objects_fit bytes (doc ∷ docs) plain sent =
    let short = plain.short in (
      le-ltb max_line (length (bytes ++ 44 ∷ [])) (omega (arith, short, length-append bytes (44 ∷ []))),
      objects_fit (canonical (doc_tree doc)) docs (doc_plain doc sent.0) sent.1,
    )

-- ---- what the object lines say

-- the line of an object, by the documents behind it
abbrev line_of : List ℕ → List SyncDoc → List ℕ
line_of bytes [] = bytes
line_of bytes (doc ∷ docs) = bytes ++ 44 ∷ []

-- the lines behind it
abbrev later_of : List SyncDoc → List (List ℕ)
later_of [] = []
later_of (doc ∷ docs) = objects (canonical (doc_tree doc)) docs

objects_are : (bytes : List ℕ) (docs : List SyncDoc) → objects bytes docs ≡ line_of bytes docs ∷ later_of docs
objects_are bytes [] = refl
objects_are bytes (doc ∷ docs) = refl

part_of : (bytes : List ℕ) (docs : List SyncDoc) → IsPlain bytes → (object_part (line_of bytes docs)).0 ≡ bytes
part_of bytes [] plain = ap (λ p. p.0) (without_comma bytes plain.end)
part_of bytes (doc ∷ docs) plain = ap (λ p. p.0) (with_comma bytes)

commas_of : (bytes : List ℕ) (docs : List SyncDoc) → IsPlain bytes → AllByRecursion IsSent docs
    → map has_comma (objects bytes docs) ≡ commas docs
commas_of bytes [] plain sent = ap (λ p. p.1 ∷ []) (without_comma bytes plain.end)
commas_of bytes (doc ∷ docs) plain sent =
    ap₂ (λ p bs. p.1 ∷ bs) (with_comma bytes) (commas_of (canonical (doc_tree doc)) docs (doc_plain doc sent.0) sent.1)

later_says : (docs : List SyncDoc) → AllByRecursion IsSent docs → map doc_line (later_of docs) ≡ map Some docs
later_says [] sent = refl
later_says (doc ∷ docs) sent =
    let own = canonical (doc_tree doc) in
    ap (map doc_line) (objects_are own docs)
    ∙ ap₂ (λ x xs. x ∷ xs) (ap doc_in (part_of own docs (doc_plain doc sent.0)) ∙ doc_back doc sent.0)
    (later_says docs sent.1)

-- the lines are a whole stream
body : (kind : HeadKind) (head : Place) (docs : List SyncDoc) → IsPosition head → AllByRecursion IsSent docs
    → IsBody kind ((91 ∷ []) ∷ lines_from (canonical (head_tree kind head)) docs) head docs
body kind head docs h sent =
    let bytes = canonical (head_tree kind head) in
    let plain = head_plain kind head h in record {
      opening = 91 ∷ [];
      head_at = line_of bytes docs;
      doc_lines = later_of docs;
      closing = 93 ∷ [];
      shape = ap (λ ls. (91 ∷ []) ∷ (ls ++ (93 ∷ []) ∷ [])) (objects_are bytes docs);
      opens = refl;
      closes = refl;
      heads = ap (head_in kind) (part_of bytes docs plain) ∙ head_back kind head h;
      says = later_says docs sent;
      commas = ap (map has_comma) (sym (objects_are bytes docs)) ∙ commas_of bytes docs plain sent;
      fits = (refl, objects_fit bytes docs plain sent);
    }

pub stream_back : (kind : HeadKind) (head : Place) (docs : List SyncDoc) → IsPosition head → AllByRecursion IsSent docs
    → Ends kind (stream_text kind head docs) (Head head ∷ map Doc docs ++ End ∷ []) None
unfolding head_piece
stream_back kind head docs h sent =
    let bytes = canonical (head_tree kind head) in
    let lines = (91 ∷ []) ∷ lines_from bytes docs in record {
      lines = lines;
      place = Closed;
      rest = [];
      begins = record {
        splits = record {
          whole = ap (λ (t : List ℕ). 91 ∷ 13 ∷ 10 ∷ t) (joined bytes docs) ∙ sym (append-nil (flat_map ended lines));
          each = (unbroken (91 ∷ []) refl, objects_unbroken bytes docs (head_plain kind head h) sent);
        };
        passes = body_passes kind lines head docs (body kind head docs h sent);
      };
      last = inl refl;
      fault = refl;
    }
