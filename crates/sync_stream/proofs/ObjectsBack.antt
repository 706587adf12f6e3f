-- A head or a document that was written is read as itself.
use Rattle.std.proofs.Common.{◌≡◌, ◌≤◌, codes, Option, Some, None, IfSome, option_map, refl, ap, ◌∙◌, arith}
use Rattle.std.proofs.lemmas.Bool.{lt-ltb}
use Rattle.json.proofs.Printed.Utf8.{IsUtf8-are_ascii}
use Rattle.content.specs.Tree.{Tree, nesting}
use Rattle.content.specs.Canonical.{canonical, data_of}
use Rattle.content.specs.Contents.{IsContent, IsFormed}
use Rattle.content.proofs.CanonicalTexts.{IsUtf8-canonical}
use Rattle.content.proofs.Reading.{content_in-canonical}
use Rattle.vector_rev.proofs.RoundTrip.{reads_back}
use Rattle.u1_base.specs.Places.{Place}
use Rattle.u1_base.specs.declared.ids.Form.TheVariants.{Document}
use Rattle.u1_base.proofs.IdFacts.{in_id}
use Rattle.sync_http.specs.Chained.{◌>>=◌}
use Rattle.sync_http.specs.Positions.{IsPosition, position_in}
use Rattle.sync_http.proofs.PositionsBack.{FitsSigned-generation, IsUtf8-id, IsUtf8-trans_text, position_back}
use Rattle.sync_http.proofs.PositionsBack.{value_of-tree}
use Rattle.sync_stream.specs.Objects.{content_of, doc_in, doc_of, head_in}
use Rattle.sync_stream.specs.Written.{content_tree, doc_tree, head_tree}
use Rattle.sync_stream.specs.Laws.{IsSent}
use Rattle.sync_stream.specs.declared.line.HeadKind.{HeadKind}
use Rattle.sync_stream.specs.declared.line.HeadKind.TheVariants.{Request, Reply}
use Rattle.sync_stream.specs.declared.line.SyncDoc.{SyncDoc}
use Rattle.sync_stream.proofs.ClockTexts.{IsUtf8-clock_text}

-- ---- heads

head_formed : (kind : HeadKind) (p : Place) → IsPosition p → IsFormed (head_tree kind p)
unfolding head_tree
head_formed Request p h = (
  IsUtf8-are_ascii (codes "ensure") refl,
  (refl, (refl, tt)),
  tt,
  (
    IsUtf8-are_ascii (codes "last_known_generation") refl,
    (refl, tt),
    FitsSigned-generation p h,
    (IsUtf8-are_ascii (codes "last_known_trans_id") refl, tt, IsUtf8-trans_text p h, tt),
  ),
)
head_formed Reply p h = (
  IsUtf8-are_ascii (codes "new_generation") refl,
  (refl, tt),
  FitsSigned-generation p h,
  (IsUtf8-are_ascii (codes "new_transaction_id") refl, tt, IsUtf8-trans_text p h, tt),
)

pub head_back : (kind : HeadKind) (p : Place) → IsPosition p → head_in kind (canonical (head_tree kind p)) ≡ Some p
unfolding head_in head_tree
head_back Request p h =
    ap (λ d. d >>= position_in (codes "last_known_generation") (codes "last_known_trans_id"))
    (value_of-tree (head_tree Request p) (head_formed Request p h) (omega arith))
    ∙ position_back (codes "last_known_generation") (codes "last_known_trans_id")
    (data_of (head_tree Request p)) p h refl refl
head_back Reply p h =
    ap (λ d. d >>= position_in (codes "new_generation") (codes "new_transaction_id"))
    (value_of-tree (head_tree Reply p) (head_formed Reply p h) (omega arith))
    ∙ position_back (codes "new_generation") (codes "new_transaction_id") (data_of (head_tree Reply p)) p h refl refl

-- ---- documents

content_formed : (c : Option Tree) → IfSome c IsContent → IsFormed (content_tree c)
content_formed None h = tt
content_formed (Some t) h = IsUtf8-canonical t h.formed

content_nesting : (c : Option Tree) → nesting (content_tree c) ≡ 0
content_nesting None = refl
content_nesting (Some t) = refl

content_back : (c : Option Tree) → IfSome c IsContent → content_of (data_of (content_tree c)) ≡ Some c
content_back None h = refl
content_back (Some t) h = ap (option_map Some) (content_in-canonical t h)

pub doc_formed : (doc : SyncDoc) → IsSent doc → IsFormed (doc_tree doc)
unfolding doc_tree
doc_formed doc s = (
  IsUtf8-are_ascii (codes "content") refl,
  (refl, (refl, (refl, (refl, tt)))),
  content_formed doc.member.content s.content,
  (
    IsUtf8-are_ascii (codes "gen") refl,
    (refl, (refl, (refl, tt))),
    FitsSigned-generation doc.at s.at,
    (
      IsUtf8-are_ascii (codes "id") refl,
      (refl, (refl, tt)),
      IsUtf8-id Document doc.id s.id,
      (
        IsUtf8-are_ascii (codes "rev") refl,
        (refl, tt),
        IsUtf8-clock_text doc.member.rev,
        (IsUtf8-are_ascii (codes "trans_id") refl, tt, IsUtf8-trans_text doc.at s.at, tt),
      ),
    ),
  ),
)

doc_nesting : (doc : SyncDoc) → nesting (doc_tree doc) ≤ 127
unfolding doc_tree
doc_nesting doc = let flat = content_nesting doc.member.content in omega (arith, flat)

doc_of-tree : (doc : SyncDoc) → IsSent doc → doc_of (data_of (doc_tree doc)) ≡ Some doc
unfolding doc_of doc_tree
doc_of-tree doc s =
    let at = position_back (codes "gen") (codes "trans_id") (data_of (doc_tree doc)) doc.at s.at refl refl in
    let later = s.later in
    rw (
      in_id Document doc.id s.id,
      reads_back doc.member.rev,
      content_back doc.member.content s.content,
      at,
      lt-ltb 0 doc.at.generation (omega (arith, later)),
    ) refl

pub doc_back : (doc : SyncDoc) → IsSent doc → doc_in (canonical (doc_tree doc)) ≡ Some doc
unfolding doc_in
doc_back doc s = ap (λ d. d >>= doc_of) (value_of-tree (doc_tree doc) (doc_formed doc s) (doc_nesting doc))
    ∙ doc_of-tree doc s
