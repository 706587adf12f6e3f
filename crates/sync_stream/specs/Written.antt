-- The one spelling of a stream: compact objects, their names in the order of bytes, and CR LF after each line. It is
-- written in pieces: what begins it, with the head; each document, with the comma and the CR LF before it; the end.
use Rattle.std.specs.Prelude.{ℕ, pos, false, List, [], ◌∷◌, ◌++◌, codes, Option, Some, None}
use Rattle.std.specs.List.{flat_map}
use Rattle.content.specs.Tree.{Tree, null, boolean, whole, text, field, no_fields, object}
use Rattle.content.specs.Canonical.{canonical}
use Rattle.vector_rev.specs.ClockText.{clock_text}
use Rattle.u1_base.specs.Places.{Place}
use Rattle.sync_http.specs.Positions.{trans_text}
use Rattle.sync_stream.specs.declared.line.HeadKind.{HeadKind}
use Rattle.sync_stream.specs.declared.line.HeadKind.TheVariants.{Request, Reply}
use Rattle.sync_stream.specs.declared.line.SyncDoc.{SyncDoc}

-- ---- the objects

unfoldable pub head_tree : HeadKind → Place → Tree
head_tree Request p =
    object (field (codes "ensure") (boolean false)
    (field (codes "last_known_generation") (whole (pos p.generation))
    (field (codes "last_known_trans_id") (text (trans_text p)) no_fields)))
head_tree Reply p =
    object (field (codes "new_generation") (whole (pos p.generation))
    (field (codes "new_transaction_id") (text (trans_text p)) no_fields))

-- null for a deletion, else the content's text
abbrev pub content_tree : Option Tree → Tree
content_tree None = null
content_tree (Some t) = text (canonical t)

unfoldable pub doc_tree : SyncDoc → Tree
doc_tree doc =
    object (field (codes "content") (content_tree doc.member.content)
    (field (codes "gen") (whole (pos doc.at.generation))
    (field (codes "id") (text doc.id)
    (field (codes "rev") (text (clock_text doc.member.rev))
    (field (codes "trans_id") (text (trans_text doc.at)) no_fields)))))

-- ---- the pieces: 91 is `[`, 93 is `]`, 44 is a comma, 13 and 10 are CR LF

unfoldable pub head_piece : HeadKind → Place → List ℕ
head_piece kind head = 91 ∷ 13 ∷ 10 ∷ canonical (head_tree kind head)

unfoldable pub doc_piece : SyncDoc → List ℕ
doc_piece doc = 44 ∷ 13 ∷ 10 ∷ canonical (doc_tree doc)

abbrev pub end_piece : List ℕ
end_piece = 13 ∷ 10 ∷ 93 ∷ 13 ∷ 10 ∷ []

-- the whole stream
abbrev pub stream_text : HeadKind → Place → List SyncDoc → List ℕ
stream_text kind head docs = head_piece kind head ++ (flat_map doc_piece docs ++ end_piece)
