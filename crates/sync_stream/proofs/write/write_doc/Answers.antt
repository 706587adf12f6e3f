use Rattle.std.proofs.Common.{[], ◌∷◌, ◌∙◌, rules}
use Rattle.sync_http.proofs.Objects.{written}
use Rattle.sync_stream.specs.Written.{doc_piece, doc_tree}
use Rattle.sync_stream.proofs.write.write_doc.Goals as goal

pub returns : goal.returns
unfolding doc_piece
returns c =
    written (doc_tree c.args.doc.now) (44 ∷ 13 ∷ 10 ∷ []) _ _ _ _ (c.from_vec.ensures ∙ c.into_inner.ensures.items)
    (c.in_ok-write_object.ensures.before ∙ c.new-out.ensures.before
    ∙ (search rules)) c.new-out.ensures.tokens c.in_ok-write_object.ensures.tokens
