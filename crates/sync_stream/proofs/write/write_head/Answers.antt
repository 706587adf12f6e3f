use Rattle.std.proofs.Common.{[], ◌∷◌, ◌∙◌, rules}
use Rattle.sync_http.proofs.Objects.{written}
use Rattle.sync_stream.specs.Written.{head_piece, head_tree}
use Rattle.sync_stream.proofs.write.write_head.Goals as goal

pub returns : goal.returns
unfolding head_piece
returns c =
    written (head_tree c.args.kind c.args.at.now) (91 ∷ 13 ∷ 10 ∷ []) _ _ _ _
    (c.from_vec.ensures ∙ c.into_inner.ensures.items)
    (c.in_ok-write_head_object.ensures.before ∙ c.new-out.ensures.before
    ∙ (search rules)) c.new-out.ensures.tokens c.in_ok-write_head_object.ensures.tokens
