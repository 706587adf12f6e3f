use Rattle.std.proofs.Common.{[], ◌∙◌}
use Rattle.sync_http.specs.Bodies.{info_tree, info_text}
use Rattle.sync_http.proofs.Objects.{written}
use Rattle.sync_http.proofs.info.write_info.Goals as goal

pub returns : goal.returns
unfolding info_text
returns c =
    written (info_tree c.args.info.now) [] _ _ _ _ (c.from_vec.ensures ∙ c.into_inner.ensures.items)
    (c.in_ok-write_object.ensures.before ∙ c.new-out.ensures.before
    ∙ c.new.ensures.items) c.new-out.ensures.tokens c.in_ok-write_object.ensures.tokens
