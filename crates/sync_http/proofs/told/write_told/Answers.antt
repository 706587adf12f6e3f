use Rattle.std.proofs.Common.{[], ◌∙◌}
use Rattle.sync_http.specs.Bodies.{told_tree, told_text}
use Rattle.sync_http.proofs.Objects.{written}
use Rattle.sync_http.proofs.told.write_told.Goals as goal

pub returns : goal.returns
unfolding told_text
returns c =
    written (told_tree c.args.at.now) [] _ _ _ _ (c.from_vec.ensures ∙ c.into_inner.ensures.items)
    (c.in_ok-write_object.ensures.before ∙ c.new-out.ensures.before
    ∙ c.new.ensures.items) c.new-out.ensures.tokens c.in_ok-write_object.ensures.tokens
