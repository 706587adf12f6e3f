-- What the tokens print is the canonical text.
use Rattle.std.proofs.Common.{◌≡◌, [], ◌++◌, ap, ap₂, ◌∙◌}
use Rattle.json.specs.Print.{print}
use Rattle.json.specs.Tree.{json_tokens}
use Rattle.serde_json.specs.Written.{outline}
use Rattle.serde_json.proofs.Texts.{print-outline}
use Rattle.content.specs.Canonical.{data_of}
use Rattle.content.specs.TreeOf.{tree_of}
use Rattle.content.proofs.write.written.Goals as goal

pub returns : goal.returns
returns c =
    let wrote = c.in_ok-write_json.ensures in
    let all = data_of (tree_of c.args.root.now) in
    let start : c.write_json.new.out.before ≡ [] = wrote.before ∙ c.new-out.ensures.before
    ∙ c.in_ok-with_capacity.ensures.items in
    let tokens : c.write_json.new.out.tokens ≡ json_tokens (outline all) = wrote.tokens
    ∙ ap (λ ts. ts ++ json_tokens (outline all)) c.new-out.ensures.tokens in
    c.into_inner.ensures.items ∙ ap₂ (λ b ts. b ++ print ts) start tokens ∙ print-outline all
