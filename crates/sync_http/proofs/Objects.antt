-- An object that was written behind some bytes is the text of its tree.
use Rattle.std.proofs.Common.{◌≡◌, ℕ, List, [], ◌++◌, ap, ap₂, ◌∙◌}
use Rattle.json.specs.Token.{Token}
use Rattle.json.specs.Print.{print}
use Rattle.json.specs.Tree.{json_tokens}
use Rattle.serde_json.specs.Written.{outline}
use Rattle.serde_json.proofs.Texts.{print-outline}
use Rattle.content.specs.Tree.{Tree}
use Rattle.content.specs.Canonical.{canonical, data_of}

pub written : (t : Tree) (start bytes before : List ℕ) (old new : List Token) → bytes ≡ before ++ print new
    → before ≡ start → old ≡ []
    → new ≡ old ++ json_tokens (outline (data_of t)) → bytes ≡ start ++ canonical t
written t start bytes before old new is begins none tokens =
    is
    ∙ ap₂ (λ (a : List ℕ) ts. a ++ print ts) begins (tokens ∙ ap (λ ts. ts ++ json_tokens (outline (data_of t))) none)
    ∙ ap (λ (b : List ℕ). start ++ b) (print-outline (data_of t))
