-- Beside specs/Exprs: words of private contracts and of proofs.
use Rattle.std.specs.Prelude.{◌≡◌, true, List, [], ◌∷◌, refl}
use Rattle.std.proofs.Common.{◌∙◌, ap}
use Rattle.std.proofs.lemmas.Bool.{and_from}
use Rattle.std.proofs.lemmas.List.Elements.{All-head, All-tail}
use Rattle.std.specs.List.{All, list_all}
use Rattle.expr_parser.specs.Forms.{Form}
use Rattle.expr_parser.specs.Reading.{IsExpr}
use Rattle.expr_parser.specs.Same.{is_same}
use Rattle.expr_parser.proofs.SameForms.{same_tells}
use Rattle.replica_state.specs.Exprs.{is_read_as, is_read}

pub read_all : (fs : List Form) → All IsExpr fs → list_all is_read fs ≡ true
read_all [] all = refl
read_all (f ∷ fs) all =
    and_from (is_read f) (list_all is_read fs)
    (ap (is_read_as f) (All-head IsExpr f fs all) ∙ (same_tells f f (is_same f f) refl).1 refl)
    (read_all fs (All-tail IsExpr f fs all))
