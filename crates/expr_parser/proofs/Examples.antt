-- The machine and the canonical text, computed on small texts.
use Rattle.std.specs.Prelude.{◌≡◌, [], ◌∷◌, codes, false, Ok, Err, refl}
use Rattle.expr_parser.specs.Canonical.{canonical}
use Rattle.expr_parser.specs.Forms.{field, lower}
use Rattle.expr_parser.specs.Grammar.{is_white, is_part}
use Rattle.expr_parser.specs.Machine.{begin, none, run, goes_on}
use Rattle.expr_parser.specs.Reading.{are_exprs}
use lib.Utf8.{encode}

blanks : run (begin none) (codes "lower( a.b )") ≡ Ok (lower (field (codes "a" ∷ codes "b" ∷ [])))
unfolding is_white is_part goes_on encode
blanks = refl

-- what is left where the text goes wrong
too_wide : run (begin none) (codes "number(age,129)") ≡ Err (codes "9)")
unfolding is_white is_part goes_on encode
too_wide = refl

no_bracket : run (begin none) (codes "is_null(a)") ≡ Err (codes "(a)")
unfolding is_white is_part goes_on encode
no_bracket = refl

spelled : canonical (lower (field (codes "a" ∷ codes "b" ∷ []))) ≡ codes "lower(a.b)"
spelled = refl

no_exprs : are_exprs [] ≡ false
no_exprs = refl
