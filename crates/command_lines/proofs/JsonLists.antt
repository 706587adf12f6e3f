-- A JSON list of texts, as it is written token by token; and the texts of expressions.
use Rattle.std.proofs.Common.{◌≡◌, ℕ, List, [], ◌∷◌, ◌++◌, true, refl, sym, ap, ◌∙◌, append_assoc, codes, length, take}
use Rattle.std.proofs.Common.{◌≤◌}
use Rattle.std.proofs.lemmas.List.{take_all}
use Rattle.std.specs.Prelude.{map}
use Rattle.std.specs.List.{flat_map, join_with_byte}
use Rattle.json.specs.Print.{print, print_from, quoted}
use Rattle.json.specs.Token.{Token, begin_array, end_array, string}
use Rattle.expr_parser.specs.Canonical.{canonical}
use Rattle.expr_parser.specs.FormOf.{form_of}
use Rattle.expr_parser.specs.Reading.{AreExprs, IndexTextsReadBack, forms_in}
use Rattle.expr_parser.specs.declared.expr.Expr.{Expr}
use Rattle.command_lines.specs.Lines.{blank_each, json_list}

-- the texts behind the first one
after_first : (t : List ℕ) (ts : List (List ℕ))
    → quoted t ++ print_from true (map string ts ++ end_array ∷ []) ≡ join_with_byte 44 (map quoted (t ∷ ts)) ++ 93 ∷ []
unfolding print_from
after_first t [] = refl
after_first t (u ∷ us) =
    ap (λ (text : List ℕ). quoted t ++ 44 ∷ text) (after_first u us)
    ∙ sym (append_assoc (quoted t) (44 ∷ join_with_byte 44 (map quoted (u ∷ us))) (93 ∷ []))

pub json_list_so : (ts : List (List ℕ)) → print (begin_array ∷ map string ts ++ end_array ∷ []) ≡ json_list ts
unfolding print_from
json_list_so [] = refl
json_list_so (t ∷ ts) = ap (λ (text : List ℕ). 91 ∷ text) (after_first t ts)

-- what a writer hands back that was given the texts between brackets
pub json_written : (ts : List (List ℕ)) (i : ℕ) (items before_end before : List ℕ) (tokens_before tokens : List Token)
    → length ts ≤ i
    → before ≡ [] → tokens_before ≡ begin_array ∷ map string (take i ts) → before_end ≡ before
    → tokens ≡ tokens_before ++ end_array ∷ []
    → items ≡ before_end ++ print tokens → items ≡ json_list ts
json_written ts i items before_end before tokens_before tokens all empty so_far kept last is =
    is ∙ rw (kept, empty, last, so_far, take_all i ts all) (json_list_so ts)

spelled_each : (es : List Expr) → flat_map (λ e. codes " " ++ canonical (form_of e)) es
    ≡ blank_each (map canonical (map form_of es))
spelled_each [] = refl
spelled_each (e ∷ es) = ap (λ (text : List ℕ). (codes " " ++ canonical (form_of e)) ++ text) (spelled_each es)

pub spelled_so : (es : List Expr) (texts : List (List ℕ)) → IndexTextsReadBack → AreExprs texts
    → map form_of es ≡ forms_in texts
    → flat_map (λ e. codes " " ++ canonical (form_of e)) es ≡ blank_each texts
spelled_so es texts law are forms =
    spelled_each es ∙ ap blank_each (ap (map canonical) forms ∙ (law.forms texts are).1)

-- the texts of all expressions, each behind a blank
pub spelled_all : (es : List Expr) (texts : List (List ℕ)) (i : ℕ) (text : List ℕ) → IndexTextsReadBack
    → AreExprs texts → map form_of es ≡ forms_in texts
    → length es ≤ i → text ≡ flat_map (λ e. codes " " ++ canonical (form_of e)) (take i es) → text ≡ blank_each texts
spelled_all es texts i text law are forms all is =
    is ∙ rw (take_all i es all) (spelled_so es texts law are forms)
