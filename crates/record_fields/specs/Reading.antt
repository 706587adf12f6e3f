use Rattle.std.specs.Prelude.{◌≡◌, ℕ, List, map, Result, Ok, Err}
use Rattle.expr_parser.specs.declared.expr.Expr.{Expr}
use Rattle.expr_parser.specs.FormOf.{form_of}
use Rattle.expr_parser.specs.Canonical.{canonical}
use Rattle.record_fields.specs.Table.{Text}
use Rattle.record_fields.specs.Fields.{Rest, Read}
use Rattle.record_fields.specs.declared.stop.Stop.{Stop}
use Rattle.record_fields.specs.declared.stop.Stop.TheVariants.{Bad, Memory}

-- reading stops where the field has no reading; out of memory, it may stop anywhere
abbrev pub Stops : {B : Type 0} → Result B ℕ → Stop → Type 0
Stops read (Bad left) = read ≡ Err left
Stops read Memory = Unit {0}

-- what a field reads as, seen by view, with what is left after it; or where it stops
abbrev pub Reads : {A B : Type 0} → (A → B) → Read B → Result A Stop → Rest → Type 0
Reads view read (Ok x) behind = read ≡ Ok (view x, behind)
Reads view read (Err e) behind = Stops read e

abbrev pub texts_of : List Expr → List Text
texts_of es = map canonical (map form_of es)
