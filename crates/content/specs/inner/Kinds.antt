-- The two kinds of number that no content has.
use Rattle.std.specs.Prelude.{Bool}
use Rattle.serde_json.specs.Data.{Num}
use Rattle.serde_json.specs.Find.{is_float}
use Rattle.content.specs.Faults.{is_large}
use Rattle.content.specs.declared.check.Kind.{Kind}
use Rattle.content.specs.declared.check.Kind.TheVariants.{Float, Large}

abbrev pub is_kind : Kind → Num → Bool
is_kind Float n = is_float n
is_kind Large n = is_large n
