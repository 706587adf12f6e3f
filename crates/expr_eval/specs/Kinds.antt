-- The kinds of values.
use Rattle.std.specs.Prelude.{ℕ, Bool, ℤ, List, Option, Some, None}
use Rattle.std.specs.List.{filter_map}
use Rattle.expr_eval.specs.declared.value.Value.{Value}
use Rattle.expr_eval.specs.declared.value.Value.TheVariants.{Text, Whole, Truth}

abbrev pub text_of : Value → Option (List ℕ)
text_of (Text s) = Some s
text_of (Whole z) = None
text_of (Truth b) = None

abbrev pub whole_of : Value → Option ℤ
whole_of (Text s) = None
whole_of (Whole z) = Some z
whole_of (Truth b) = None

abbrev pub truth_of : Value → Option Bool
truth_of (Text s) = None
truth_of (Whole z) = None
truth_of (Truth b) = Some b

-- the texts among the values
abbrev pub texts_in : List Value → List (List ℕ)
texts_in values = filter_map text_of values

-- the whole numbers among them
abbrev pub wholes_in : List Value → List ℤ
wholes_in values = filter_map whole_of values

-- the truth values among them
abbrev pub truths_in : List Value → List Bool
truths_in values = filter_map truth_of values
