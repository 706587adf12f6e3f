-- What an expression gives for a content tree.
use Rattle.std.specs.Prelude.{ℕ, List, [], ◌++◌, map, flat_map}
use Rattle.content.specs.Tree.{Tree}
use Rattle.expr_parser.specs.Forms.{Form, Forms, field, lower, split_words, number, truth, combine, no_forms, form}
use Rattle.expr_eval.specs.declared.value.Value.{Value}
use Rattle.expr_eval.specs.declared.value.Value.TheVariants.{Text}
use Rattle.expr_eval.specs.Fields.{field_values}
use Rattle.expr_eval.specs.Kinds.{texts_in, truths_in, wholes_in}
use Rattle.expr_eval.specs.Texts.{folded, number_text, truth_text}
use Rattle.expr_eval.specs.Words.{distinct, words_in}

-- the values of an expression, in order. Each transform but `combine` takes one kind of values and gives texts.
abbrev mutual
  pub values_of : Form → Tree → List Value
  values_of (field parts) tree = field_values tree parts
  values_of (lower f) tree = map Text (map folded (texts_in (values_of f tree)))
  values_of (split_words f) tree = map Text (distinct (flat_map words_in (texts_in (values_of f tree))))
  values_of (number f width) tree = map Text (map (number_text width) (wholes_in (values_of f tree)))
  values_of (truth f) tree = map Text (map truth_text (truths_in (values_of f tree)))
  values_of (combine fs) tree = values_of_each fs tree

  -- of all arguments, in order
  pub values_of_each : Forms → Tree → List Value
  values_of_each no_forms tree = []
  values_of_each (form f fs) tree = values_of f tree ++ values_of_each fs tree

-- the texts of an expression; its other values are dropped
abbrev pub texts_of : Form → Tree → List (List ℕ)
texts_of f tree = texts_in (values_of f tree)
