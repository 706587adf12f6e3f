-- The limits of expressions.
use Rattle.std.specs.Prelude.{ℕ}
use Rattle.u1_base.specs.declared.limits.TheConstants.{MOST_EXPRESSION_BYTES, MOST_KEY_TEXTS}

-- the greatest length of an expression's text, in bytes
abbrev pub longest : ℕ
longest = MOST_EXPRESSION_BYTES

-- the most expressions of an index
abbrev pub most_exprs : ℕ
most_exprs = MOST_KEY_TEXTS
