-- The texts of a key. Only private clauses speak of it.
use Rattle.std.specs.Prelude.{ℕ, List, [], ◌∷◌}
use Rattle.u1_base.specs.declared.key.KeyTexts.{KeyTexts}
use Rattle.u1_base.specs.declared.key.KeyTexts.TheVariants.{One, Several}

abbrev pub texts_of : KeyTexts → List (List ℕ)
texts_of (One text) = text ∷ []
texts_of (Several texts) = texts
