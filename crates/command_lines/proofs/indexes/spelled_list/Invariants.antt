use Rattle.std.proofs.Common.{◌≡◌, [], ◌∷◌, take}
use Rattle.std.specs.Prelude.{map}
use Rattle.json.specs.Token.{begin_array, string}
use Rattle.command_lines.proofs.indexes.spelled_list.Given as goal

abbrev pub invariant-loop-text : goal.invariant-loop-text
invariant-loop-text l = (l.out.before ≡ []) × (l.out.tokens ≡ begin_array ∷ map string (take l.text-index l.texts))
