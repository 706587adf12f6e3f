use Rattle.std.proofs.Common.{◌≡◌, ◌++◌, [], map, drop, string_bytes}
use denote.Text.{Utf8}
use denote.Shadow.{shadow}
use Rattle.expr_parser.proofs.Joined.{joined, spelling}
use Rattle.expr_parser.proofs.spell.+spelling.Given as goal

abbrev pub invariant-spell_combine-loop-argument : goal.invariant-spell_combine-loop-argument
invariant-spell_combine-loop-argument l = shadow (Utf8 l.mark)
    × (string_bytes l.out ++ joined 44 l.mark (map spelling (drop l.argument-index l.arguments.items))
    ≡ string_bytes l.initial.out ++ joined 44 [] (map spelling l.arguments.items))
