use Rattle.std.proofs.Common.{◌≡◌, ◌++◌, [], drop, string_bytes}
use denote.Text.{Utf8}
use denote.Shadow.{shadow}
use Rattle.expr_parser.proofs.Joined.{joined}
use Rattle.expr_parser.proofs.spell.spell_path.Given as goal

abbrev pub invariant-loop-part : goal.invariant-loop-part
invariant-loop-part l = shadow (Utf8 l.mark)
    × (string_bytes l.out ++ joined 46 l.mark (drop l.part-index l.part-items) ≡ string_bytes l.initial.out
    ++ joined 46 [] l.part-items)
