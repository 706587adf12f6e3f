use Rattle.std.proofs.Common.{◌≡◌, take, Ok}
use Rattle.std.specs.List.{flat_map}
use Rattle.command_lines.specs.Lines.{line_text}
use Rattle.command_lines.specs.Puts.{Puts}
use Rattle.store_commands.specs.inner.Shown.{kept_line}
use Rattle.store_commands.proofs.info.print_places.Given as goal

abbrev pub invariant-loop-place : goal.invariant-loop-place
invariant-loop-place g l = record {
  walk : l.walk ≡ l.places.pairs;
  put : Puts (flat_map (λ kept. line_text (kept_line l.table kept)) (take l.place l.places.pairs))
      (g.K.Sink.known l.fn.out) (g.K.Sink.known l.out) (Ok tt);
}
