-- The pieces are the text, in other brackets.
use Rattle.std.proofs.Common.{append_assoc}
use Rattle.command_lines.proofs.last.print_number.Goals as goal

pub returns : goal.returns
returns g c = simp append_assoc (rw (c.as_bytes.ensures.value, c.format.ensures.text) at c.put_all.ensures)
