-- The pieces are the text, in other brackets.
use Rattle.std.proofs.Common.{append_assoc}
use Rattle.command_lines.proofs.last.print_numbers.Goals as goal

pub returns : goal.returns
returns g c = simp append_assoc
    (rw (c.as_bytes.ensures.value, c.format.ensures.text, c.as_bytes-2.ensures.value, c.format-2.ensures.text) at
    c.put_all.ensures)
