-- The pieces are the text.
use Rattle.command_lines.proofs.places.print_compacted.Goals as goal

pub returns : goal.returns
returns g c =
    rw (c.as_bytes.ensures.value, c.format.ensures.text, c.as_bytes-2.ensures.value, c.format-2.ensures.text)
    at c.put_all.ensures
