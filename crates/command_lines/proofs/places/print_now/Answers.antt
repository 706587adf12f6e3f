-- The pieces are the text, in other brackets.
use Rattle.std.proofs.Common.{ap, append_assoc}
use Rattle.u1_base.specs.Places.{Place}
use Rattle.command_lines.proofs.places.print_now.Goals as goal

pub returns : goal.returns
returns g c =
    simp append_assoc
    (rw (
      c.as_bytes.ensures.value,
      c.format.ensures.text,
      ap (λ (p : Place). p.generation) c.at.view_is,
      c.as_bytes-2.ensures.value,
      c.trans_or_dash.ensures,
    )
    at c.put_all.ensures)
