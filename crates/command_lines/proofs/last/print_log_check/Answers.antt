-- The pieces are the text, in other brackets.
use Rattle.std.proofs.Common.{ap, append_assoc}
use Rattle.u1_base.specs.Places.{Place}
use Rattle.command_lines.proofs.last.print_log_check.Goals as goal

pub returns : goal.returns
returns g c =
    simp append_assoc
    (rw (
      c.as_bytes.ensures.value,
      c.format.ensures.text,
      ap (λ (p : Place). p.generation) c.mine.view_is,
      c.as_bytes-2.ensures.value,
      c.trans_or_dash.ensures,
      c.as_bytes-3.ensures.value,
      c.format-2.ensures.text,
      ap (λ (p : Place). p.generation) c.theirs.view_is,
      c.as_bytes-4.ensures.value,
      c.trans_or_dash-2.ensures,
    )
    at c.put_all.ensures)
