-- Each disk has its word.
use Rattle.command_lines.proofs.last.print_damaged.Goals as goal

pub returns-in-Root : goal.returns-in-Root
returns-in-Root g c = rw c.in-Root.is c.print_number.ensures

pub returns-in-Left : goal.returns-in-Left
returns-in-Left g c = rw c.in-Left.is c.print_number-in-Left.ensures

pub returns-in-Right : goal.returns-in-Right
returns-in-Right g c = rw c.in-Right.is c.print_number-in-Right.ensures
