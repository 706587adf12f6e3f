-- What is said of a refusal.
use Rattle.conflicts.specs.declared.edits.EditFault.TheVariants as edit_fault
use Rattle.conflicts.specs.declared.resolutions.ResolveFault.TheVariants as resolve_fault
