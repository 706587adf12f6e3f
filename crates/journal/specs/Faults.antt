-- What the faults of an image print.
use Rattle.journal.specs.declared.appending.AppendFault.TheVariants as append
use Rattle.journal.specs.declared.opening.OpenFault.TheVariants as open_
use Rattle.journal.specs.declared.writing.ImageFault.TheVariants as image
