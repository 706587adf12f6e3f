-- No byte was left behind.
use Rattle.std.proofs.Common.{◌∙◌, ◌+◌, sym, arith}
use Rattle.content.specs.Contents.{most_bytes}
use Rattle.content.specs.declared.fault.ContentFault.TheVariants.{Memory}
use Rattle.examples.proofs.Arriving.{arrived, refused_parts}
use Rattle.examples.proofs.pieces.content_in_pieces.Goals as goal

pub returns-in-Ok-clause-whole : goal.returns-in-Ok-clause-whole
returns-in-Ok-clause-whole c =
    arrived (most_bytes + 1) c.args.json.now c.as_slice.result.now c.read.result (omega arith)
    (c.in-Ok.ensures.reads.told ∙ sym c.as_slice.ensures) c.read.ensures.no_fault c.read.ensures.reads

pub returns-in-Ok-clause-refused : goal.returns-in-Ok-clause-refused
returns-in-Ok-clause-refused c =
    refused_parts Memory (most_bytes + 1) c.args.json.now c.as_slice.result.now c.read.result (omega arith)
    (c.in-Ok.ensures.reads.told ∙ sym c.as_slice.ensures) c.read.ensures.refused
