-- The header was read, and then the entries.
use Rattle.std.proofs.Common.{ap, drop, subst, ◌+◌, ◌∙◌}
use Rattle.journal.specs.Image.{header_bytes}
use Rattle.journal.specs.inner.Fields.{IsAt}
use Rattle.journal.specs.Stored.{IsWholeImage}
use Rattle.journal.proofs.Passed.{broken_in, its_extent, whole_behind}
use Rattle.journal.proofs.passing.stored_of.Goals as goal

pub invariant_of-result : goal.invariant_of-result
invariant_of-result c =
    let start = c.in-Whole.start in
    whole_behind start.format start.header start.length c.in-Ok.length c.args.bytes _ c.in-Whole.ensures.0
    (subst (IsAt (header_bytes start.format start.header) start.length) c.as_slice.ensures c.in-Whole.ensures.1)
    (c.behind-after_header.ensures ∙ ap (drop start.length) c.as_slice-2.ensures) c.in-Ok.ensures

pub returns-in-Ok-clause-reads : goal.returns-in-Ok-clause-reads
returns-in-Ok-clause-reads c =
    let start = c.in-Whole.start in
    let is : IsWholeImage start.format start.header start.length (start.length + c.in-Ok.length) c.args.bytes =
    whole_behind start.format start.header start.length c.in-Ok.length c.args.bytes _ c.in-Whole.ensures.0
    (subst (IsAt (header_bytes start.format start.header) start.length) c.as_slice.ensures c.in-Whole.ensures.1)
    (c.behind-after_header.ensures ∙ ap (drop start.length) c.as_slice-2.ensures) c.in-Ok.ensures in
    (is.reads, its_extent start.format start.header start.length (start.length + c.in-Ok.length) c.args.bytes is)

pub returns-in-Err-clause-reads : goal.returns-in-Err-clause-reads
returns-in-Err-clause-reads c =
    let start = c.in-Whole.start in
    broken_in start.format start.header start.length c.in-Err.place c.args.bytes _ c.in-Whole.ensures.0
    (subst (IsAt (header_bytes start.format start.header) start.length) c.as_slice.ensures c.in-Whole.ensures.1)
    (c.behind-after_header.ensures ∙ ap (drop start.length) c.as_slice-2.ensures) c.in-Err.ensures
