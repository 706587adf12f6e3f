-- The answer of the range is that by the documents.
use Rattle.std.proofs.Common.{◌≡◌, ◌∙◌, length, ap, sym, option_copied}
use Rattle.u1_base.proofs.Booleans.{both}
use Rattle.index_tables.specs.Table.{Indexed}
use Rattle.query_range.specs.Answers.{answer, is_within}
use Rattle.replica_reads.specs.Patterns.{has_width}
use Rattle.replica_reads.proofs.Querying.{range_documents}
use Rattle.replica_reads.proofs.indexes.range_from_index.Goals as goal

pub returns-clause-documents : goal.returns-clause-documents
returns-clause-documents g c =
    let index = c.args.index.now in
    let start = option_copied c.args.start in
    let end = option_copied c.args.end in
    let ids = c.in_ok-between.field-0 in
    let is : ids ≡ answer (is_within c.args.start c.args.end) index.table.pairs = c.in_ok-between.ensures.filtered
    ∙ ap (λ (t : Indexed). answer (is_within c.args.start c.args.end) t.pairs) c.table.ensures.value in
    λ docs table.
    range_documents index start end
    (both (has_width (length index.exprs.texts) start) (has_width (length index.exprs.texts) end)
    (sym c.has_width.ensures ∙ c.if-not-has_width.false)
    (sym c.has_width-else-not-has_width.ensures ∙ c.if-not-has_width-2.false))
    ids is docs table
