-- The values are a pattern, whose answer is the filter of the pairs and the answer by the documents; or they are none.
use Rattle.std.proofs.Common.{◌≡◌, ◌∙◌, ℕ, length, ap, subst, sym, Ok, Err}
use Rattle.std.proofs.lemmas.Result.{err_from_is_err_and}
use Rattle.index_tables.specs.Table.{Indexed}
use Rattle.query_range.specs.Answers.{answer}
use Rattle.query_range.specs.Patterns.{ReadsPattern, meets}
use Rattle.replica_state.specs.Exprs.{IndexTexts}
use Rattle.replica_reads.specs.Faults.{query_fault}
use Rattle.replica_reads.specs.Indexes.{queried, searched}
use Rattle.replica_reads.specs.declared.fault.QueryFault.{QueryFault}
use Rattle.replica_reads.proofs.Querying.{Answer, Answers, query_documents, query_pairs, refused_documents}
use Rattle.replica_reads.proofs.Querying.{refused_pairs}
use Rattle.replica_reads.proofs.indexes.from_index.Goals as goal

pub returns-in_err-pattern-clause-pairs : goal.returns-in_err-pattern-clause-pairs
returns-in_err-pattern-clause-pairs g c =
    let index = c.args.index.now in
    let values = c.args.values.now in
    let width : ℕ = length c.as_slice.result.now in
    let count : width ≡ length index.exprs.texts = c.as_slice.ensures.count
    ∙ ap (λ (e : IndexTexts). length e.texts) c.exprs.ensures in
    let fault = c.in_err-pattern.field-0.0 in
    let read : ReadsPattern values width (Err fault) = c.in_err-pattern.ensures in
    let exit = err_from_is_err_and c.from_residual.result c.from_residual.ensures.1 in
    let is : c.from_residual.result ≡ Err (query_fault fault) = exit.1 ∙ ap (λ (f : QueryFault). Err f) exit.2 in
    subst (λ (r : Answer). Answers r (searched index values)) (sym is)
    (refused_pairs index values width count fault read)

pub returns-in_err-pattern-clause-documents : goal.returns-in_err-pattern-clause-documents
returns-in_err-pattern-clause-documents g c =
    let index = c.args.index.now in
    let values = c.args.values.now in
    let width : ℕ = length c.as_slice.result.now in
    let count : width ≡ length index.exprs.texts = c.as_slice.ensures.count
    ∙ ap (λ (e : IndexTexts). length e.texts) c.exprs.ensures in
    let fault = c.in_err-pattern.field-0.0 in
    let read : ReadsPattern values width (Err fault) = c.in_err-pattern.ensures in
    let exit = err_from_is_err_and c.from_residual.result c.from_residual.ensures.1 in
    let is : c.from_residual.result ≡ Err (query_fault fault) = exit.1 ∙ ap (λ (f : QueryFault). Err f) exit.2 in
    λ docs table. subst (λ (r : Answer). Answers r (queried index.exprs.texts docs.pairs values)) (sym is)
    (refused_documents index values width count fault read docs)

pub returns-clause-pairs : goal.returns-clause-pairs
returns-clause-pairs g c =
    let index = c.args.index.now in
    let values = c.args.values.now in
    let width : ℕ = length c.as_slice.result.now in
    let count : width ≡ length index.exprs.texts = c.as_slice.ensures.count
    ∙ ap (λ (e : IndexTexts). length e.texts) c.exprs.ensures in
    let parts = c.in_ok-pattern.pattern in
    let read : ReadsPattern values width (Ok parts) = c.in_ok-pattern.ensures in
    let ids = c.in_ok-matching.field-0 in
    let is : ids ≡ answer (meets parts) index.table.pairs = c.in_ok-matching.ensures.filtered
    ∙ ap (λ (t : Indexed). answer (meets parts) t.pairs) c.table.ensures.value in
    query_pairs index values width count parts read ids is

pub returns-clause-documents : goal.returns-clause-documents
returns-clause-documents g c =
    let index = c.args.index.now in
    let values = c.args.values.now in
    let width : ℕ = length c.as_slice.result.now in
    let count : width ≡ length index.exprs.texts = c.as_slice.ensures.count
    ∙ ap (λ (e : IndexTexts). length e.texts) c.exprs.ensures in
    let parts = c.in_ok-pattern.pattern in
    let read : ReadsPattern values width (Ok parts) = c.in_ok-pattern.ensures in
    let ids = c.in_ok-matching.field-0 in
    let is : ids ≡ answer (meets parts) index.table.pairs = c.in_ok-matching.ensures.filtered
    ∙ ap (λ (t : Indexed). answer (meets parts) t.pairs) c.table.ensures.value in
    λ docs table. query_documents index values width count parts read ids is docs table
