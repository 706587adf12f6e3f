-- There is no such index, it gives no answer, or its answer is printed.
use Rattle.std.proofs.Common.{◌∙◌}
use Rattle.std.proofs.lemmas.Result.{err_from_is_err_and}
use Rattle.std.specs.Prelude.{false, option_copied}
use Rattle.replica_state.specs.Held.{lists_of, meaning, meaning_of}
use Rattle.replica_core.specs.Commands.Documents.{document_lines}
use Rattle.replica_core.specs.Commands.Indexes.{answer_effect}
use Rattle.replica_reads.specs.Indexes.{ranged}
use Rattle.store_commands.proofs.Answered.{answered, answered_so, no_answer, over_found, ranged_so, unknown}
use Rattle.store_commands.proofs.Showing.{broken, printed}
use Rattle.store_commands.proofs.range.range.Goals as goal

pub returns-in_default : goal.returns-in_default
returns-in_default g c =
    let r = g.R.Replica in
    let l = lists_of (r.known c.args.replica.now).state in
    unknown r.known r.is_open r.crash g.met.R.Replica.settled c.args.replica.now c.requires
    ((meaning_of l).index c.args.name.now)
    (λ exprs. answer_effect l (ranged exprs l.docs c.args.start.now c.args.end.now)) (g.K.Sink.known c.args.out.now)
    (rw c.state.ensures at c.in_default.ensures)

pub returns-in_err-ids : goal.returns-in_err-ids
returns-in_err-ids g c =
    let r = g.R.Replica in
    let k = g.K.Sink.known in
    let l = lists_of (r.known c.args.replica.now).state in
    let lent = rw c.state.ensures at c.in-Some.ensures in
    let exprs = c.in-Some.index.now.exprs.texts in
    let start = option_copied c.as_ref.result in
    let end = option_copied c.as_ref-2.result in
    let p = err_from_is_err_and c.from_residual.result c.from_residual.ensures.1 in
    rw (p.1, p.2)
    (no_answer r.known r.is_open r.crash g.met.R.Replica.settled c.args.replica.now c.requires _ l
    (ranged exprs l.docs start end) c.in_err-ids.field-0.0 (k c.args.out.now)
    (over_found ((meaning_of l).index c.args.name.now) exprs
    (λ exprs. answer_effect l (ranged exprs l.docs c.args.start.now c.args.end.now)) lent.0
    ∙ ranged_so l exprs c.args.start.now c.args.end.now start end c.as_ref.ensures.value c.as_ref-2.ensures.value)
    (c.in_err-ids.ensures.documents (r.known c.args.replica.now).state.collection.docs lent.1))

pub returns-in_err-print_documents : goal.returns-in_err-print_documents
returns-in_err-print_documents g c =
    let r = g.R.Replica in
    let k = g.K.Sink.known in
    let l = lists_of (r.known c.args.replica.now).state in
    let lent = rw c.state.ensures at c.in-Some.ensures in
    let exprs = c.in-Some.index.now.exprs.texts in
    let start = option_copied c.as_ref.result in
    let end = option_copied c.as_ref-2.result in
    let p = err_from_is_err_and c.from_residual-in_err-print_documents.result
    c.from_residual-in_err-print_documents.ensures.1 in
    rw (p.1, p.2)
    (broken r.known r.is_open r.crash g.met.R.Replica.settled c.args.replica.now c.requires _
    (document_lines (meaning c.state-2.result.now) false c.as_slice.result.now)
    (answered_so (r.known c.args.replica.now).state c.state-2.result.now c.in_ok-ids.ids c.as_slice.result.now _
    c.state-2.ensures c.as_slice.ensures
    (answered r.known r.is_open r.crash g.met.R.Replica.settled c.args.replica.now c.requires _ l
    (ranged exprs l.docs start end) c.in_ok-ids.ids
    (over_found ((meaning_of l).index c.args.name.now) exprs
    (λ exprs. answer_effect l (ranged exprs l.docs c.args.start.now c.args.end.now)) lent.0
    ∙ ranged_so l exprs c.args.start.now c.args.end.now start end c.as_ref.ensures.value c.as_ref-2.ensures.value)
    (c.in_ok-ids.ensures.documents (r.known c.args.replica.now).state.collection.docs lent.1)))
    (k c.args.out.now) (k c.print_documents.new.out) c.in_err-print_documents.field-0.0
    c.in_err-print_documents.ensures)

pub returns : goal.returns
returns g c =
    let r = g.R.Replica in
    let k = g.K.Sink.known in
    let l = lists_of (r.known c.args.replica.now).state in
    let lent = rw c.state.ensures at c.in-Some.ensures in
    let exprs = c.in-Some.index.now.exprs.texts in
    let start = option_copied c.as_ref.result in
    let end = option_copied c.as_ref-2.result in
    printed r.known r.is_open r.crash g.met.R.Replica.settled c.args.replica.now c.requires _
    (document_lines (meaning c.state-2.result.now) false c.as_slice.result.now)
    (answered_so (r.known c.args.replica.now).state c.state-2.result.now c.in_ok-ids.ids c.as_slice.result.now _
    c.state-2.ensures c.as_slice.ensures
    (answered r.known r.is_open r.crash g.met.R.Replica.settled c.args.replica.now c.requires _ l
    (ranged exprs l.docs start end) c.in_ok-ids.ids
    (over_found ((meaning_of l).index c.args.name.now) exprs
    (λ exprs. answer_effect l (ranged exprs l.docs c.args.start.now c.args.end.now)) lent.0
    ∙ ranged_so l exprs c.args.start.now c.args.end.now start end c.as_ref.ensures.value c.as_ref-2.ensures.value)
    (c.in_ok-ids.ensures.documents (r.known c.args.replica.now).state.collection.docs lent.1)))
    (k c.args.out.now) (k c.print_documents.new.out) c.in_ok-print_documents.ensures
