-- Each part follows a dot, and none follows the last.
use Rattle.std.proofs.Common.{[], ◌∷◌, ◌++◌, ap, ◌∙◌}
use Rattle.std.proofs.lemmas.Result.{err_from_is_err_and}
use Rattle.expr_parser.specs.declared.descent.Words.{Words}
use Rattle.expr_parser.specs.Machine.{behind}
use Rattle.expr_parser.proofs.Steps.{first_missing, words_end, words_first, words_next, words_smaller}
use Rattle.expr_parser.proofs.descent.words_of_field.Goals as goal

pub returns-in_err-last-clause-goes : goal.returns-in_err-last-clause-goes
returns-in_err-last-clause-goes c =
    let p = err_from_is_err_and c.from_residual.result c.from_residual.ensures.1 in
    rw (p.1, p.2) (first_missing {T = Words}
    (λ w K. behind K w.parts w.last.now) c.args.reader.now c.pass_white.new.self c.some_part.new.reader
    c.in_err-last.field-0.0 c.pass_white.ensures c.in_err-last.ensures)

pub loop-alloc-init : goal.loop-alloc-init
loop-alloc-init c =
    let read = c.in_ok-last.ensures in
    let seen = words_first c.args.reader.now c.pass_white.new.self c.some_part.new.reader c.new-parts.result
    c.in_ok-last.last.now c.pass_white.ensures c.new-parts.ensures read.0 read.1 read.2 in
    (read.3, seen.0, seen.1, seen.2)

pub loop-alloc-smaller : goal.loop-alloc-smaller
loop-alloc-smaller c =
    let read = c.in_ok-last-2.ensures in
    words_smaller c.loop-alloc.reader c.takes.new.self c.some_part-in-loop-alloc.new.reader
    c.loop-alloc-test.ensures read.1

pub loop-alloc-preserved : goal.loop-alloc-preserved
loop-alloc-preserved c =
    let read = c.in_ok-last-2.ensures in
    let i = c.loop-alloc.invariant in
    let seen = words_next c.args.reader.now c.loop-alloc.reader c.takes.new.self c.some_part-in-loop-alloc.new.reader
    c.loop-alloc.parts c.push.new.self c.loop-alloc.last.now c.in_ok-last-2.last.now
    (i.1, i.2, i.3) c.loop-alloc-test.ensures (c.in_ok-push.ensures.ok
    ∙ ap (λ x. c.loop-alloc.parts ++ x ∷ []) c.in_ok-copy.ensures) read.0 read.1 read.2 in
    (read.3, seen.0, seen.1, seen.2)

pub returns-clause-goes : goal.returns-clause-goes
returns-clause-goes c =
    let i = c.loop-alloc.invariant in
    (words_end c.args.reader.now c.loop-alloc.reader c.takes.new.self c.pass_white-2.new.self c.loop-alloc.parts
    c.loop-alloc.last.now (i.1, i.2, i.3) c.loop-alloc-test.ensures c.pass_white-2.ensures).0

pub returns-clause-past : goal.returns-clause-past
returns-clause-past c =
    let i = c.loop-alloc.invariant in
    (words_end c.args.reader.now c.loop-alloc.reader c.takes.new.self c.pass_white-2.new.self c.loop-alloc.parts
    c.loop-alloc.last.now (i.1, i.2, i.3) c.loop-alloc-test.ensures c.pass_white-2.ensures).1

pub returns-clause-shorter : goal.returns-clause-shorter
returns-clause-shorter c =
    let i = c.loop-alloc.invariant in
    (words_end c.args.reader.now c.loop-alloc.reader c.takes.new.self c.pass_white-2.new.self c.loop-alloc.parts
    c.loop-alloc.last.now (i.1, i.2, i.3) c.loop-alloc-test.ensures c.pass_white-2.ensures).2
