-- A content is read by its flag.
use Rattle.std.proofs.lemmas.Result.{err_from_is_err_and}
use Rattle.record_fields.proofs.ReadBehind.{content_none, content_some, content_stops}
use Rattle.record_fields.proofs.reader.Reader.content.Goals as goal

pub returns-in_err-content : goal.returns-in_err-content
returns-in_err-content c =
    let p = err_from_is_err_and c.from_residual-in_err-content.result c.from_residual-in_err-content.ensures.1 in
    rw (p.1, p.2) (content_stops c.args.self.now c.flag.new.self c.in_ok-flag.field-0 c.in_err-content.field-0.0
    c.in_ok-flag.ensures c.if-branch.true c.in_err-content.ensures)

pub returns-then-branch : goal.returns-then-branch
returns-then-branch c =
    content_some c.args.self.now c.flag.new.self c.held.new.self c.in_ok-flag.field-0 c.in_ok-content.content
    c.in_ok-flag.ensures c.if-branch.true c.in_ok-content.ensures

pub returns : goal.returns
returns c = content_none c.args.self.now c.flag.new.self c.in_ok-flag.field-0 c.in_ok-flag.ensures c.if-branch.false
