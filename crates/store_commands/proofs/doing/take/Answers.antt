-- The input was not read, or it is no content, or it is one.
use Rattle.std.proofs.lemmas.Result.{err_from_is_err_and}
use Rattle.store_commands.proofs.Taken.{no_content, read_so, unread_so}
use Rattle.store_commands.proofs.doing.take.Goals as goal

pub returns-in_err-bytes : goal.returns-in_err-bytes
returns-in_err-bytes g c =
    let p = err_from_is_err_and c.from_residual.result c.from_residual.ensures.1 in
    rw (p.1, p.2) (unread_so _ _ _ c.in_err-bytes.ensures.reads c.in_err-bytes.ensures.cause.failed)

pub returns-in_err-read : goal.returns-in_err-read
returns-in_err-read g c =
    let p = err_from_is_err_and c.from_residual-in_err-read.result c.from_residual-in_err-read.ensures.1 in
    rw (p.1, p.2) (no_content _ _ _ _ c.in_ok-bytes.ensures.reads
    (rw c.as_slice.ensures at c.in_err-read.ensures.fault) (rw c.as_slice.ensures at c.in_err-read.ensures.refused))

pub returns : goal.returns
returns g c = read_so _ _ _ _ c.in_ok-bytes.ensures.reads (rw c.as_slice.ensures at c.in_ok-read.ensures.reads)
