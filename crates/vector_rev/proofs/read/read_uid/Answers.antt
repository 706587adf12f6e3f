-- A byte outside the alphabet.
use Rattle.vector_rev.proofs.Reading.{uid_bad_byte}
use Rattle.vector_rev.proofs.read.read_uid.Goals as goal

pub returns-in-Err-BadByte : goal.returns-in-Err-BadByte
returns-in-Err-BadByte c = let h = rw c.in-Err-BadByte.field-0-is at c.in-Err-BadByte.ensures
    in uid_bad_byte c.args.text.now c.in-Err-BadByte.field-0-0 h.0.2
