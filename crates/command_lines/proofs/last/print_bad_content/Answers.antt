-- Each fault has its text.
use Rattle.command_lines.proofs.last.print_bad_content.Goals as goal

pub returns-in-TooBig : goal.returns-in-TooBig
returns-in-TooBig g c = rw c.in-TooBig.is c.print_number.ensures

pub returns-in-NotJson : goal.returns-in-NotJson
returns-in-NotJson g c = rw c.in-NotJson.is c.put_all.ensures

pub returns-in-NotObject : goal.returns-in-NotObject
returns-in-NotObject g c = rw c.in-NotObject.is c.put_all-in-NotObject.ensures

pub returns-in-TooDeep : goal.returns-in-TooDeep
returns-in-TooDeep g c = rw c.in-TooDeep.is c.put_all-in-TooDeep.ensures

pub returns-in-NotWhole : goal.returns-in-NotWhole
returns-in-NotWhole g c = rw c.in-NotWhole.is c.put_all-in-NotWhole.ensures

pub returns-in-OutOfRange : goal.returns-in-OutOfRange
returns-in-OutOfRange g c = rw c.in-OutOfRange.is c.put_all-in-OutOfRange.ensures

pub returns-in-Memory : goal.returns-in-Memory
returns-in-Memory g c = rw c.in-Memory.is c.put_all-in-Memory.ensures
