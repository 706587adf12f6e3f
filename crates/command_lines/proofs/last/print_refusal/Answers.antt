-- Each refusal has its text.
use Rattle.command_lines.proofs.last.print_refusal.Goals as goal

pub returns-in-RevisionConflict : goal.returns-in-RevisionConflict
returns-in-RevisionConflict g c = rw c.in-RevisionConflict.is c.print_clock.ensures

pub returns-in-Unnamed : goal.returns-in-Unnamed
returns-in-Unnamed g c = rw c.in-Unnamed.is c.print_clock-in-Unnamed.ensures

pub returns-in-IndexTooLong : goal.returns-in-IndexTooLong
returns-in-IndexTooLong g c = rw c.in-IndexTooLong.is c.print_number.ensures

pub returns-in-IndexParse : goal.returns-in-IndexParse
returns-in-IndexParse g c = rw c.in-IndexParse.is c.print_numbers.ensures

pub returns-in-BadGlob : goal.returns-in-BadGlob
returns-in-BadGlob g c = rw c.in-BadGlob.is c.print_number-in-BadGlob.ensures

pub returns-in-NoDatabase : goal.returns-in-NoDatabase
returns-in-NoDatabase g c = rw c.in-NoDatabase.is c.put_all.ensures

pub returns-in-DatabaseExists : goal.returns-in-DatabaseExists
returns-in-DatabaseExists g c = rw c.in-DatabaseExists.is c.put_all-in-DatabaseExists.ensures

pub returns-in-NotEmpty : goal.returns-in-NotEmpty
returns-in-NotEmpty g c = rw c.in-NotEmpty.is c.put_all-in-NotEmpty.ensures

pub returns-in-NotBuilt : goal.returns-in-NotBuilt
returns-in-NotBuilt g c = rw c.in-NotBuilt.is c.put_all-in-NotBuilt.ensures

pub returns-in-NoDocument : goal.returns-in-NoDocument
returns-in-NoDocument g c = rw c.in-NoDocument.is c.put_all-in-NoDocument.ensures

pub returns-in-Conflicted : goal.returns-in-Conflicted
returns-in-Conflicted g c = rw c.in-Conflicted.is c.put_all-in-Conflicted.ensures

pub returns-in-AlreadyDeleted : goal.returns-in-AlreadyDeleted
returns-in-AlreadyDeleted g c = rw c.in-AlreadyDeleted.is c.put_all-in-AlreadyDeleted.ensures

pub returns-in-NotConflicted : goal.returns-in-NotConflicted
returns-in-NotConflicted g c = rw c.in-NotConflicted.is c.put_all-in-NotConflicted.ensures

pub returns-in-NothingNamed : goal.returns-in-NothingNamed
returns-in-NothingNamed g c = rw c.in-NothingNamed.is c.put_all-in-NothingNamed.ensures

pub returns-in-ClockFull : goal.returns-in-ClockFull
returns-in-ClockFull g c = rw c.in-ClockFull.is c.put_all-in-ClockFull.ensures

pub returns-in-IndexUnknown : goal.returns-in-IndexUnknown
returns-in-IndexUnknown g c = rw c.in-IndexUnknown.is c.put_all-in-IndexUnknown.ensures

pub returns-in-IndexTaken : goal.returns-in-IndexTaken
returns-in-IndexTaken g c = rw c.in-IndexTaken.is c.put_all-in-IndexTaken.ensures

pub returns-in-WrongWidth : goal.returns-in-WrongWidth
returns-in-WrongWidth g c = rw c.in-WrongWidth.is c.put_all-in-WrongWidth.ensures

pub returns-in-ViewUnknown : goal.returns-in-ViewUnknown
returns-in-ViewUnknown g c = rw c.in-ViewUnknown.is c.put_all-in-ViewUnknown.ensures

pub returns-in-ViewTaken : goal.returns-in-ViewTaken
returns-in-ViewTaken g c = rw c.in-ViewTaken.is c.put_all-in-ViewTaken.ensures
