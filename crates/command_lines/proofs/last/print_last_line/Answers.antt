-- Each outcome has its line.
use Rattle.command_lines.proofs.last.print_last_line.Goals as goal

pub returns-in-BadContent : goal.returns-in-BadContent
returns-in-BadContent g c = rw c.in-BadContent.is c.print_bad_content.ensures

pub returns-in-DiskFault : goal.returns-in-DiskFault
returns-in-DiskFault g c = rw c.in-DiskFault.is c.put_all.ensures

pub returns-in-SourceFault : goal.returns-in-SourceFault
returns-in-SourceFault g c = rw c.in-SourceFault.is c.put_all-in-SourceFault.ensures

pub returns-in-LinkFault : goal.returns-in-LinkFault
returns-in-LinkFault g c = rw c.in-LinkFault.is c.put_all-in-LinkFault.ensures

pub returns-in-AcceptFault : goal.returns-in-AcceptFault
returns-in-AcceptFault g c = rw c.in-AcceptFault.is c.put_all-in-AcceptFault.ensures

pub returns-in-BrokenReply : goal.returns-in-BrokenReply
returns-in-BrokenReply g c = rw c.in-BrokenReply.is c.print_number-in-BrokenReply.ensures
