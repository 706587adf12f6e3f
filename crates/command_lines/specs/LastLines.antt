-- The last line of an outcome: why a run gave no answer.
use Rattle.std.specs.Prelude.{ℕ, List, [], ◌++◌, codes, decimal}
use Rattle.content.specs.declared.fault.ContentFault.{ContentFault}
use Rattle.content.specs.declared.fault.ContentFault.TheVariants as content
use Rattle.disks.specs.declared.name.DiskName.{DiskName}
use Rattle.disks.specs.declared.name.DiskName.TheVariants as disk
use Rattle.vector_rev.specs.ClockText.{clock_text}
use Rattle.command_lines.specs.Lines.{position_text}
use Rattle.command_lines.specs.declared.outcome.Outcome.{Outcome}
use Rattle.command_lines.specs.declared.outcome.Outcome.TheVariants.{Done, Usage, BadContent, Refused, Damaged}
use Rattle.command_lines.specs.declared.outcome.Outcome.TheVariants.{StoreFull, DiskFault, SourceFault, SinkFault}
use Rattle.command_lines.specs.declared.outcome.Outcome.TheVariants.{LinkFault, AcceptFault, Peer, BrokenReply}
use Rattle.command_lines.specs.declared.outcome.Outcome.TheVariants.{LogCheck, Memory}
use Rattle.command_lines.specs.declared.outcome.Refusal.{Refusal}
use Rattle.command_lines.specs.declared.outcome.Refusal.TheVariants.{NoDatabase, DatabaseExists, NotEmpty, NotBuilt}
use Rattle.command_lines.specs.declared.outcome.Refusal.TheVariants.{NoDocument, Conflicted, RevisionConflict}
use Rattle.command_lines.specs.declared.outcome.Refusal.TheVariants.{AlreadyDeleted, NotConflicted, NothingNamed}
use Rattle.command_lines.specs.declared.outcome.Refusal.TheVariants.{Unnamed, ClockFull, IndexTooLong, IndexParse}
use Rattle.command_lines.specs.declared.outcome.Refusal.TheVariants.{IndexUnknown, IndexTaken, WrongWidth, BadGlob}
use Rattle.command_lines.specs.declared.outcome.Refusal.TheVariants.{ViewUnknown, ViewTaken}
use Rattle.command_lines.specs.declared.outcome.UsageKind.{UsageKind}
use Rattle.command_lines.specs.declared.outcome.UsageKind.TheVariants.{Words, Value}

-- a word and a number, a word and two numbers
abbrev pub with_number : List ℕ → ℕ → List ℕ
with_number word n = word ++ (codes " " ++ decimal n)

abbrev pub with_numbers : List ℕ → ℕ → ℕ → List ℕ
with_numbers word m n = word ++ (codes " " ++ (decimal m ++ (codes " " ++ decimal n)))

abbrev pub usage_text : UsageKind → List ℕ
usage_text Words = codes "usage"
usage_text (Value place) = with_number (codes "usage") place

-- why an input is no content; out of memory is none of these
abbrev pub content_fault_text : ContentFault → List ℕ
content_fault_text (content.TooBig length) = with_number (codes "too-big") length
content_fault_text content.NotJson = codes "not-json"
content_fault_text content.NotObject = codes "not-object"
content_fault_text content.TooDeep = codes "too-deep"
content_fault_text content.NotWhole = codes "not-whole"
content_fault_text content.OutOfRange = codes "out-of-range"
content_fault_text content.Memory = []

abbrev pub disk_text : DiskName → List ℕ
disk_text disk.Root = codes "root"
disk_text disk.Left = codes "left"
disk_text disk.Right = codes "right"

-- a refusal with its values
abbrev pub refusal_text : Refusal → List ℕ
refusal_text NoDatabase = codes "no-database"
refusal_text DatabaseExists = codes "database-exists"
refusal_text NotEmpty = codes "not-empty"
refusal_text NotBuilt = codes "not-built"
refusal_text NoDocument = codes "no-document"
refusal_text Conflicted = codes "conflicted"
refusal_text (RevisionConflict current) = codes "revision-conflict " ++ clock_text current
refusal_text AlreadyDeleted = codes "already-deleted"
refusal_text NotConflicted = codes "not-conflicted"
refusal_text NothingNamed = codes "nothing-named"
refusal_text (Unnamed leader) = codes "unnamed " ++ clock_text leader
refusal_text ClockFull = codes "clock-full"
refusal_text (IndexTooLong expression) = with_number (codes "index-too-long") expression
refusal_text (IndexParse expression at) = with_numbers (codes "index-parse") expression at
refusal_text IndexUnknown = codes "index-unknown"
refusal_text IndexTaken = codes "index-taken"
refusal_text WrongWidth = codes "wrong-width"
refusal_text (BadGlob place) = with_number (codes "bad-glob") place
refusal_text ViewUnknown = codes "view-unknown"
refusal_text ViewTaken = codes "view-taken"

-- The last line of an outcome. A run that is done has printed its answer. Nothing can be said of an output that failed,
-- and nothing is printed where memory ran out.
abbrev pub last_line : Outcome → List ℕ
last_line Done = []
last_line (Usage kind) = usage_text kind ++ codes "\n"
last_line (BadContent fault) = codes "bad-content " ++ (content_fault_text fault ++ codes "\n")
last_line (Refused refusal) = codes "refused " ++ (refusal_text refusal ++ codes "\n")
last_line (Damaged disk place) = codes "damaged " ++ (with_number (disk_text disk) place ++ codes "\n")
last_line (StoreFull need limit) = with_numbers (codes "full") need limit ++ codes "\n"
last_line DiskFault = codes "failed disk\n"
last_line SourceFault = codes "failed input\n"
last_line SinkFault = []
last_line LinkFault = codes "failed link\n"
last_line AcceptFault = codes "failed accept\n"
last_line (Peer status) = with_number (codes "peer") status ++ codes "\n"
last_line (BrokenReply line) = with_number (codes "broken-reply") line ++ codes "\n"
last_line (LogCheck mine theirs) =
    codes "log-check " ++ (position_text mine ++ (codes " " ++ (position_text theirs ++ codes "\n")))
last_line Memory = []
