-- How a run ends: its status, and the ends that faults of the parts are.
use Rattle.std.specs.Prelude.{ℕ}
use Rattle.content.specs.declared.fault.ContentFault.{ContentFault}
use Rattle.content.specs.declared.fault.ContentFault.TheVariants as content
use Rattle.disks.specs.declared.fault.CompactFault.{CompactFault}
use Rattle.disks.specs.declared.fault.CompactFault.TheVariants as compacting
use Rattle.disks.specs.declared.fault.MakeFault.{MakeFault}
use Rattle.disks.specs.declared.fault.MakeFault.TheVariants as making
use Rattle.disks.specs.declared.fault.OpenFault.{OpenFault}
use Rattle.disks.specs.declared.fault.OpenFault.TheVariants as opening
use Rattle.expr_parser.specs.declared.fault.ParseFault.{ParseFault}
use Rattle.expr_parser.specs.declared.fault.ParseFault.TheVariants as parse
use Rattle.link.specs.declared.input.InputFault.{InputFault}
use Rattle.link.specs.declared.input.InputFault.TheVariants as input
use Rattle.replica_core.specs.Commands.Effects.{Refusal as CommandRefusal, Edit, Resolve, OfIndex, Query}
use Rattle.replica_core.specs.declared.calls.documents.PutFault.{PutFault}
use Rattle.replica_core.specs.declared.calls.documents.PutFault.TheVariants as put
use Rattle.replica_core.specs.declared.calls.resolutions.ResolveDocFault.{ResolveDocFault}
use Rattle.replica_core.specs.declared.calls.resolutions.ResolveDocFault.TheVariants as resolve
use Rattle.replica_core.specs.declared.calls.indexes.IndexFault.{IndexFault}
use Rattle.replica_core.specs.declared.calls.indexes.IndexFault.TheVariants as index
use Rattle.replica_reads.specs.declared.fault.QueryFault.{QueryFault}
use Rattle.replica_reads.specs.declared.fault.QueryFault.TheVariants as query
use Rattle.command_lines.specs.declared.outcome.Outcome.{Outcome}
use Rattle.command_lines.specs.declared.outcome.Outcome.TheVariants.{Done, Usage, BadContent, Refused, Damaged}
use Rattle.command_lines.specs.declared.outcome.Outcome.TheVariants.{StoreFull, DiskFault, SourceFault, SinkFault}
use Rattle.command_lines.specs.declared.outcome.Outcome.TheVariants.{LinkFault, AcceptFault, Peer, BrokenReply}
use Rattle.command_lines.specs.declared.outcome.Outcome.TheVariants.{LogCheck, Memory}
use Rattle.command_lines.specs.declared.outcome.Refusal.TheVariants as refusal
use Rattle.command_lines.specs.declared.put.PrintFault.{PrintFault}
use Rattle.command_lines.specs.declared.put.PrintFault.TheVariants as print

-- ---- the status of the program

abbrev pub status_of : Outcome → ℕ
status_of Done = 0
status_of (BadContent fault) = 1
status_of (Refused refusal) = 1
status_of (Usage kind) = 2
status_of (Damaged disk place) = 3
status_of (StoreFull need limit) = 4
status_of DiskFault = 5
status_of SourceFault = 6
status_of SinkFault = 6
status_of LinkFault = 6
status_of AcceptFault = 6
status_of (Peer status) = 7
status_of (BrokenReply line) = 7
status_of (LogCheck mine theirs) = 7
status_of Memory = 8

-- ---- the ends that faults of the parts are

-- of a printed text
abbrev pub print_end : PrintFault → Outcome
print_end print.Sink = SinkFault
print_end print.Memory = Memory

-- of an input that was not read
abbrev pub input_end : InputFault → Outcome
input_end input.Source = SourceFault
input_end input.Memory = Memory

-- of an input that is no content
abbrev pub content_end : ContentFault → Outcome
content_end (content.TooBig length) = BadContent (content.TooBig length)
content_end content.NotJson = BadContent content.NotJson
content_end content.NotObject = BadContent content.NotObject
content_end content.TooDeep = BadContent content.TooDeep
content_end content.NotWhole = BadContent content.NotWhole
content_end content.OutOfRange = BadContent content.OutOfRange
content_end content.Memory = Memory

-- of an edit or a deletion
abbrev pub put_end : PutFault → Outcome
put_end put.NoDocument = Refused refusal.NoDocument
put_end put.Conflicted = Refused refusal.Conflicted
put_end (put.RevisionConflict current) = Refused (refusal.RevisionConflict current)
put_end put.AlreadyDeleted = Refused refusal.AlreadyDeleted
put_end put.ClockFull = Refused refusal.ClockFull
put_end (put.Full need limit) = StoreFull need limit
put_end put.Disk = DiskFault
put_end put.Memory = Memory

-- of a resolution
abbrev pub resolve_end : ResolveDocFault → Outcome
resolve_end resolve.NoDocument = Refused refusal.NoDocument
resolve_end resolve.NotConflicted = Refused refusal.NotConflicted
resolve_end resolve.NothingNamed = Refused refusal.NothingNamed
resolve_end (resolve.Unnamed leader) = Refused (refusal.Unnamed leader)
resolve_end resolve.ClockFull = Refused refusal.ClockFull
resolve_end (resolve.Full need limit) = StoreFull need limit
resolve_end resolve.Disk = DiskFault
resolve_end resolve.Memory = Memory

-- of an index that is created or deleted
abbrev pub index_end : IndexFault → Outcome
index_end index.IndexTaken = Refused refusal.IndexTaken
index_end index.IndexUnknown = Refused refusal.IndexUnknown
index_end (index.Full need limit) = StoreFull need limit
index_end index.Disk = DiskFault
index_end index.Memory = Memory

-- of a query
abbrev pub query_end : QueryFault → Outcome
query_end query.WrongWidth = Refused refusal.WrongWidth
query_end (query.BadGlob place) = Refused (refusal.BadGlob place)
query_end query.Memory = Memory

-- of the index expression at a place, which counts from 0
abbrev pub expression_end : ℕ → ParseFault → Outcome
expression_end place parse.TooLong = Refused (refusal.IndexTooLong place)
expression_end place (parse.At at) = Refused (refusal.IndexParse place at)
expression_end place parse.Memory = Memory

-- of a store that was not opened, not made, or not compacted
abbrev pub open_end : OpenFault → Outcome
open_end opening.Blank = Refused refusal.NoDatabase
open_end (opening.Damaged disk place) = Damaged disk place
open_end opening.Disk = DiskFault
open_end opening.Memory = Memory

abbrev pub make_end : MakeFault → Outcome
make_end making.Exists = Refused refusal.DatabaseExists
make_end making.Disk = DiskFault
make_end making.Memory = Memory

abbrev pub compact_end : CompactFault → Outcome
compact_end (compacting.Damaged disk place) = Damaged disk place
compact_end compacting.Disk = DiskFault
compact_end compacting.Memory = Memory

-- of a command that is refused
abbrev pub refusal_end : CommandRefusal → Outcome
refusal_end (Edit fault) = put_end fault
refusal_end (Resolve fault) = resolve_end fault
refusal_end (OfIndex fault) = index_end fault
refusal_end (Query fault) = query_end fault
