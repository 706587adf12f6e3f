-- The faults of the calls: which are failures of the commit, and which of them a refusal becomes.
-- `commit_failure` is private.
use Rattle.std.specs.Prelude.{Option, Some, None}
use Rattle.conflicts.specs.declared.edits.EditFault.{EditFault}
use Rattle.conflicts.specs.declared.edits.EditFault.TheVariants as edit
use Rattle.conflicts.specs.declared.resolutions.ResolveFault.{ResolveFault}
use Rattle.conflicts.specs.declared.resolutions.ResolveFault.TheVariants as resolve
use Rattle.replica_core.specs.declared.fault.CommitFault.{CommitFault}
use Rattle.replica_core.specs.declared.fault.CommitFault.TheVariants as commit
use Rattle.replica_core.specs.declared.calls.documents.PutFault.{PutFault}
use Rattle.replica_core.specs.declared.calls.documents.PutFault.TheVariants as put
use Rattle.replica_core.specs.declared.calls.resolutions.ResolveDocFault.{ResolveDocFault}
use Rattle.replica_core.specs.declared.calls.resolutions.ResolveDocFault.TheVariants as resolve_doc
use Rattle.replica_core.specs.declared.calls.receipts.TakeFault.{TakeFault}
use Rattle.replica_core.specs.declared.calls.receipts.TakeFault.TheVariants as take
use Rattle.replica_core.specs.declared.calls.indexes.IndexFault.{IndexFault}
use Rattle.replica_core.specs.declared.calls.indexes.IndexFault.TheVariants as index

-- ---- a commit

abbrev pub commit_failure : CommitFault → Option CommitFault
commit_failure fault = Some fault

-- ---- an edit or a deletion

abbrev pub put_refusal : EditFault → PutFault
put_refusal edit.NoDocument = put.NoDocument
put_refusal edit.Conflicted = put.Conflicted
put_refusal (edit.RevisionConflict current) = put.RevisionConflict current
put_refusal edit.AlreadyDeleted = put.AlreadyDeleted
put_refusal edit.ClockFull = put.ClockFull
put_refusal edit.Memory = put.Memory

abbrev pub put_failed : CommitFault → PutFault
put_failed (commit.Full need limit) = put.Full need limit
put_failed commit.Disk = put.Disk
put_failed commit.Memory = put.Memory

abbrev pub put_failure : PutFault → Option CommitFault
put_failure put.NoDocument = None
put_failure put.Conflicted = None
put_failure (put.RevisionConflict current) = None
put_failure put.AlreadyDeleted = None
put_failure put.ClockFull = None
put_failure (put.Full need limit) = Some (commit.Full need limit)
put_failure put.Disk = Some commit.Disk
put_failure put.Memory = Some commit.Memory

-- ---- a resolution

abbrev pub resolve_refusal : ResolveFault → ResolveDocFault
resolve_refusal resolve.NoDocument = resolve_doc.NoDocument
resolve_refusal resolve.NotConflicted = resolve_doc.NotConflicted
resolve_refusal resolve.NothingNamed = resolve_doc.NothingNamed
resolve_refusal (resolve.Unnamed leader) = resolve_doc.Unnamed leader
resolve_refusal resolve.ClockFull = resolve_doc.ClockFull
resolve_refusal resolve.Memory = resolve_doc.Memory

abbrev pub resolve_failed : CommitFault → ResolveDocFault
resolve_failed (commit.Full need limit) = resolve_doc.Full need limit
resolve_failed commit.Disk = resolve_doc.Disk
resolve_failed commit.Memory = resolve_doc.Memory

abbrev pub resolve_failure : ResolveDocFault → Option CommitFault
resolve_failure resolve_doc.NoDocument = None
resolve_failure resolve_doc.NotConflicted = None
resolve_failure resolve_doc.NothingNamed = None
resolve_failure (resolve_doc.Unnamed leader) = None
resolve_failure resolve_doc.ClockFull = None
resolve_failure (resolve_doc.Full need limit) = Some (commit.Full need limit)
resolve_failure resolve_doc.Disk = Some commit.Disk
resolve_failure resolve_doc.Memory = Some commit.Memory

-- ---- a receipt or a move

abbrev pub take_failed : CommitFault → TakeFault
take_failed (commit.Full need limit) = take.Full need limit
take_failed commit.Disk = take.Disk
take_failed commit.Memory = take.Memory

abbrev pub take_failure : TakeFault → Option CommitFault
take_failure (take.LogCheck mine theirs) = None
take_failure (take.Full need limit) = Some (commit.Full need limit)
take_failure take.Disk = Some commit.Disk
take_failure take.Memory = Some commit.Memory

-- ---- an index

abbrev pub index_failed : CommitFault → IndexFault
index_failed (commit.Full need limit) = index.Full need limit
index_failed commit.Disk = index.Disk
index_failed commit.Memory = index.Memory

abbrev pub index_failure : IndexFault → Option CommitFault
index_failure index.IndexTaken = None
index_failure index.IndexUnknown = None
index_failure (index.Full need limit) = Some (commit.Full need limit)
index_failure index.Disk = Some commit.Disk
index_failure index.Memory = Some commit.Memory
