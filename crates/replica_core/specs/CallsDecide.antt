-- What each writing call decides, with its own faults.
use Rattle.std.specs.Prelude.{ℕ, Bool, List, Option}
use Rattle.content.specs.Tree.{Tree}
use Rattle.vector_rev.specs.Clock.{Clock}
use Rattle.conflicts.specs.State.{State, Text}
use Rattle.conflicts.specs.Writing as writing
use Rattle.conflicts.specs.Writing.{Decided}
use Rattle.conflicts.specs.declared.member.Member.{Member}
use Rattle.conflicts.specs.declared.moves.Move.{Move}
use Rattle.conflicts.specs.declared.receipts.Taken.{Taken}
use Rattle.replica_core.specs.CallsFaults.{put_refusal, resolve_refusal}
use Rattle.replica_core.specs.declared.calls.documents.PutFault.{PutFault}
use Rattle.replica_core.specs.declared.calls.resolutions.ResolveDocFault.{ResolveDocFault}
use Rattle.replica_core.specs.declared.calls.receipts.TakeFault.{TakeFault}
use Rattle.replica_core.specs.declared.calls.receipts.TakeFault.TheVariants.{LogCheck}
use Rattle.replica_core.specs.declared.calls.indexes.IndexFault.{IndexFault}
use Rattle.replica_core.specs.declared.calls.indexes.IndexFault.TheVariants.{IndexTaken, IndexUnknown}

abbrev pub put_decides : ℕ → Text → Option Clock → Tree → State → Decided Clock PutFault
put_decides seed doc rev content s = writing.put_decides put_refusal seed doc rev content s

abbrev pub delete_decides : ℕ → Text → Clock → State → Decided Clock PutFault
delete_decides seed doc rev s = writing.delete_decides put_refusal seed doc rev s

abbrev pub resolve_decides : ℕ → Text → List Clock → Option Tree → State → Decided Clock ResolveDocFault
resolve_decides seed doc named content s = writing.resolve_decides resolve_refusal seed doc named content s

abbrev pub move_decides : Move → State → Decided (Unit {0}) TakeFault
move_decides m s = writing.move_decides LogCheck m s

abbrev pub take_decides : ℕ → Text → Member → Bool → Move → State → Decided Taken TakeFault
take_decides seed doc x save m s = writing.take_decides LogCheck seed doc x save m s

abbrev pub create_decides : Text → List Text → State → Decided (Unit {0}) IndexFault
create_decides name exprs s = writing.create_decides IndexTaken name exprs s

abbrev pub delete_index_decides : Text → State → Decided (Unit {0}) IndexFault
delete_index_decides name s = writing.delete_index_decides IndexUnknown name s
