-- What a command comes to: it is refused, or it makes steps and prints lines. The lines are given as values; how each
-- one is spelled is told where it is printed.
use Rattle.std.specs.Prelude.{ℕ, Bool, List, [], ◌∷◌, option_to_list, Result, Ok, Err}
use Rattle.index_tables.specs.Order.{Key}
use Rattle.translog.specs.declared.entry.Change.{Change}
use Rattle.u1_base.specs.Places.{Place}
use Rattle.vector_rev.specs.Clock.{Clock}
use Rattle.vector_rev.specs.Counts.{Uid}
use Rattle.conflicts.specs.State.{Step, Text}
use Rattle.conflicts.specs.declared.member.Member.{Member}
use Rattle.replica_reads.specs.declared.fault.QueryFault.{QueryFault}
use Rattle.conflicts.specs.Writing.{Answers, Decided, Refuses}
use Rattle.replica_core.specs.declared.calls.documents.PutFault.{PutFault}
use Rattle.replica_core.specs.declared.calls.indexes.IndexFault.{IndexFault}
use Rattle.replica_core.specs.declared.calls.resolutions.ResolveDocFault.{ResolveDocFault}

-- why a command is refused, as the call or the reading refuses that it makes. No definition gives a failure: a step
-- that is too long, a disk's fault, or that memory runs out
pub data Refusal : Type 0 where
  Edit : PutFault → Refusal
  Resolve : ResolveDocFault → Refusal
  OfIndex : IndexFault → Refusal
  Query : QueryFault → Refusal

-- one line
pub data Line : Type 0 where
  -- a document and the revision that was made of it
  Made : Text → Clock → Line
  -- a document, its current member, and whether it is in conflict
  Document : Text → Member → Bool → Line
  -- there is no such document
  NoDocument : Line
  -- a member of a document in conflict
  Conflict : Member → Line
  -- an index that is there, and one that was deleted
  IndexMade : Text → Line
  IndexDeleted : Text → Line
  -- an index with the canonical texts of its expressions
  Index : Text → List Text → Line
  Keyed : Key → Line
  -- a generation, and the position after all entries
  Generation : ℕ → Line
  Now : Place → Line
  Changed : Change → Line
  -- the replica and its database
  OfReplica : Uid → Line
  OfDatabase : Text → Line
  -- the positions that are kept of a peer
  Known : Uid → Place → Line
  Told : Uid → Place → Line

pub record Effect : Type 0 where
  pub steps : List Step
  pub lines : List Line

-- a command that changes nothing
abbrev pub prints : List Line → Result Effect Refusal
prints lines = Ok (record { steps = []; lines = lines })

-- a command that makes one writing call: the step that the call decides, if there is one, and a line of its answer
abbrev pub calls : {A F : Type 0} → (A → Line) → (F → Refusal) → Decided A F → Result Effect Refusal
calls line refusal (Refuses fault) = Err (refusal fault)
calls line refusal (Answers answer step) = Ok (record { steps = option_to_list step; lines = line answer ∷ [] })
