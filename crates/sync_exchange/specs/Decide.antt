-- What a target decides on a document of a source, and on a place that the source tells.
use Rattle.std.specs.Prelude.{ℕ, false}
use Rattle.u1_base.specs.Places.{Place}
use Rattle.vector_rev.specs.Counts.{Uid}
use Rattle.conflicts.specs.State.{State}
use Rattle.conflicts.specs.Writing.{Decided, Answers, if_goes_on, move_decides, take_step}
use Rattle.conflicts.specs.declared.moves.Move.{Move}
use Rattle.conflicts.specs.declared.moves.PosTable.TheVariants.{Told}
use Rattle.conflicts.specs.declared.receipts.Outcome4.{Outcome4}
use Rattle.sync_stream.specs.Serving.{taken_of}
use Rattle.sync_stream.specs.declared.line.SyncDoc.{SyncDoc}
use Rattle.sync_exchange.specs.Faults.{goes_back}
use Rattle.sync_exchange.specs.declared.fault.ExchangeFault.{ExchangeFault}

-- the told place of the source moves to this one
abbrev pub told_move : Uid → Place → Move
told_move source at = record { table = Told; uid = source; at = at }

abbrev pub tell_decides : Uid → Place → State → Decided (Unit {0}) ExchangeFault
tell_decides source at s = move_decides goes_back (told_move source at) s

-- the document is taken, and its place is told, in one step. It was not asked for, so one that is in conflict is not
-- accepted
abbrev pub apply_decides : ℕ → Uid → SyncDoc → State → Decided Outcome4 ExchangeFault
apply_decides seed source doc s =
    let taken = taken_of s doc false in
    let m = told_move source doc.at in
    if_goes_on goes_back s m (Answers taken.outcome (take_step seed doc.id m s taken.accepted))
