-- Why a query or a range is refused.
use Rattle.query_range.specs.declared.fault.PatternFault.{PatternFault}
use Rattle.query_range.specs.declared.fault.PatternFault.TheVariants as pattern_fault
use Rattle.replica_reads.specs.declared.fault.QueryFault.{QueryFault}
use Rattle.replica_reads.specs.declared.fault.QueryFault.TheVariants.{WrongWidth, BadGlob, Memory}

-- the fault of a pattern, as one of a query
abbrev pub query_fault : PatternFault → QueryFault
query_fault pattern_fault.WrongWidth = WrongWidth
query_fault (pattern_fault.BadGlob place) = BadGlob place
query_fault pattern_fault.Memory = Memory
