-- What is known of the adapters to a reader and to a writer, and why their last failed call failed.
use Rattle.std.specs.Prelude.{ℕ, List, Option}
use Rattle.link.specs.Streams.{Input, Output}
use Rattle.std_io.specs.declared.io.error.Error.{Error}
use Rattle.link.specs.declared.adapters.StdSource.{StdSource}
use Rattle.link.specs.declared.adapters.StdSink.{StdSink}

-- a source knows of its input what its reader tells
abbrev pub source_known : {R : Type 0} → (R → Option (List ℕ)) → StdSource R → Input
source_known remaining s = record { left = remaining s.inner; faults = s.faults }

-- a sink knows of its output what its writer tells
abbrev pub sink_known : {W : Type 0} → (W → Option (List ℕ)) → StdSink W → Output
sink_known contents s = record { taken = contents s.inner; held = s.holds_back; faults = s.faults }

abbrev pub source_fault : {R : Type 0} → StdSource R → Option Error
source_fault s = s.fault

abbrev pub sink_fault : {W : Type 0} → StdSink W → Option Error
sink_fault s = s.fault
