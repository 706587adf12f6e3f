-- What is known of a connection, a door and a link over TCP, and why their last failed call failed.
use Rattle.std.specs.Prelude.{false, ℕ, List, Option, None}
use Rattle.std_io.specs.declared.io.error.Error.{Error}
use Rattle.link.specs.Streams.{Input, Output}
use Rattle.sync_link.specs.Doors.{DoorKnown}
use Rattle.sync_link.specs.Links.{LinkKnown}
use Rattle.sockets.specs.declared.door.TcpAcceptor.{TcpAcceptor}
use Rattle.sockets.specs.declared.asking.TcpLink.{TcpLink}
use Rattle.sockets.specs.declared.conn.TcpConn.{TcpConn}

abbrev pub conn_input : {T : Type 0} → TcpConn T → Input
conn_input c = record { left = None; faults = c.read_faults }

abbrev pub conn_output : {T : Type 0} → TcpConn T → Output
conn_output c = record { taken = None; held = false; faults = c.write_faults }

abbrev pub conn_fault : {T : Type 0} → TcpConn T → Option Error
conn_fault c = c.fault

abbrev pub door_known : {R S L C : Type 0} → TcpAcceptor R S L → DoorKnown C
door_known d = record { to_come = None; given_back = None; out = None; faults = d.faults }

abbrev pub door_fault : {R S L : Type 0} → TcpAcceptor R S L → Option Error
door_fault d = d.fault

-- a link tells its asks, and nothing of the reply that is to come nor of the peer
abbrev pub link_known : {R S L : Type 0} → TcpLink R S L → LinkKnown
link_known l = record {
  earlier = l.asks.earlier;
  ask = l.asks.last;
  phase = l.phase;
  coming = None;
  peer = None;
  seed = 0;
  faults = l.faults;
}

abbrev pub link_fault : {R S L : Type 0} → TcpLink R S L → Option Error
link_fault l = l.fault
