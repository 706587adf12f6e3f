-- What a contract knows of the objects outside at a moment.
use Rattle.std.specs.Prelude.{◌≡◌, map}
use Rattle.std.specs.Option.{option_map}
use Rattle.link.specs.Streams.{Input, Output}
use Rattle.sync_link.specs.Doors.{DoorKnown}
use Rattle.sync_link.specs.Links.{LinkKnown}
use Rattle.outside.specs.declared.Outside.{Outside}

-- of a connection, of whatever type
pub record ConnKnown : Type 0 where
  pub input : Input
  pub output : Output

abbrev pub conn_known : {C : Type 0} → (C → Input) → (C → Output) → C → ConnKnown
conn_known input_of output_of conn = record { input = input_of conn; output = output_of conn }

-- of a door, by what is known of its connections
abbrev pub seen_by : {C : Type 0} → (C → ConnKnown) → DoorKnown C → DoorKnown ConnKnown
seen_by known door = record {
  to_come = option_map (λ conns. map known conns) door.to_come;
  given_back = option_map (λ conns. map known conns) door.given_back;
  out = door.out;
  faults = door.faults;
}

-- of all that is outside
pub record OutsideKnown : Type 0 where
  pub input : Input
  pub output : Output
  pub link : LinkKnown
  pub door : DoorKnown ConnKnown

-- by what is known of the input, the output, the link and the door, and of the two sides of a connection
abbrev pub outside_known : {S K L A C : Type 0} → (S → Input) → (K → Output) → (L → LinkKnown) → (A → DoorKnown C)
    → (C → Input) → (C → Output) → Outside S K L A C → OutsideKnown
outside_known input_of output_of link_of door_of conn_input conn_output o = record {
  input = input_of o.input;
  output = output_of o.out;
  link = link_of o.link;
  door = seen_by (conn_known conn_input conn_output) (door_of o.door);
}

-- the link and the door are as they were: no peer was asked, and no connection came or was given back
pub record LeavesPeers (before after : OutsideKnown) : Type 0 where
  pub link : after.link ≡ before.link
  pub door : after.door ≡ before.door
