-- What a contract knows of a door at a moment, and what each call makes of that.
use Rattle.std.specs.Prelude.{◌≡◌, ℕ, ◌+◌, ◌-◌, Bool, List, [], ◌∷◌, ◌++◌, drop, Option, Some, None, IfSome, IsTrue}
use Rattle.std.specs.Prelude.{Result, Ok, Err}
use Rattle.std.specs.Option.{option_map}

pub record DoorKnown (C : Type 0) : Type 0 where
  -- the connections that are still to come, and those that were given back, each in order, where told
  pub to_come : Option (List C)
  pub given_back : Option (List C)
  -- how many connections are out, where told
  pub out : Option ℕ
  -- how many calls failed
  pub faults : ℕ

-- the first connection went out
abbrev pub let_out : {C : Type 0} → DoorKnown C → DoorKnown C
let_out k = record k { to_come = option_map (λ conns. drop 1 conns) k.to_come; out = option_map (λ n. n + 1) k.out }

-- one connection that was out is given back
abbrev pub took_back : {C : Type 0} → C → DoorKnown C → DoorKnown C
took_back conn k = record k {
  given_back = option_map (λ conns. conns ++ conn ∷ []) k.given_back;
  out = option_map (λ n. n - 1) k.out;
}

-- it is the first of the connections to come, where these are told
abbrev pub IsFirst : {C : Type 0} → C → Option (List C) → Type 0
IsFirst conn to_come = IfSome to_come (λ conns. conns ≡ conn ∷ drop 1 conns)

-- the first connection to come, and only that, went out; or none came, which a door that tells its list answers only
-- where the list is empty, and with waiting no other door does; or the door failed, and only its count changed
abbrev pub LetsOut : {C E : Type 0} → Bool → DoorKnown C → DoorKnown C → Result (Option C) E → Type 0
LetsOut wait before after (Ok (Some conn)) = IsFirst conn before.to_come × (after ≡ let_out before)
LetsOut wait before after (Ok None) =
    (after ≡ before) × IfSome before.to_come (λ conns. conns ≡ []) × (IsTrue wait → before.to_come ≡ Some [])
LetsOut wait before after (Err failed) = after ≡ record before { faults = after.faults }
