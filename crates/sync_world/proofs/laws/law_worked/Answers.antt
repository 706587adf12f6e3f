-- The definitions compute what the worked worlds say.
use Rattle.std.specs.Prelude.{refl}
use Rattle.sync_world.proofs.laws.law_worked.Goals as goal

pub returns : goal.returns
returns c = record {
  whole = λ seed. record { session = refl; source = refl; target = refl };
  lost = λ seed. record { session = refl; source = refl; target = refl };
  again = λ seed. record { session = refl; source = refl; target = refl };
  repeated = λ seed. record { same = refl; later = refl };
  nothing = λ seed. record { source = refl; target = refl; sent = refl; another = refl; busy = refl };
}
