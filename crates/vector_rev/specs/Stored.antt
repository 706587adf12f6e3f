-- Private: how the prover stores a clock, namely as its entries, since one list of entries is that of one clock.
use Rattle.std.specs.Prelude.{◌≡◌, T}
use Rattle.std.specs.Coded.{Coded, coded×, coded_list, coded_ℕ}
use base.Stored.{coded_via}
use mathlib.Core.HLevel.{Σ_prop_path}
use Rattle.std.proofs.Math.Dec.{T_prop}
use Rattle.vector_rev.specs.Counts.{Entries}
use Rattle.vector_rev.specs.Clock.{Clock, is_clock}

pub same_record : (x y : Clock) → x.entries ≡ y.entries → x ≡ y
same_record x y e =
    let pairs : ◌≡◌ {A = (es : Entries) × T (is_clock es)} (x.entries, x.well) (y.entries, y.well) =
    Σ_prop_path (λ es. T_prop _) e in
    λ i. record { entries = (pairs i).0; well = (pairs i).1 }

abbrev pub clock_code : Coded Clock
clock_code = coded_via (coded_list (coded× (coded_list coded_ℕ) coded_ℕ)) (λ x. x.entries) same_record
