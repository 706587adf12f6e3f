-- The source check: the place that a peer tells, against the one that is kept for it. Told places never go back.
use Rattle.std.specs.Prelude.{◌≡◌, ◌≢◌, ◌<◌, ◌⊎◌, Bool, ◌||◌, nat_lt}
use Rattle.u1_base.specs.Places.{Place, same_place}

-- the place lies before the kept one, or at its generation with another transaction id
abbrev pub GoesBack : Place → Place → Type 0
GoesBack kept to = (to.generation < kept.generation) ⊎ ((to.generation ≡ kept.generation) × (to.trans ≢ kept.trans))

-- the place lies after the kept one, or is that very one
abbrev pub GoesOn : Place → Place → Type 0
GoesOn kept to = (kept.generation < to.generation) ⊎ ((to.generation ≡ kept.generation) × (to.trans ≡ kept.trans))

-- the source check as a test: the told place goes on from the kept one
abbrev pub passes : Place → Place → Bool
passes kept to = nat_lt kept.generation to.generation || same_place to kept
