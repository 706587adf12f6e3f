-- Both ways.
use Rattle.u1_base.proofs.SamePlaces.{is_same_place, same_place_is}
use Rattle.u1_base.proofs.laws.law_same_place.Goals as goal

pub returns : goal.returns
returns c p q = (same_place_is p q, is_same_place p q)
