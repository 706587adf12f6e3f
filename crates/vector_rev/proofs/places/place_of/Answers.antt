-- The search stops at the uid, or behind a lesser one.
use Rattle.std.proofs.Common.{◌-◌, refl, arith}
use Rattle.vector_rev.proofs.Walks.{cmp_is}
use Rattle.vector_rev.proofs.Putting.{stands_from, fits_from}
use Rattle.vector_rev.proofs.places.place_of.Goals as goal

pub returns-in-Equal : goal.returns-in-Equal
returns-in-Equal c =
    stands_from c.args.uid.now c.args.entries.now (c.loop-place.place - 1) c.index-entries-place.result
    (omega (arith, c.loop-place.invariant.within)) c.index-entries-place.is
    (cmp_is _ _ _ _ _ _ refl c.uid.ensures.value c.cmp.ensures c.in-Equal.is)

pub returns-in-Greater : goal.returns-in-Greater
returns-in-Greater c =
    fits_from c.args.uid.now c.args.entries.now c.loop-place.place c.index-entries-place.result
    (omega arith) c.loop-place.invariant c.index-entries-place.is
    (cmp_is _ _ _ _ _ _ refl c.uid.ensures.value c.cmp.ensures c.in-Greater.is)
