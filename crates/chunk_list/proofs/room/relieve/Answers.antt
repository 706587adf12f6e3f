-- Where no chunk is spare and none has a place free, there would be more items than places.
use Rattle.std.proofs.Common.{◌*◌, ◌<◌, ◌≤◌, ℕ, length, get_or, arith, sym, subst, inl, inr}
use Rattle.std.proofs.lemmas.Bool.{cases_eq}
use Rattle.std.specs.Vec.{vec_items}
use Rattle.chunk_list.specs.Chunks.{full, joined}
use Rattle.chunk_list.proofs.Counting.{still_known}
use Rattle.chunk_list.proofs.Pieces.{length-over}
use Rattle.chunk_list.proofs.room.relieve.Goals as goal

pub returns-in_default-nearest-clause-chunks : goal.returns-in_default-nearest-clause-chunks
returns-in_default-nearest-clause-chunks g c =
    let chunks = c.args.chunks.now in
    let old = chunks.items in
    let b = c.requires.chunks in
    let too_many : length old * full < length (joined old) =
    length-over vec_items old full c.args.at
    (λ k d lt. elim (cases_eq k c.args.at) [
      | inl e ↦ subst (λ (m : ℕ). full ≤ length (vec_items (get_or old m d))) (sym e)
          (omega (arith, c.requires.over d, (get_or old c.args.at d).ok.0))
      | inr ne ↦ omega (
        arith,
        c.in_default-nearest.ensures k d lt ne
            (omega (arith, chunks.ok.0, chunks.ok.1, chunks.small))
            (omega (arith, b.within, chunks.ok.0, chunks.ok.1, chunks.small)),
        (get_or old k d).ok.0,
      )
    ])
    b.within (λ d. omega (arith, c.requires.over d, (get_or old c.args.at d).ok.0)) in
    absurd (omega (arith, c.requires.enough, chunks.ok.0))

pub recount-requires-clause-known : goal.recount-requires-clause-known
recount-requires-clause-known g c =
    still_known c.args.chunks.now.items c.cut.new.chunks.items c.args.starts.now.inside.items
    c.args.starts.now.bases.items c.args.at c.requires.starts c.requires.chunks.within c.cut.ensures.front
