-- The chunks behind the giver begin earlier, and those behind the taker later.
use Rattle.std.proofs.Common.{◌≡◌, ◌*◌, ◌/◌, ◌<◌, ℕ, length, get_or, arith, ap, inl, inr}
use Rattle.std.proofs.lemmas.Bool.{cases_lt}
use Rattle.std.specs.Vec.{vec_items}
use Rattle.chunk_list.specs.Chunks.{block}
use Rattle.chunk_list.proofs.Blocks.{behind_block, block_behind, block_below, same_block}
use Rattle.chunk_list.proofs.Carried.{any_of, behind_given, carried, place_before}
use Rattle.chunk_list.proofs.Pieces.{start_at-most}
use Rattle.chunk_list.proofs.starts.carry.Goals as goal

pub shift-requires-clause-fits : goal.shift-requires-clause-fits
shift-requires-clause-fits g c k gt lt near =
    let s = c.requires.starts in
    let chunks = c.args.chunks.now.items in
    let bases = c.args.starts.now.bases.items in
    let from = c.args.from in
    let d = any_of chunks from c.requires.from in
    let same : get_or bases (k / block) 0 ≡ get_or bases (from / block) 0 =
    ap (λ (b : ℕ). get_or bases b 0) (same_block from k (omega arith) near) in (
      omega (
        arith,
        same,
        s.begins k (omega (arith, lt, s.as_many)),
        s.begins from c.requires.from,
        behind_given chunks from c.args.count k d c.requires.from (c.requires.enough d) gt,
      ),
      omega (arith, s.begins k (omega (arith, lt, s.as_many)), start_at-most vec_items chunks k, c.requires.fits),
    )

pub shift-requires-clause-blocks_fit : goal.shift-requires-clause-blocks_fit
shift-requires-clause-blocks_fit g c b gt lt =
    let s = c.requires.starts in
    let chunks = c.args.chunks.now.items in
    let from = c.args.from in
    let d = any_of chunks from c.requires.from in (
      omega (
        arith,
        s.blocks b lt,
        behind_given chunks from c.args.count (b * block) d c.requires.from (c.requires.enough d)
            (behind_block from b gt),
      ),
      omega (arith, s.blocks b lt, start_at-most vec_items chunks (b * block), c.requires.fits),
    )

pub shift-requires-2-clause-fits : goal.shift-requires-2-clause-fits
shift-requires-2-clause-fits g c k gt lt near =
    let s = c.requires.starts in
    let chunks = c.args.chunks.now.items in
    let from = c.args.from in
    let d = any_of chunks from c.requires.from in
    let v = c.shift.ensures in
    let in_old : k < length c.args.starts.now.inside.items = omega (arith, v.len) in
    let begins = s.begins k (omega (arith, in_old, s.as_many)) in (
      omega arith,
      elim (cases_lt from k) [
        | inl later ↦ omega (arith, v.high k later in_old, begins, start_at-most vec_items chunks k, c.requires.fits)
        | inr le ↦ omega (
          arith,
          v.low k le,
          begins,
          place_before chunks from c.args.count k d c.requires.from (c.requires.enough d) le,
          c.requires.fits,
        )
      ],
    )

pub shift-requires-2-clause-blocks_fit : goal.shift-requires-2-clause-blocks_fit
shift-requires-2-clause-blocks_fit g c b gt lt =
    let s = c.requires.starts in
    let chunks = c.args.chunks.now.items in
    let from = c.args.from in
    let d = any_of chunks from c.requires.from in
    let v = c.shift.ensures in
    let in_old : b < length c.args.starts.now.bases.items = omega (arith, v.blocks) in
    let begins = s.blocks b in_old in (
      omega arith,
      elim (cases_lt from (b * block)) [
        | inl later ↦ omega (
          arith,
          v.blocks_high b (block_behind from b later) in_old,
          begins,
          start_at-most vec_items chunks (b * block),
          c.requires.fits,
        )
        | inr le ↦ omega (
          arith,
          v.blocks_low b (block_below from b le),
          begins,
          place_before chunks from c.args.count (b * block) d c.requires.from (c.requires.enough d) le,
          c.requires.fits,
        )
      ],
    )

pub returns-clause-starts : goal.returns-clause-starts
returns-clause-starts g c given is =
    let v = c.shift.ensures in
    let w = c.shift-2.ensures in
    let chunks = c.args.chunks.now.items in
    carried chunks given c.args.from c.args.to c.args.count c.requires.apart is c.args.starts.now.inside.items
    c.args.starts.now.bases.items c.shift.new.starts.inside.items c.shift.new.starts.bases.items
    c.shift-2.new.starts.inside.items c.shift-2.new.starts.bases.items c.requires.starts
    (any_of chunks c.args.from c.requires.from) v.len v.blocks v.low v.high v.blocks_low v.blocks_high w.len w.blocks
    w.low w.high w.blocks_low w.blocks_high
