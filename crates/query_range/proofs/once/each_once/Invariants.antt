-- The ids so far are kept, each once.
use Rattle.std.proofs.Common.{◌≡◌, ℕ, List, map, take, Bor}
use Rattle.std.specs.List.{list_any}
use Rattle.u1_base.specs.Ids.{id_cmp, same_id}
use Rattle.query_range.specs.Answers.{firsts}
use Rattle.query_range.specs.inner.SeenIds.{holds}
use Rattle.query_range.proofs.once.each_once.Given as goal

abbrev pub invariant-loop-id : goal.invariant-loop-id
invariant-loop-id l = record {
  ids : l.ids ≡ firsts id_cmp (map (λ id. id.now) (take l.id-index l.found));
  holding : (other : Bor (List ℕ)) → holds l.seen.places.items l.seen.others other
      ≡ list_any (same_id other.now) (map (λ id. id.now) (take l.id-index l.found));
}
