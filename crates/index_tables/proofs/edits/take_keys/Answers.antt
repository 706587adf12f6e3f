-- The pair of one key more is gone.
use Rattle.std.proofs.Common.{◌≡◌, ℕ, List, not, filter, refl, subst, ◌∙◌, arith}
use Rattle.index_tables.specs.Entries.{same}
use Rattle.index_tables.specs.Seen.{seen}
use Rattle.index_tables.proofs.Gone.{keys_gone, none_gone}
use Rattle.index_tables.proofs.edits.take_keys.Goals as goal

pub loop-key-init : goal.loop-key-init
loop-key-init c = record {
  order = c.requires;
  kept =
      none_gone (seen c.args.list.now.items) c.args.keys.now c.args.id.now;
  room = refl;
}

pub loop-key-preserved : goal.loop-key-preserved
loop-key-preserved c =
    let i = c.loop-key.invariant in
    record {
      order = c.take_out.ensures.order;
      kept =
          keys_gone (seen c.args.list.now.items) (seen c.loop-key.list.items)
          (seen c.take_out.new.list.items) c.args.keys.now c.loop-key.key-index c.key-item.result c.args.id.now
          (omega arith) c.key-item.is i.kept
          (subst (λ (k : List (List ℕ)). seen c.take_out.new.list.items
          ≡ filter (λ p. not (same p (k, c.args.id.now))) (seen c.loop-key.list.items)) c.texts.ensures.value
          c.take_out.ensures.pairs);
      room = c.take_out.ensures.room ∙ i.room;
    }
