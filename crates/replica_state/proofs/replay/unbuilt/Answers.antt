-- The table is empty, so each of its keys is as wide as it has to be.
use Rattle.std.proofs.Common.{◌≡◌, List, length, sym, subst}
use Rattle.std.proofs.lemmas.List.Elements.{All-nil}
use Rattle.index_tables.specs.Entries.{HaveWidth}
use Rattle.index_tables.specs.Order.{Entry}
use Rattle.replica_state.proofs.replay.unbuilt.Goals as goal

pub invariant_of-result : goal.invariant_of-result
invariant_of-result c = record {
  wide = subst (λ (l : List Entry). HaveWidth (length c.args.exprs.texts) l) (sym c.new.ensures.pairs)
      (All-nil (λ (p : Entry). length p.0 ≡ length c.args.exprs.texts));
}
