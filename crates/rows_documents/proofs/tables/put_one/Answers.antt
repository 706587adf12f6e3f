-- The pair was dropped, so that it is new.
use Rattle.std.proofs.Common.{ℕ, List, not, filter, sym, subst, ◌∙◌, ap}
use Rattle.index_tables.specs.Entries.{AreNew, entries_of, has}
use Rattle.index_tables.specs.Order.{Entry}
use Rattle.index_tables.proofs.Laws.{new_after_drop}
use Rattle.rows_documents.proofs.tables.put_one.Goals as goal

pub add-requires-clause-fresh : goal.add-requires-clause-fresh
add-requires-clause-fresh c =
    let keys = c.push.new.self in
    subst (λ (ps : List Entry). AreNew ps (entries_of c.args.id.now keys))
    (sym (c.drop_pairs.ensures.pairs
    ∙ ap (λ (ks : List (List (List ℕ))). filter
    (λ p. not (has (entries_of c.args.id.now ks) p)) c.args.table.now.pairs) c.as_slice.ensures))
    (new_after_drop c.args.table.now.pairs (entries_of c.args.id.now keys))
