-- The document is noted.
use Rattle.std.proofs.Common.{◌∙◌, ℕ, ap, subst, sym}
use Rattle.std.specs.Prelude.{◌||◌, nat_le}
use Rattle.doc_table.specs.Listed.{Listed}
use Rattle.sync_exchange.specs.Seen.{SeesAs, reaches}
use Rattle.sync_exchange.proofs.Noted.{noted}
use Rattle.sync_exchange.proofs.seen.Seen.put.Goals as goal

pub returns : goal.returns
returns c held sees change =
    noted c.args.id c.latest-latest.result c.args.generation c.self.inside.table.pairs c.put.new.self.pairs held
    (λ n. c.latest-latest.ensures n ∙ ap (λ o. reaches n o || nat_le n c.args.generation) c.get.ensures)
    c.put.ensures.pairs
    (subst (λ (t : Listed ℕ). SeesAs t.pairs held) (sym c.self.view_is) sees) change
