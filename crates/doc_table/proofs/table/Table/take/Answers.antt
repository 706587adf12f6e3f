-- The entry where the id stands goes.
use Rattle.std.proofs.Common.{ℕ, ◌+◌, List, Some, ◌∙◌, ap, arith, cond, is_some, length, sym, subst}
use Rattle.doc_table.specs.Entries.{AreSorted}
use Rattle.doc_table.proofs.Places.{found, not_found, take_there, take_there_sorted, take_none}
use Rattle.doc_table.proofs.Stock.{spare_stays}
use Rattle.doc_table.proofs.table.Table.take.Goals as goal

pub invariant_of-self-inside : goal.invariant_of-self-inside
invariant_of-self-inside g c =
    let own = c.self.inside in (
      subst (λ (l : List (List ℕ × g.row.V.Denot)). AreSorted l) (sym c.remove.ensures.items)
          (take_there_sorted own.entries.items c.args.id.now c.in-Ok.spot.place own.sorted c.in-Ok.ensures.0),
      (
        rw c.remove.ensures.room own.fits,
        (
          spare_stays own.spare (length own.entries.items + cond (is_some own.free) 1 0)
              (length c.remove.new.self.items + cond (is_some own.free) 1 0) own.changes
              (omega (arith, c.in-Ok.ensures.0.within)),
          tt,
        ),
      ),
    )

pub returns-in-Ok-clause-value : goal.returns-in-Ok-clause-value
returns-in-Ok-clause-value g c =
    rw (← c.self.view_is)
    (ap Some c.into_parts-gone.ensures
    ∙ sym (found c.self.inside.entries.items c.args.id.now c.in-Ok.spot.place c.self.inside.sorted c.in-Ok.ensures.0
    c.remove.result c.remove.ensures.value))

pub returns-in-Ok-clause-pairs : goal.returns-in-Ok-clause-pairs
returns-in-Ok-clause-pairs g c =
    rw (← c.self.view_is, c.remove.ensures.items)
    (take_there c.self.inside.entries.items c.args.id.now c.in-Ok.spot.place c.self.inside.sorted c.in-Ok.ensures.0)

pub returns-in-Err-clause-value : goal.returns-in-Err-clause-value
returns-in-Err-clause-value g c =
    rw (← c.self.view_is) (sym
    (not_found c.self.inside.entries.items c.args.id.now _ c.self.inside.sorted c.in-Err.ensures))

pub returns-in-Err-clause-pairs : goal.returns-in-Err-clause-pairs
returns-in-Err-clause-pairs g c =
    rw (← c.self.view_is) (take_none c.self.inside.entries.items c.args.id.now _ c.self.inside.sorted c.in-Err.ensures)
