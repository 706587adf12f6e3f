-- The pair at the place is taken out where it is of the id.
use Rattle.std.proofs.Common.{◌≡◌, ℕ, ◌-◌, ◌++◌, not, arith, ◌∙◌, refl, subst, take, drop, filter}
use Rattle.std.proofs.lemmas.List.{length-map}
use Rattle.index_tables.specs.Entries.{is_of}
use Rattle.index_tables.specs.Seen.{entry_of, seen}
use Rattle.index_tables.proofs.Gone.{id_gone, id_kept, order_kept}
use Rattle.index_tables.proofs.edits.take_id.Goals as goal

pub loop-place-preserved-then-is_of_at : goal.loop-place-preserved-then-is_of_at
loop-place-preserved-then-is_of_at c =
    let i = c.loop-place.invariant in
    record {
      within = omega arith;
      kept = id_gone c.loop-place.list.items (seen c.args.list.now.items) c.args.id.now c.loop-place.place
          (c.loop-place.place - 1) c.is_of_at.result refl (omega arith)
          (omega (arith, i.within, length-map c.args.list.now.items entry_of)) i.kept c.is_of_at.ensures
          c.if-is_of_at.true c.remove.new.self.items c.remove.ensures.items;
      room = c.remove.ensures.room ∙ i.room;
    }

pub loop-place-preserved : goal.loop-place-preserved
loop-place-preserved c =
    let i = c.loop-place.invariant in
    record {
      within = omega arith;
      kept = id_kept c.loop-place.list.items (seen c.args.list.now.items) c.args.id.now c.loop-place.place
          (c.loop-place.place - 1) c.is_of_at.result refl (omega arith)
          (omega (arith, i.within, length-map c.args.list.now.items entry_of)) i.kept c.is_of_at.ensures
          c.if-is_of_at.false;
      room = i.room;
    }

pub returns-clause-order : goal.returns-clause-order
returns-clause-order c =
    let old = seen c.args.list.now.items in
    let end : c.loop-place.place ≡ 0 = omega arith in
    order_kept (λ p. not (is_of c.args.id.now p)) old (seen c.loop-place.list.items)
    (subst (λ (n : ℕ). seen c.loop-place.list.items ≡ take n old
    ++ filter (λ p. not (is_of c.args.id.now p)) (drop n old)) end c.loop-place.invariant.kept) c.requires
