-- The entry goes where the id stands, or where it fits.
use Rattle.std.proofs.Common.{◌+◌, Some, cond, is_some, length, refl, ◌∙◌, sym, ap, arith}
use Rattle.std.proofs.lemmas.List.Edits.{length-insert}
use Rattle.doc_table.proofs.Places.{found, not_found, put_new, put_there, sorted_if_put}
use Rattle.doc_table.proofs.Stock.{one_if, some_if, spare_stays}
use Rattle.doc_table.proofs.table.Table.put.Goals as goal

pub taken-requires-in-Err : goal.taken-requires-in-Err
taken-requires-in-Err g c =
    let own = c.self.inside in
    let has = rw (← c.self.view_is) at c.requires in
    some_if own.free (has (not_found own.entries.items c.args.id c.in-Err.spot.place own.sorted c.in-Err.ensures))

pub insert_at-requires-clause-room : goal.insert_at-requires-clause-room
insert_at-requires-clause-room g c =
    let own = c.self.inside in
    let has = rw (← c.self.view_is) at c.requires in
    omega (
      arith,
      own.fits,
      has (not_found own.entries.items c.args.id c.in-Err.spot.place own.sorted c.in-Err.ensures),
    )

pub returns-in-Err-clause-room : goal.returns-in-Err-clause-room
returns-in-Err-clause-room g c =
    let own = c.self.inside in
    let has = rw (← c.self.view_is) at c.requires in
    rw (← c.self.view_is, c.taken-in-Err.ensures, c.insert_at.ensures.items)
    (omega (
      arith,
      length-insert own.entries.items c.in-Err.spot.place c.of-entry-in-Err.result c.in-Err.ensures.within,
      one_if own.free
          (has (not_found own.entries.items c.args.id c.in-Err.spot.place own.sorted c.in-Err.ensures)),
    ))

pub returns-in-Ok-clause-value : goal.returns-in-Ok-clause-value
returns-in-Ok-clause-value g c =
    rw (← c.self.view_is)
    (ap Some c.into_parts-old.ensures
    ∙ sym (found c.self.inside.entries.items c.args.id c.in-Ok.spot.place c.self.inside.sorted c.in-Ok.ensures.0
    c.replace.result c.replace.ensures.value))

pub returns-in-Ok-clause-pairs : goal.returns-in-Ok-clause-pairs
returns-in-Ok-clause-pairs g c =
    rw (← c.self.view_is)
    (put_there c.self.inside.entries.items c.args.id c.in-Ok.spot.place c.self.inside.sorted c.in-Ok.ensures.0
    c.replace.new.self.items c.of-entry.result c.args.value c.replace.result c.replace.ensures.items
    c.of-entry.ensures c.replace.ensures.value)

pub returns-in-Err-clause-value : goal.returns-in-Err-clause-value
returns-in-Err-clause-value g c =
    rw (← c.self.view_is) (sym
    (not_found c.self.inside.entries.items c.args.id c.in-Err.spot.place c.self.inside.sorted c.in-Err.ensures))

pub returns-in-Err-clause-pairs : goal.returns-in-Err-clause-pairs
returns-in-Err-clause-pairs g c =
    rw (← c.self.view_is)
    (put_new c.self.inside.entries.items c.args.id c.in-Err.spot.place c.self.inside.sorted c.in-Err.ensures
    c.insert_at.new.self.items c.of-entry-in-Err.result c.args.value c.insert_at.ensures.items
    c.of-entry-in-Err.ensures)

pub invariant_of-self-inside : goal.invariant_of-self-inside
invariant_of-self-inside g c =
    let own = c.self.inside in (
      sorted_if_put own.entries.items c.args.id c.in-Ok.spot.place own.sorted c.replace.new.self.items
          c.args.value
          (put_there own.entries.items c.args.id c.in-Ok.spot.place own.sorted c.in-Ok.ensures.0
          c.replace.new.self.items c.of-entry.result c.args.value c.replace.result
          c.replace.ensures.items c.of-entry.ensures c.replace.ensures.value),
      (rw c.replace.ensures.room own.fits, (refl {a = 0}, tt)),
    )

pub invariant_of-self-inside-in-Err : goal.invariant_of-self-inside-in-Err
invariant_of-self-inside-in-Err g c =
    let own = c.self.inside in
    let has = rw (← c.self.view_is) at c.requires in (
      sorted_if_put own.entries.items c.args.id c.in-Err.spot.place own.sorted c.insert_at.new.self.items
          c.args.value
          (put_new own.entries.items c.args.id c.in-Err.spot.place own.sorted c.in-Err.ensures
          c.insert_at.new.self.items c.of-entry-in-Err.result c.args.value c.insert_at.ensures.items
          c.of-entry-in-Err.ensures),
      (
        rw c.taken-in-Err.ensures (omega arith),
        (
          spare_stays own.spare (length own.entries.items + cond (is_some own.free) 1 0)
              (length c.insert_at.new.self.items + cond (is_some c.taken-in-Err.new.slot) 1 0) own.changes
              (omega (arith, has (not_found own.entries.items c.args.id c.in-Err.spot.place own.sorted c.in-Err.ensures))),
          tt,
        ),
      ),
    )
