-- The counter is raised where the uid stands, and else an entry is inserted.
use Rattle.vector_rev.proofs.Putting.{put_raised, put_inserted}
use Rattle.vector_rev.proofs.places.put_greater.Goals as goal

pub returns-in-Ok-clause-entries : goal.returns-in-Ok-clause-entries
returns-in-Ok-clause-entries c =
    put_raised c.args.uid.now c.args.counter c.args.entries.now.items _ c.in-Ok.place c.index_mut.result.now _
    c.requires.order c.in-Ok.ensures c.as_slice.ensures.value c.index_mut.ensures.value c.raise_to.ensures

pub returns-in_ok-insert-in-Err-clause-entries : goal.returns-in_ok-insert-in-Err-clause-entries
returns-in_ok-insert-in-Err-clause-entries c =
    put_inserted c.args.uid.now c.in_ok-copy-in-Err.field-0 c.args.counter c.args.entries.now.items _ _ c.in-Err.place
    _ c.requires.order c.in-Err.ensures c.as_slice.ensures.value c.in_ok-copy-in-Err.ensures c.new.ensures
    c.in_ok-insert-in-Err.ensures.items
