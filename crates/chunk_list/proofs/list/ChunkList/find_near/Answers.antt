-- The chunks hold what the list does.
use Rattle.chunk_list.proofs.list.ChunkList.find_near.Goals as goal

pub returns-in-Some-clause-before : goal.returns-in-Some-clause-before
returns-in-Some-clause-before g c = rw (← c.self.view_is) c.in-Some.ensures.before

pub returns-in-Some-clause-after : goal.returns-in-Some-clause-after
returns-in-Some-clause-after g c = rw (← c.self.view_is) c.in-Some.ensures.after
