-- A list with memory for one more takes it.
use Rattle.chunk_list.proofs.chunks.put.Goals as goal

pub returns : goal.returns
returns g c =
    let ok = c.insert.ensures.succeeds c.requires.free in
    record {
      items = rw ok at c.insert.ensures.items;
      len = rw ok at c.insert.ensures.len;
      capacity = (c.insert.ensures.in_place c.requires.free).1.0;
    }
