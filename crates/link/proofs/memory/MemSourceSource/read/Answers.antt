-- A read gives the front of what is left, and leaves the rest.
use Rattle.std.proofs.Common.{◌≡◌, drop, sym, ap, ◌∙◌}
use Rattle.link.specs.Memory.{Stream}
use Rattle.link.proofs.Fronts.{given_and_left, nothing_left}
use Rattle.link.proofs.memory.MemSourceSource.read.Goals as goal

pub returns-clause-bytes : goal.returns-clause-bytes
returns-clause-bytes c =
    let inside = c.self.inside in
    let n = c.copy_front-count.result in
    let was : drop inside.at inside.bytes ≡ c.args.self.now.bytes = ap (λ (s : Stream). s.bytes) c.self.view_is in
    let rest = rw c.as_slice.ensures at c.split_at.ensures.back in (
      sym was ∙ given_and_left inside.at n inside.bytes c.copy_front-count.new.into
          (rw rest at c.copy_front-count.ensures.copied),
      λ none some. nothing_left inside.at n inside.bytes none (rw rest at (c.copy_front-count.ensures.all none some)),
    )
