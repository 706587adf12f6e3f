-- One write, and then the other.
use Rattle.std.proofs.Common.{List, ℕ, ◌+◌, inl, inr, length, subst}
use Rattle.disk_model.specs.Disk.{Torn}
use Rattle.disk_model.proofs.Runs.{goes_on, weaker}
use Rattle.journal.specs.inner.Adding.{IsAdding}
use Rattle.journal.proofs.appending.add_behind.Goals as goal

pub returns-in_err-write_synced-clause-any_moment : goal.returns-in_err-write_synced-clause-any_moment
returns-in_err-write_synced-clause-any_moment g c t e =
    let known = g.D.Disk.known in let old = known c.args.disk.now in let gate = c.args.gate
    in let piece = c.args.behind.now in
    weaker old (known c.write_synced.new.disk) (Torn (gate + 1) (length piece) old.seen) (IsAdding gate piece old.seen)
    (c.in_err-write_synced.ensures.any_moment t e) (λ image i. inl i)

pub returns-clause-any_moment : goal.returns-clause-any_moment
returns-clause-any_moment g c t e =
    let known = g.D.Disk.known in let old = known c.args.disk.now in let gate = c.args.gate
    in let piece = c.args.behind.now in
    let mid = known c.write_synced.new.disk in let new = known c.write_synced-2.new.disk in
    goes_on old mid new (IsAdding gate piece old.seen)
    (weaker old mid (Torn (gate + 1) (length piece) old.seen) (IsAdding gate piece old.seen)
    (c.in_ok-write_synced.ensures.any_moment t e) (λ image i. inl i))
    (weaker mid new (Torn gate 1 mid.seen) (IsAdding gate piece old.seen)
    (c.write_synced-2.ensures.any_moment t (c.in_ok-write_synced.ensures.durable t))
    (λ image i. inr (subst (λ (l : List ℕ). Torn gate 1 l image) (c.in_ok-write_synced.ensures.written t) i)))
