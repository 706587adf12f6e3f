-- So many uids occur as the join has entries.
use Rattle.std.specs.Prelude.{ℕ, ◌<◌}
use Rattle.std.proofs.Common.{subst, sym}
use Rattle.u1_base.specs.declared.limits.TheConstants.{MOST_CLOCK_ENTRIES}
use Rattle.vector_rev.proofs.ClockLaws.{length-occurring}
use Rattle.conflicts.proofs.made.joined_with.Goals as goal

pub returns-in-Err-TooMany : goal.returns-in-Err-TooMany
returns-in-Err-TooMany c =
    subst (λ (n : ℕ). MOST_CLOCK_ENTRIES < n) (sym (length-occurring c.args.one.now c.args.all))
    (rw c.in-Err-TooMany.field-0-is at c.in-Err-TooMany.ensures.counters)
