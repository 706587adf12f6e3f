-- Where the abbreviated keys differ they decide.
use Rattle.std.proofs.Common.{◌≡◌, ◌<◌, sym, subst, Ordering}
use Rattle.std.specs.Cmp.{ranks}
use Rattle.std.specs.Ordering.{MatchOrdering}
use Rattle.key_lanes.proofs.AbbreviatedKeys.{greater_by_key, less_by_key}
use Rattle.replica_state.proofs.waiting.Waiting.compare.Goals as goal

pub returns-in-Less : goal.returns-in-Less
returns-in-Less c =
    let own = c.args.self.now.abbreviated in
    let other = c.args.other.now.abbreviated in
    less_by_key 8 c.args.self.now.doc c.args.other.now.doc own other c.args.self.now.abbreviates
    c.args.other.now.abbreviates
    (subst (λ (r : Ordering). MatchOrdering r (own < other) (own ≡ other) (other < own)) (sym c.in-Less.ensures)
    (ranks own other))

pub returns-in-Greater : goal.returns-in-Greater
returns-in-Greater c =
    let own = c.args.self.now.abbreviated in
    let other = c.args.other.now.abbreviated in
    greater_by_key 8 c.args.self.now.doc c.args.other.now.doc own other c.args.self.now.abbreviates
    c.args.other.now.abbreviates
    (subst (λ (r : Ordering). MatchOrdering r (own < other) (own ≡ other) (other < own)) (sym c.in-Greater.ensures)
    (ranks own other))
