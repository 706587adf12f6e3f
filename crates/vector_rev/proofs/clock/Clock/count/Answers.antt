-- The search goes by the order of the uids, in which the entries stand.
use Rattle.std.proofs.Common.{rules, of_calls, ◌∙◌}
use Rattle.std.proofs.lemmas.Fn.{always_returns_same}
use Rattle.u1_base.specs.Ids.{id_cmp}
use Rattle.vector_rev.proofs.Halves.{count_found, count_absent}
use Rattle.vector_rev.proofs.clock.Clock.count.Goals as goal

pub returns-in-Ok : goal.returns-in-Ok
returns-in-Ok c =
    c.counter.ensures
    ∙ count_found c.args.self.now c.args.uid.now c.entries-entries.result.now c.entries-entries.ensures.value
    c.in-Ok.place c.index-entries-place.result c.in-Ok.ensures.bound
    (c.in-Ok.ensures.position (λ e. id_cmp e.0 c.args.uid.now)
    (always_returns_same _ _ _ (λ a r f k. search (rules, of_calls))))
    c.index-entries-place.is

pub returns-in-Err : goal.returns-in-Err
returns-in-Err c =
    count_absent c.args.self.now c.args.uid.now c.entries-entries.result.now c.entries-entries.ensures.value
    c.in-Err.field-0 c.in-Err.ensures.bound
    (c.in-Err.ensures.position (λ e. id_cmp e.0 c.args.uid.now)
    (always_returns_same _ _ _ (λ a r f k. search (rules, of_calls))))
