-- The sort goes by the order of ids, and keeps those that tie in their order.
use Rattle.std.proofs.Common.{rules}
use Rattle.std.proofs.lemmas.Cmp.{nat_list_cmp_total}
use Rattle.std.proofs.lemmas.List.Sorted.{answers_always, ranks_by}
use Rattle.replica_state.specs.declared.waiting.Waiting.{Waiting}
use Rattle.replica_state.proofs.WaitingAccepts.{before, same_accepts}
use Rattle.replica_state.proofs.settling.by_documents.Goals as goal

pub returns : goal.returns
returns c d =
    same_accepts d c.args.waiting.items c.sort_by.new.self.items
    (c.sort_by.ensures.stable before (ranks_by nat_list_cmp_total (λ (w : Waiting). w.doc))
    (answers_always _ _ _ (λ f a r q k. search rules)))
