-- A peer that nothing but want of memory may stop never says that its store is full or failed.
use Rattle.std.proofs.Common.{◌≡◌, ◌≢◌, refl, sym, ◌∙◌, arith}
use Rattle.sync_stream.specs.Laws.{IsNotOfStore}
use Rattle.sync_stream.specs.Replies.{BadRequest, Keeps, LogCheck, NoLength, NoMemory, NotFound, Refuses, Reply}
use Rattle.sync_stream.specs.Replies.{Returns}
use Rattle.sync_stream.specs.Replies.{StoreFailed, StoreFull, Tells, TooLarge, WrongMethod, refusal_status}
use Rattle.sync_stream.specs.Replies.{reply_status}
use Rattle.sync_stream.proofs.Messages.{status_heard}
use Rattle.sync_stream.proofs.Serving.{only_memory}
use Rattle.sync_link.specs.Laws.{MemoryNeverRefuses}

-- the status of no other reply is that of a full store, or of a failed one
not_of_store : (reply : Reply) → IsNotOfStore reply
    → (reply_status reply ≢ refusal_status StoreFull) × (reply_status reply ≢ refusal_status StoreFailed)
not_of_store (Tells info) none = (λ e. omega (arith, e), λ e. omega (arith, e))
not_of_store Keeps none = (λ e. omega (arith, e), λ e. omega (arith, e))
not_of_store (Returns at docs) none = (λ e. omega (arith, e), λ e. omega (arith, e))
not_of_store (Refuses BadRequest) none = (λ e. omega (arith, e), λ e. omega (arith, e))
not_of_store (Refuses NotFound) none = (λ e. omega (arith, e), λ e. omega (arith, e))
not_of_store (Refuses WrongMethod) none = (λ e. omega (arith, e), λ e. omega (arith, e))
not_of_store (Refuses LogCheck) none = (λ e. omega (arith, e), λ e. omega (arith, e))
not_of_store (Refuses NoLength) none = (λ e. omega (arith, e), λ e. omega (arith, e))
not_of_store (Refuses TooLarge) none = (λ e. omega (arith, e), λ e. omega (arith, e))
not_of_store (Refuses StoreFailed) none = absurd (none.1 refl)
not_of_store (Refuses NoMemory) none = (λ e. omega (arith, e), λ e. omega (arith, e))
not_of_store (Refuses StoreFull) none = absurd (none.0 refl)

pub never : MemoryNeverRefuses
never seed p sent reply q given status s front heard =
    let other = not_of_store s.serves.reply
    (only_memory p seed s.serves.request s.serves.reply s.made s.applied s.serves.serves) in
    let is : status ≡ reply_status s.serves.reply =
    status_heard s.serves.reply given front.0 status s.serves.counted (sym s.serves.writes ∙ front.1) heard in
    (λ e. other.0 (sym is ∙ e), λ e. other.1 (sym is ∙ e))
