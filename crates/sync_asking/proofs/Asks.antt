-- What is left of an ask that is given up before its reply comes.
use Rattle.std.proofs.Common.{◌≡◌, ◌⊎◌, ℕ, List, [], ◌++◌, Option, Some, None, Result, Ok, Err, OnErr, inl, refl, sym, ap}
use Rattle.std.proofs.Common.{◌∙◌, subst, take, drop, append-nil}
use Rattle.std.proofs.lemmas.List.{take-append-drop}
use Rattle.conflicts.specs.State.{State}
use Rattle.sync_http.specs.declared.address.Address.{Address}
use Rattle.sync_link.specs.Links.{BothTold, Begins, Finishes, LinkKnown, PeerServes, Sends, asks, begun, gave_up, last_sent}
use Rattle.sync_link.specs.Links.{sent_more}
use Rattle.sync_link.specs.declared.asking.AskFault.{AskFault}
use Rattle.sync_link.specs.declared.asking.AskFault.TheVariants.{Failed, Memory}
use Rattle.sync_asking.specs.Carried.{Carries, cut, none}

pub on_err : {A E : Type 0} (r : Result A E) (W : Type 0) → W → OnErr r W
on_err (Ok x) W w = tt
on_err (Err e) W w = w

-- a peer that is as it was
pub both_as_before : (o : Option State) (related : State → State → Type 0) → ((p : State) → related p p)
    → BothTold o o related
both_as_before None related each = tt
both_as_before (Some p) related each = each p

-- of the request this was sent when the ask was given up
given_up : (serves : ℕ → State → List ℕ → List ℕ → State → Type 0) (stops : ℕ → State → List ℕ → State → Type 0)
    (before after : LinkKnown) (to : Address) (sent more : List ℕ)
    → after ≡ gave_up after.faults (sent_more sent (begun to before))
    → Carries serves stops before after to (sent ++ more) []
given_up serves stops before after to sent more is =
    cut sent (more, refl) refl
    (record { earlier = ap (λ k. k.earlier) is; ask = ap (λ k. k.ask) is; seed = ap (λ k. k.seed) is })
    (subst (λ o. BothTold before.peer o (λ p q. (q ≡ p) ⊎ stops before.seed p (sent ++ more) q))
    (sym (ap (λ k. k.peer) is))
    (both_as_before before.peer (λ p q. (q ≡ p) ⊎ stops before.seed p (sent ++ more) q) (λ p. inl refl)))

pub begin_fails : (serves : ℕ → State → List ℕ → List ℕ → State → Type 0)
    (stops : ℕ → State → List ℕ → State → Type 0) (before after : LinkKnown) (to : Address) (text : List ℕ)
    (fault : AskFault) → Begins {T = Unit {0}} to before after (Err fault) → Carries serves stops before after to text []
begin_fails serves stops before after to text Failed is = given_up serves stops before after to [] text is
begin_fails serves stops before after to text Memory is =
    none refl (ap asks is) (ap (λ k. k.peer) is) (ap (λ k. k.seed) is)

pub send_fails : (serves : ℕ → State → List ℕ → List ℕ → State → Type 0)
    (stops : ℕ → State → List ℕ → State → Type 0) (before mid after : LinkKnown) (to : Address) (text : List ℕ)
    (fault : AskFault) → mid ≡ begun to before → Sends {T = Unit {0}} text mid after (Err fault)
    → Carries serves stops before after to text []
send_fails serves stops before mid after to text fault begins sends =
    let is : after ≡ gave_up after.faults (sent_more (take sends.0 text) (begun to before)) =
    sends.1 ∙ ap (λ m. gave_up after.faults (sent_more (take sends.0 text) m)) begins in
    subst (λ t. Carries serves stops before after to t []) (take-append-drop sends.0 text)
    (given_up serves stops before after to (take sends.0 text) (drop sends.0 text) is)

pub finish_fails : (serves : ℕ → State → List ℕ → List ℕ → State → Type 0)
    (stops : ℕ → State → List ℕ → State → Type 0) (before mid after : LinkKnown) (to : Address) (text : List ℕ)
    (r : Result (Unit {0}) AskFault) → mid ≡ sent_more text (begun to before) → Finishes mid after r
    → PeerServes serves stops mid after r → OnErr r (Carries serves stops before after to text [])
finish_fails serves stops before mid after to text (Ok x) sends is serves_ = tt
finish_fails serves stops before mid after to text (Err fault) sends is serves_ =
    let known : after ≡ gave_up after.faults (record (sent_more text (begun to before)) { peer = after.peer }) =
    is ∙ ap (λ (m : LinkKnown). gave_up after.faults (record m { peer = after.peer })) sends in
    cut text ([], sym (append-nil text)) refl
    (record { earlier = ap (λ k. k.earlier) known; ask = ap (λ k. k.ask) known; seed = ap (λ k. k.seed) known })
    (subst (λ (m : LinkKnown). BothTold m.peer after.peer (λ p q. (q ≡ p) ⊎ stops m.seed p (last_sent m) q)) sends
    serves_)
