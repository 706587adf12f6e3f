-- A small body that came as bytes, by its reader.
use Rattle.std.proofs.Common.{◌≡◌, ℕ, Bool, true, false, cond, List, [], length, take, drop, Option, Some, Result}
use Rattle.std.proofs.Common.{Ok}
use Rattle.std.proofs.Common.{Err}
use Rattle.std.proofs.Common.{inl, inr, refl, sym, ap, ◌∙◌, nat_lt}
use Rattle.conflicts.specs.State.{State}
use Rattle.sync_http.specs.declared.address.Address.{Address}
use Rattle.sync_link.specs.Links.{LinkKnown}
use Rattle.sync_asking.specs.Carried.{Carries, none}
use Rattle.sync_stream.specs.Messages.{HeardReply, NoReply, BadReply, Status, Hears, ReadsReply, Small, Short, Over}
use Rattle.sync_stream.specs.Messages.{most_small, small_if, small_of}
use Rattle.sync_phases.specs.Phase.{and_then}
use Rattle.sync_phases.specs.Phases.{small_ends, small_heard}
use Rattle.sync_phases.specs.declared.fault.SyncFault.{SyncFault}
use Rattle.sync_asking.specs.Heard.{HearsSmall, SaysBytes}
use Rattle.sync_session.specs.Asked.{ComesOf}
use Rattle.sync_session.specs.inner.Asked.{ComesTo}

ok_is : {A : Type 0} {x : A} {fault : SyncFault} → ◌≡◌ {A = Result A SyncFault} (Ok x) (Err fault) → ⊥
ok_is e = cc

-- ---- a request for which there was no memory

pub unasked : (serves : ℕ → State → List ℕ → List ℕ → State → Type 0) (stops : ℕ → State → List ℕ → State → Type 0)
    (k : LinkKnown) (to : Address) (text : List ℕ) → Carries serves stops k k to text []
unasked serves stops k to text = none refl refl refl refl

-- ---- what follows on a reply

module _ {A B C : Type 0} (says : List ℕ → ℕ → A → Type 0) (defined : HeardReply A → Result B SyncFault)
    (more : B → Result C SyncFault) (given : List ℕ) where
  pub then_comes : (x : B) (result : Result C SyncFault) → ComesOf says defined given (Ok x)
      → ComesTo (more x) result → ComesOf says (λ heard. and_then (defined heard) more) given result
  then_comes x result comes (inl e) = inl e
  then_comes x result (inl e) (inr is) = absurd (ok_is e)
  then_comes x result (inr k) (inr is) = inr (k.0, k.1, is ∙ ap (λ r. and_then r more) k.2)

  pub then_fails : (fault : SyncFault) → ComesOf says defined given (Err fault)
      → ComesOf says (λ heard. and_then (defined heard) more) given (Err fault)
  then_fails fault (inl e) = inl (ap (λ r. and_then r more) e)
  then_fails fault (inr k) = inr (k.0, k.1, ap (λ r. and_then r more) k.2)

-- ---- small bodies

module _ {A : Type 0} (reads : List ℕ → Option A) where
  -- what the bytes of a small body come to, by its reader
  read_ends : (n : ℕ) (bytes : List ℕ)
      → small_ends (small_of reads n bytes)
      ≡ and_then (small_ends (small_of Some n bytes)) (λ body. small_ends (small_if (reads body)))
  read_ends n bytes = by (nat_lt most_small n) (nat_lt (length bytes) n)
    where
      by : (over short : Bool)
          → small_ends (cond over Over (cond short Short (small_if (reads (take n bytes)))))
          ≡ and_then (small_ends (cond over Over (cond short Short (small_if (Some (take n bytes))))))
          (λ body. small_ends (small_if (reads body)))
      by true short = refl
      by false true = refl
      by false false = refl

  abbrev pub SaysBy : List ℕ → ℕ → Small A → Type 0
  SaysBy bytes n small = small ≡ small_of reads n bytes

  as_read : (given : List ℕ) (heard : HeardReply (Small (List ℕ))) → ReadsReply SaysBytes given heard
      → (read : HeardReply (Small A)) × ReadsReply SaysBy given read
      × (small_heard read ≡ and_then (small_heard heard) (λ body. small_ends (small_if (reads body))))
  as_read given NoReply says = (NoReply, says, refl)
  as_read given (BadReply fault) says = (BadReply fault, says, refl)
  as_read given (Status status) says = (Status status, says, refl)
  as_read given (Hears small) says = (
    Hears (small_of reads says.0 (drop says.1 given)),
    (says.0, says.1, says.2, refl),
    read_ends says.0 (drop says.1 given)
        ∙ ap (λ s. and_then (small_ends s) (λ body. small_ends (small_if (reads body)))) (sym says.3),
  )

  -- its reader was called on the bytes
  pub read_body : (given body : List ℕ) (result : Result A SyncFault) → HearsSmall given (Ok body)
      → ComesTo (small_ends (small_if (reads body))) result → ComesOf SaysBy small_heard given result
  read_body given body result heard (inl e) = inl e
  read_body given body result (inl e) (inr is) = absurd (ok_is e)
  read_body given body result (inr k) (inr is) =
      let r = as_read given k.0 k.1 in
      inr (r.0, r.1, is ∙ ap (λ h. and_then h (λ b. small_ends (small_if (reads b)))) k.2 ∙ sym r.2)

  -- there was no body
  pub no_body : (given : List ℕ) (fault : SyncFault) → HearsSmall given (Err fault)
      → ComesOf SaysBy small_heard given (Err fault)
  no_body given fault (inl e) =
      inl (ap (λ (r : Result (List ℕ) SyncFault). and_then r (λ body. small_ends (small_if (reads body)))) e)
  no_body given fault (inr k) =
      let r = as_read given k.0 k.1 in
      inr (r.0, r.1, ap (λ h. and_then h (λ b. small_ends (small_if (reads b)))) k.2 ∙ sym r.2)
