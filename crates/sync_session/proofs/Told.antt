-- The last question of a session, if there is one.
use Rattle.std.proofs.Common.{◌≡◌, ◌<◌, ◌≤◌, ◌+◌, ◌-◌, ◌&&◌, nat_le, ap, arith, ◌∙◌, inl, ℕ, Bool, true, false, List}
use Rattle.std.proofs.Common.{Some, None, inr, Result, Ok, Err, refl, sym, subst}
use Rattle.std.specs.Prelude.{◌==◌, if◌then◌else◌}
use Rattle.std.proofs.lemmas.Bool.{cases_eq, eq-eqb, ne_eqb}
use Rattle.vector_rev.specs.Counts.{Uid}
use Rattle.translog.specs.Log.{end_of}
use Rattle.conflicts.specs.State.{State}
use Rattle.sync_link.specs.Links.{LinkKnown}
use Rattle.sync_stream.specs.Messages.{SaysKept}
use Rattle.sync_stream.specs.Requests.{ToKeep}
use Rattle.sync_phases.specs.Phases.{has_all, small_heard, summary, told_by}
use Rattle.sync_phases.specs.Seen.{Exchanged}
use Rattle.sync_phases.specs.declared.fault.SyncFault.{SyncFault}
use Rattle.sync_phases.specs.declared.summary.Summary.{Summary}
use Rattle.sync_session.specs.Asked.{Asks, Finishes}
use Rattle.sync_session.proofs.Replies.{then_comes, then_fails}

-- ---- a log that has grown by so many entries

pub behind : (length base taken : ℕ) → length < base → (length == base + taken) && nat_le 1 taken ≡ false
behind length base taken less =
    ap (λ b. b && nat_le 1 taken) (ne_eqb length (base + taken) (λ e. absurd (omega (arith, less, e))))

pub since : (length base taken : ℕ) → base ≤ length → (length - base == taken) ≡ (length == base + taken)
since length base taken least = elim (cases_eq (length - base) taken) [
  | inl e ↦ eq-eqb (length - base) taken e ∙ sym (eq-eqb length (base + taken) (omega (arith, least, e)))
  | inr other ↦ ne_eqb (length - base) taken other
      ∙ sym (ne_eqb length (base + taken) (λ e. other (omega (arith, least, e))))
]

-- ---- the question

-- no reply that says that the place is kept
abbrev not_kept : SyncFault → Result (Unit {0}) SyncFault
not_kept fault = Err fault

module _ (serves : ℕ → State → List ℕ → List ℕ → State → Type 0) (stops : ℕ → State → List ℕ → State → Type 0)
    (before after : LinkKnown) (source : Uid) (x : Exchanged) (s : State) where
  abbrev Asked : Bool → Result Summary SyncFault → Type 0
  Asked b result =
      Finishes serves stops before after source x (if b then Some (ToKeep (end_of s.log)) else None) result

  pub untold : after ≡ before → has_all s x.base x.taken ≡ false
      → Finishes serves stops before after source x (told_by x s) (Ok (summary x false))
  untold same e = subst (λ b. Asked b (Ok (summary x false))) (sym e) (same, refl)

  pub told : has_all s x.base x.taken ≡ true
      → Asks serves stops before after x.to source (ToKeep (end_of s.log)) SaysKept small_heard (Ok (tt {0}))
      → Finishes serves stops before after source x (told_by x s) (Ok (summary x true))
  told e asks = subst (λ b. Asked b (Ok (summary x true))) (sym e) (
    asks.0,
    asks.1,
    then_comes SaysKept small_heard (λ _. Ok (summary x true)) asks.0 tt (Ok (summary x true)) asks.2 (inr refl),
  )

  pub not_told : (fault : SyncFault) → has_all s x.base x.taken ≡ true
      → Asks serves stops before after x.to source (ToKeep (end_of s.log)) SaysKept small_heard
      (not_kept fault) → Finishes serves stops before after source x (told_by x s) (Err fault)
  not_told fault e asks = subst (λ b. Asked b (Err fault)) (sym e) (
    asks.0,
    asks.1,
    then_fails SaysKept small_heard (λ _. Ok (summary x true)) asks.0 fault asks.2,
  )
