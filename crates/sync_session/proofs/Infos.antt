-- What an info leads to, case by case.
use Rattle.std.proofs.Common.{◌≡◌, ℕ, List, inl, inr, Bool, true, false, cond, not, Result, Ok, Err, refl, sym, ap, ◌∙◌}
use Rattle.u1_base.specs.Ids.{same_id}
use Rattle.u1_base.specs.Places.{same_place}
use Rattle.translog.specs.Log.{fits_log, mine_of}
use Rattle.conflicts.specs.State.{State}
use Rattle.sync_http.specs.declared.info.Info.{Info}
use Rattle.sync_phases.specs.Phase.{and_then}
use Rattle.sync_link.specs.Links.{LinkKnown}
use Rattle.sync_stream.specs.Messages.{SaysInfo}
use Rattle.sync_stream.specs.Requests.{ForInfo}
use Rattle.sync_phases.specs.Phases.{ask, by_info, if_same, informed, is_level, known_of, level_with}
use Rattle.sync_phases.specs.Phases.{small_heard}
use Rattle.sync_phases.specs.Seen.{Begun, Informed}
use Rattle.sync_phases.specs.declared.asked.Asked.{Asked}
use Rattle.sync_phases.specs.declared.asked.Asked.TheVariants.{Level, Send}
use Rattle.sync_phases.specs.declared.fault.SyncFault.{SyncFault}
use Rattle.sync_phases.specs.declared.fault.SyncFault.TheVariants.{Broken, LogCheck}
use Rattle.sync_session.specs.Asked.{Asks}
use Rattle.sync_session.specs.inner.Asked.{ComesTo}
use Rattle.sync_session.proofs.Replies.{then_comes, then_fails}

module _ {A : Type 0} (s : State) (info : Info) (level send : A) where
  pub of_another : same_id info.source s.uid ≡ false → by_info s info level send ≡ Err (Broken 1)
  of_another e = rw e refl

  pub unfit : same_id info.source s.uid ≡ true → fits_log s.log info.source_at ≡ false
      → by_info s info level send ≡ Err (LogCheck (mine_of s.log info.source_at) info.source_at)
  unfit own e = rw (own, e) refl

  pub not_level : same_id info.source s.uid ≡ true → fits_log s.log info.source_at ≡ true → is_level s info ≡ false
      → by_info s info level send ≡ Ok send
  not_level own fits e = rw (own, fits, e) refl

  pub all_level : same_id info.source s.uid ≡ true → fits_log s.log info.source_at ≡ true → is_level s info ≡ true
      → by_info s info level send ≡ if_same s info level
  all_level own fits e = rw (own, fits, e) refl

  -- two answers, or one of two names for them
  by_name : by_info s info level send ≡ and_then (by_info s info true false) (λ b. Ok (cond b level send))
  by_name = by (same_id info.source s.uid) (fits_log s.log info.source_at) (is_level s info)
      (same_place (known_of s info.target) info.target_at)
    where
      by : (own fits even one : Bool)
          → cond (not own) (Err (Broken 1))
          (cond (not fits) (Err (LogCheck (mine_of s.log info.source_at) info.source_at))
          (cond even (cond one (Ok level) (Err (LogCheck (known_of s info.target) info.target_at))) (Ok send)))
          ≡ and_then (cond (not own) (Err (Broken 1))
          (cond (not fits) (Err (LogCheck (mine_of s.log info.source_at) info.source_at))
          (cond even (cond one (Ok true) (Err (LogCheck (known_of s info.target) info.target_at))) (Ok false))))
          (λ b. Ok (cond b level send))
      by false fits even one = refl
      by true false even one = refl
      by true true false one = refl
      by true true true true = refl
      by true true true false = refl

  pub named : (b : Bool) → ComesTo (by_info s info true false) (Ok b)
      → by_info s info level send ≡ Ok (cond b level send)
  named b (inl e) = absurd (ok_is e)
    where
      ok_is : {x : Bool} {f : SyncFault} → ◌≡◌ {A = Result Bool SyncFault} (Ok x) (Err f) → ⊥
      ok_is e = cc
  named b (inr is) = by_name ∙ ap (λ r. and_then r (λ b. Ok (cond b level send))) (sym is)

  pub unnamed : (fault : SyncFault) → ComesTo (by_info s info true false) (Err fault)
      → ComesTo (by_info s info level send) (Err fault)
  unnamed fault (inl e) = inl (ap (λ (r : Result Bool SyncFault). and_then r (λ b. Ok (cond b level send))) e)
  unnamed fault (inr is) =
      inr (ap (λ (r : Result Bool SyncFault). and_then r (λ b. Ok (cond b level send))) is ∙ sym by_name)

-- ---- the first phase

abbrev pub no_info : SyncFault → Result Info SyncFault
no_info fault = Err fault

module _ (serves : ℕ → State → List ℕ → List ℕ → State → Type 0) (stops : ℕ → State → List ℕ → State → Type 0)
    (before after : LinkKnown) (x : Begun) (s : State) where
  pub informs : (info : Info) (result : Result (Asked Informed) SyncFault)
      → Asks serves stops before after x.to s.uid ForInfo SaysInfo small_heard (Ok info)
      → ComesTo (by_info s info (Level (level_with s info.target)) (Send (informed x info))) result
      → Asks serves stops before after x.to s.uid ForInfo SaysInfo (λ heard. (ask x s heard).ends) result
  informs info result asks comes = (
    asks.0,
    asks.1,
    then_comes SaysInfo small_heard
        (λ info. by_info s info (Level (level_with s info.target)) (Send (informed x info))) asks.0 info result asks.2
        comes,
  )

  -- no info came
  pub not_informed : (fault : SyncFault)
      → Asks serves stops before after x.to s.uid ForInfo SaysInfo small_heard (no_info fault)
      → Asks serves stops before after x.to s.uid ForInfo SaysInfo (λ heard. (ask x s heard).ends) (Err fault)
  not_informed fault asks = (
    asks.0,
    asks.1,
    then_fails SaysInfo small_heard
        (λ info. by_info s info (Level (level_with s info.target)) (Send (informed x info))) asks.0 fault asks.2,
  )
