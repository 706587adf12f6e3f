-- What a crash leaves stands for a history that goes on.
use Rattle.std.proofs.Common.{◌≡◌, ◌⊎◌, ℕ, ◌≤◌, Bool, true, false, true≢false, ◌&&◌, ◌||◌, if◌then◌else◌, List, [], ◌∷◌}
use Rattle.std.proofs.Common.{◌++◌, take, refl, sym, ◌∙◌, ap, ap₂, subst, inl, inr, ⊎_elim, append_assoc, append-nil}
use Rattle.std.proofs.lemmas.Bool.{le-leb, lt-leb}
use Rattle.std.specs.Prelude.{IsTrue}
use Rattle.conflicts.specs.Laws.{MembersAreKept, StateGoesOn}
use Rattle.command_lines.specs.declared.outcome.Outcome.{Outcome}
use Rattle.replica_core.specs.Replica.{Found as Left, Stored}
use Rattle.store_commands.specs.Changes.{Change, after_all}
use Rattle.run_lists.specs.Kept.{CrashAt, GoesOn, KeepsAll, found_at, moment_of}
use Rattle.run_lists.specs.Lists.{Asked, Between, RunInTurn}
use Rattle.run_lists.specs.Shares.{IfSettled, LeavesBehind, LeavesIn, MayLeave, Share, is_settled_by, lasting}
use Rattle.run_lists.specs.Shares.{made, shares}
use Rattle.run_lists.proofs.InTurn.{AllDo, all_do, may_leave, proper_made, stands_after}
use Rattle.run_lists.proofs.Proper.{Proper, after_both, goes, proper_append, proper_take}

-- Proper changes come to it, and the first of them are those that last. Or P says that it was left before, and no run
-- settled the store.
abbrev Comes : (Left Stored → Type 0) → Bool → List Change → Left Stored → Left Stored → Type 0
Comes P settled first found o =
    (P o × (settled ≡ false))
    ⊎ ((later : List Change) × Proper found (first ++ later) × (o ≡ after_all found (first ++ later)))

pub none_lasts : (k : ℕ) (ss : List Share) → is_settled_by k ss ≡ false → lasting k ss ≡ []
none_lasts k [] e = refl
none_lasts k (s ∷ more) e =
    ap (λ (b : Bool). if b then take s.stood s.changes ++ lasting k more else []) e

-- a run that has not settled the store yet
unsettled : (P : Left Stored → Type 0) (found : Left Stored) (s : Share) (o : Left Stored) (b : Bool) (first : List Change)
    → b ≡ false → Proper found s.changes → LeavesIn P found s o → Comes P b (if b then first else []) found o
unsettled P found s o true first e p left = absurd (true≢false e)
unsettled P found s o false first e p (inl early) = inl (early, refl)
unsettled P found s o false first e p (inr some) =
    inr (take some.0 s.changes, proper_take found some.0 s.changes p, some.2)

-- what stands after it, and more of that
stand_first : (P : Left Stored → Type 0) (found o : Left Stored) (b : Bool) (stood more later : List Change)
    → Proper found (stood ++ (more ++ later)) → o ≡ after_all found (stood ++ (more ++ later))
    → Comes P b (if b then stood ++ more else []) found o
stand_first P found o true stood more later p e =
    let all = sym (append_assoc stood more later) in inr (
      later,
      subst (λ (l : List Change). Proper found l) all p,
      e ∙ ap (λ (l : List Change). after_all found l) all,
    )
stand_first P found o false stood more later p e = inr (stood ++ (more ++ later), p, e)

-- where no later run settles it
behind_run : (P : Left Stored → Type 0) (found : Left Stored) (s : Share) (o : Left Stored) (rest b : Bool)
    (more : List Change)
    → b ≡ (s.settled || rest) → rest ≡ false → more ≡ [] → Proper found s.changes → LeavesBehind P found s o
    → Comes P b (if b then take s.stood s.changes ++ more else []) found o
behind_run P found s o rest b more is none nothing p left = by_case s.settled refl
  where
    stood : List Change
    stood = take s.stood s.changes

    all : stood ++ (more ++ []) ≡ stood
    all = ap (λ (l : List Change). stood ++ (l ++ [])) nothing ∙ append-nil stood

    by_case : (settled : Bool) → s.settled ≡ settled → Comes P b (if b then stood ++ more else []) found o
    by_case true e = stand_first P found o b stood more []
        (subst (λ (l : List Change). Proper found l) (sym all) (proper_take found s.stood s.changes p))
        (subst (λ (c : Bool). IfSettled c (o ≡ after_all found stood) (LeavesIn P found s o)) e left
        ∙ ap (λ (l : List Change). after_all found l) (sym all))
    by_case false e = unsettled P found s o b (stood ++ more) (is ∙ ap₂ (λ (x y : Bool). x || y) e none) p
        (subst (λ (c : Bool). IfSettled c (o ≡ after_all found stood) (LeavesIn P found s o)) e left)

comes : (ss : List Share) (before after : Between) (P : Left Stored → Type 0) → AllDo ss before after
    → (k : ℕ) (o : Left Stored) → MayLeave P k (found_at before) ss o
    → Comes P (is_settled_by k ss) (lasting k ss) (found_at before) o
comes [] before after P d k o left = inl (left, refl)
comes (s ∷ more) before after P d k o (inl early) =
    unsettled P (found_at before) s o (is_settled_by k (s ∷ more)) (take s.stood s.changes ++ lasting k more)
    (ap (λ (b : Bool). b && (s.settled || is_settled_by k more)) (lt-leb s.end k early.0)) d.1.proper early.1
comes (s ∷ more) before after P d k o (inr late) =
    let stood = take s.stood s.changes in
    let settled : is_settled_by k (s ∷ more) ≡ (s.settled || is_settled_by k more) =
    ap (λ (b : Bool). b && (s.settled || is_settled_by k more)) (le-leb s.end k late.0) in
    let rest : MayLeave (LeavesBehind P (found_at before) s) k (found_at d.0) more o =
    subst (λ (f : Left Stored). MayLeave (LeavesBehind P (found_at before) s) k f more o) (sym d.1.now) late.1 in
    ⊎_elim
    (λ left. behind_run P (found_at before) s o (is_settled_by k more) (is_settled_by k (s ∷ more)) (lasting k more)
    settled left.1 (none_lasts k more left.1) d.1.proper left.0)
    (λ x. stand_first P (found_at before) o (is_settled_by k (s ∷ more)) stood (lasting k more) x.0
    (proper_append (found_at before) stood (lasting k more ++ x.0)
    (proper_take (found_at before) s.stood s.changes d.1.proper)
    (subst (λ (f : Left Stored). Proper f (lasting k more ++ x.0)) d.1.now x.1))
    (x.2 ∙ ap (λ (f : Left Stored). after_all f (lasting k more ++ x.0)) d.1.now
    ∙ sym (after_both (found_at before) stood (lasting k more ++ x.0))))
    (comes more d.0 after (LeavesBehind P (found_at before) s) d.2 k o rest)

module _ (goes_on : StateGoesOn) (members : MembersAreKept) where
  keeps : (ss : List Share) (before after : Between) → AllDo ss before after → KeepsAll before after ss
  keeps ss before after d = record {
    now = subst (λ (f : Left Stored). GoesOn (found_at before) (made ss) f) (sym (stands_after ss before after d))
        (goes goes_on members (found_at before) (made ss) (proper_made ss before after d));
    any_moment = left_by;
    kept = λ k o from to crash. ⊎_elim
        (λ early. inl early.0)
        (λ x. inr (lasting k ss ++ x.0, comes_to k o x.0 x.1 x.2))
        (come k o from to crash);
    lasts = λ k o from to crash settled. ⊎_elim
        (λ early. absurd (true≢false (sym settled ∙ early.1)))
        (λ x. (x.0, comes_to k o x.0 x.1 x.2))
        (come k o from to crash);
  }
    where
      left_by : (k : ℕ) (o : Left Stored) → moment_of before ≤ k → k ≤ moment_of after → CrashAt after k o
          → MayLeave (CrashAt before (moment_of before)) k (found_at before) ss o
      left_by = may_leave ss before after (CrashAt before (moment_of before)) d (λ o crash. crash)

      come : (k : ℕ) (o : Left Stored) → moment_of before ≤ k → k ≤ moment_of after → CrashAt after k o
          → Comes (CrashAt before (moment_of before)) (is_settled_by k ss) (lasting k ss) (found_at before) o
      come k o from to crash =
          comes ss before after (CrashAt before (moment_of before)) d k o (left_by k o from to crash)

      comes_to : (k : ℕ) (o : Left Stored) (later : List Change) → Proper (found_at before) (lasting k ss ++ later)
          → o ≡ after_all (found_at before) (lasting k ss ++ later)
          → GoesOn (found_at before) (lasting k ss ++ later) o
      comes_to k o later p e = subst (λ (f : Left Stored). GoesOn (found_at before) (lasting k ss ++ later) f) (sym e)
          (goes goes_on members (found_at before) (lasting k ss ++ later) p)

  pub keeps_all : (list : List Asked) (before after : Between) (os : List Outcome)
      (x : RunInTurn true list before after os) → KeepsAll before after (shares true list before after os x)
  keeps_all list before after os x = keeps (shares true list before after os x) before after
      (all_do list before after os x)

-- where contracts can see the disks
pub kept_if_told : (tells : Bool) (goes_on : StateGoesOn) (members : MembersAreKept) (list : List Asked)
    (before after : Between) (os : List Outcome)
    → (x : RunInTurn tells list before after os) → IsTrue tells
    → KeepsAll before after (shares tells list before after os x)
kept_if_told true goes_on members list before after os x told = keeps_all goes_on members list before after os x
kept_if_told false goes_on members list before after os x told = absurd (true≢false (sym told))
