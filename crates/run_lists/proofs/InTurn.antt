-- Runs in turn: what stands after them, and what a crash leaves.
use Rattle.std.proofs.Common.{◌≡◌, ℕ, ◌<◌, ◌≤◌, List, [], ◌∷◌, take, sym, ◌∙◌, ap, subst, inl, inr, ⊎_elim, arith}
use Rattle.std.specs.Prelude.{true}
use Rattle.std.proofs.lemmas.Bool.{cases_lt}
use Rattle.command_lines.specs.declared.outcome.Outcome.{Outcome}
use Rattle.replica_core.specs.Replica.{Found as Left, Stored}
use Rattle.store_commands.specs.Changes.{after_all}
use Rattle.run_lists.specs.Kept.{CrashAt, found_at, moment_of}
use Rattle.run_lists.specs.Lists.{Asked, Between, RunInTurn}
use Rattle.run_lists.specs.Shares.{LeavesBehind, MayLeave, Share, made, shares}
use Rattle.run_lists.proofs.OneRun.{Does, behind, does_once, within}
use Rattle.run_lists.proofs.Proper.{Proper, after_both, proper_append, proper_take}

-- each run of a list does its share
abbrev pub AllDo : List Share → Between → Between → Type 0
AllDo [] before after = after ≡ before
AllDo (s ∷ more) before after = (middle : Between) × Does s before middle × AllDo more middle after

pub all_do : (list : List Asked) (before after : Between) (os : List Outcome) (x : RunInTurn true list before after os)
    → AllDo (shares true list before after os x) before after
all_do [] before after [] x = x
all_do [] before after (o ∷ os) x = absurd x
all_do (a ∷ more) before after [] x = absurd x
all_do (a ∷ more) before after (o ∷ os) x = (x.0, does_once a before x.0 o x.1, all_do more x.0 after os x.2)

-- ---- what stands

pub stands_after : (ss : List Share) (before after : Between) → AllDo ss before after
    → found_at after ≡ after_all (found_at before) (made ss)
stands_after [] before after d = ap found_at d
stands_after (s ∷ more) before after d =
    stands_after more d.0 after d.2
    ∙ ap (λ (f : Left Stored). after_all f (made more)) d.1.now
    ∙ sym (after_both (found_at before) (take s.stood s.changes) (made more))

pub proper_made : (ss : List Share) (before after : Between) → AllDo ss before after
    → Proper (found_at before) (made ss)
proper_made [] before after d = tt
proper_made (s ∷ more) before after d =
    proper_append (found_at before) (take s.stood s.changes) (made more)
    (proper_take (found_at before) s.stood s.changes d.1.proper)
    (subst (λ (f : Left Stored). Proper f (made more)) d.1.now (proper_made more d.0 after d.2))

-- ---- moments

later_all : (ss : List Share) (before after : Between) → AllDo ss before after → moment_of before ≤ moment_of after
later_all [] before after d = omega (arith, ap moment_of d)
later_all (s ∷ more) before after d = omega (arith, d.1.later, later_all more d.0 after d.2)

-- no run changes what a crash before it left
earlier_all : (ss : List Share) (before after : Between) → AllDo ss before after → (k : ℕ) (o : Left Stored)
    → k < moment_of before → CrashAt after k o → CrashAt before k o
earlier_all [] before after d k o early crash = subst (λ (m : Between). CrashAt m k o) d crash
earlier_all (s ∷ more) before after d k o early crash =
    d.1.earlier k o early (earlier_all more d.0 after d.2 k o (omega (arith, early, d.1.later)) crash)

pub may_leave : (ss : List Share) (before after : Between) (P : Left Stored → Type 0) → AllDo ss before after
    → ((o : Left Stored) → CrashAt before (moment_of before) o → P o)
    → (k : ℕ) (o : Left Stored) → moment_of before ≤ k → k ≤ moment_of after → CrashAt after k o
    → MayLeave P k (found_at before) ss o
may_leave [] before after P d start k o from to crash =
    let is : k ≡ moment_of before = omega (arith, from, to, ap moment_of d) in
    start o (rw is at (subst (λ (m : Between). CrashAt m k o) d crash))
may_leave (s ∷ more) before after P d start k o from to crash = ⊎_elim
    (λ (early : k < moment_of d.0). inl (
      omega (arith, early, d.1.end),
      within s before d.0 P d.1 start k o from (omega (arith, early)) (earlier_all more d.0 after d.2 k o early crash),
    ))
    (λ (late : moment_of d.0 ≤ k). inr (
      omega (arith, late, d.1.end),
      subst (λ (f : Left Stored). MayLeave (LeavesBehind P (found_at before) s) k f more o) d.1.now
          (may_leave more d.0 after (LeavesBehind P (found_at before) s) d.2
          (behind s before d.0 P d.1 start) k o late to crash),
    ))
    (cases_lt k (moment_of d.0))
