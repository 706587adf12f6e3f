-- A list of runs keeps what is promised of it.
use Rattle.std.proofs.Common.{◌≡◌, Bool, true, false, true≢false, List, [], ◌∷◌, ◌++◌, refl, sym, ◌∙◌, ap, subst}
use Rattle.std.specs.Prelude.{IsTrue}
use Rattle.command_lines.specs.declared.outcome.Outcome.{Outcome}
use Rattle.conflicts.specs.Laws.{MembersAreKept, StateGoesOn}
use Rattle.replica_core.specs.Replica.{Found as Left, Stored}
use Rattle.replica_reads.specs.Answers.{AnswersAreFilters}
use Rattle.store_commands.specs.Changes.{Change, after_all}
use Rattle.run_lists.specs.Kept.{GoesOn, found_at}
use Rattle.run_lists.specs.Lists.{Asked, Between, RunInTurn, with_input}
use Rattle.run_lists.specs.Promise.{FindsInTurn, HaveRun, made_by}
use Rattle.run_lists.specs.Shares.{share_of}
use Rattle.run_lists.proofs.Keeping.{kept_if_told}
use Rattle.run_lists.proofs.OneRun.{Does, does_once}
use Rattle.run_lists.proofs.Proper.{Proper, after_both, goes, proper_append, proper_take}
use Rattle.run_lists.proofs.Showing.{answers_in_turn}

module _ (goes_on : StateGoesOn) (members : MembersAreKept) where
  stands : (found now : Left Stored) (so_far : List Change) → Proper found so_far → now ≡ after_all found so_far
      → GoesOn found so_far now
  stands found now so_far p e =
      subst (λ (f : Left Stored). GoesOn found so_far f) (sym e) (goes goes_on members found so_far p)

  finds_in_turn : (found : Left Stored) (so_far : List Change) (list : List Asked) (before after : Between)
      (os : List Outcome) (x : RunInTurn true list before after os)
      → Proper found so_far → found_at before ≡ after_all found so_far
      → FindsInTurn found so_far true list before after os x
  finds_in_turn found so_far [] before after [] x p e = stands found (found_at before) so_far p e
  finds_in_turn found so_far [] before after (o ∷ os) x p e = tt
  finds_in_turn found so_far (a ∷ more) before after [] x p e = tt
  finds_in_turn found so_far (a ∷ more) before after (o ∷ os) x p e =
      let s = share_of true a.words a.seed (with_input before a.input) (with_input x.0 x.1.read) o x.1.runs in
      let first = made_by true a before x.0 o x.1 in
      let does : Does s before x.0 = does_once a before x.0 o x.1 in (
        stands found (found_at before) so_far p e,
        finds_in_turn found (so_far ++ first) more x.0 after os x.2
            (proper_append found so_far first p
            (subst (λ (f : Left Stored). Proper f first) e
            (proper_take (found_at before) s.stood s.changes does.proper)))
            (does.now ∙ ap (λ (f : Left Stored). after_all f first) e ∙ sym (after_both found so_far first)),
      )

  finds_if_told : (tells : Bool) (list : List Asked) (before after : Between) (os : List Outcome)
      (x : RunInTurn tells list before after os) → IsTrue tells
      → FindsInTurn (found_at before) [] tells list before after os x
  finds_if_told true list before after os x told =
      finds_in_turn (found_at before) [] list before after os x tt refl
  finds_if_told false list before after os x told = absurd (true≢false (sym told))

  pub have_run : (filters : AnswersAreFilters) (tells : Bool) (list : List Asked) (before after : Between)
      (os : List Outcome) → RunInTurn tells list before after os → HaveRun tells list before after os
  have_run filters tells list before after os x = record {
    in_turn = x;
    answers = answers_in_turn filters tells list before after os x;
    finds = λ told. finds_if_told tells list before after os x told;
    kept = λ told. kept_if_told tells goes_on members list before after os x told;
  }
