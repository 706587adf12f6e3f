-- Changes that come to something, and more of them from there.
use Rattle.std.proofs.Common.{◌≡◌, ◌⊎◌, ℕ, List, [], ◌++◌, sym, ◌∙◌, ap, ap₂, subst, append_assoc, inl, inr}
use Rattle.std.proofs.lemmas.List.{map-append}
use Rattle.conflicts.specs.State.{History, State, Text, state_of}
use Rattle.replica_core.specs.Replica.{Found as Left, Blank, Stands, Stored}
use Rattle.replica_core.specs.Runs.{AllKept}
use Rattle.store_commands.specs.Changes.{Change, Stepped}
use Rattle.vector_rev.specs.Counts.{Uid}
use Rattle.run_lists.specs.Kept.{Begins, GoesOn, Grows}

-- a history that has grown grows on
grows_on : (name : Text) (uid : Uid) (limit : ℕ) (h : History) (changes more : List Change) (middle now : Left Stored)
    → Grows name uid limit h changes middle → GoesOn middle more now → Grows name uid limit h (changes ++ more) now
grows_on name uid limit h changes more middle now first second =
    let next = second.stands name uid limit (h ++ first.steps)
    (first.is ∙ ap (λ (s : State). Stands (record { state = s; limit = limit })) first.continues.stands) in
    let all = append_assoc h first.steps next.steps in
    record {
      steps = first.steps ++ next.steps;
      are = ap₂ (λ (a b : List Change). a ++ b) first.are next.are ∙ sym (map-append Stepped first.steps next.steps);
      state = next.state;
      is = next.is;
      continues = record {
        stands = next.continues.stands ∙ ap (λ (l : History). state_of name uid l) all;
        kept = subst (λ (l : History). AllKept next.state l) all next.continues.kept;
      };
    }

begins_on : (changes more : List Change) (middle now : Left Stored) → Begins changes middle → GoesOn middle more now
    → Begins (changes ++ more) now
begins_on changes more middle now first second = record {
  name = first.name;
  uid = first.uid;
  limit = first.limit;
  later = first.later ++ more;
  are = ap (λ (l : List Change). l ++ more) first.are;
  grows = grows_on first.name first.uid first.limit [] first.later more middle now first.grows second;
}

-- ---- where there is no store, and where there is a damaged one

none_of_both : (changes more : List Change) → changes ≡ [] → more ≡ [] → changes ++ more ≡ []
none_of_both changes more e f = ap₂ (λ (a b : List Change). a ++ b) e f

still_blank : (changes more : List Change) (now : Left Stored) → changes ≡ []
    → ((more ≡ []) × (now ≡ Blank)) ⊎ Begins more now
    → ((changes ++ more ≡ []) × (now ≡ Blank)) ⊎ Begins (changes ++ more) now
still_blank changes more now e (inl none) = inl (none_of_both changes more e none.0, none.1)
still_blank changes more now e (inr begun) =
    inr (subst (λ (l : List Change). Begins (l ++ more) now) (sym e) begun)

from_blank : (changes more : List Change) (middle now : Left Stored) → GoesOn middle more now
    → ((changes ≡ []) × (middle ≡ Blank)) ⊎ Begins changes middle
    → ((changes ++ more ≡ []) × (now ≡ Blank)) ⊎ Begins (changes ++ more) now
from_blank changes more middle now second (inl none) = still_blank changes more now none.0 (second.blank none.1)
from_blank changes more middle now second (inr begun) = inr (begins_on changes more middle now begun second)

pub compose : (found middle now : Left Stored) (changes more : List Change) → GoesOn found changes middle
    → GoesOn middle more now → GoesOn found (changes ++ more) now
compose found middle now changes more first second = record {
  stands = λ name uid limit h e. grows_on name uid limit h changes more middle now (first.stands name uid limit h e) second;
  blank = λ e. from_blank changes more middle now second (first.blank e);
  damaged = λ e. (
    none_of_both changes more (first.damaged e).0 (second.damaged (first.damaged e).1).0,
    (second.damaged (first.damaged e).1).1,
  );
}
