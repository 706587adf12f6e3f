-- Changes that come one after the other: a store is made where there is none, and steps are made in one that stands.
use Rattle.std.proofs.Common.{◌≡◌, ◌⊎◌, ℕ, zero, suc, List, [], ◌∷◌, ◌++◌, take, Some, refl, sym, ap, subst, inl}
use Rattle.std.proofs.Common.{inr}
use Rattle.std.specs.Prelude.{map}
use Rattle.std.specs.List.{flat_map}
use Rattle.conflicts.specs.Laws.{MembersAreKept, StateGoesOn}
use Rattle.conflicts.specs.State.{History, State, Text, accepts_in, after_all as after_steps, state_of}
use Rattle.replica_core.specs.Replica.{Found as Left, Blank, Damaged, Stands, Stored, stored_after}
use Rattle.replica_core.specs.Runs.{AllKept}
use Rattle.store_commands.specs.Changes.{Change, Made, Stepped, after_all, after_change, steps_in}
use Rattle.vector_rev.specs.Counts.{Uid}
use Rattle.run_lists.specs.Kept.{Begins, GoesOn, Grows}

-- the change comes where it may
abbrev pub MayCome : Left Stored → Change → Type 0
MayCome Blank (Made name uid limit) = Unit {0}
MayCome Blank (Stepped x) = ⊥
MayCome Damaged (Made name uid limit) = ⊥
MayCome Damaged (Stepped x) = ⊥
MayCome (Stands s) (Made name uid limit) = ⊥
MayCome (Stands s) (Stepped x) = Unit {0}

abbrev pub Proper : Left Stored → List Change → Type 0
Proper found [] = Unit {0}
Proper found (change ∷ changes) = MayCome found change × Proper (after_change found change) changes

-- ---- some of them, and more of them

pub proper_take : (found : Left Stored) (n : ℕ) (changes : List Change) → Proper found changes
    → Proper found (take n changes)
proper_take found zero changes p = tt
proper_take found (suc n) [] p = tt
proper_take found (suc n) (change ∷ changes) p = (p.0, proper_take (after_change found change) n changes p.1)

pub proper_append : (found : Left Stored) (first more : List Change) → Proper found first
    → Proper (after_all found first) more → Proper found (first ++ more)
proper_append found [] more p q = q
proper_append found (change ∷ first) more p q = (p.0, proper_append (after_change found change) first more p.1 q)

pub after_both : (found : Left Stored) (first more : List Change)
    → after_all found (first ++ more) ≡ after_all (after_all found first) more
after_both found [] more = refl
after_both found (change ∷ first) more = after_both (after_change found change) first more

-- steps over a store that stands
pub proper_steps : (s : Stored) (steps : History) → Proper (Stands s) (map Stepped steps)
proper_steps s [] = tt
proper_steps s (x ∷ steps) = (tt, proper_steps (stored_after s (Some x)) steps)

-- ---- what a history becomes by them

are_steps : (s : Stored) (changes : List Change) → Proper (Stands s) changes → changes ≡ map Stepped (steps_in changes)
are_steps s [] p = refl
are_steps s (Made name uid limit ∷ changes) p = absurd p.0
are_steps s (Stepped x ∷ changes) p =
    ap (λ (l : List Change). Stepped x ∷ l) (are_steps (stored_after s (Some x)) changes p.1)

after_them : (s : Stored) (changes : List Change) → Proper (Stands s) changes
    → after_all (Stands s) changes
    ≡ Stands (record { state = after_steps s.state (steps_in changes); limit = s.limit })
after_them s [] p = refl
after_them s (Made name uid limit ∷ changes) p = absurd p.0
after_them s (Stepped x ∷ changes) p = after_them (stored_after s (Some x)) changes p.1

module _ (goes_on : StateGoesOn) (members : MembersAreKept) where
  abbrev of_history : Text → Uid → ℕ → History → Left Stored
  of_history name uid limit h = Stands (record { state = state_of name uid h; limit = limit })

  grows : (name : Text) (uid : Uid) (limit : ℕ) (h : History) (changes : List Change)
      → Proper (of_history name uid limit h) changes
      → Grows name uid limit h changes (after_all (of_history name uid limit h) changes)
  grows name uid limit h changes p =
      let s = state_of name uid h in
      let stands : after_steps s (steps_in changes) ≡ state_of name uid (h ++ steps_in changes) =
      sym (goes_on.steps name uid h (steps_in changes)) in
      record {
        steps = steps_in changes;
        are = are_steps (record { state = s; limit = limit }) changes p;
        state = after_steps s (steps_in changes);
        is = after_them (record { state = s; limit = limit }) changes p;
        continues = record {
          stands = stands;
          kept = subst (λ (u : State). AllKept u (h ++ steps_in changes)) (sym stands)
              (λ doc a there. members.covered (flat_map (accepts_in doc) (h ++ steps_in changes)) a there);
        };
      }

  from_history : (found : Left Stored) (changes : List Change) → Proper found changes
      → (name : Text) (uid : Uid) (limit : ℕ) (h : History)
      → found ≡ of_history name uid limit h → Grows name uid limit h changes (after_all found changes)
  from_history found changes p name uid limit h e =
      subst (λ (f : Left Stored). Grows name uid limit h changes (after_all f changes)) (sym e)
      (grows name uid limit h changes (subst (λ (f : Left Stored). Proper f changes) e p))

  from_blank : (changes : List Change) → Proper Blank changes → ((changes ≡ []) × (after_all Blank changes ≡ Blank))
      ⊎ Begins changes (after_all Blank changes)
  from_blank [] p = inl (refl, refl)
  from_blank (Made name uid limit ∷ changes) p = inr (record {
    name = name;
    uid = uid;
    limit = limit;
    later = changes;
    are = refl;
    grows = grows name uid limit [] changes p.1;
  })
  from_blank (Stepped x ∷ changes) p = absurd p.0

  from_damaged : (changes : List Change) → Proper Damaged changes → (changes ≡ [])
      × (after_all Damaged changes ≡ Damaged)
  from_damaged [] p = (refl, refl)
  from_damaged (Made name uid limit ∷ changes) p = absurd p.0
  from_damaged (Stepped x ∷ changes) p = absurd p.0

  pub goes : (found : Left Stored) (changes : List Change) → Proper found changes
      → GoesOn found changes (after_all found changes)
  goes found changes p = record {
    stands = from_history found changes p;
    blank = λ e. subst (λ (f : Left Stored). ((changes ≡ []) × (after_all f changes ≡ Blank))
        ⊎ Begins changes (after_all f changes)) (sym e)
        (from_blank changes (subst (λ (f : Left Stored). Proper f changes) e p));
    damaged = λ e. subst (λ (f : Left Stored). (changes ≡ []) × (after_all f changes ≡ Damaged)) (sym e)
        (from_damaged changes (subst (λ (f : Left Stored). Proper f changes) e p));
  }
