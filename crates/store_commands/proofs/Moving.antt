-- How changes of a store follow one another.
use Rattle.std.proofs.Common.{◌≡◌, ◌⊎◌, ℕ, ◌<◌, ◌≤◌, List, [], take, Some, true, false, refl, inl, inr, ⊎_elim, arith}
use Rattle.std.proofs.lemmas.Bool.{cases_lt}
use Rattle.u1_base.specs.Causes.{Rose}
use Rattle.replica_core.specs.Replica.{Found as Left, Known, Stored}
use Rattle.store_commands.specs.Changes.{Change, IsAfterSome, IsNow, IsSettled, NeedsNow, Passes, after_all}
use Rattle.store_commands.specs.Found.{Found, Blank, Damaged, Stands, Store, in_short}
use Rattle.store_commands.specs.Carries.{found_open}
use Rattle.store_commands.specs.Leaves.{Fit}

pub Rose-since : (before later now : ℕ) → before ≤ later → Rose later now → Rose before now
Rose-since before later now first rose = omega (arith, first, rose)

-- nothing moved, whatever the changes would be
pub unmoved : (found : Found) (changes : List Change) (v : Store)
    → IsNow (in_short found) v.found → Passes found changes 0 0 v v
unmoved found changes v now = record {
  stood_reached = omega arith;
  within = omega arith;
  later = omega arith;
  earlier = λ k o before crash. crash;
  since = λ k o from to crash. let same : k ≡ v.moment = omega (arith, from, to) in inl (rw same at crash);
  now = now;
  faults = omega arith;
}

none_of_none : (found : Left Stored) (changes : List Change) (reached : ℕ) (o : Left Stored) → IsAfterSome found [] 0 o
    → IsAfterSome found changes reached o
none_of_none found changes reached o some =
    let none : some.0 ≡ 0 = omega (arith, some.1) in
    let is : o ≡ after_all found (take some.0 []) = some.2 in
    (0, omega arith, rw none at is)

-- the store was looked at, and then changes passed
pub passes_then : (found : Found) (changes : List Change) (stood reached : ℕ) (a b c : Store) → Passes found [] 0 0 a b
    → Passes found changes stood reached b c → Passes found changes stood reached a c
passes_then found changes stood reached a b c first second = record {
  stood_reached = second.stood_reached;
  within = second.within;
  later = omega (arith, first.later, second.later);
  earlier = λ k o before crash. first.earlier k o before
      (second.earlier k o (omega (arith, before, first.later)) crash);
  since = λ k o from to crash. ⊎_elim
      (λ (before : k < b.moment). at_first k o from (omega (arith, before)) (second.earlier k o before crash))
      (λ (behind : b.moment ≤ k). ⊎_elim
      (λ early. at_first b.moment o first.later (omega arith) early)
      (λ some. inr some)
      (second.since k o behind to crash))
      (cases_lt k b.moment);
  now = second.now;
  faults = omega (arith, first.faults, second.faults);
}
  where
    at_first : (k : ℕ) (o : Left Stored) → a.moment ≤ k → k ≤ b.moment → b.crash k o → a.crash a.moment o
        ⊎ IsAfterSome (in_short found) changes reached o
    at_first k o from to crash = ⊎_elim (λ early. inl early)
        (λ some. inr (none_of_none (in_short found) changes reached o some)) (first.since k o from to crash)

false_not_true : {P : Type 0} → false ≡ true → P
false_not_true h = cc

left_of_none : (found o : Left Stored) → IsAfterSome found [] 0 o → o ≡ found
left_of_none found o some =
    let none : some.0 ≡ 0 = omega (arith, some.1) in
    let is : o ≡ after_all found (take some.0 []) = some.2 in
    rw none at is

-- what was at rest still is, where nothing changed
pub stays : (found : Found) (a b : Store) → Passes found [] 0 0 a b → (false ≡ true) ⊎ IsSettled (in_short found) a
    → IsSettled (in_short found) b
stays found a b kept (inl opened) o crashed = false_not_true opened
stays found a b kept (inr rests) o crashed = ⊎_elim
    (λ early. rests o early)
    (λ some. left_of_none (in_short found) o some)
    (kept.since b.moment o kept.later (omega arith) crashed)

-- an open replica is found as itself
pub open_now : (known : Known) → IsNow (in_short (found_open known)) (Some (found_open known))
open_now known = refl

-- and what is found needs what it needs
pub needs_itself : (found : Found) → NeedsNow found [] found
needs_itself Blank = tt
needs_itself (Damaged disk place) = tt
needs_itself (Stands x) = λ xs y. refl

-- none of no steps is too long
pub none_fit : (found : Found) (changes : List Change) → Fit found changes 0
none_fit found changes n need limit low over = absurd (omega (arith, low))
