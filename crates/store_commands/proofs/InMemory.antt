-- A store in memory that is opened, made, compacted or closed, and what its replica stages.
use Rattle.std.proofs.Common.{◌≡◌, ℕ, [], ◌∷◌, Option, Some, None, Ok, true, false, refl, sym, ap, ◌∙◌, subst, inr, arith}
use Rattle.std.specs.Prelude.{Bool, if◌then◌else◌, is_some}
use Rattle.conflicts.specs.State.{State, Text, state_of}
use Rattle.replica_core.specs.Memory.{known_in_memory}
use Rattle.replica_core.specs.Replica.{Found as Left, Stands as LeftStands, Stored, state_in, stored_in}
use Rattle.vector_rev.specs.Counts.{Uid}
use Rattle.store_commands.specs.Changes.{IsNeeded, IsNow}
use Rattle.store_commands.specs.Compacting.{Compacts}
use Rattle.store_commands.specs.Found.{Found, IsTold, Stands, in_short, standing_in}
use Rattle.store_commands.specs.Memory.{is_flushed, known_open, left_open, no_bytes, store_known}
use Rattle.store_commands.specs.Store.{Exists, MadeAnew, Opens}
use Rattle.store_commands.specs.declared.memory.MemOpened.{MemOpened}
use Rattle.store_commands.specs.declared.memory.MemStore.{MemStore}
use Rattle.store_commands.proofs.Moving.{needs_itself, unmoved}

pub none_there : {A : Type 0} (o : Option A) → is_some o ≡ false → o ≡ None
none_there None is = refl
none_there (Some x) is = absurd (cc)

pub made_in_memory : (s new : MemStore) (r : MemOpened) (name : Text) (uid : Uid) (limit : ℕ) → s.opened ≡ None
    → new.opened ≡ Some r → r.staged ≡ false
    → state_in (known_in_memory r.replica) ≡ state_of name uid [] → r.limit ≡ limit
    → MadeAnew name uid limit (store_known s) (store_known new)
made_in_memory s new r name uid limit none made flushed state is_limit =
    let same : LeftStands (stored_in (known_open r))
    ≡ LeftStands (record { state = state_of name uid []; limit = limit }) =
    ap (λ (x : State). LeftStands (record { state = x; limit = r.limit })) state
    ∙ ap (λ (n : ℕ). LeftStands (record { state = state_of name uid []; limit = n })) is_limit in
    record {
      told = rw none refl;
      passes = record {
        stood_reached = omega arith;
        within = omega arith;
        later = omega arith;
        earlier = λ k o before crashed. absurd (omega (arith, before));
        since = λ k o from to crashed. inr (1, omega arith, rw (made, flushed) at crashed ∙ same);
        now = rw (made, flushed) same;
        faults = omega arith;
      };
      settled = λ o crashed. rw (made, flushed) at crashed ∙ same;
    }

-- ---- one that stands

some_there : {A : Type 0} (o : Option A) → is_some o ≡ true → (x : A) × (o ≡ Some x)
some_there None is = absurd (cc)
some_there (Some x) is = (x, refl)

abbrev stands_in : MemOpened → Found
stands_in r = Stands (standing_in (known_open r))

told_by : (staged : Bool) (found : Found) → IsTold (if staged then None else Some found) found
told_by true found = tt
told_by false found = refl

now_by : (staged : Bool) (found : Found) → IsNow (in_short found) (if staged then None else Some found)
now_by true found = tt
now_by false found = refl

needs_by : (staged : Bool) (found : Found) → IsNeeded found [] (if staged then None else Some found)
needs_by true found = tt
needs_by false found = needs_itself found

exists_so : (r : MemOpened) → Exists (store_known (record { opened = Some r })) (store_known (record { opened = Some r }))
exists_so r = record {
  found = stands_in r;
  told = told_by r.staged (stands_in r);
  keeps = record {
    passes = unmoved (stands_in r) [] (store_known (record { opened = Some r })) (now_by r.staged (stands_in r));
    need = needs_by r.staged (stands_in r);
  };
  there = refl;
  untouched = refl;
}

pub exists_in_memory : (s : MemStore) → is_some s.opened ≡ true → Exists (store_known s) (store_known s)
exists_in_memory s is =
    let some = some_there s.opened is in
    subst (λ (o : Option MemOpened). Exists (store_known (record { opened = o })) (store_known (record { opened = o })))
    (sym some.1) (exists_so some.0)

-- it is opened with nothing staged
opens_so : (r : MemOpened) → Opens (store_known (record { opened = Some r }))
    (known_open (record r { staged = false })) (left_open (record r { staged = false }))
    (is_flushed (record r { staged = false }))
opens_so r = record {
  told = told_by r.staged (stands_in r);
  keeps = record {
    passes = record {
      stood_reached = omega arith;
      within = omega arith;
      later = omega arith;
      earlier = λ k o before crashed. absurd (omega (arith, before));
      since = λ k o from to crashed. inr (0, omega arith, crashed);
      now = refl;
      faults = omega arith;
    };
    need = λ xs y. refl;
  };
  opened = refl;
}

pub opened_in_memory : (s : MemStore) (r : MemOpened) → s.opened ≡ Some r
    → Opens (store_known s) (known_open (record r { staged = false })) (left_open (record r { staged = false }))
    (is_flushed (record r { staged = false }))
opened_in_memory s r is =
    subst (λ (o : Option MemOpened). Opens (store_known (record { opened = o }))
    (known_open (record r { staged = false })) (left_open (record r { staged = false }))
    (is_flushed (record r { staged = false }))) (sym is) (opens_so r)

pub opened_by : (s : MemStore) (r new : MemOpened) → s.opened ≡ Some r → new ≡ record r { staged = false }
    → Opens (store_known s) (known_open new) (left_open new) (is_flushed new)
opened_by s r new is made =
    subst (λ (m : MemOpened). Opens (store_known s) (known_open m) (left_open m) (is_flushed m)) (sym made)
    (opened_in_memory s r is)

-- what stands for its image has no bytes, and a compaction leaves its state
pub kept_in_memory : (r : MemOpened) → is_flushed r
    → Compacts known_open is_flushed left_open (λ (m : MemOpened). Some no_bytes) r r
    (Ok (record { before = 0; after = 0 }))
kept_in_memory r flushed = record {
  stored = refl;
  later = omega arith;
  any_moment = record {
    later = omega arith;
    same = λ k o before crashed. crashed;
    added = λ k o from to crashed. rw flushed at crashed;
  };
  ends = (flushed, record { before_long = refl; after_long = refl; steps = refl });
}
