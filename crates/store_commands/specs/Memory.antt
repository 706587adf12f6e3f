-- What is known of a store in memory.
use Rattle.std.specs.Prelude.{◌≡◌, ℕ, Bool, true, false, if◌then◌else◌, [], Option, Some, None, refl}
use Rattle.conflicts.specs.State.{State}
use Rattle.replica_core.specs.Memory.{known_in_memory}
use Rattle.replica_core.specs.Replica.{Blank as LeftBlank, Found as Left, Known, Stands as LeftStands, Stored, state_in}
use Rattle.replica_core.specs.Replica.{stored_as, stored_in}
use Rattle.store_commands.specs.Compacting.{Image}
use Rattle.store_commands.specs.Found.{Blank, Found, Stands, Store, standing_in}
use Rattle.store_commands.specs.Store.{MayStay}
use Rattle.store_commands.specs.declared.memory.MemOpened.{MemOpened}
use Rattle.store_commands.specs.declared.memory.MemStore.{MemStore}

-- it is never closed, needs no bytes, and no disk of it fails
abbrev pub known_open : MemOpened → Known
known_open r =
    record {
      state = (known_in_memory r.replica).state;
      need = λ steps step. 0;
      limit = r.limit;
      faults = 0;
      moment = 0;
      opened = true;
    }

-- nothing is staged
abbrev pub is_flushed : MemOpened → Type 0
is_flushed r = r.staged ≡ false

-- where nothing is staged, what is kept is its state
abbrev pub KeptIf : Bool → State → State → Type 0
KeptIf true state kept = Unit {0}
KeptIf false state kept = kept ≡ state

abbrev pub stages_open : MemOpened → State → Type 0
stages_open r kept = KeptIf r.staged (state_in (known_open r)) kept

-- it keeps no image: what stands for one has no bytes and says no step
abbrev pub no_bytes : Image
no_bytes = record { length = 0; steps = [] }

-- a crash leaves its state and its limit; while steps are staged there is none
abbrev pub LeftIf : Bool → Stored → Left Stored → Type 0
LeftIf true stored o = ⊥
LeftIf false stored o = o ≡ LeftStands stored

abbrev pub left_open : MemOpened → ℕ → Left Stored → Type 0
left_open r k o = LeftIf r.staged (stored_in (known_open r)) o

-- what stands is told, but while steps are staged
abbrev pub found_in : Option MemOpened → Option Found
found_in None = Some Blank
found_in (Some r) = if r.staged then None else Some (Stands (standing_in (known_open r)))

abbrev pub left_in : Option MemOpened → ℕ → Left Stored → Type 0
left_in None k o = o ≡ LeftBlank
left_in (Some r) k o = left_open r k o

-- it has no files
abbrev pub store_known : MemStore → Store
store_known s =
    record {
      found = found_in s.opened;
      crash = left_in s.opened;
      moment = 0;
      faults = 0;
      bytes = Some [];
    }

may_stay_if : (staged : Bool) (known : Known)
    → MayStay (record {
      found = if staged then None else Some (Stands (standing_in known));
      crash = λ k o. LeftIf staged (stored_in known) o;
      moment = 0;
      faults = 0;
      bytes = Some [];
    }) (if staged then None else Some (Stands (standing_in known)))
may_stay_if true known = tt
may_stay_if false known = refl

may_stay_in : (opened : Option MemOpened)
    → MayStay (record {
      found = found_in opened;
      crash = left_in opened;
      moment = 0;
      faults = 0;
      bytes = Some [];
    }) (found_in opened)
may_stay_in None = refl
may_stay_in (Some r) = may_stay_if r.staged (known_open r)

pub may_stay : (s : MemStore) → MayStay (store_known s) (store_known s).found
may_stay s = may_stay_in s.opened

-- ---- the laws of its replica

settled_if : (staged : Bool) (stored : Stored) (found : Left Stored) → staged ≡ false → LeftIf staged stored found
    → found ≡ LeftStands stored
settled_if true stored found ready left = absurd left
settled_if false stored found ready left = left

pub settled_open : (r : MemOpened) (found : Left Stored) → is_flushed r → left_open r 0 found
    → found ≡ LeftStands (stored_in (known_open r))
settled_open r found ready left = settled_if r.staged (stored_in (known_open r)) found ready left

none_if : (staged : Bool) (s : State) → KeptIf staged s s
none_if true s = tt
none_if false s = refl

pub none_staged : (r : MemOpened) → is_flushed r → stages_open r (state_in (known_open r))
none_staged r ready = none_if r.staged (state_in (known_open r))

leaves_if : (staged : Bool) (s kept : State) (limit : ℕ) (found : Left Stored) → KeptIf staged s kept
    → LeftIf staged (record { state = s; limit = limit }) found → found ≡ LeftStands (record { state = kept; limit = limit })
leaves_if true s kept limit found keeps left = absurd left
leaves_if false s kept limit found keeps left = rw keeps left

pub staged_leaves : (r : MemOpened) (kept : State) (found : Left Stored) → stages_open r kept → left_open r 0 found
    → found ≡ LeftStands (stored_as (known_open r) kept)
staged_leaves r kept found keeps left = leaves_if r.staged (state_in (known_open r)) kept r.limit found keeps left
