-- The root was read, and then the image that it names.
use Rattle.std.specs.Prelude.{IsTrue}
use Rattle.std.proofs.Common.{◌≡◌, ◌≢◌, ⊎_elim, ℕ, ◌<◌, ◌≤◌, Bool, true, false, List, [], ◌∷◌, length, Some, None}
use Rattle.std.proofs.Common.{Result, Ok, Err, IfOk, refl, sym, ◌∙◌, ap, subst, arith}
use Rattle.disk_model.specs.Device.{File, IsSettled, StaysSettled}
use Rattle.disk_model.specs.Front.{front_of}
use Rattle.disk_model.specs.declared.synced.Front.{Front}
use Rattle.disks.specs.declared.name.DiskName.{DiskName}
use Rattle.disks.specs.declared.name.DiskName.TheVariants.{Root, Left, Right}
use Rattle.disks.specs.declared.trio.Trio.{Trio}
use Rattle.disks.specs.Trio.{pick}
use Rattle.disks.specs.Joint.{AreCrashImages, Devices, seen_of, now_of}
use Rattle.disks.specs.Moments.{LeavesTogether, SameElsewhere}
use Rattle.disks.proofs.Trios.{pick_each, is_or_not, same_trio}
use Rattle.disks.proofs.Runs.{narrows}
use Rattle.journal.specs.Image.{Head, ReadsAs}
use Rattle.journal.specs.Journal.{Extent, Holds}
use Rattle.volume.specs.Store.{chosen, Names, IsStore}
use Rattle.volume.specs.Store.FoundImages.{Damaged}
use Rattle.volume.specs.Crashes.{OnlyLooks}
use Rattle.volume.specs.Opening.{OpensStore}
use Rattle.volume.specs.inner.Opening.{RootNames}
use Rattle.disks.specs.declared.fault.OpenFault.{OpenFault}
use Rattle.disks.specs.declared.fault.OpenFault.TheVariants as fault
use Rattle.volume.proofs.Finding.{found_blank, found_long}
use Rattle.volume.proofs.Standing.{still_names, not_root}
use Rattle.volume.proofs.Roots.{never_root}

-- where one disk reads as before and the others are what they were, all three read as before
pub same_reads : (name : DiskName) (old new : Trio File) → (pick name new).seen ≡ (pick name old).seen
    → SameElsewhere name old new → seen_of new ≡ seen_of old
same_reads name old new one rest =
    same_trio (seen_of new) (seen_of old) (λ n.
    pick_each (λ (f : File). f.seen) n new
    ∙ ⊎_elim
    (λ is. subst (λ (m : DiskName). (pick m new).seen ≡ (pick m old).seen) (sym is) one)
    (λ ne. ap (λ (f : File). f.seen) (rest n ne))
    (is_or_not n name)
    ∙ sym (pick_each (λ (f : File). f.seen) n old))

-- where one disk stays settled and the others are what they were, all three stay settled
pub all_settled : (name : DiskName) (old new : Trio File) → StaysSettled (pick name old) (pick name new)
    → SameElsewhere name old new → (other : DiskName) → StaysSettled (pick other old) (pick other new)
all_settled name old new one rest other settled =
    ⊎_elim
    (λ is. subst (λ (n : DiskName). IsSettled (pick n new)) (sym is)
    (one (subst (λ (n : DiskName). IsSettled (pick n old)) is settled)))
    (λ ne. subst IsSettled (sym (rest other ne)) settled)
    (is_or_not other name)

-- one look
pub looks : (name : DiskName) (old new : Devices) → (pick name new.files).seen ≡ (pick name old.files).seen
    → StaysSettled (pick name old.files) (pick name new.files) → SameElsewhere name old.files new.files
    → LeavesTogether old new (AreCrashImages (now_of old.files)) → OnlyLooks old new
looks name old new one settled rest run = record {
  seen = same_reads name old.files new.files one rest;
  leaves = run;
  settled = all_settled name old.files new.files settled rest;
}

-- where all three read as before, one does
pub one_read : (name : DiskName) (old new : Trio File) → seen_of new ≡ seen_of old
    → (pick name new).seen ≡ pick name (seen_of old)
one_read name old new same =
    sym (pick_each (λ (f : File). f.seen) name new) ∙ ap (λ (t : Trio (List ℕ)). pick name t) same

-- one look after another
pub looks_on : (old mid new : Devices) → OnlyLooks old mid → OnlyLooks mid new → OnlyLooks old new
looks_on old mid new first then = record {
  seen = then.seen ∙ first.seen;
  leaves = narrows old mid new first.leaves then.leaves;
  settled = λ name before. then.settled name (first.settled name before);
}

-- how a file that is not empty begins
front_some : (bytes : List ℕ) (front : Front) → front_of bytes ≡ Some front → (rest : List ℕ)
    × (bytes ≡ front.first ∷ rest) × (front.length ≡ length bytes)
front_some [] front e = absurd (cc e)
front_some (byte ∷ rest) front e =
    let parts : front ≡ record { first = byte; length = length (byte ∷ rest) } = cc e in
    (rest, ap (λ (f : Front). f.first ∷ rest) (sym parts), ap (λ (f : Front). f.length) parts)

front_none : (bytes : List ℕ) → front_of bytes ≡ None → bytes ≡ []
front_none [] e = refl
front_none (byte ∷ rest) e = absurd (cc e)

nothing_more : (rest : List ℕ) → length rest ≤ 0 → rest ≡ []
nothing_more [] h = refl
nothing_more (byte ∷ rest) h = absurd (omega (arith, h))

-- an empty root
pub blank_names : (root : List ℕ) → front_of root ≡ None → RootNames root (Err fault.Blank)
blank_names root e = front_none root e

-- one that is not empty
pub not_blank : (root : List ℕ) (front : Front) → front_of root ≡ Some front → root ≢ []
not_blank [] front e n = absurd (cc e)
not_blank (byte ∷ rest) front e n = absurd (cc n)

-- a root of one byte
pub one_names : (root : List ℕ) (front : Front) (side : DiskName) → front_of root ≡ Some front → front.length ≤ 1
    → chosen front.first ≡ side → RootNames root (Ok side)
one_names root front side e short names =
    let is = front_some root front e in
    let none : is.0 ≡ [] = nothing_more is.0 (omega (arith, short, is.2, ap length is.1)) in
    (front.first, is.1 ∙ ap (λ (rest : List ℕ). front.first ∷ rest) none, names)

-- a root of more
two_bytes : (root : List ℕ) → 1 < length root → (byte : ℕ) × (second : ℕ) × (rest : List ℕ)
    × (root ≡ byte ∷ second ∷ rest)
two_bytes [] h = absurd (omega (arith, h))
two_bytes (byte ∷ []) h = absurd (omega (arith, h))
two_bytes (byte ∷ second ∷ rest) h = (byte, second, rest, refl)

pub long_names : (root : List ℕ) (front : Front) → front_of root ≡ Some front → 1 < front.length
    → RootNames root (Err (fault.Damaged Root 1))
long_names root front e long = (refl, refl, two_bytes root (omega (arith, long, (front_some root front e).2)))

pub some_long : (root : List ℕ) × RootNames root (Err (fault.Damaged Root 1))
some_long = (0 ∷ 0 ∷ [], (refl, refl, (0, 0, [], refl)))

pub some_one : (byte : ℕ) (side : DiskName) → chosen byte ≡ side → (root : List ℕ) × RootNames root (Ok side)
some_one byte side names = (byte ∷ [], (byte, refl, names))

-- what a root names is an image
pub names_image : (root : List ℕ) (result : Result DiskName OpenFault) → RootNames root result
    → IfOk result (λ side. side ≢ Root)
names_image root (Ok side) n = never_root n.0 side n.2
names_image root (Err why) n = tt

-- a root that lies on its disk names it
pub root_names : (root : File) (result : Result DiskName OpenFault) → RootNames root.seen result → IsSettled root
    → IfOk result (λ side. Names side root)
root_names root (Ok side) n settled = record { byte = n.0; lowest = n.2; seen = n.1; durable = settled }
root_names root (Err why) n settled = tt

-- a word that is told has a witness whether or not it is told: what the disk holds, or what would give the answer
pub witnessed : {A : Type 0} (tells : Bool) (told other : A) (P : A → Type 0) → (IsTrue tells → P told) → P other
    → (x : A) × (IsTrue tells → x ≡ told) × P x
witnessed true told other P p q = (told, (λ t. refl), p refl)
witnessed false told other P p q = (other, (λ t. absurd (cc t)), q)

-- three files of which the root and one image were read; the other image is open
abbrev read_of : List ℕ → List ℕ → Trio (List ℕ)
read_of root stored = record { root = root; left = stored; right = stored }

pick_read : (side : DiskName) (root stored : List ℕ) → side ≢ Root → pick side (read_of root stored) ≡ stored
pick_read Root root stored ne = absurd (ne refl)
pick_read Left root stored ne = refl
pick_read Right root stored ne = refl

-- what follows from the bytes of the root and of its image holds of three files, which are those that are told
pub read_files : (tells : Bool) (told : Trio (List ℕ)) (root stored : List ℕ) (side : DiskName) (byte : ℕ)
    (P : Trio (List ℕ) → Type 0)
    → (IsTrue tells → root ≡ told.root) → (IsTrue tells → stored ≡ pick side told) → root ≡ byte ∷ []
    → chosen byte ≡ side
    → ((files : Trio (List ℕ)) → files.root ≡ byte ∷ [] → pick side files ≡ stored → P files)
    → (files : Trio (List ℕ)) × (IsTrue tells → files ≡ told) × P files
read_files tells told root stored side byte P root_is stored_is one names then =
    witnessed tells told (read_of root stored) P
    (λ t. then told (sym (root_is t) ∙ one) (sym (stored_is t)))
    (then (read_of root stored) one (pick_read side root stored (never_root byte side names)))

-- a root that names no image
root_fault : (root : List ℕ) (files : Trio (List ℕ)) (why : OpenFault) → files.root ≡ root → RootNames root (Err why)
    → OpensStore files (Err why)
root_fault root files fault.Blank e n = found_blank files (e ∙ n)
root_fault root files (fault.Damaged disk place) e n =
    found_long files n.2.0 n.2.1 n.2.2 (e ∙ n.2.3) ∙ ap (λ (d : DiskName). Damaged d 1) (sym n.0)
    ∙ ap (Damaged disk) (sym n.1)
root_fault root files fault.Disk e n = tt
root_fault root files fault.Memory e n = tt

pub read_root : (tells : Bool) (told : Trio (List ℕ)) (root : List ℕ) (why : OpenFault)
    → (IsTrue tells → root ≡ told.root) → RootNames root (Err why)
    → (files : Trio (List ℕ)) × (IsTrue tells → files ≡ told) × OpensStore files (Err why)
read_root tells told root why is n =
    witnessed tells told (read_of root root) (λ files. OpensStore files (Err why))
    (λ t. root_fault root told why (sym (is t)) n)
    (root_fault root (read_of root root) why refl n)

-- the root names this side, and its image was opened
pub opened_store : (journal : Extent) (side : DiskName) (format : ℕ) (head : Head) (bodies : List (List ℕ))
    (mid new : Trio File) → side ≢ Root
    → Names side mid.root → SameElsewhere side mid new → Holds journal format head bodies (pick side new)
    → IsStore journal side format head bodies new
opened_store journal side format head bodies mid new ne n same h = record {
  names = still_names side side mid new same (not_root side ne) n;
  image = h;
}

-- what stood before some looks still stands after them
pub still_stands : (journal : Extent) (side : DiskName) (format : ℕ) (head : Head) (bodies : List (List ℕ))
    (old new : Devices) → OnlyLooks old new
    → IsStore journal side format head bodies old.files → IsStore journal side format head bodies new.files
still_stands journal side format head bodies old new looks store =
    let reads = λ (name : DiskName). one_read name old.files new.files looks.seen
    ∙ pick_each (λ (f : File). f.seen) name old.files in
    record {
      names = record {
        byte = store.names.byte;
        lowest = store.names.lowest;
        seen = reads Root ∙ store.names.seen;
        durable = looks.settled Root store.names.durable;
      };
      image = record {
        reads = subst (ReadsAs format head bodies) (sym (reads side)) store.image.reads;
        extent = store.image.extent;
        durable = looks.settled side store.image.durable;
      };
    }
