-- The byte of the root while it is written: whatever a crash leaves of it names one of the two images.
use Rattle.std.proofs.Common.{◌≡◌, ◌≢◌, ◌⊎◌, ⊎_elim, inl, inr, ℕ, ◌≤◌, ◌%◌, ◌==◌, Bool, true, false, cond, List, []}
use Rattle.std.proofs.Common.{◌∷◌, Result, Ok, Err, OnOk, length, get_or, refl, ◌∙◌, arith}
use Rattle.disk_model.specs.Disk.{Torn, overwritten}
use Rattle.disk_model.specs.Device.{File, IsSettled}
use Rattle.disks.specs.declared.name.DiskName.{DiskName}
use Rattle.disks.specs.declared.name.DiskName.TheVariants.{Root, Left, Right}
use Rattle.disks.specs.declared.trio.Trio.{Trio}
use Rattle.disks.specs.Trio.{pick}
use Rattle.journal.specs.Image.{Head, ReadsAs}
use Rattle.volume.specs.Store.{chosen, Names, found_of}
use Rattle.volume.specs.Store.FoundImages.{Stands}
use Rattle.volume.proofs.Finding.{found_standing}

-- a list of one item, and one of at most one
one_item : (bytes : List ℕ) → length bytes ≡ 1 → bytes ≡ get_or bytes 0 0 ∷ []
one_item [] e = absurd (omega (arith, e))
one_item (b ∷ []) e = refl
one_item (b ∷ c ∷ rest) e = absurd (omega (arith, e))

none_or_one : (bytes : List ℕ) → length bytes ≤ 1 → (bytes ≡ []) ⊎ (bytes ≡ get_or bytes 0 0 ∷ [])
none_or_one [] h = inl refl
none_or_one (b ∷ []) h = inr refl
none_or_one (b ∷ c ∷ rest) h = absurd (omega (arith, h))

-- a root of one byte keeps one while it is written over
pub torn_byte : (byte : ℕ) (root : List ℕ) → Torn 0 1 (byte ∷ []) root → root ≡ get_or root 0 0 ∷ []
torn_byte byte root t = one_item root (omega (arith, t.no_shorter, t.no_longer))

-- an empty root stays empty or gets one byte
pub torn_empty : (root : List ℕ) → Torn 0 1 [] root → (root ≡ []) ⊎ (root ≡ get_or root 0 0 ∷ [])
torn_empty root t = none_or_one root (omega (arith, t.no_longer))

-- one byte written at the start is all of a root that had no more
pub byte_written : (root : List ℕ) (byte : ℕ) → length root ≤ 1 → overwritten root 0 (byte ∷ []) ≡ byte ∷ []
byte_written [] byte h = refl
byte_written (b ∷ []) byte h = refl
byte_written (b ∷ c ∷ rest) byte h = absurd (omega (arith, h))

-- the byte was written and synced
pub named : {T E : Type 0} (result : Result T E) (side : DiskName) (byte : ℕ) (old new : File) → chosen byte ≡ side
    → length old.seen ≤ 1
    → OnOk result (new.seen ≡ overwritten old.seen 0 (byte ∷ [])) → OnOk result (IsSettled new)
    → OnOk result (Names side new)
named (Err e) side byte old new lowest short written durable = tt
named (Ok x) side byte old new lowest short written durable = record {
  byte = byte;
  lowest = lowest;
  seen = written ∙ byte_written old.seen byte short;
  durable = durable;
}

-- each byte names one of the two
named_one : (lowest : Bool) (side other : DiskName) → side ≢ Root → other ≢ Root → side ≢ other
    → (cond lowest Left Right ≡ side) ⊎ (cond lowest Left Right ≡ other)
named_one lowest Root other a b c = absurd (a refl)
named_one lowest side Root a b c = absurd (b refl)
named_one lowest Left Left a b c = absurd (c refl)
named_one lowest Right Right a b c = absurd (c refl)
named_one true Left Right a b c = inl refl
named_one false Left Right a b c = inr refl
named_one true Right Left a b c = inr refl
named_one false Right Left a b c = inl refl

pub one_of_two : (byte : ℕ) (side other : DiskName) → side ≢ Root → other ≢ Root → side ≢ other → (chosen byte ≡ side)
    ⊎ (chosen byte ≡ other)
one_of_two byte side other a b c = named_one (byte % 2 == 0) side other a b c

-- the root is not an image
pub never_root : (byte : ℕ) (side : DiskName) → chosen byte ≡ side → side ≢ Root
never_root byte side names e = not_named (byte % 2 == 0) (names ∙ e)
  where
    not_named : (lowest : Bool) → cond lowest Left Right ≢ Root
    not_named true e = absurd (cc e)
    not_named false e = absurd (cc e)

-- whichever of two whole images a byte names, it is found
pub either_found : (files : Trio (List ℕ)) (byte : ℕ) (side other : DiskName) (f g : ℕ) (h k : Head)
    (bs cs : List (List ℕ)) → files.root ≡ byte ∷ []
    → side ≢ Root → other ≢ Root → side ≢ other → ReadsAs f h bs (pick side files) → ReadsAs g k cs (pick other files)
    → (found_of files ≡ Stands side f h bs) ⊎ (found_of files ≡ Stands other g k cs)
either_found files byte side other f g h k bs cs e a b c one two =
    ⊎_elim
    (λ names. inl (found_standing files side byte f h bs e names one))
    (λ names. inr (found_standing files other byte g k cs e names two))
    (one_of_two byte side other a b c)
