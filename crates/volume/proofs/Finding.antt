-- What is found of three files, by their bytes.
use Rattle.std.proofs.Common.{◌≡◌, ⊎_elim, inl, inr, ℕ, List, [], ◌∷◌, refl, sym, ◌∙◌, ap, subst}
use Rattle.disks.specs.declared.name.DiskName.{DiskName}
use Rattle.disks.specs.declared.name.DiskName.TheVariants.{Root}
use Rattle.disks.specs.declared.trio.Trio.{Trio}
use Rattle.disks.specs.Trio.{pick}
use Rattle.journal.specs.Image.{Head, ReadsAs}
use Rattle.journal.specs.Damage.{DamagedAt}
use Rattle.journal.specs.Opening.{Finds}
use Rattle.journal.specs.Reader.{Reading, read_image}
use Rattle.journal.specs.Reader.Reading.{Damaged as Broken, Stands as Reads}
use Rattle.journal.proofs.Readings.{found, reads_found, damaged_found}
use Rattle.volume.specs.Store.{chosen, FoundImages, found_in, found_by, found_of}
use Rattle.volume.specs.Store.FoundImages.{Blank, Damaged, Stands}
use Rattle.volume.specs.Laws.{IsFound}

-- an empty root
pub found_blank : (files : Trio (List ℕ)) → files.root ≡ [] → found_of files ≡ Blank
found_blank files e = ap (λ (root : List ℕ). found_by root files) e

-- a root that has a second byte
pub found_long : (files : Trio (List ℕ)) (byte second : ℕ) (rest : List ℕ) → files.root ≡ byte ∷ second ∷ rest
    → found_of files ≡ Damaged Root 1
found_long files byte second rest e = ap (λ (root : List ℕ). found_by root files) e

-- a root of one byte, which names this image
pub found_named : (files : Trio (List ℕ)) (side : DiskName) (byte : ℕ) → files.root ≡ byte ∷ [] → chosen byte ≡ side
    → found_of files ≡ found_in side (read_image (pick side files))
found_named files side byte e names =
    ap (λ (root : List ℕ). found_by root files) e ∙ ap (λ (n : DiskName). found_in n (read_image (pick n files))) names

pub found_standing : (files : Trio (List ℕ)) (side : DiskName) (byte format : ℕ) (head : Head) (bodies : List (List ℕ))
    → files.root ≡ byte ∷ []
    → chosen byte ≡ side → ReadsAs format head bodies (pick side files)
    → found_of files ≡ Stands side format head bodies
found_standing files side byte format head bodies e names reads =
    found_named files side byte e names ∙ ap (found_in side) (reads_found (pick side files) format head bodies reads)

pub found_damaged : (files : Trio (List ℕ)) (side : DiskName) (byte place : ℕ) → files.root ≡ byte ∷ []
    → chosen byte ≡ side → DamagedAt place (pick side files) → found_of files ≡ Damaged side place
found_damaged files side byte place e names damaged =
    found_named files side byte e names ∙ ap (found_in side) (damaged_found (pick side files) place damaged)

-- what the named image reads as says what is found
by_reading : (files : Trio (List ℕ)) (byte : ℕ) (r : Reading) → files.root ≡ byte ∷ []
    → Finds (pick (chosen byte) files) r → IsFound files (found_in (chosen byte) r)
by_reading files byte (Broken place) e finds = inr (byte, e, refl, finds)
by_reading files byte (Reads format head bodies) e finds = (byte, e, refl, finds)

by_bytes : (files : Trio (List ℕ)) (root : List ℕ) → files.root ≡ root → IsFound files (found_by root files)
by_bytes files [] e = e
by_bytes files (byte ∷ []) e = by_reading files byte (read_image (pick (chosen byte) files)) e
    (found (pick (chosen byte) files))
by_bytes files (byte ∷ second ∷ rest) e = inl (refl, refl, (byte, second, rest, e))

-- what is found says what the files are
pub found_is : (files : Trio (List ℕ)) (what : FoundImages) → found_of files ≡ what → IsFound files what
found_is files what e = subst (IsFound files) e (by_bytes files files.root refl)

-- and what the files are says what is found
pub is_found : (files : Trio (List ℕ)) (what : FoundImages) → IsFound files what → found_of files ≡ what
is_found files Blank e = found_blank files e
is_found files (Damaged disk place) i =
    ⊎_elim
    (λ long. found_long files long.2.0 long.2.1 long.2.2 long.2.3 ∙ ap (λ (n : DiskName). Damaged n 1) (sym long.0)
    ∙ ap (Damaged disk) (sym long.1))
    (λ one. found_damaged files disk one.0 place one.1 one.2 one.3)
    i
is_found files (Stands side format head bodies) i = found_standing files side i.0 format head bodies i.1 i.2 i.3
