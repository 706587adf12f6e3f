-- A body is added to the image that the root names, or many together.
use Rattle.std.proofs.Common.{◌≡◌, ◌≢◌, ◌⊎◌, ⊎_elim, inl, inr, ℕ, List, [], ◌∷◌, ◌++◌, Result, Ok, Err, OnOk, sym}
use Rattle.std.proofs.Common.{subst}
use Rattle.disk_model.specs.Device.{File}
use Rattle.disks.specs.declared.name.DiskName.{DiskName}
use Rattle.disks.specs.declared.name.DiskName.TheVariants.{Root}
use Rattle.disks.specs.declared.trio.Trio.{Trio}
use Rattle.disks.specs.Trio.{pick}
use Rattle.disks.specs.Joint.{Devices, now_of}
use Rattle.disks.specs.Moments.{LeavesTogether, ChangedOnly, SameElsewhere}
use Rattle.disks.proofs.Runs.{weaker}
use Rattle.journal.specs.Entries.{HoldsAllMore}
use Rattle.journal.specs.Image.{Head, ReadsWithOrWithoutAll}
use Rattle.journal.specs.Journal.{Extent, Holds, HoldsOneMore}
use Rattle.volume.specs.Store.{IsStore, found_of}
use Rattle.volume.specs.Store.FoundImages.{Stands}
use Rattle.volume.specs.Crashes.{StandsAllMore, StandsOneMore}
use Rattle.volume.proofs.Finding.{found_standing}
use Rattle.volume.proofs.Standing.{root_left, still_names, not_root}

-- while these bodies are added
pub all_run : (more : List (List ℕ)) (side : DiskName) (format : ℕ) (head : Head) (bodies : List (List ℕ))
    (old new : Devices) (journal : Extent) → side ≢ Root → IsStore journal side format head bodies old.files
    → LeavesTogether old new (ChangedOnly side (ReadsWithOrWithoutAll more format head bodies) (now_of old.files))
    → LeavesTogether old new (λ files. (found_of files ≡ Stands side format head bodies)
    ⊎ (found_of files ≡ Stands side format head (bodies ++ more)))
all_run more side format head bodies old new journal ne s run =
    weaker old new (ChangedOnly side (ReadsWithOrWithoutAll more format head bodies) (now_of old.files))
    (λ files. (found_of files ≡ Stands side format head bodies)
    ⊎ (found_of files ≡ Stands side format head (bodies ++ more))) run
    (λ images c.
    let root : images.root ≡ s.names.byte ∷ [] =
    root_left side old.files.root images.root s.names (c.elsewhere Root (not_root side ne)) in
    ⊎_elim
    (λ without. inl (found_standing images side s.names.byte format head bodies root s.names.lowest without))
    (λ with_them. inr (found_standing images side s.names.byte format head
    (bodies ++ more) root s.names.lowest with_them))
    c.there)

-- all of them were added
pub all_more : {T E : Type 0} (result : Result T E) (spelled : List ℕ) (side : DiskName) (journal next : Extent)
    (old new : Trio File) (before after : File) → side ≢ Root
    → SameElsewhere side old new → before ≡ pick side old → after ≡ pick side new
    → OnOk result (HoldsAllMore spelled journal next before after)
    → OnOk result (StandsAllMore spelled side journal next old new)
all_more (Err e) spelled side journal next old new before after ne same was is held = tt
all_more (Ok x) spelled side journal next old new before after ne same was is held =
    λ more are format head bodies s. record {
      names = still_names side side old new same (not_root side ne) s.names;
      image = subst (Holds next format head (bodies ++ more)) is
          (held more are format head bodies (subst (Holds journal format head bodies) (sym was) s.image));
    }

-- the body was added
pub one_more : {T E : Type 0} (result : Result T E) (body : List ℕ) (side : DiskName) (journal next : Extent)
    (old new : Trio File) (before after : File) → side ≢ Root
    → SameElsewhere side old new → before ≡ pick side old → after ≡ pick side new
    → OnOk result (HoldsOneMore body journal next before after)
    → OnOk result (StandsOneMore body side journal next old new)
one_more (Err e) body side journal next old new before after ne same was is more = tt
one_more (Ok x) body side journal next old new before after ne same was is more =
    λ format head bodies s. record {
      names = still_names side side old new same (not_root side ne) s.names;
      image = subst (Holds next format head (bodies ++ body ∷ [])) is
          (more format head bodies (subst (Holds journal format head bodies) (sym was) s.image));
    }
