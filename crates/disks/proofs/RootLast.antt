-- Two images are written, and the root last.
use Rattle.std.proofs.Common.{◌≡◌, ◌≢◌, ◌+◌, inl, inr, ℕ, List, [], ◌∷◌, ◌++◌, Result, Ok, Err, OnOk, length, drop}
use Rattle.std.proofs.Common.{refl, sym, ◌∙◌, ap, subst, arith}
use Rattle.std.proofs.lemmas.List.{append-nil, drop_all}
use Rattle.disk_model.specs.Disk.{Unsynced, IsCrashImage, Torn, overwritten, settled}
use Rattle.disk_model.specs.Device.{File, IsSettled}
use Rattle.disk_model.proofs.Images.{only_settled}
use Rattle.disks.specs.declared.name.DiskName.{DiskName}
use Rattle.disks.specs.declared.name.DiskName.TheVariants.{Root, Left, Right}
use Rattle.disks.specs.declared.trio.Trio.{Trio}
use Rattle.disks.specs.Trio.{pick}
use Rattle.disks.specs.Joint.{Devices, now_of}
use Rattle.disks.specs.Moments.{LeavesTogether, ChangedOnly, SameElsewhere}
use Rattle.disks.specs.inner.RootLast.{AreEmpty, IsRootLast, whole}
use Rattle.disks.proofs.Runs.{begins, goes_on, weaker}

-- a file that holds these bytes has one image
whole_image : (file : File) (bytes image : List ℕ) → file ≡ whole bytes → IsCrashImage file.now image → image ≡ bytes
whole_image file bytes image e i = only_settled bytes image (subst (λ (f : File). IsCrashImage f.now image) e i)

pub whole_settled : (file : File) (bytes : List ℕ) → file ≡ whole bytes → IsSettled file
whole_settled file bytes e = subst IsSettled (sym e) refl

onto_nothing : (bytes : List ℕ) → overwritten [] 0 bytes ≡ bytes
onto_nothing bytes =
    let nothing : List ℕ = [] in let none : drop (0 + length bytes) nothing ≡ [] =
    drop_all (0 + length bytes) nothing (omega arith) in
    ap (λ (l : List ℕ). bytes ++ l) none ∙ append-nil bytes

abbrev with_now : List ℕ → Unsynced → File
with_now seen now = record { seen = seen; now = now }

-- what is written into an empty file is all that it holds
pub put_whole : (old new : File) (bytes : List ℕ) → old ≡ whole [] → new.seen ≡ overwritten old.seen 0 bytes
    → IsSettled new → new ≡ whole bytes
put_whole old new bytes empty written settles =
    let seen : new.seen ≡ bytes = written ∙ ap (λ (f : File). overwritten f.seen 0 bytes) empty ∙ onto_nothing bytes in
    let file : new ≡ whole new.seen = ap (with_now new.seen) settles in
    file ∙ ap whole seen

-- while an image is written the root is still empty
pub image_run : (name : DiskName) (P : List ℕ → Type 0) (image : List ℕ) (old new : Devices) → Root ≢ name
    → old.files.root ≡ whole []
    → LeavesTogether old new (ChangedOnly name P (now_of old.files)) → LeavesTogether old new (IsRootLast image)
image_run name P image old new ne empty run =
    weaker old new (ChangedOnly name P (now_of old.files)) (IsRootLast image) run
    (λ images c. inl (whole_image old.files.root [] images.root empty (c.elsewhere Root ne)))

-- while the root is written both images are there
pub root_run : (P : List ℕ → Type 0) (image : List ℕ) (old new : Devices) → old.files.left ≡ whole image
    → old.files.right ≡ whole image
    → LeavesTogether old new (ChangedOnly Root P (now_of old.files)) → LeavesTogether old new (IsRootLast image)
root_run P image old new left right run =
    weaker old new (ChangedOnly Root P (now_of old.files)) (IsRootLast image) run
    (λ images c. inr (
      whole_image old.files.left image images.left left (c.elsewhere Left (λ e. absurd (cc e))),
      whole_image old.files.right image images.right right (c.elsewhere Right (λ e. absurd (cc e))),
    ))

-- how far the run came: what the image disks hold, while the root is empty
pub record Reached (image left right : List ℕ) (old new : Devices) : Type 0 where
  pub root : new.files.root ≡ whole []
  pub left_is : new.files.left ≡ whole left
  pub right_is : new.files.right ≡ whole right
  pub so_far : LeavesTogether old new (IsRootLast image)

pub begun : (image : List ℕ) (old : Devices) → AreEmpty old.files → Reached image [] [] old old
begun image old empty = record {
  root = empty.root;
  left_is = empty.left;
  right_is = empty.right;
  so_far = begins old (IsRootLast image)
      (λ images i. inl (whole_image old.files.root [] images.root empty.root (i Root)));
}

-- a write of the left image, whether it succeeded or not
pub left_fails : (image : List ℕ) (old mid new : Devices) → Reached image [] [] old mid
    → (IsSettled mid.files.left
    → LeavesTogether mid new (ChangedOnly Left (Torn 0 (length image) mid.files.left.seen) (now_of mid.files)))
    → LeavesTogether old new (IsRootLast image)
left_fails image old mid new r run =
    goes_on old mid new (IsRootLast image) r.so_far
    (image_run Left (Torn 0 (length image) mid.files.left.seen) image mid new (λ e. absurd (cc e)) r.root
    (run (whole_settled mid.files.left [] r.left_is)))

pub image_left : (image : List ℕ) (old mid new : Devices) → Reached image [] [] old mid
    → new.files.left.seen ≡ overwritten mid.files.left.seen 0 image → IsSettled new.files.left
    → SameElsewhere Left mid.files new.files
    → (IsSettled mid.files.left
    → LeavesTogether mid new (ChangedOnly Left (Torn 0 (length image) mid.files.left.seen) (now_of mid.files)))
    → Reached image image [] old new
image_left image old mid new r written settles others run = record {
  root = others Root (λ e. absurd (cc e)) ∙ r.root;
  left_is = put_whole mid.files.left new.files.left image r.left_is written settles;
  right_is = others Right (λ e. absurd (cc e)) ∙ r.right_is;
  so_far = left_fails image old mid new r run;
}

pub right_fails : (image : List ℕ) (old mid new : Devices) → Reached image image [] old mid
    → (IsSettled mid.files.right
    → LeavesTogether mid new (ChangedOnly Right (Torn 0 (length image) mid.files.right.seen) (now_of mid.files)))
    → LeavesTogether old new (IsRootLast image)
right_fails image old mid new r run =
    goes_on old mid new (IsRootLast image) r.so_far
    (image_run Right (Torn 0 (length image) mid.files.right.seen) image mid new (λ e. absurd (cc e)) r.root
    (run (whole_settled mid.files.right [] r.right_is)))

pub image_right : (image : List ℕ) (old mid new : Devices) → Reached image image [] old mid
    → new.files.right.seen ≡ overwritten mid.files.right.seen 0 image → IsSettled new.files.right
    → SameElsewhere Right mid.files new.files
    → (IsSettled mid.files.right
    → LeavesTogether mid new (ChangedOnly Right (Torn 0 (length image) mid.files.right.seen) (now_of mid.files)))
    → Reached image image image old new
image_right image old mid new r written settles others run = record {
  root = others Root (λ e. absurd (cc e)) ∙ r.root;
  left_is = others Left (λ e. absurd (cc e)) ∙ r.left_is;
  right_is = put_whole mid.files.right new.files.right image r.right_is written settles;
  so_far = right_fails image old mid new r run;
}

pub root_written : (image : List ℕ) (old mid new : Devices) → Reached image image image old mid
    → (IsSettled mid.files.root
    → LeavesTogether mid new (ChangedOnly Root (Torn 0 1 mid.files.root.seen) (now_of mid.files)))
    → LeavesTogether old new (IsRootLast image)
root_written image old mid new r run =
    goes_on old mid new (IsRootLast image) r.so_far
    (root_run (Torn 0 1 mid.files.root.seen) image mid new r.left_is r.right_is
    (run (whole_settled mid.files.root [] r.root)))

abbrev trio_of : File → File → File → Trio File
trio_of root left right = record { root = root; left = left; right = right }

by_parts : (files : Trio File) (root left right : File) → files.root ≡ root → files.left ≡ left → files.right ≡ right
    → files ≡ trio_of root left right
by_parts files root left right a b c =
    ap (λ (f : File). trio_of f files.left files.right) a ∙ ap (λ (f : File). trio_of root f files.right) b
    ∙ ap (λ (f : File). trio_of root left f) c

-- where the root was written, all three are there
pub root_whole : {T E : Type 0} (image : List ℕ) (old mid new : Devices) (result : Result T E)
    → Reached image image image old mid
    → OnOk result (new.files.root.seen ≡ overwritten mid.files.root.seen 0 (0 ∷ []))
    → OnOk result (IsSettled new.files.root) → SameElsewhere Root mid.files new.files
    → OnOk result (new.files ≡ record { root = whole (0 ∷ []); left = whole image; right = whole image })
root_whole image old mid new (Err e) r written settles others = tt
root_whole image old mid new (Ok x) r written settles others =
    by_parts new.files (whole (0 ∷ [])) (whole image) (whole image)
    (put_whole mid.files.root new.files.root (0 ∷ []) r.root written settles)
    (others Left (λ e. absurd (cc e)) ∙ r.left_is)
    (others Right (λ e. absurd (cc e)) ∙ r.right_is)
