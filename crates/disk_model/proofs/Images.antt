-- What writes, cuts and syncs do to the images that a crash may leave.
use Rattle.std.proofs.Common.{◌≡◌, ℕ, ◌+◌, ◌-◌, ◌<◌, ◌≤◌, ◌⊎◌, ⊎_elim, Bool, true, false, ◌||◌, ◌&&◌, leb, ltb, List}
use Rattle.std.proofs.Common.{[], ◌∷◌, ◌++◌, length, get_or, take, drop, min, refl, sym, ◌∙◌, ap, arith, length-append}
use Rattle.std.proofs.Common.{length-take, length-drop}
use Rattle.std.proofs.lemmas.List.{get_or-take, ext_get_or, places}
use Rattle.std.proofs.lemmas.Bool.Decides.{nat_tests}
use Rattle.disk_model.specs.Disk.{Unsynced, IsCrashImage, is_touched, settled, wrote, was_cut, overwritten, Torn, Cut}

-- after a sync there is one image
pub only_settled : (bytes image : List ℕ) → IsCrashImage (settled bytes) image → image ≡ bytes
only_settled bytes image i =
    ext_get_or 0 image bytes (omega (arith, i.no_shorter, i.no_longer))
    (λ k h. i.same k (omega (arith, h, i.no_longer)) refl)

pub image_settled : (bytes : List ℕ) → IsCrashImage (settled bytes) bytes
image_settled bytes = record { no_shorter = omega arith; no_longer = omega arith; same = λ k h t. refl }

or_false : (a b : Bool) → (a || b) ≡ false → (a ≡ false) × (b ≡ false)
or_false true b e = absurd (cc e)
or_false false b e = (refl, e)

or_assoc : (a b c : Bool) → ((a || b) || c) ≡ (a || (b || c))
or_assoc true b c = refl
or_assoc false b c = refl

touched_push : (rs : List (ℕ × ℕ)) (r : ℕ × ℕ) (k : ℕ)
    → is_touched (rs ++ r ∷ []) k ≡ (is_touched rs k || is_touched (r ∷ []) k)
touched_push [] r k = refl
touched_push (q ∷ rs) r k =
    ap (λ (b : Bool). (leb q.0 k && ltb k (q.0 + q.1)) || b) (touched_push rs r k)
    ∙ sym (or_assoc (leb q.0 k && ltb k (q.0 + q.1)) (is_touched rs k) (is_touched (r ∷ []) k))

-- a write that may have been cut short leads from an image to an image
pub image_torn : (u : Unsynced) (at n : ℕ) (old new : List ℕ) → IsCrashImage u old → Torn at n old new
    → IsCrashImage (wrote at n u) new
image_torn u at n old new i t = record {
  no_shorter = omega (arith, i.no_shorter, t.no_shorter);
  no_longer = omega (arith, i.no_longer, t.no_longer);
  same = λ k h e.
      let apart = or_false (is_touched u.ranges k) (is_touched ((at, n) ∷ []) k)
      (sym (touched_push u.ranges (at, n) k) ∙ e) in
      t.same k (omega (arith, h, i.no_shorter)) apart.1 ∙ i.same k h apart.0;
}

-- so does a cut
pub image_cut : (u : Unsynced) (to : ℕ) (old new : List ℕ) → IsCrashImage u old → Cut to old new
    → IsCrashImage (was_cut to u) new
image_cut u to old new i c = record {
  no_shorter = omega (arith, i.no_shorter, c.no_shorter);
  no_longer = omega (arith, i.no_longer, c.no_longer);
  same = λ k h e. c.same k (omega (arith, h)) (omega (arith, h, i.no_shorter)) ∙ i.same k (omega (arith, h)) e;
}

-- what a crash leaves of a settled file that was written to
pub torn_image : (bytes : List ℕ) (at n : ℕ) (image : List ℕ) → IsCrashImage (wrote at n (settled bytes)) image
    → Torn at n bytes image
torn_image bytes at n image i = record { no_shorter = i.no_shorter; no_longer = i.no_longer; same = i.same }

-- and of one that was cut
pub cut_image : (bytes : List ℕ) (to : ℕ) (image : List ℕ) → IsCrashImage (was_cut to (settled bytes)) image
    → Cut to bytes image
cut_image bytes to image i = record {
  no_shorter = omega (arith, i.no_shorter);
  no_longer = i.no_longer;
  same = λ k h l. i.same k (omega (arith, h, l)) refl;
}

pub torn_same : (at n : ℕ) (bytes : List ℕ) → Torn at n bytes bytes
torn_same at n bytes = record { no_shorter = omega arith; no_longer = omega arith; same = λ k h t. refl }

pub cut_same : (to : ℕ) (bytes : List ℕ) → Cut to bytes bytes
cut_same to bytes = record { no_shorter = omega arith; no_longer = omega arith; same = λ k h l. refl }

length-overwritten : (file : List ℕ) (at : ℕ) (piece : List ℕ)
    → length (overwritten file at piece) ≡ min at (length file) + length piece + (length file - (at + length piece))
length-overwritten file at piece = simp (length-append, length-take, length-drop) refl

-- a place outside of the range lies before it or behind it
outside : (at n k : ℕ) → is_touched ((at, n) ∷ []) k ≡ false → (k < at) ⊎ (at + n ≤ k)
outside at n k e = grind (arith, nat_tests)

below : (file : List ℕ) (at : ℕ) (piece : List ℕ) (k : ℕ) → k < at → k < length file
    → get_or (overwritten file at piece) k 0 ≡ get_or file k 0
below file at piece k h l = grind (arith, places)

above : (file : List ℕ) (at : ℕ) (piece : List ℕ) (k : ℕ) → at + length piece ≤ k → k < length file
    → get_or (overwritten file at piece) k 0 ≡ get_or file k 0
above file at piece k h l = grind (arith, places)

-- fewer bytes than the write was given may have been put
pub torn_written : (file : List ℕ) (at : ℕ) (piece : List ℕ) (n : ℕ) → length piece ≤ n
    → Torn at n file (overwritten file at piece)
torn_written file at piece n h = record {
  no_shorter = omega (arith, length-overwritten file at piece);
  no_longer = omega (arith, length-overwritten file at piece);
  same = λ k l e. ⊎_elim (λ a. below file at piece k a l) (λ b. above file at piece k (omega (arith, b)) l)
      (outside at n k e);
}

pub cut_taken : (file : List ℕ) (to reach : ℕ) → to ≤ reach → Cut to file (take reach file)
cut_taken file to reach h = record {
  no_shorter = omega (arith, length-take reach file);
  no_longer = omega (arith, length-take reach file);
  same = λ k l m. get_or-take reach file k 0 (omega (arith, l));
}

-- a write can be taken back
pub write_undone : (file : List ℕ) (at : ℕ) (piece : List ℕ) → at ≤ length file
    → take (length file) (overwritten (overwritten file at piece) at (take (length piece) (drop at file))) ≡ file
write_undone file at piece h =
    ext_get_or 0 _ file (simp (length-append, length-take, length-drop) (omega arith)) (λ k l. grind (arith, places))
