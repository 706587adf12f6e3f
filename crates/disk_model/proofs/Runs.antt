-- Runs of device calls: what a crash at any moment of them leaves.
use Rattle.std.proofs.Common.{◌≡◌, ℕ, ⊎_elim, List, [], ◌∷◌, ◌++◌, refl, sym, ◌∙◌, ap, subst, append_assoc}
use Rattle.std.proofs.lemmas.List.{append-nil}
use Rattle.disk_model.specs.Disk.{Unsynced, IsCrashImage}
use Rattle.disk_model.specs.Device.{Beside, Moment, moment, Device}
use Rattle.disk_model.specs.Moments.{Each, Took, Stays, TookOrNot, Looked, LeavesOnly}

each_append : (P : List ℕ → Type 0) (others : Beside) (ms ns : List Moment) → Each P others ms → Each P others ns
    → Each P others (ms ++ ns)
each_append P others [] ns a b = b
each_append P others (m ∷ ms) ns a b = (a.0, a.1, each_append P others ms ns a.2 b)

each_weaker : (P Q : List ℕ → Type 0) (others : Beside) (ms : List Moment) → ((image : List ℕ) → P image → Q image)
    → Each P others ms → Each Q others ms
each_weaker P Q others [] f a = tt
each_weaker P Q others (m ∷ ms) f a = (a.0, (λ image i. f image (a.1 image i)), each_weaker P Q others ms f a.2)

-- the run has not begun
pub started : (old : Device) (P : List ℕ → Type 0)
    → ((image : List ℕ) → IsCrashImage old.now image → P image) → LeavesOnly old old P
started old P here = record { fresh = []; added = sym (append-nil old.past); each = tt; kept = refl; here = here }

-- one moment more
pub took : (old mid new : Device) (u : Unsynced) (P : List ℕ → Type 0)
    → LeavesOnly old mid P → Took mid new u → ((image : List ℕ) → IsCrashImage u image → P image)
    → LeavesOnly old new P
took old mid new u P run t images = record {
  fresh = run.fresh ++ moment mid.now mid.beside ∷ [];
  added = t.added ∙ ap (λ (ms : List Moment). ms ++ moment mid.now mid.beside ∷ []) run.added
      ∙ append_assoc old.past run.fresh (moment mid.now mid.beside ∷ []);
  each = each_append P old.beside run.fresh (moment mid.now mid.beside ∷ []) run.each
      (ap (λ (others : Beside). (moment mid.now others).1) run.kept, run.here, tt);
  kept = t.kept ∙ run.kept;
  here = λ image i. images image (subst (λ (v : Unsynced). IsCrashImage v image) t.is i);
}

pub stayed : (old mid new : Device) (P : List ℕ → Type 0)
    → LeavesOnly old mid P → Stays mid new → LeavesOnly old new P
stayed old mid new P run s = record {
  fresh = run.fresh;
  added = s.added ∙ run.added;
  each = run.each;
  kept = s.kept ∙ run.kept;
  here = λ image i. run.here image (subst (λ (v : Unsynced). IsCrashImage v image) s.is i);
}

-- a call that looks
pub looked : (old mid new : Device) (P : List ℕ → Type 0)
    → LeavesOnly old mid P → Looked mid new → LeavesOnly old new P
looked old mid new P run l =
    ⊎_elim (λ t. took old mid new mid.now P run t run.here) (λ s. stayed old mid new P run s) l

-- a call that failed
pub took_or_not : (old mid new : Device) (u : Unsynced) (P : List ℕ → Type 0)
    → LeavesOnly old mid P → TookOrNot mid new u → ((image : List ℕ) → IsCrashImage u image → P image)
    → LeavesOnly old new P
took_or_not old mid new u P run t images =
    ⊎_elim (λ t. took old mid new u P run t images) (λ l. looked old mid new P run l) t

-- a call that looks leaves what a crash may leave
pub looked_now : (old new : Device) → Looked old new → new.now ≡ old.now
looked_now old new l = ⊎_elim (λ t. t.is) (λ s. s.is) l

pub looked_beside : (old new : Device) → Looked old new → new.beside ≡ old.beside
looked_beside old new l = ⊎_elim (λ t. t.kept) (λ s. s.kept) l

pub took_or_not_beside : (old new : Device) (u : Unsynced)
    → TookOrNot old new u → new.beside ≡ old.beside
took_or_not_beside old new u t = ⊎_elim (λ t. t.kept) (λ l. looked_beside old new l) t

-- one run after another
pub goes_on : (old mid new : Device) (P : List ℕ → Type 0)
    → LeavesOnly old mid P → LeavesOnly mid new P → LeavesOnly old new P
goes_on old mid new P first then = record {
  fresh = first.fresh ++ then.fresh;
  added = then.added ∙ ap (λ (ms : List Moment). ms ++ then.fresh) first.added
      ∙ append_assoc old.past first.fresh then.fresh;
  each = each_append P old.beside first.fresh then.fresh first.each
      (subst (λ (others : Beside). Each P others then.fresh) first.kept then.each);
  kept = then.kept ∙ first.kept;
  here = then.here;
}

-- what holds of each image implies this
pub weaker : (old new : Device) (P Q : List ℕ → Type 0)
    → LeavesOnly old new P → ((image : List ℕ) → P image → Q image) → LeavesOnly old new Q
weaker old new P Q run f = record {
  fresh = run.fresh;
  added = run.added;
  each = each_weaker P Q old.beside run.fresh f run.each;
  kept = run.kept;
  here = λ image i. f image (run.here image i);
}
