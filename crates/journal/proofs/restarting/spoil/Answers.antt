-- Looking leaves the old file; the write of the first byte spoils it.
use Rattle.std.proofs.Common.{◌≡◌, ◌⊎◌, List, ℕ, inl, inr, length, get_or, refl, sym, subst, ◌∙◌, ap}
use Rattle.disk_model.specs.Disk.{IsCrashImage, Torn, settled}
use Rattle.disk_model.specs.Device.{Device, IsSettled, file_of}
use Rattle.disk_model.specs.Moments.{LeavesOnly}
use Rattle.disk_model.proofs.Runs.{goes_on, weaker}
use Rattle.disk_model.proofs.Syncs.{settled_image}
use Rattle.journal.specs.inner.Restarting.{IsKeptOrSpoilt}
use Rattle.journal.proofs.Restarts.{torn_kept}
use Rattle.journal.proofs.restarting.spoil.Goals as goal

-- looking
kept : (old mid : Device) (bytes : List ℕ) → old.now ≡ settled bytes → LeavesOnly old mid (IsCrashImage old.now)
    → LeavesOnly old mid (IsKeptOrSpoilt bytes)
kept old mid bytes e run =
    weaker old mid (IsCrashImage old.now) (IsKeptOrSpoilt bytes) run
    (settled_image old.now bytes (IsKeptOrSpoilt bytes) e (inl refl))

-- and writing
spoils : (old mid new : Device) (bytes : List ℕ) → old.now ≡ settled bytes → LeavesOnly old mid (IsCrashImage old.now)
    → mid.seen ≡ bytes → mid.now ≡ old.now
    → (length bytes ≡ 0) ⊎ (get_or bytes 0 0 ≡ 85) → (IsSettled (file_of mid) → LeavesOnly mid new (Torn 0 1 mid.seen))
    → LeavesOnly old new (IsKeptOrSpoilt bytes)
spoils old mid new bytes e run same stays first write =
    goes_on old mid new (IsKeptOrSpoilt bytes) (kept old mid bytes e run)
    (weaker mid new (Torn 0 1 mid.seen) (IsKeptOrSpoilt bytes) (write (stays ∙ e ∙ ap settled (sym same)))
    (λ image t. torn_kept bytes image first (subst (λ (l : List ℕ). Torn 0 1 l image) same t)))

pub returns-in_err-first_byte-clause-any_moment : goal.returns-in_err-first_byte-clause-any_moment
returns-in_err-first_byte-clause-any_moment g c t =
    let known = g.D.Disk.known in let old = known c.args.disk.now in
    kept old (known c.first_byte.new.disk) old.seen (c.requires t) (c.in_err-first_byte.ensures.any_moment t)

pub returns-in-None-clause-any_moment : goal.returns-in-None-clause-any_moment
returns-in-None-clause-any_moment g c t =
    let known = g.D.Disk.known in let old = known c.args.disk.now in let mid = known c.first_byte.new.disk
    in let ok = c.in_ok-first_byte.ensures in
    let empty : length old.seen ≡ 0 = rw c.in-None.is at (ok.value t) in
    spoils old mid (known c.write_synced.new.disk) old.seen (c.requires t) (ok.any_moment t) (ok.seen t) (ok.now t)
    (inl empty) (c.write_synced.ensures.any_moment t)

pub returns-in-Some-eq85-clause-any_moment : goal.returns-in-Some-eq85-clause-any_moment
returns-in-Some-eq85-clause-any_moment g c t =
    let known = g.D.Disk.known in let old = known c.args.disk.now in let mid = known c.first_byte.new.disk
    in let ok = c.in_ok-first_byte.ensures in
    let first = rw c.in-Some-eq85.is at (ok.value t) in
    spoils old mid (known c.write_synced-in-Some-eq85.new.disk) old.seen (c.requires t) (ok.any_moment t)
    (ok.seen t) (ok.now t)
    (inr (first.1 ∙ c.in-Some-eq85.field-0-test)) (c.write_synced-in-Some-eq85.ensures.any_moment t)

pub returns-in-Some-clause-any_moment : goal.returns-in-Some-clause-any_moment
returns-in-Some-clause-any_moment g c t =
    let known = g.D.Disk.known in let old = known c.args.disk.now in
    kept old (known c.first_byte.new.disk) old.seen (c.requires t) (c.in_ok-first_byte.ensures.any_moment t)
