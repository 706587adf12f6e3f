-- A sync and looks, and the first of the bytes.
use Rattle.std.proofs.Common.{◌≡◌, ◌≢◌, ℕ, List, [], ◌∷◌, length, get_or, take, Option, Some, ◌∙◌, sym, ap, ap₂}
use Rattle.disk_model.specs.Disk.{IsCrashImage}
use Rattle.disk_model.specs.Front.{front_of}
use Rattle.disk_model.specs.declared.synced.Front.{Front}
use Rattle.disk_model.proofs.Runs.{looked}
use Rattle.disk_model.proofs.synced.front_synced.Goals as goal

front_is : (seen bytes : List ℕ) (n : ℕ) → n ≡ length seen → n ≢ 0 → bytes ≡ take 1 seen
    → front_of seen ≡ Some (record { first = get_or bytes 0 0; length = n })
front_is [] bytes n size some first = absurd (some size)
front_is (byte ∷ rest) bytes n size some first =
    ap₂ (λ (b k : ℕ). front_at b k) (sym (ap (λ (l : List ℕ). get_or l 0 0) first)) (sym size)
  where
    front_at : ℕ → ℕ → Option Front
    front_at b k = Some (record { first = b; length = k })

pub returns-in_err-read_at-clause-any_moment : goal.returns-in_err-read_at-clause-any_moment
returns-in_err-read_at-clause-any_moment g c t =
    let known = g.D.Disk.known in let old = known c.args.disk.now in
    looked old (known c.settled_length.new.disk) (known c.read_at.new.self) (IsCrashImage old.now)
    (c.settled_length.ensures.any_moment t) (c.read_at.ensures.crash t)

pub returns-clause-any_moment : goal.returns-clause-any_moment
returns-clause-any_moment g c t =
    let known = g.D.Disk.known in let old = known c.args.disk.now in
    looked old (known c.settled_length.new.disk) (known c.read_at.new.self) (IsCrashImage old.now)
    (c.settled_length.ensures.any_moment t) (c.read_at.ensures.crash t)

pub returns-clause-value : goal.returns-clause-value
returns-clause-value g c t =
    let seen = (g.D.Disk.known c.args.disk.now).seen in
    sym (front_is seen c.read_at.new.into c.in_ok-length.length (c.in_ok-length.ensures.value t) c.if-length-eq0.false
    (c.in_ok-read_at.ensures.bytes t ∙ ap (take 1) (c.in_ok-length.ensures.seen t)))
