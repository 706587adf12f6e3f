-- What was read of an input, and what the input gives.
use Rattle.std.proofs.Common.{◌≡◌, ◌⊎◌, ℕ, ◌+◌, ◌-◌, ◌≤◌, List, [], ◌++◌, length, length-append, take, Some, None}
use Rattle.std.proofs.Common.{Option}
use Rattle.std.proofs.Common.{refl, sym, ap, ◌∙◌, arith, inl, inr}
use Rattle.std.proofs.KnownBytes.{Consumes-nil, Consumes-trans}
use Rattle.std.proofs.lemmas.List.{append-nil, length-take, take_all}
use Rattle.std.proofs.Math.Seq.{take-append-add, take-append_seam}
use Rattle.std.specs.Io.KnownBytes.{Consumes, IsAtEnd}
use Rattle.link.specs.Pieces.{AddsNext}
use Rattle.link.specs.Streams.{Gives, Input, IsFront, Takes}

-- the first bytes of a text that begins with `read`, which is no longer than they are
taken_of : (most : ℕ) (read rest : List ℕ) → length read ≤ most
    → take most (read ++ rest) ≡ read ++ take (most - length read) rest
taken_of most read rest within =
    let split : most ≡ length read + (most - length read) = omega (arith, within) in
    ap (λ n. take n (read ++ rest)) split ∙ take-append-add read rest (most - length read)

-- what is gone is a front of what the input gives
front_given : (most : ℕ) (before after : Option (List ℕ)) (read : List ℕ) → length read ≤ most
    → Consumes before after read → (given : List ℕ) × Gives before most given × (length given ≤ most)
    × IsFront read given
front_given most None after read within gone = (read, tt, within, ([], sym (append-nil read)))
front_given most (Some xs) None read within gone = absurd gone
front_given most (Some xs) (Some ys) read within gone =
    let front : IsFront read (take most xs) = (take (most - length read) ys, rw gone (taken_of most read ys within)) in
    (take most xs, refl, omega (arith, length-take most xs), front)

-- all that the input gives is gone
whole_given : (most : ℕ) (before after : Option (List ℕ)) (read : List ℕ) → length read ≤ most
    → Consumes before after read → (most ≤ length read) ⊎ IsAtEnd after → Gives before most read
whole_given most None after read within gone all = tt
whole_given most (Some xs) None read within gone all = absurd gone
whole_given most (Some xs) (Some ys) read within gone (inl full) =
    let exact : most ≡ length read = omega (arith, full, within) in rw (gone, exact) (take-append_seam read ys)
whole_given most (Some xs) (Some ys) read within gone (inr ended) =
    rw (gone, ended, append-nil read) (take_all most read within)

-- one more piece: it is gone too
pub next_gone : (first mid last : Option (List ℕ)) (old new : List ℕ) (n : ℕ)
    → Consumes first mid old → AddsNext mid last old new n → Consumes first last new
next_gone first mid last old new n gone next =
    rw next.added (Consumes-trans first mid last old next.given gone next.consumed)

pub next_length : {mid last : Option (List ℕ)} {old new : List ℕ} {n : ℕ} → AddsNext mid last old new n
    → length new ≡ length old + n
next_length {old = old} next = rw (next.added, sym next.many) (length-append old next.given)

module _ (most : ℕ) (before after : Input) (read : List ℕ)
    (within : length read ≤ most) (gone : Consumes before.left after.left read)
    (later : before.faults ≤ after.faults) where
  -- some was read
  pub took_front : (given : List ℕ) × (gone : List ℕ) × Takes most given gone before after
  took_front =
      let f = front_given most before.left after.left read within gone in
      (f.0, read, record { told = f.1; within = f.2; front = f.3; gone = gone; later = later })

  -- all was read
  pub took_all : (most ≤ length read) ⊎ IsAtEnd after.left → Takes most read read before after
  took_all all = record {
    told = whole_given most before.left after.left read within gone all;
    within = within;
    front = ([], sym (append-nil read));
    gone = gone;
    later = later;
  }

-- nothing was read
pub took_nothing : (most : ℕ) (input : Input) → (given : List ℕ) × Takes most given [] input input
took_nothing most input =
    let f = front_given most input.left input.left [] (omega arith) (Consumes-nil input.left) in
    (f.0, record { told = f.1; within = f.2; front = f.3; gone = Consumes-nil input.left; later = omega arith })
