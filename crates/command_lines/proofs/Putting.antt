-- Texts that are printed one after the other.
use Rattle.std.proofs.Common.{◌≡◌, ℕ, ◌+◌, ◌<◌, ◌≤◌, List, [], ◌++◌, length, take, Option, Result, Ok, Err, sym, ◌∙◌}
use Rattle.std.proofs.Common.{subst, arith, ⊎_elim}
use Rattle.std.proofs.KnownBytes.{Appends-nil, Appends-trans}
use Rattle.std.proofs.lemmas.Bool.{cases_lt}
use Rattle.std.proofs.lemmas.List.{take-append-le, take_all}
use Rattle.std.proofs.Math.Seq.{take-append-add, take-append_seam}
use Rattle.std.specs.Io.KnownBytes.{Appends}
use Rattle.u1_base.specs.Causes.{Rose}
use Rattle.link.specs.Streams.{AppendsFront, Output}
use Rattle.command_lines.specs.Puts.{Puts}
use Rattle.command_lines.specs.declared.put.PrintFault.{PrintFault}
use Rattle.command_lines.specs.declared.put.PrintFault.TheVariants.{Sink, Memory}

pub Rose-since : (before later now : ℕ) → before ≤ later → Rose later now → Rose before now
Rose-since before later now first rose = omega (arith, first, rose)

-- a front of what stands behind a text, with the text, is a front of both
pub front_behind : (xs ys : List ℕ) (a b c : Option (List ℕ)) → Appends a b xs → AppendsFront b c ys
    → AppendsFront a c (xs ++ ys)
front_behind xs ys a b c whole front =
    (length xs + front.0, rw (take-append-add xs ys front.0) (Appends-trans a b c xs (take front.0 ys) whole front.1))

-- a front of a text is a front of it with more behind it
some_front : (xs ys : List ℕ) (k : ℕ) → (j : ℕ) × (take j (xs ++ ys) ≡ take k xs)
some_front xs ys k =
    ⊎_elim
    (λ (low : k < length xs). (k, take-append-le k xs ys (omega (arith, low))))
    (λ (high : length xs ≤ k). (length xs, take-append_seam xs ys ∙ sym (take_all k xs high)))
    (cases_lt k (length xs))

pub front_before : (xs ys : List ℕ) (a b : Option (List ℕ)) → AppendsFront a b xs → AppendsFront a b (xs ++ ys)
front_before xs ys a b front =
    let j = some_front xs ys front.0 in (j.0, subst (λ (text : List ℕ). Appends a b text) (sym j.1) front.1)

pub puts_nothing : (out : Output) → Puts [] out out (Ok tt)
puts_nothing out = (Appends-nil out.taken, omega arith)

pub puts_then : (xs ys : List ℕ) (a b c : Output) (result : Result (Unit {0}) PrintFault) → Puts xs a b (Ok tt)
    → Puts ys b c result → Puts (xs ++ ys) a c result
puts_then xs ys a b c (Ok done) first second =
    (Appends-trans a.taken b.taken c.taken xs ys first.0 second.0, omega (arith, first.1, second.1))
puts_then xs ys a b c (Err Sink) first second = (
  front_behind xs ys a.taken b.taken c.taken first.0 second.0,
  omega (arith, first.1, second.1),
  Rose-since a.faults b.faults c.faults first.1 second.2,
)
puts_then xs ys a b c (Err Memory) first second =
    (front_behind xs ys a.taken b.taken c.taken first.0 second.0, omega (arith, first.1, second.1))

pub puts_front : (xs ys : List ℕ) (a b : Output) (fault : PrintFault) → Puts xs a b (Err fault)
    → Puts (xs ++ ys) a b (Err fault)
puts_front xs ys a b Sink front = (front_before xs ys a.taken b.taken front.0, front.1, front.2)
puts_front xs ys a b Memory front = (front_before xs ys a.taken b.taken front.0, front.1)

pub puts_as : (xs ys : List ℕ) (a b : Output) (result : Result (Unit {0}) PrintFault) → xs ≡ ys → Puts xs a b result
    → Puts ys a b result
puts_as xs ys a b result same puts = subst (λ (text : List ℕ). Puts text a b result) same puts

-- memory ran out before anything was printed
pub puts_none : (text : List ℕ) (out : Output) → Puts text out out (Err Memory)
puts_none text out = ((0, Appends-nil out.taken), omega arith)
