-- Whatever bytes came, they say lines that go on from the good ones so far, and end in some way.
use Rattle.std.proofs.Common.{◌≡◌, ◌⊎◌, ℕ, zero, suc, ◌+◌, ◌<◌, Bool, true, false, cond, nat_lt, List, [], ◌∷◌, ◌++◌}
use Rattle.std.proofs.Common.{nat_le, length, take, drop, Ok, Option, Some, None, refl, sym, ap, ap₂, subst, arith, inl, inr}
use Rattle.std.proofs.Common.{append_assoc, append-nil}
use Rattle.std.proofs.lemmas.Bool.{cases_lt}
use Rattle.std.proofs.lemmas.Bool.Decides.{eqb_tells}
use Rattle.std.proofs.lemmas.List.{length-append}
use Rattle.std.specs.Prelude.{slice_index}
use Rattle.key_lanes.specs.Breaks.{IsBreak, NoBreak}
use Rattle.sync_http.specs.Bodies.{told_in}
use Rattle.sync_http.specs.Hearing.{SaysRequest}
use Rattle.sync_http.specs.declared.heads.RequestHead.{RequestHead}
use Rattle.sync_http.specs.declared.heads.Verb.{Verb}
use Rattle.sync_http.specs.declared.heads.Verb.TheVariants.{Get, Put, Post}
use Rattle.sync_stream.specs.Came.{Cut, Ending, EndsSo, Faulty, IsQuiet, SaysBody, ending_of}
use Rattle.sync_stream.specs.Came.EndsSo.{at_cut, at_end, at_fault}
use Rattle.sync_stream.specs.Lines.{ended, IsUnbroken}
use Rattle.sync_stream.specs.Messages.{AskInfo, Asks, Exchange, Purpose, ReadsRequest, SaysPurpose, Stream, Tell}
use Rattle.sync_stream.specs.Messages.{docs_in, head_in, small_of}
use Rattle.sync_stream.specs.Says.{says}
use Rattle.sync_stream.specs.Stream.{Begins, IsFaultyAt, counted, end_fault, fault_if, is_closed, is_long_rest}
use Rattle.sync_stream.specs.Stream.{max_line, said_by}
use Rattle.sync_stream.specs.Stream.IsFaultyAt.{whole_line, long_rest, after_end}
use Rattle.sync_stream.specs.declared.fault.LineFault.{LineFault}
use Rattle.sync_stream.specs.declared.fault.LineFault.TheVariants.{At, TooLong}
use Rattle.sync_stream.specs.declared.line.HeadKind.{HeadKind}
use Rattle.sync_stream.specs.declared.line.HeadKind.TheVariants.{Request as OfRequest}
use Rattle.sync_stream.specs.declared.line.Line.{Line}
use Rattle.sync_stream.specs.declared.line.Next.{Next}
use Rattle.sync_stream.specs.declared.line.Next.TheVariants.{Opening}
use Rattle.sync_stream.specs.declared.line.Passed.{Passed}
use Rattle.sync_stream.proofs.Stands.{at_break, begins_more, unbroken_take}

-- ---- the first CR LF

break_at : (bytes : List ℕ) (n : ℕ) → IsBreak bytes n ⊎ ¬ (IsBreak bytes n)
break_at bytes n = elim (cases_lt (n + 1) (length bytes)) [
  | inr high ↦ inr (λ b. omega (arith, high, b.0))
  | inl low ↦ elim (eqb_tells (slice_index bytes n) 13) [
    | inr other ↦ inr (λ b. other.1 b.1)
    | inl cr ↦ elim (eqb_tells (slice_index bytes (n + 1)) 10) [
      | inr other ↦ inr (λ b. other.1 b.2)
      | inl lf ↦ inl (low, cr.1, lf.1)
    ]
  ]
]

-- before a place there is a first one, or none
abbrev FirstBefore : List ℕ → ℕ → Type 0
FirstBefore bytes n = NoBreak bytes 0 n ⊎ ((at : ℕ) × IsBreak bytes at × NoBreak bytes 0 at)

none_to : (bytes : List ℕ) (n : ℕ) → NoBreak bytes 0 n → ¬ (IsBreak bytes n) → NoBreak bytes 0 (suc n)
none_to bytes n none here k low high b = elim (cases_lt k n) [
  | inl less ↦ none k low less b
  | inr more ↦ (let same : k ≡ n = omega (arith, high, more) in here (subst (IsBreak bytes) same b))
]

one_further : (bytes : List ℕ) (n : ℕ) → FirstBefore bytes n → IsBreak bytes n ⊎ ¬ (IsBreak bytes n)
    → FirstBefore bytes (suc n)
one_further bytes n (inr found) here = inr found
one_further bytes n (inl none) (inl here) = inr (n, here, none)
one_further bytes n (inl none) (inr other) = inl (none_to bytes n none other)

first_before : (bytes : List ℕ) (n : ℕ) → FirstBefore bytes n
first_before bytes zero = inl (λ k low high b. absurd (omega (arith, high)))
first_before bytes (suc n) = one_further bytes n (first_before bytes n) (break_at bytes n)

-- ---- how it ends

-- the body ends in some way
abbrev Ends : HeadKind → ℕ → Next → List ℕ → Bool → Type 0
Ends kind n place rest all = (ending : Ending) × EndsSo kind n place rest all ending

ends_quiet : (kind : HeadKind) (n : ℕ) (place : Next) (rest : List ℕ) (all : Bool) → IsQuiet place rest
    → Ends kind n place rest all
ends_quiet kind n place rest true quiet = (ending_of (end_fault kind n place rest), at_end refl quiet refl)
ends_quiet kind n place rest false quiet = (Cut n, at_cut refl quiet refl)

ends_faulty : (kind : HeadKind) (n : ℕ) (place : Next) (rest : List ℕ) (all : Bool) (fault : LineFault)
    → IsFaultyAt kind n place rest fault → Ends kind n place rest all
ends_faulty kind n place rest all fault faulty = (Faulty fault, at_fault fault faulty refl)

no_cons : {x : ℕ} {xs : List ℕ} → x ∷ xs ≡ [] → ⊥
no_cons e = cc

ends_closed : (kind : HeadKind) (n : ℕ) (place : Next) (rest : List ℕ) (all : Bool) → is_closed place ≡ true
    → Ends kind n place rest all
ends_closed kind n place [] all closed = ends_quiet kind n place [] all (inl (closed, refl))
ends_closed kind n place (x ∷ rest) all closed =
    ends_faulty kind n place (x ∷ rest) all (At n) (after_end closed no_cons refl)

ends_unbroken : (kind : HeadKind) (n : ℕ) (place : Next) (rest : List ℕ) (all long : Bool) → is_closed place ≡ false
    → IsUnbroken rest → is_long_rest rest ≡ long → Ends kind n place rest all
ends_unbroken kind n place rest all true opened unbroken is =
    ends_faulty kind n place rest all (TooLong n) (long_rest opened unbroken is refl)
ends_unbroken kind n place rest all false opened unbroken is =
    ends_quiet kind n place rest all (inr (opened, unbroken, is))

-- ---- a line more

-- the bytes say lines that go on from these, and end in some way
abbrev GoesOn : HeadKind → List ℕ → Bool → List Line → Type 0
GoesOn kind text all given = (later : List Line) × (ending : Ending) × SaysBody kind text all (given ++ later) ending

module _ (kind : HeadKind) (text : List ℕ) (all : Bool) where
  -- it ends here
  here : (lines : List (List ℕ)) (given : List Line) (place : Next) (rest : List ℕ)
      → Begins kind text lines given place rest → Ends kind (counted (length lines + 1)) place rest all
      → GoesOn kind text all given
  here lines given place rest b ends = (
    [],
    ends.0,
    record {
      lines = lines;
      place = place;
      rest = rest;
      begins = subst (λ g. Begins kind text lines g place rest) (sym (append-nil given)) b;
      ends = ends.1;
    },
  )

  -- it goes on behind what one line says
  behind : (given more : List Line) → GoesOn kind text all (given ++ more) → GoesOn kind text all given
  behind given more on = (
    more ++ on.0,
    on.1,
    subst (λ g. SaysBody kind text all g on.1) (append_assoc given more on.0) on.2,
  )

  module _ (lines : List (List ℕ)) (given : List Line) (place : Next) (rest : List ℕ)
      (b : Begins kind text lines given place rest)
      (next : (ls : List (List ℕ)) (said : List Line) (p : Next) (r : List ℕ) → length r < length rest
      → Begins kind text ls said p r → GoesOn kind text all said) where
    -- a whole line stands there
    by_line : (line more : List ℕ) → rest ≡ ended line ++ more → IsUnbroken line → is_closed place ≡ false
        → (long : Bool) (o : Option Passed) → nat_lt max_line (length line) ≡ long → says kind place line ≡ o
        → GoesOn kind text all given
    by_line line more is unbroken opened true o fits said =
        let n = counted (length lines + 1) in
        here lines given place rest b (ends_faulty kind n place rest all (TooLong n)
        (whole_line line more opened is unbroken
        (ap (λ (k : Bool). cond k (Some (TooLong n)) (fault_if n (says kind place line))) fits)))
    by_line line more is unbroken opened false None fits said =
        let n = counted (length lines + 1) in
        here lines given place rest b (ends_faulty kind n place rest all (At n)
        (whole_line line more opened is unbroken
        (ap₂ (λ (k : Bool) (o : Option Passed). cond k (Some (TooLong n)) (fault_if n o)) fits said)))
    by_line line more is unbroken opened false (Some passed) fits said =
        let shorter : length more < length rest =
        omega (arith, ap length is, length-append (ended line) more, length-append line (13 ∷ 10 ∷ [])) in
        behind given (said_by passed.line) (next (lines ++ line ∷ []) (given ++ said_by passed.line) passed.place more
        shorter (begins_more kind text lines given place rest line more passed b is unbroken
        (record { fits = fits; says = said })))

    by_break : is_closed place ≡ false → FirstBefore rest (length rest) → GoesOn kind text all given
    by_break opened (inl unbroken) =
        here lines given place rest b
        (ends_unbroken kind (counted (length lines + 1)) place rest all (is_long_rest rest) opened unbroken refl)
    by_break opened (inr found) =
        let line = take found.0 rest in
        by_line line (drop (found.0 + 2) rest) (at_break rest found.0 found.1)
        (unbroken_take rest found.0 (found.1, found.2))
        opened (nat_lt max_line (length line)) (says kind place line) refl refl

    by_place : (closed : Bool) → is_closed place ≡ closed → GoesOn kind text all given
    by_place true is = here lines given place rest b (ends_closed kind (counted (length lines + 1)) place rest all is)
    by_place false is = by_break is (first_before rest (length rest))

  within : (m : ℕ) (lines : List (List ℕ)) (given : List Line) (place : Next) (rest : List ℕ) → length rest < m
      → Begins kind text lines given place rest → GoesOn kind text all given
  within zero lines given place rest short b = absurd (omega (arith, short))
  within (suc m) lines given place rest short b =
      by_place lines given place rest b
      (λ ls said p r less more. within m ls said p r (omega (arith, short, less)) more)
      (is_closed place) refl

pub goes_on : (kind : HeadKind) (text : List ℕ) (lines : List (List ℕ)) (given : List Line) (place : Next)
    (rest : List ℕ) (all : Bool) → Begins kind text lines given place rest
    → (later : List Line) × (ending : Ending) × SaysBody kind text all (given ++ later) ending
goes_on kind text lines given place rest all b =
    within kind text all (suc (length rest)) lines given place rest (omega arith) b

-- ---- requests

begins_with_none : (kind : HeadKind) (text : List ℕ) → Begins kind text [] [] Opening text
begins_with_none kind text = record { splits = record { whole = refl; each = tt }; passes = (refl, refl) }

-- whatever came of a body says what is asked
purpose_said : (verb : Verb) (bytes : List ℕ) (n : ℕ) → (purpose : Purpose) × SaysPurpose verb bytes n purpose
purpose_said Get bytes n = (AskInfo, refl)
purpose_said Put bytes n = (Tell (small_of told_in n bytes), refl)
purpose_said Post bytes n =
    let on = goes_on OfRequest (take n bytes) [] [] Opening (take n bytes) (nat_le n (length bytes))
    (begins_with_none OfRequest (take n bytes)) in
    let stream : Stream = record { head = head_in on.0; docs = docs_in on.0; ending = on.1 } in
    (Exchange stream, (stream, record { said = on.0; says = on.2; head = refl; docs = refl }, refl))

pub asked_so : (bytes : List ℕ) (head : RequestHead) (n : ℕ) → SaysRequest bytes (Ok head) n
    → (purpose : Purpose) × ReadsRequest bytes (Asks head.db head.source purpose)
asked_so bytes head n h =
    let said = purpose_said head.verb (drop n bytes) head.body in (said.0, (head, n, h, refl, refl, said.1))
