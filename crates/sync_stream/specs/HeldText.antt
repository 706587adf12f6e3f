use Rattle.std.specs.Prelude.{◌≡◌, ◌≢◌, ◌⊎◌, ℕ, ◌+◌, true, false, if◌then◌else◌, List, [], length, Option, Some}
use Rattle.std.specs.Prelude.{None}
use Rattle.std.specs.Prelude.{IfSome, Result, Ok, Err}
use Rattle.sync_stream.specs.Lines.{IsUnbroken}
use Rattle.sync_stream.specs.Stream.{Begins, IsFaultyAt, counted, end_fault, is_closed, is_long_rest, said_by}
use Rattle.sync_stream.specs.declared.line.HeadKind.{HeadKind}
use Rattle.sync_stream.specs.declared.line.Line.{Line}
use Rattle.sync_stream.specs.declared.line.Line.TheVariants.{Head, Doc, End}
use Rattle.sync_stream.specs.declared.line.Next.{Next}
use Rattle.sync_stream.specs.declared.line.Next.TheVariants.{Opening, Closed}
use Rattle.sync_stream.specs.declared.fault.LineFault.{LineFault}
use Rattle.sync_stream.specs.declared.fault.LineFault.TheVariants.{At, TooLong}
use Rattle.sync_stream.specs.declared.fault.StreamFault.{StreamFault}
use Rattle.sync_stream.specs.declared.fault.StreamFault.TheVariants as fault

-- what a reader is seen as
pub record HeldText : Type 0 where
  pub kind : HeadKind
  -- the number of the next line, from 1
  pub number : ℕ
  -- which line comes next: whether a comma stood before it, and whether `]` was given
  pub place : Next
  -- the fault that was given
  pub fault : Option LineFault
  -- the bytes that were pushed after the last line that was passed
  pub rest : List ℕ

-- a reader at the start
abbrev pub fresh : HeadKind → HeldText
fresh kind = record { kind = kind; number = 1; place = Opening; fault = None; rest = [] }

-- a reader stands for a pushed text and the lines that were given of it
pub record StandsFor (reader : HeldText) (text : List ℕ) (given : List Line) : Type 0 where
  pub lines : List (List ℕ)
  pub begins : Begins reader.kind text lines given reader.place reader.rest
  pub number : reader.number ≡ counted (length lines + 1)
  pub fault : IfSome reader.fault
      (λ f. IsFaultyAt reader.kind reader.number reader.place reader.rest f
      ⊎ (end_fault reader.kind reader.number reader.place reader.rest ≡ Some f))

-- ---- the next line

abbrev pub line_in : Result (Option Line) StreamFault → List Line
line_in (Ok line) = said_by line
line_in (Err fault) = []

-- the lines that a call of `next_line` gives: the end comes again and again, and is one line
abbrev pub lines_given : Next → Result (Option Line) StreamFault → List Line
lines_given place result = if is_closed place then [] else line_in result

-- nothing more is to be given: neither a fault nor the end was given, and no whole line nor a rest that is too long is
-- left
pub record HasNoMore (reader : HeldText) : Type 0 where
  pub no_fault : reader.fault ≡ None
  pub open_ : is_closed reader.place ≡ false
  pub no_line : IsUnbroken reader.rest
  pub fits : is_long_rest reader.rest ≡ false

-- when each answer of `next_line` comes
abbrev pub Answers : HeldText → HeldText → Result (Option Line) StreamFault → Type 0
Answers old new (Ok None) = HasNoMore new
Answers old new (Ok (Some End)) = (new.place ≡ Closed) × (new.fault ≡ None)
Answers old new (Ok (Some (Head head))) = new.fault ≡ None
Answers old new (Ok (Some (Doc doc))) = new.fault ≡ None
Answers old new (Err fault.Memory) = new.fault ≡ None
Answers old new (Err (fault.At n)) =
    (new.fault ≡ Some (At n)) × (old.fault ≡ None → IsFaultyAt new.kind new.number new.place new.rest (At n))
Answers old new (Err (fault.TooLong n)) =
    (new.fault ≡ Some (TooLong n)) × (old.fault ≡ None → IsFaultyAt new.kind new.number new.place new.rest (TooLong n))

-- what it answers once the end was given and no fault: the end again where nothing follows it, and else the fault of
-- what follows
abbrev pub EndsAgain : HeldText → HeldText → Result (Option Line) StreamFault → Type 0
EndsAgain old new (Ok line) = (line ≡ Some End) × (old.rest ≡ []) × (new ≡ old)
EndsAgain old new (Err e) =
    (e ≡ fault.At old.number) × (old.rest ≢ []) × (new ≡ record old { fault = Some (At old.number) })

-- ---- the end of the body

-- no whole line is left before the end of the stream, as after a `next_line` that gave none, or the end
abbrev pub IsReadUp : HeldText → Type 0
IsReadUp reader = (is_closed reader.place ≡ true) ⊎ IsUnbroken reader.rest

-- what `finish` answers of the body that was pushed
abbrev pub Finishes : HeldText → HeldText → Result (Unit {0}) StreamFault → Type 0
Finishes old new (Ok u) =
    (old.fault ≡ None) × (new ≡ old) × (end_fault old.kind old.number old.place old.rest ≡ None)
Finishes old new (Err fault.Memory) = new ≡ old
Finishes old new (Err (fault.At n)) =
    (new ≡ record old { fault = Some (At n) })
    × (old.fault ≡ None → end_fault old.kind old.number old.place old.rest ≡ Some (At n))
Finishes old new (Err (fault.TooLong n)) =
    (new ≡ record old { fault = Some (TooLong n) })
    × (old.fault ≡ None → end_fault old.kind old.number old.place old.rest ≡ Some (TooLong n))

-- ---- words of private clauses
