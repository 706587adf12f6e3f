-- What is printed, from a command's text to the last line.
use Rattle.std.proofs.Common.{◌≡◌, ◌⊎◌, ℕ, zero, suc, ◌≤◌, List, [], ◌++◌, length, take, Option, Some, None, Result, Ok}
use Rattle.std.proofs.Common.{Err, false, refl, sym, ◌∙◌, inl, inr, arith, append-nil}
use Rattle.std.proofs.KnownBytes.{Appends-trans}
use Rattle.std.proofs.Math.Seq.{take-length}
use Rattle.std.specs.Io.KnownBytes.{Appends, Keeps}
use Rattle.std.specs.Prelude.{◌≢◌}
use Rattle.u1_base.specs.Causes.{Rose}
use Rattle.link.specs.Streams.{AppendsFront, Output}
use Rattle.command_lines.specs.LastLines.{last_line}
use Rattle.command_lines.specs.Outcomes.{print_end}
use Rattle.command_lines.specs.Puts.{Puts}
use Rattle.command_lines.specs.declared.put.PrintFault.{PrintFault}
use Rattle.command_lines.specs.declared.put.PrintFault.TheVariants as print
use Rattle.command_lines.specs.declared.outcome.Outcome.{Outcome}
use Rattle.command_lines.specs.Endings.{Ending, Finished, Answered, TooLong, DiskFailed, InputFailed, OutputFailed}
use Rattle.command_lines.specs.Endings.{LinkFailed, DoorFailed, OutOfMemory, ending_of}
use Rattle.command_lines.proofs.Endings.{IsOf, of_kind, other_kind}
use Rattle.command_lines.specs.declared.outcome.Outcome.TheVariants.{Done, Memory, SinkFault}
use Rattle.store_commands.specs.Carries.{Answers, AnswersBy}
use Rattle.store_commands.specs.Deeds.{Answer}
use Rattle.store_commands.specs.Prints.{Prints, PrintsFront, PutsFront, PutsPart, done_text, outcome_of}
use Rattle.store_commands.specs.inner.Prints.{PutsWhole}
use Rattle.store_commands.specs.Prints.{printed}
use Rattle.store_commands.proofs.Moving.{Rose-since}

-- ---- fronts and wholes

take_none : (k : ℕ) → take {A = ℕ} k [] ≡ []
take_none zero = refl
take_none (suc k) = refl

-- the whole is a front
pub front_whole : (a b : Option (List ℕ)) (text : List ℕ) → Appends a b text → AppendsFront a b text
front_whole a b text whole = (length text, rw (take-length text) whole)

-- a front, and then nothing more
front_then : (a b c : Option (List ℕ)) (text : List ℕ) → AppendsFront a b text → Appends b c [] → AppendsFront a c text
front_then a b c text front none =
    (front.0, rw (append-nil (take front.0 text)) at (Appends-trans a b c (take front.0 text) [] front.1 none))

nothing_more : (b c : Option (List ℕ)) → AppendsFront b c [] → Appends b c []
nothing_more b c front = rw (take_none front.0) at front.1

-- kept as it was is nothing more
pub none_kept : (a b : Option (List ℕ)) → Keeps a b → Appends a b []
none_kept None b keeps = tt
none_kept (Some xs) None keeps = absurd keeps
none_kept (Some xs) (Some ys) keeps = keeps ∙ sym (append-nil xs)

-- ---- a text printed in part, and the rest of the output

pub part_of : (text : List ℕ) (a b : Output) (fault : PrintFault) → Puts text a b (Err fault)
    → PutsPart text a b (Err (print_end fault))
part_of text a b print.Sink puts = puts
part_of text a b print.Memory puts = puts

pub ended_well : (text : List ℕ) (a b : Output) (decided result : Outcome) → result ≡ decided
    → PutsWhole text a b (Ok tt) → Prints text a b decided result
ended_well text a b decided result is whole = inl (is, whole)

-- the output broke of a run that was not decided by want of memory
broke : (text : List ℕ) (a b : Output) (decided : Outcome) (fault : PrintFault) → decided ≢ Memory
    → PutsWhole text a b (Err fault) → Prints text a b decided (print_end fault)
broke text a b decided print.Sink other puts = inr (inl (refl, puts.0, puts.1, other))
broke text a b decided print.Memory other puts = inr (inr (refl, puts))

ended_by : (text : List ℕ) (a b : Output) (decided result : Outcome) (fault : PrintFault) (kind : Ending)
    → ending_of decided ≡ kind → IsOf kind decided
    → (decided ≡ Memory → result ≡ Memory) → (decided ≢ Memory → result ≡ print_end fault)
    → PutsWhole text a b (Err fault) → Prints text a b decided result
ended_by text a b decided result print.Sink OutOfMemory is of memory other puts = inr (inr (memory of, puts.0))
ended_by text a b decided result print.Memory OutOfMemory is of memory other puts = inr (inr (memory of, puts))
ended_by text a b decided result fault Finished is of memory other puts =
    let no = other_kind decided Memory _ is (λ h. cc h) in rw (other no) (broke _ _ _ _ fault no puts)
ended_by text a b decided result fault Answered is of memory other puts =
    let no = other_kind decided Memory _ is (λ h. cc h) in rw (other no) (broke _ _ _ _ fault no puts)
ended_by text a b decided result fault (TooLong need limit) is of memory other puts =
    let no = other_kind decided Memory _ is (λ h. cc h) in rw (other no) (broke _ _ _ _ fault no puts)
ended_by text a b decided result fault DiskFailed is of memory other puts =
    let no = other_kind decided Memory _ is (λ h. cc h) in rw (other no) (broke _ _ _ _ fault no puts)
ended_by text a b decided result fault InputFailed is of memory other puts =
    let no = other_kind decided Memory _ is (λ h. cc h) in rw (other no) (broke _ _ _ _ fault no puts)
ended_by text a b decided result fault OutputFailed is of memory other puts =
    let no = other_kind decided Memory _ is (λ h. cc h) in rw (other no) (broke _ _ _ _ fault no puts)
ended_by text a b decided result fault LinkFailed is of memory other puts =
    let no = other_kind decided Memory _ is (λ h. cc h) in rw (other no) (broke _ _ _ _ fault no puts)
ended_by text a b decided result fault DoorFailed is of memory other puts =
    let no = other_kind decided Memory _ is (λ h. cc h) in rw (other no) (broke _ _ _ _ fault no puts)

pub ended_badly : (text : List ℕ) (a b : Output) (decided result : Outcome) (fault : PrintFault)
    → (decided ≡ Memory → result ≡ Memory) → (decided ≢ Memory → result ≡ print_end fault)
    → PutsWhole text a b (Err fault) → Prints text a b decided result
ended_badly text a b decided result fault memory other puts =
    ended_by text a b decided result fault (ending_of decided) refl (of_kind decided) memory other puts

-- ---- the last line of a printing call

pub last_broke : (text : List ℕ) (a b : Output) (fault : PrintFault) → Puts text a b (Err fault)
    → PutsWhole text a b (Err fault)
last_broke text a b print.Sink puts = (record { taken = puts.0; later = puts.1 }, puts.2)
last_broke text a b print.Memory puts = record { taken = puts.0; later = puts.1 }

module _ (text : List ℕ) (a b c : Output) (puts : Puts text a b (Ok tt)) (keeps : Keeps b.taken c.taken)
    (later : b.faults ≤ c.faults) where
  taken : Appends a.taken c.taken text
  taken = rw (append-nil text) at
      (Appends-trans a.taken b.taken c.taken text [] puts.0 (none_kept b.taken c.taken keeps))

  pub flushed : c.held ≡ false → PutsWhole text a c (Ok tt)
  flushed handed = record { taken = taken; handed_on = handed; later = omega (arith, puts.1, later) }

  pub flush_broke : Rose b.faults c.faults → PutsWhole text a c (Err print.Sink)
  flush_broke rose = (
    record { taken = front_whole a.taken c.taken text taken; later = omega (arith, puts.1, later) },
    Rose-since a.faults b.faults c.faults puts.1 rose,
  )

-- ---- a command's text, and then its last line

module _ (a : Answer) (o p q : Output) (result : Outcome) where
  rose_on : Rose o.faults p.faults → p.faults ≤ q.faults → Rose o.faults q.faults
  rose_on rose later = omega (arith, rose, later)

  -- the text was printed whole
  printed_whole : Puts a.text o p (Ok tt) → Prints [] p q Done result → Prints (a.text ++ []) o q Done result
  printed_whole puts (inl whole) =
      inl (
        whole.0,
        record {
          taken = Appends-trans o.taken p.taken q.taken a.text [] puts.0 whole.1.taken;
          handed_on = whole.1.handed_on;
          later = omega (arith, puts.1, whole.1.later);
        },
      )
  printed_whole puts (inr (inl failed)) =
      inr (inl (failed.0, front failed.1, Rose-since o.faults p.faults q.faults puts.1 failed.2, failed.3))
    where
      front : PrintsFront [] p q → PrintsFront (a.text ++ []) o q
      front f = record {
        taken = front_whole o.taken q.taken (a.text ++ [])
            (Appends-trans o.taken p.taken q.taken a.text [] puts.0 (nothing_more p.taken q.taken f.taken));
        later = omega (arith, puts.1, f.later);
      }
  printed_whole puts (inr (inr starved)) = inr (inr (starved.0, front starved.1))
    where
      front : PrintsFront [] p q → PrintsFront (a.text ++ []) o q
      front f = record {
        taken = front_whole o.taken q.taken (a.text ++ [])
            (Appends-trans o.taken p.taken q.taken a.text [] puts.0 (nothing_more p.taken q.taken f.taken));
        later = omega (arith, puts.1, f.later);
      }

  -- a front of it was printed
  front_on : AppendsFront o.taken p.taken a.text → o.faults ≤ p.faults → Appends p.taken q.taken []
      → p.faults ≤ q.faults → PrintsFront (a.text ++ []) o q
  front_on front later none more = record {
    taken = rw (append-nil a.text) (front_then o.taken p.taken q.taken a.text front none);
    later = omega (arith, later, more);
  }

  printed_broken : (decided : Outcome) → AppendsFront o.taken p.taken a.text → o.faults ≤ p.faults
      → (decided ≡ SinkFault) × Rose o.faults p.faults ⊎ (decided ≡ Memory) → Prints [] p q decided result
      → Prints (a.text ++ []) o q Done result
  printed_broken decided front later (inl sink) (inl whole) =
      inr (inl (
        whole.0 ∙ sink.0,
        front_on front later whole.1.taken whole.1.later,
        rose_on sink.1 whole.1.later,
        λ is. cc is,
      ))
  printed_broken decided front later (inl sink) (inr (inl failed)) =
      inr (inl (
        failed.0,
        front_on front later (nothing_more p.taken q.taken failed.1.taken) failed.1.later,
        rose_on sink.1 failed.1.later,
        λ is. cc is,
      ))
  printed_broken decided front later (inl sink) (inr (inr starved)) =
      inr (inr (starved.0, front_on front later (nothing_more p.taken q.taken starved.1.taken) starved.1.later))
  printed_broken decided front later (inr memory) (inl whole) =
      inr (inr (whole.0 ∙ memory, front_on front later whole.1.taken whole.1.later))
  printed_broken decided front later (inr memory) (inr (inl failed)) = absurd (failed.3 memory)
  printed_broken decided front later (inr memory) (inr (inr starved)) =
      inr (inr (starved.0, front_on front later (nothing_more p.taken q.taken starved.1.taken) starved.1.later))

  -- a front of it was printed, and that ended the run
  of_broken : (end : Outcome) (kind : Ending) → IsOf kind end → PutsFront a.text o p kind
      → Prints (last_line end) p q end result → Prints (a.text ++ []) o q Done result
  of_broken end OutputFailed is puts prints =
      printed_broken SinkFault puts.0 puts.1 (inl (refl, puts.2)) (rw is at prints)
  of_broken end OutOfMemory is puts prints = printed_broken Memory puts.0 puts.1 (inr refl) (rw is at prints)
  of_broken end Finished is puts prints = absurd puts
  of_broken end Answered is puts prints = absurd puts
  of_broken end (TooLong need limit) is puts prints = absurd puts
  of_broken end DiskFailed is puts prints = absurd puts
  of_broken end InputFailed is puts prints = absurd puts
  of_broken end LinkFailed is puts prints = absurd puts
  of_broken end DoorFailed is puts prints = absurd puts

  of_done : (ended : Result (Unit {0}) Outcome) → PutsPart a.text o p ended
      → Prints (last_line (outcome_of ended)) p q (outcome_of ended) result → Prints (a.text ++ []) o q Done result
  of_done (Ok done) puts prints = printed_whole puts prints
  of_done (Err end) puts prints = of_broken end (ending_of end) (of_kind end) puts prints

  -- nothing was printed before the last line
  plain : (decided : Outcome) (ended : Result (Unit {0}) Outcome) → (ended ≡ Err decided) × (p ≡ o)
      → Prints (last_line (outcome_of ended)) p q (outcome_of ended) result
      → Prints (last_line decided) o q decided result
  plain decided ended none prints = rw (none.0, none.1) at prints

  answered_by : (decided : Outcome) (kind : Ending) (ended : Result (Unit {0}) Outcome) → IsOf kind decided
      → AnswersBy a.text o p decided kind ended
      → Prints (last_line (outcome_of ended)) p q (outcome_of ended) result
      → Prints (done_text a kind ++ last_line decided) o q decided result
  answered_by decided Finished ended is answers prints = rw is (of_done ended answers prints)
  answered_by decided Answered ended is answers prints = plain _ ended answers prints
  answered_by decided (TooLong need limit) ended is answers prints = plain _ ended answers prints
  answered_by decided DiskFailed ended is answers prints = plain _ ended answers prints
  answered_by decided InputFailed ended is answers prints = plain _ ended answers prints
  answered_by decided OutputFailed ended is answers prints = plain _ ended answers prints
  answered_by decided LinkFailed ended is answers prints = plain _ ended answers prints
  answered_by decided DoorFailed ended is answers prints = plain _ ended answers prints
  answered_by decided OutOfMemory ended is answers prints = plain _ ended answers prints

  pub answered_then : (decided : Outcome) (ended : Result (Unit {0}) Outcome) → Answers a.text o p decided ended
      → Prints (last_line (outcome_of ended)) p q (outcome_of ended) result
      → Prints (printed a decided) o q decided result
  answered_then decided ended answers prints =
      answered_by decided (ending_of decided) ended (of_kind decided) answers prints
