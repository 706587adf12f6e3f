-- A store that was compacted, or not.
use Rattle.std.proofs.Common.{◌≡◌, ℕ, ◌≤◌, [], Option, Result, Ok, Err, refl, true≢false, ap, ◌∙◌, inr, arith}
use Rattle.disks.specs.declared.fault.CompactFault.{CompactFault}
use Rattle.disks.specs.declared.fault.CompactFault.TheVariants as fault
use Rattle.disks.specs.declared.fault.Sizes.{Sizes}
use Rattle.link.specs.Streams.{Output}
use Rattle.replica_core.specs.Replica.{Found as Left, Known, Stands as LeftStands, Stored, stored_in}
use Rattle.command_lines.specs.Lines.{compacted_line}
use Rattle.command_lines.specs.Outcomes.{compact_end, print_end}
use Rattle.command_lines.specs.Puts.{Puts}
use Rattle.command_lines.specs.declared.outcome.Outcome.{Outcome}
use Rattle.command_lines.specs.declared.outcome.Outcome.TheVariants as outcome
use Rattle.command_lines.specs.declared.put.PrintFault.{PrintFault}
use Rattle.store_commands.specs.Carries.{CarriesCompacting, found_open}
use Rattle.store_commands.specs.Changes.{IsSettled, Passes}
use Rattle.store_commands.specs.Compacting.{Compacts, Image}
use Rattle.store_commands.specs.Deeds.{ended}
use Rattle.store_commands.specs.Found.{Store, in_short, opened_as}
use Rattle.store_commands.specs.Prints.{PutsPart}
use Rattle.store_commands.proofs.Exits.{unchanged}
use Rattle.store_commands.proofs.Moving.{none_fit}
use Rattle.store_commands.proofs.Printing.{part_of}

module _ {O : Type 0} (known : O → Known) (is_open : O → Type 0) (crash : O → ℕ → Left Stored → Type 0)
    (settled : (r : O) (o : Left Stored) → is_open r → crash r (known r).moment o → o ≡ LeftStands (stored_in (known r)))
    (image : O → Option Image) (old new : O) where
  abbrev seen : O → Store
  seen r = opened_as (known r) (crash r)

  module _ (result : Result Sizes CompactFault) (done : Compacts known is_open crash image old new result) where
    same_state : LeftStands (stored_in (known new)) ≡ LeftStands (stored_in (known old))
    same_state = ap (λ (s : Stored). LeftStands s) done.stored

    -- the state and the limit stay, at every moment
    passes : Passes (found_open (known old)) [] 0 0 (seen old) (seen new)
    passes = record {
      stood_reached = omega arith;
      within = omega arith;
      later = done.any_moment.later;
      earlier = done.any_moment.same;
      since = λ k o from to crashed. inr (0, omega arith, done.any_moment.added k o from to crashed);
      now = same_state;
      faults = done.later;
    }

    rests : is_open new → IsSettled (in_short (found_open (known old))) (seen new)
    rests ready o crashed = settled new o ready crashed ∙ same_state

  -- it was compacted, and its lengths were printed, or not to their end
  pub compacted : (sizes : Sizes) (before after : Output) (result : Result (Unit {0}) Outcome)
      → Compacts known is_open crash image old new (Ok sizes)
      → PutsPart (compacted_line sizes.before sizes.after) before after result
      → CarriesCompacting known is_open crash image old new before after result
  compacted sizes before after result done puts = record {
    sizes = Ok sizes;
    comes = done.ends.1;
    carries = record {
      decided = outcome.Done;
      ready = λ no. done.ends.0;
      does = record {
        stood = 0;
        reached = 0;
        passes = passes (Ok sizes) done;
        leaves = record {
          cause = (refl, refl);
          fits = none_fit (found_open (known old)) [];
          front = λ no. refl;
          rest = λ no can. rests (Ok sizes) done done.ends.0;
          need = λ no same. absurd (true≢false same);
          bytes = λ no shut. absurd (true≢false shut);
        };
      };
      answers = puts;
    };
  }

  pub compacted_broken : (sizes : Sizes) (before after : Output) (broke : PrintFault)
      → Compacts known is_open crash image old new (Ok sizes)
      → Puts (compacted_line sizes.before sizes.after) before after (Err broke)
      → CarriesCompacting known is_open crash image old new before after (Err (print_end broke))
  compacted_broken sizes before after broke done puts =
      compacted sizes before after (Err (print_end broke)) done
      (part_of (compacted_line sizes.before sizes.after) before after broke puts)

  -- it was not
  pub not_compacted : (why : CompactFault) (out : Output) → Compacts known is_open crash image old new (Err why)
      → CarriesCompacting known is_open crash image old new out out (Err (compact_end why))
  not_compacted (fault.Damaged disk place) out done = record {
    sizes = Err (outcome.Damaged disk place);
    comes = done.ends.1;
    carries = record {
      decided = outcome.Damaged disk place;
      ready = λ no. done.ends.0.ready;
      does = record {
        stood = 0;
        reached = 0;
        passes = passes (Err (fault.Damaged disk place)) done;
        leaves = unchanged known is_open crash settled (ended (outcome.Damaged disk place)) ⊥ old new
            (outcome.Damaged disk place) done.ends.0.ready (same_state (Err (fault.Damaged disk place)) done)
            done.ends.0.need (refl, refl);
      };
      answers = (refl, refl);
    };
  }
  not_compacted fault.Disk out done = record {
    sizes = Err outcome.DiskFault;
    comes = tt;
    carries = record {
      decided = outcome.DiskFault;
      ready = λ no. absurd (no refl);
      does = record {
        stood = 0;
        reached = 0;
        passes = passes (Err fault.Disk) done;
        leaves = record {
          cause = done.ends;
          fits = none_fit (found_open (known old)) [];
          front = λ no. absurd (no refl);
          rest = λ no. absurd (no refl);
          need = λ no. absurd (no refl);
          bytes = λ no. absurd (no refl);
        };
      };
      answers = (refl, refl);
    };
  }
  not_compacted fault.Memory out done = record {
    sizes = Err outcome.Memory;
    comes = tt;
    carries = record {
      decided = outcome.Memory;
      ready = λ no. done.ends.ready;
      does = record {
        stood = 0;
        reached = 0;
        passes = passes (Err fault.Memory) done;
        leaves = unchanged known is_open crash settled (ended outcome.Memory) ⊥ old new outcome.Memory done.ends.ready
            (same_state (Err fault.Memory) done) done.ends.need tt;
      };
      answers = (refl, refl);
    };
  }
