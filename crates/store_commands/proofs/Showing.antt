-- A command that only shows something: its lines are printed, or not to their end, or memory ran out.
use Rattle.std.proofs.Common.{◌≡◌, ℕ, List, [], ◌∷◌, Result, Ok, Err, sym, append-nil}
use Rattle.link.specs.Streams.{Output}
use Rattle.replica_core.specs.Commands.Effects.{Line, prints}
use Rattle.replica_core.specs.Replica.{Found as Left, Known, Stands as LeftStands, Stored, stored_in}
use Rattle.command_lines.specs.Lines.{line_text, lines_text}
use Rattle.command_lines.specs.Outcomes.{print_end}
use Rattle.command_lines.specs.Puts.{Puts}
use Rattle.command_lines.specs.declared.outcome.Outcome.{Outcome}
use Rattle.command_lines.specs.declared.put.PrintFault.{PrintFault}
use Rattle.command_lines.proofs.Putting.{puts_as}
use Rattle.store_commands.specs.Carries.{Carries}
use Rattle.store_commands.specs.Deeds.{Answer, over_replica}
use Rattle.store_commands.proofs.Exits.{only_printed}
use Rattle.store_commands.proofs.Printing.{part_of}

-- a line alone
pub one_line : (line : Line) (a b : Output) (result : Result (Unit {0}) PrintFault) → Puts (line_text line) a b result
    → Puts (lines_text (line ∷ [])) a b result
one_line line a b result puts = puts_as (line_text line) (lines_text (line ∷ [])) a b result
    (sym (append-nil (line_text line))) puts

module _ {R : Type 0} (known : R → Known) (is_open : R → Type 0) (crash : R → ℕ → Left Stored → Type 0)
    (settled : (r : R) (o : Left Stored) → is_open r → crash r (known r).moment o → o ≡ LeftStands (stored_in (known r)))
    (r : R) (ready : is_open r) (a : Answer) (lines : List Line) (is : a ≡ over_replica (prints lines))
    (before after : Output) where
  pub printed : Puts (lines_text lines) before after (Ok tt) → Carries known is_open crash a r r before after (Ok tt)
  printed puts = only_printed known is_open crash settled a (lines_text lines) r before after (Ok tt) ready is puts

  pub broken : (fault : PrintFault) → Puts (lines_text lines) before after (Err fault)
      → Carries known is_open crash a r r before after (Err (print_end fault))
  broken fault puts =
      only_printed known is_open crash settled a (lines_text lines) r before after (Err (print_end fault)) ready is
      (part_of (lines_text lines) before after fault puts)
