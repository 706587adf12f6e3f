-- What the texts of index expressions read as.
use Rattle.std.specs.Prelude.{◌≡◌, ℕ, ◌<◌, List, [], ◌∷◌, length, take, slice_get, is_some, true, Option, Some}
use Rattle.std.specs.Prelude.{None, Result, Ok, Err}
use Rattle.std.specs.Option.{option_map}
use Rattle.conflicts.specs.State.{Text}
use Rattle.expr_parser.specs.Canonical.{canonical}
use Rattle.expr_parser.specs.Faults.{IsWrongAt}
use Rattle.expr_parser.specs.Limits.{longest}
use Rattle.expr_parser.specs.Reading.{expr_in}
use Rattle.expr_parser.specs.declared.fault.ParseFault.{ParseFault}
use Rattle.expr_parser.specs.declared.fault.ParseFault.TheVariants.{TooLong, At, Memory}
use Rattle.command_lines.specs.Endings.{Ending, Answered, OutOfMemory, ending_of}
use Rattle.command_lines.specs.Outcomes.{expression_end}
use Rattle.command_lines.specs.declared.outcome.Outcome.{Outcome}

-- a first item before the others, if there are both
abbrev pub before_others : Option Text → Option (List Text) → Option (List Text)
before_others None others = None
before_others (Some text) None = None
before_others (Some text) (Some others) = Some (text ∷ others)

-- the canonical texts of some expressions, if each of the texts reads as one
abbrev pub canonicals_in : List Text → Option (List Text)
canonicals_in [] = Some []
canonicals_in (text ∷ texts) = before_others (option_map canonical (expr_in text)) (canonicals_in texts)

-- why a text is no expression
abbrev pub IsRefusedFor : List ℕ → ParseFault → Type 0
IsRefusedFor text TooLong = longest < length text
IsRefusedFor text (At place) = IsWrongAt place text
IsRefusedFor text Memory = ⊥

-- the first text that is no expression, counted from 0, and how a run ends for it
pub record IsFirstRefused (texts : List Text) (end : Outcome) : Type 0 where
  pub place : ℕ
  pub text : Text
  pub fault : ParseFault
  pub there : slice_get texts place ≡ Some text
  pub before : is_some (canonicals_in (take place texts)) ≡ true
  pub refused : IsRefusedFor text fault
  pub is : end ≡ expression_end place fault

-- the expressions were read: as their canonical texts, or to the first that is refused, unless memory ran out
abbrev pub AreUnread : List Text → Outcome → Ending → Type 0
AreUnread texts end OutOfMemory = Unit {0}
AreUnread texts end Answered = IsFirstRefused texts end
AreUnread texts end _ = ⊥

abbrev pub HaveRead : List Text → Result (List Text) Outcome → Type 0
HaveRead texts (Ok canonicals) = canonicals_in texts ≡ Some canonicals
HaveRead texts (Err end) = AreUnread texts end (ending_of end)
