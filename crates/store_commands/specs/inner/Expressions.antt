-- Beside specs/Expressions: words of private contracts and of proofs.
use Rattle.std.specs.Prelude.{◌≡◌, ℕ, List, length, map, Some}
use Rattle.std.specs.Prelude.{Result, Ok, Err}
use Rattle.std.specs.List.{All}
use Rattle.conflicts.specs.State.{Text}
use Rattle.expr_parser.specs.Canonical.{canonical}
use Rattle.expr_parser.specs.Forms.{Form}
use Rattle.expr_parser.specs.Reading.{IsExpr}
use Rattle.expr_parser.specs.declared.fault.ParseFault.{ParseFault}
use Rattle.replica_state.specs.Exprs.{IndexTexts}
use Rattle.command_lines.specs.Endings.{Ending, Answered, OutOfMemory, ending_of}
use Rattle.command_lines.specs.Outcomes.{expression_end}
use Rattle.command_lines.specs.declared.outcome.Outcome.{Outcome}
use Rattle.store_commands.specs.Expressions.{canonicals_in, IsRefusedFor}

-- how a run ends for the expression at a place that was not read
abbrev pub EndsBy : ℕ → Text → Outcome → Ending → Type 0
EndsBy place text end OutOfMemory = Unit {0}
EndsBy place text end Answered =
    (fault : ParseFault) × IsRefusedFor text fault × (end ≡ expression_end place fault)
EndsBy place text end _ = ⊥

abbrev pub EndsFor : ℕ → Text → Outcome → Type 0
EndsFor place text end = EndsBy place text end (ending_of end)

-- each of the texts was read, as these forms
pub record AreRead (texts : List Text) (forms : List Form) : Type 0 where
  pub count : length forms ≡ length texts
  pub exprs : All IsExpr forms
  pub canonicals : canonicals_in texts ≡ Some (map canonical forms)

-- the canonical texts of expressions that were read
abbrev pub texts_read : Result IndexTexts Outcome → Result (List Text) Outcome
texts_read (Ok exprs) = Ok exprs.texts
texts_read (Err end) = Err end
