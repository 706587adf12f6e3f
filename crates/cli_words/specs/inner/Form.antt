-- What clap is asked, and what it answers.
use Rattle.std.specs.Prelude.{◌≡◌, ℕ, max, Bool, true, false, nat_lt, List, [], ◌∷◌, ◌++◌, codes, map, Option, Some}
use Rattle.std.specs.Prelude.{None, unwrap_or}
use Rattle.clap.specs.Lexer.{usize_max}
use Rattle.clap.specs.Walk.{Rule, Text}
use Rattle.clap.specs.Simple.{App, new_app, new_rule, with_rule, on_top, app_of}
use Rattle.clap.specs.Kinds.{Kinds}
use Rattle.clap.specs.declared.builder.command.Command.{Command}
use Rattle.clap.specs.declared.builder.command.Command.TheViews.{out-Command}
use Rattle.clap.specs.declared.builder.action.ArgAction.TheVariants as action
use Rattle.cli_words.specs.Word.{Word}
use Rattle.cli_words.specs.declared.given.Given.{Given}
use Rattle.cli_words.specs.declared.given.Given.TheVariants as given
use Rattle.cli_words.specs.declared.synopsis.Allowed.{Allowed}
use Rattle.cli_words.specs.declared.synopsis.Allowed.TheVariants as allowed
use Rattle.cli_words.specs.declared.synopsis.Synopsis.{Synopsis}

abbrev pub most_of : Synopsis → ℕ
most_of synopsis = unwrap_or synopsis.most usize_max

-- all operands are the values of one argument
abbrev pub operands_rule : ℕ → ℕ → Rule
operands_rule least most = record (new_rule (codes "operands")) {
  required = nat_lt 0 least;
  action = Some action.Set;
  range = Some (record { start_inclusive = least; end_inclusive = most });
}

abbrev pub deleted_rule : Rule
deleted_rule = record (new_rule (codes "deleted")) { long = Some (codes "deleted"); action = Some action.SetTrue }

abbrev pub limit_rule : Rule
limit_rule = record (new_rule (codes "limit")) { long = Some (codes "limit"); action = Some action.Set }

abbrev pub bare : App
bare =
    on_top (λ s. record s { no_binary_name = true; disable_help_flag = true; disable_version_flag = true })
    (new_app (codes "command"))

abbrev pub with_option : Allowed → App → App
with_option allowed.Nothing app = app
with_option allowed.Deleted app = with_rule app deleted_rule
with_option allowed.Limit app = with_rule app limit_rule

abbrev pub form : Synopsis → App
form synopsis =
    with_option synopsis.option (with_rule bare (operands_rule synopsis.least (max (most_of synopsis) synopsis.least)))

abbrev pub HasNoGlobals : Command → Type 0
HasNoGlobals c = (out-Command c).has_globals ≡ false

-- the command is this one, as a parse reads it
pub record IsForm (c : Command) (a : App) : Type 0 where
  pub shape : app_of c ≡ a
  pub globals : HasNoGlobals c

-- the words by which clap is asked: the option as one word, `--`, and the operands
abbrev pub option_text : Given → Option Text
option_text given.Nothing = None
option_text given.Deleted = Some (codes "--deleted")
option_text (given.Limit None) = Some (codes "--limit")
option_text (given.Limit (Some word)) = Some (codes "--limit=" ++ word.1)

abbrev pub listed : Option Text → List Text
listed None = []
listed (Some text) = text ∷ []

abbrev pub asked : Option Text → List Word → List Text
asked option operands = listed option ++ codes "--" ∷ map (λ w. w.1) operands

abbrev pub has_no_kind : Kinds → Bool
has_no_kind [] = true
has_no_kind (k ∷ ks) = false
