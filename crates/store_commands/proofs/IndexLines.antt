-- The lines of indexes, by their headings.
use Rattle.std.proofs.Common.{◌≡◌, ◌∙◌, ℕ, List, [], ◌∷◌, ◌++◌, refl, ap}
use Rattle.std.specs.List.{flat_map}
use Rattle.std.specs.Prelude.{map}
use Rattle.conflicts.specs.State.{Text}
use Rattle.replica_state.specs.Exprs.{IndexTexts}
use Rattle.replica_state.specs.Held.{Heading, named}
use Rattle.replica_state.specs.Named.{heading}
use Rattle.replica_state.specs.declared.index.Index.{Index as IndexValue}
use Rattle.replica_core.specs.Commands.Effects.{Index}
use Rattle.command_lines.specs.Lines.{line_text, lines_text}

lines_of_values : (xs : List IndexValue)
    → flat_map (λ x. line_text (Index x.name x.exprs.texts)) xs
    ≡ lines_text (map (λ index. Index index.0 index.1) (named (map heading xs)))
lines_of_values [] = refl
lines_of_values (x ∷ xs) = ap (λ (text : List ℕ). line_text (Index x.name x.exprs.texts) ++ text) (lines_of_values xs)

pub lines_of_indexes : (xs : List IndexValue) (headings : List Heading) → map heading xs ≡ headings
    → flat_map (λ x. line_text (Index x.name x.exprs.texts)) xs
    ≡ lines_text (map (λ index. Index index.0 index.1) (named headings))
lines_of_indexes xs headings is = lines_of_values xs
    ∙ ap (λ (hs : List Heading). lines_text (map (λ index. Index index.0 index.1) (named hs))) is

-- an index by what it lends of itself
pub same_index : (x : IndexValue) (name : Text) (exprs : IndexTexts) → name ≡ x.name → exprs ≡ x.exprs
    → line_text (Index name exprs.texts) ≡ line_text (Index x.name x.exprs.texts)
same_index x name exprs is those = rw (is, those) refl
