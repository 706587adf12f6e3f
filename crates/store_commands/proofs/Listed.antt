-- Lines, printed one after the other.
use Rattle.std.proofs.Common.{◌≡◌, ℕ, List, [], ◌∷◌, ◌++◌, Option, Some, None, Result, Ok, Err, refl, sym, ap, ◌∙◌}
use Rattle.std.proofs.lemmas.Grind.{flat_map-append}
use Rattle.std.specs.List.{filter_map, flat_map}
use Rattle.std.specs.Prelude.{map}
use Rattle.link.specs.Streams.{Output}
use Rattle.replica_core.specs.Commands.Effects.{Line}
use Rattle.command_lines.specs.Lines.{line_text, lines_text}
use Rattle.command_lines.specs.Puts.{Puts}
use Rattle.command_lines.specs.declared.put.PrintFault.{PrintFault}
use Rattle.command_lines.proofs.Putting.{puts_as, puts_front, puts_then}
use Rattle.store_commands.specs.inner.Shown.{line_if}

-- the lines of the items that have one
one_if : {X : Type 0} (h : X → Option Line) (o : Option Line) (x : X) (xs : List X) → h x ≡ o
    → line_if o ++ lines_text (filter_map h xs) ≡ lines_text (filter_map h (x ∷ xs))
one_if h None x xs is = rw is refl
one_if h (Some line) x xs is = rw is refl

pub lines_if : {X : Type 0} (h : X → Option Line) (xs : List X)
    → flat_map (λ x. line_if (h x)) xs ≡ lines_text (filter_map h xs)
lines_if h [] = refl
lines_if h (x ∷ xs) = ap (λ (text : List ℕ). line_if (h x) ++ text) (lines_if h xs) ∙ one_if h (h x) x xs refl

-- the lines of the items, which all have one
pub lines_of : {X : Type 0} (line : X → Line) (xs : List X)
    → flat_map (λ x. line_text (line x)) xs ≡ lines_text (map line xs)
lines_of line [] = refl
lines_of line (x ∷ xs) = ap (λ (text : List ℕ). line_text (line x) ++ text) (lines_of line xs)

-- a first line, and then the others
pub head_then : (line : Line) (lines : List Line) (a b c : Output) (result : Result (Unit {0}) PrintFault)
    → Puts (line_text line) a b (Ok tt) → Puts (lines_text lines) b c result
    → Puts (lines_text (line ∷ lines)) a c result
head_then line lines a b c result first others = puts_then (line_text line) (lines_text lines) a b c result first others

pub head_broke : (line : Line) (lines : List Line) (a b : Output) (fault : PrintFault)
    → Puts (line_text line) a b (Err fault) → Puts (lines_text (line ∷ lines)) a b (Err fault)
head_broke line lines a b fault first = puts_front (line_text line) (lines_text lines) a b fault first

-- some lines, and then others
joined_lines : (first others : List Line) → lines_text first ++ lines_text others ≡ lines_text (first ++ others)
joined_lines first others = sym (flat_map-append line_text first others)

pub both_then : (first others : List Line) (a b c : Output) (result : Result (Unit {0}) PrintFault)
    → Puts (lines_text first) a b (Ok tt) → Puts (lines_text others) b c result
    → Puts (lines_text (first ++ others)) a c result
both_then first others a b c result front rest =
    puts_as _ _ a c result (joined_lines first others)
    (puts_then (lines_text first) (lines_text others) a b c result front rest)

pub front_broke : (first others : List Line) (a b : Output) (fault : PrintFault)
    → Puts (lines_text first) a b (Err fault) → Puts (lines_text (first ++ others)) a b (Err fault)
front_broke first others a b fault front =
    puts_as _ _ a b (Err fault) (joined_lines first others)
    (puts_front (lines_text first) (lines_text others) a b fault front)
