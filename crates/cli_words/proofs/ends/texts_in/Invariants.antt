use Rattle.std.proofs.Common.{◌≡◌, ◌++◌, drop}
use Rattle.std.specs.Prelude.{option_map}
use Rattle.serde_json.specs.View.{items_view}
use Rattle.cli_words.specs.Ends.{texts_in}
use Rattle.cli_words.proofs.ends.texts_in.Given as goal

-- the texts so far stand before those of the items that are left
abbrev pub invariant-loop-item : goal.invariant-loop-item
invariant-loop-item l = texts_in (items_view l.items)
    ≡ option_map (λ rest. l.texts ++ rest) (texts_in (items_view (drop l.item-index l.items)))
