-- How each line is spelled. A line ends in LF, which is byte 10.
use Rattle.std.specs.Prelude.{ℕ, Bool, true, false, List, ◌++◌, codes, decimal, map, Option, Some, None, unwrap_or}
use Rattle.std.specs.List.{flat_map, join_with_byte}
use Rattle.json.specs.Print.{quoted}
use Rattle.content.specs.Tree.{Tree}
use Rattle.content.specs.Canonical.{canonical}
use Rattle.conflicts.specs.State.{Text}
use Rattle.u1_base.specs.Places.{Place}
use Rattle.vector_rev.specs.ClockText.{clock_text}
use Rattle.vector_rev.specs.Counts.{Uid}
use Rattle.replica_core.specs.Commands.Effects.{Line, Made, Document, NoDocument, Conflict, IndexMade, IndexDeleted}
use Rattle.replica_core.specs.Commands.Effects.{Index, Keyed, Generation, Now, Changed, OfReplica, OfDatabase, Known}
use Rattle.replica_core.specs.Commands.Effects.{Told}

-- ---- parts of a line

-- a position: its generation and its transaction id, or a dash before the first entry
abbrev pub position_text : Place → List ℕ
position_text at = decimal at.generation ++ (codes " " ++ unwrap_or at.trans (codes "-"))

-- a content by its canonical text
abbrev pub content_text : Option Tree → List ℕ
content_text None = codes "deleted"
content_text (Some tree) = canonical tree

-- whether a document is in conflict
abbrev pub mark_text : Bool → List ℕ
mark_text true = codes "conflicted"
mark_text false = codes "-"

-- texts, each after a blank
abbrev pub blank_each : List Text → List ℕ
blank_each texts = flat_map (λ text. codes " " ++ text) texts

-- texts as a compact JSON list
abbrev pub json_list : List Text → List ℕ
json_list texts = codes "[" ++ (join_with_byte 44 (map quoted texts) ++ codes "]")

-- ---- the lines

-- of a database that was made
abbrev pub init_line : Text → Uid → List ℕ
init_line name uid = codes "database " ++ (name ++ (codes " replica " ++ (uid ++ codes "\n")))

-- of an image that was compacted: its length before, and its length after
abbrev pub compacted_line : ℕ → ℕ → List ℕ
compacted_line before after =
    codes "compacted " ++ (decimal before ++ (codes " " ++ (decimal after ++ codes "\n")))

abbrev pub line_text : Line → List ℕ
line_text (Made id rev) = id ++ (codes " " ++ (clock_text rev ++ codes "\n"))
line_text (Document id m conflicted) =
    id ++ (codes " " ++ (clock_text m.rev
    ++ (codes " " ++ (mark_text conflicted ++ (codes " " ++ (content_text m.content ++ codes "\n"))))))
line_text NoDocument = codes "none\n"
line_text (Conflict m) = clock_text m.rev ++ (codes " " ++ (content_text m.content ++ codes "\n"))
line_text (IndexMade name) = codes "index " ++ (name ++ codes "\n")
line_text (IndexDeleted name) = codes "deleted " ++ (name ++ codes "\n")
line_text (Index name exprs) = name ++ (blank_each exprs ++ codes "\n")
line_text (Keyed key) = json_list key ++ codes "\n"
line_text (Generation generation) = codes "generation " ++ (decimal generation ++ codes "\n")
line_text (Now at) = codes "generation " ++ (position_text at ++ codes "\n")
line_text (Changed change) =
    change.doc ++ (codes " " ++ (decimal change.generation ++ (codes " " ++ (change.trans ++ codes "\n"))))
line_text (OfReplica uid) = codes "replica " ++ (uid ++ codes "\n")
line_text (OfDatabase name) = codes "database " ++ (name ++ codes "\n")
line_text (Known uid at) = codes "known " ++ (uid ++ (codes " " ++ (position_text at ++ codes "\n")))
line_text (Told uid at) = codes "told " ++ (uid ++ (codes " " ++ (position_text at ++ codes "\n")))

-- the lines of a command, one after the other
abbrev pub lines_text : List Line → List ℕ
lines_text lines = flat_map line_text lines
