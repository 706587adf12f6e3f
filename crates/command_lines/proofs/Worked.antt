-- The lines of small values, by computation.
use Rattle.std.proofs.Common.{◌≡◌, true, [], ◌∷◌, refl}
use Rattle.std.specs.Fmt.{digits}
use Rattle.std.specs.Prelude.{codes, Some, None}
use Rattle.content.specs.Tree.{Tree, field, no_fields, object, text}
use Rattle.conflicts.specs.declared.member.Member.{Member}
use Rattle.content.specs.declared.fault.ContentFault.TheVariants as content
use Rattle.disks.specs.declared.name.DiskName.TheVariants as disk
use Rattle.replica_core.specs.Commands.Effects.{Made, Document, NoDocument, Index, Now, Changed, Known}
use Rattle.u1_base.specs.Places.{Place, nowhere}
use Rattle.vector_rev.specs.Clock.{Clock}
use Rattle.command_lines.specs.Lines.{compacted_line, init_line, line_text, lines_text}
use Rattle.command_lines.specs.LastLines.{last_line}
use Rattle.command_lines.specs.declared.outcome.Outcome.TheVariants.{Done, Usage, BadContent, Refused, Damaged}
use Rattle.command_lines.specs.declared.outcome.Outcome.TheVariants.{StoreFull, LogCheck}
use Rattle.command_lines.specs.declared.outcome.Refusal.TheVariants as refusal
use Rattle.command_lines.specs.declared.outcome.UsageKind.TheVariants as usage

abbrev a1 : Clock
a1 = record { entries = (codes "a", 1) ∷ []; well = tt }

abbrev ab : Clock
ab = record { entries = (codes "a", 2) ∷ (codes "b", 11) ∷ []; well = tt }

-- {"a":"x"}
abbrev tree : Tree
tree = object (field (codes "a") (text (codes "x")) no_fields)

abbrev member : Member
member = record { rev = a1; content = Some tree }

abbrev gone : Member
gone = record { rev = ab; content = None }

abbrev third : Place
third = record { generation = 3; trans = Some (codes "T-3") }

-- ---- lines

a_database : init_line (codes "db") (codes "a") ≡ codes "database db replica a\n"
a_database = refl

a_compaction : compacted_line 196 157 ≡ codes "compacted 196 157\n"
unfolding digits
a_compaction = refl

a_made_one : line_text (Made (codes "d1") ab) ≡ codes "d1 a:2|b:11\n"
unfolding digits
a_made_one = refl

a_deleted_one : line_text (Document (codes "d1") gone true) ≡ codes "d1 a:2|b:11 conflicted deleted\n"
unfolding digits
a_deleted_one = refl

no_one : line_text NoDocument ≡ codes "none\n"
no_one = refl

an_index : line_text (Index (codes "i") (codes "lower(name)" ∷ codes "age" ∷ [])) ≡ codes "i lower(name) age\n"
an_index = refl

a_position : lines_text (Now third ∷ Now nowhere ∷ []) ≡ codes "generation 3 T-3\ngeneration 0 -\n"
unfolding digits
a_position = refl

a_change : line_text (Changed (record { doc = codes "d1"; generation = 2; trans = codes "T-2" })) ≡ codes "d1 2 T-2\n"
unfolding digits
a_change = refl

a_peer : line_text (Known (codes "b") third) ≡ codes "known b 3 T-3\n"
unfolding digits
a_peer = refl

-- ---- last lines

no_words : last_line (Usage usage.Words) ≡ codes "usage\n"
no_words = refl

a_bad_word : last_line (Usage (usage.Value 2)) ≡ codes "usage 2\n"
unfolding digits
a_bad_word = refl

an_input : last_line (BadContent content.NotObject) ≡ codes "bad-content not-object\n"
an_input = refl

a_conflict : last_line (Refused (refusal.RevisionConflict ab)) ≡ codes "refused revision-conflict a:2|b:11\n"
unfolding digits
a_conflict = refl

an_expression : last_line (Refused (refusal.IndexParse 1 6)) ≡ codes "refused index-parse 1 6\n"
unfolding digits
an_expression = refl

damage : last_line (Damaged disk.Left 24) ≡ codes "damaged left 24\n"
unfolding digits
damage = refl

full : last_line (StoreFull 4097 4096) ≡ codes "full 4097 4096\n"
unfolding digits
full = refl

a_check : last_line (LogCheck nowhere third) ≡ codes "log-check 0 - 3 T-3\n"
unfolding digits
a_check = refl

nothing_more : last_line Done ≡ []
nothing_more = refl
