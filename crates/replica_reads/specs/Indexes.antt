-- What an index answers: by the pairs of its table, and by the documents that this table is of.
use Rattle.std.specs.Prelude.{◌≡◌, ◌⊎◌, ℕ, Bool, ◌&&◌, if◌then◌else◌, List, length, Option, Result, Ok, Err}
use Rattle.conflicts.specs.Kept.{Kept}
use Rattle.conflicts.specs.State.{Text}
use Rattle.doc_table.specs.Listed.{Listed}
use Rattle.index_tables.specs.Order.{Key}
use Rattle.query_range.specs.Answers.{answer, is_between}
use Rattle.query_range.specs.Patterns.{meets}
use Rattle.query_range.specs.declared.pattern.Part.{Part}
use Rattle.replica_state.specs.Keyed.{Docs, IsTable, keyed}
use Rattle.replica_state.specs.declared.index.Index.{Index}
use Rattle.replica_reads.specs.Answers.{answer_by}
use Rattle.replica_reads.specs.Patterns.{has_width, pattern_in}
use Rattle.replica_reads.specs.declared.fault.QueryFault.{QueryFault}
use Rattle.replica_reads.specs.declared.fault.QueryFault.TheVariants.{WrongWidth, Memory}

-- the answer for the keys that meet the pattern, if there is one
abbrev pub for_pattern : Result (List Part) QueryFault → ((Key → Bool) → List Text) → Result (List Text) QueryFault
for_pattern (Ok parts) answers = Ok (answers (meets parts))
for_pattern (Err fault) answers = Err fault

-- the answer for the keys between two ends that fit
abbrev pub for_range : ℕ → Option Key → Option Key → ((Key → Bool) → List Text) → Result (List Text) QueryFault
for_range width start end answers =
    if has_width width start && has_width width end then Ok (answers (is_between start end)) else Err WrongWidth

-- ---- by the pairs of a table

abbrev pub searched : Index → List Text → Result (List Text) QueryFault
searched index values = for_pattern (pattern_in values (length index.exprs.texts))
    (λ wanted. answer wanted index.table.pairs)

abbrev pub looked_up : Index → Option Key → Option Key → Result (List Text) QueryFault
looked_up index start end = for_range (length index.exprs.texts) start end (λ wanted. answer wanted index.table.pairs)

-- ---- by documents

-- THE ANSWER OF A QUERY with these values, of an index with these expressions over these documents
abbrev pub queried : List Text → Docs → List Text → Result (List Text) QueryFault
queried exprs docs values = for_pattern (pattern_in values (length exprs))
    (λ wanted. answer_by wanted (keyed exprs docs))

-- THE ANSWER OF A RANGE
abbrev pub ranged : List Text → Docs → Option Key → Option Key → Result (List Text) QueryFault
ranged exprs docs start end = for_range (length exprs) start end (λ wanted. answer_by wanted (keyed exprs docs))

-- ---- what is promised

-- the result is this, unless memory runs out
abbrev pub Gives : {A : Type 0} → Result A QueryFault → Result A QueryFault → Type 0
Gives answer result = (result ≡ Err Memory) ⊎ (result ≡ answer)

-- P of the documents that the table of the index is of, whichever they are
abbrev pub OverDocuments : Index → (Docs → Type 0) → Type 0
OverDocuments index P = (docs : Listed Kept) → IsTable docs.pairs index → P docs.pairs
