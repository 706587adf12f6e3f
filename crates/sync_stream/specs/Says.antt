-- What one whole line says at its place in a stream.
use Rattle.std.specs.Prelude.{◌-◌, ◌==◌, ◌||◌, ◌&&◌, ℕ, Bool, true, false, nat_lt, if◌then◌else◌, List, [], ◌∷◌}
use Rattle.std.specs.Prelude.{length, slice_index, take, Option, Some, None}
use Rattle.std.specs.Str.{bytes_eq}
use Rattle.u1_base.specs.Places.{Place}
use Rattle.sync_stream.specs.Objects.{head_in, doc_in}
use Rattle.sync_stream.specs.declared.line.HeadKind.{HeadKind}
use Rattle.sync_stream.specs.declared.line.SyncDoc.{SyncDoc}
use Rattle.sync_stream.specs.declared.line.Line.TheVariants.{Head, Doc, End}
use Rattle.sync_stream.specs.declared.line.Next.{Next}
use Rattle.sync_stream.specs.declared.line.Next.TheVariants.{Opening, Heading, After, Closed}
use Rattle.sync_stream.specs.declared.line.Passed.{Passed}

-- ---- blanks and commas

-- a blank or a tab
abbrev pub is_blank : ℕ → Bool
is_blank b = b == 32 || b == 9

-- without the blanks and tabs at the start
abbrev pub trim_start : List ℕ → List ℕ
trim_start [] = []
trim_start (b ∷ bytes) = if is_blank b then trim_start bytes else b ∷ bytes

-- a byte before what is left of the bytes after it
abbrev pub before_trimmed : ℕ → List ℕ → List ℕ
before_trimmed b [] = if is_blank b then [] else b ∷ []
before_trimmed b (c ∷ bytes) = b ∷ c ∷ bytes

-- without the blanks and tabs at the end
abbrev pub trim_end : List ℕ → List ℕ
trim_end [] = []
trim_end (b ∷ bytes) = before_trimmed b (trim_end bytes)

-- a comma, which is 44, stands at the end
abbrev pub ends_in_comma : List ℕ → Bool
ends_in_comma bytes = nat_lt 0 (length bytes) && slice_index bytes (length bytes - 1) == 44

abbrev pub part_comma : List ℕ → List ℕ × Bool
part_comma bytes = if ends_in_comma bytes then (take (length bytes - 1) bytes, true) else (bytes, false)

-- the object of a line, and whether a comma stands after it. Blanks before the comma, and those at the start, are white
-- space of JSON, which reading the object ignores
abbrev pub object_part : List ℕ → List ℕ × Bool
object_part line = part_comma (trim_end line)

-- ---- what a line says

abbrev pub with_head : Bool → Option Place → Option Passed
with_head comma None = None
with_head comma (Some head) = Some (record { line = Some (Head head); place = After comma })

abbrev pub with_doc : Bool → Option SyncDoc → Option Passed
with_doc comma None = None
with_doc comma (Some doc) = Some (record { line = Some (Doc doc); place = After comma })

-- What a line says at its place, and which line comes after it; none where it is not as it must be there. First stands
-- `[`, which is 91 and says nothing, then the head, and after each object with a comma a document; after one without a
-- comma stands `]`, which is 93, and after that nothing.
unfoldable pub says : HeadKind → Next → List ℕ → Option Passed
says kind Opening line =
    if bytes_eq (trim_start (trim_end line)) (91 ∷ []) then Some (record { line = None; place = Heading }) else None
says kind Heading line = let part = object_part line in with_head part.1 (head_in kind part.0)
says kind (After true) line = let part = object_part line in with_doc part.1 (doc_in part.0)
says kind (After false) line =
    if bytes_eq (trim_start (trim_end line)) (93 ∷ []) then Some (record { line = Some End; place = Closed }) else None
says kind Closed line = None
