-- The format of a whole stream, apart from how it is read.
use Rattle.std.specs.Prelude.{◌≡◌, ◌⊎◌, ℕ, Bool, true, false, nat_lt, List, [], ◌∷◌, ◌++◌, map, length, Option, Some}
use Rattle.std.specs.List.{AllByRecursion, flat_map}
use Rattle.u1_base.specs.Places.{Place}
use Rattle.sync_stream.specs.Lines.{ended, IsUnbroken}
use Rattle.sync_stream.specs.Objects.{head_in, doc_in}
use Rattle.sync_stream.specs.Says.{trim_start, trim_end, object_part}
use Rattle.sync_stream.specs.Stream.{max_line}
use Rattle.sync_stream.specs.declared.line.HeadKind.{HeadKind}
use Rattle.sync_stream.specs.declared.line.Line.{Line}
use Rattle.sync_stream.specs.declared.line.Line.TheVariants.{Head, Doc, End}
use Rattle.sync_stream.specs.declared.line.SyncDoc.{SyncDoc}

-- what an object line says, whatever its place
abbrev pub head_line : HeadKind → List ℕ → Option Place
head_line kind line = head_in kind (object_part line).0

abbrev pub doc_line : List ℕ → Option SyncDoc
doc_line line = doc_in (object_part line).0

abbrev pub has_comma : List ℕ → Bool
has_comma line = (object_part line).1

-- a comma after each object line but the last: so many lines as documents, and the head
abbrev pub commas : {A : Type 0} → List A → List Bool
commas [] = false ∷ []
commas (doc ∷ docs) = true ∷ commas docs

-- the line is not too long
abbrev pub IsFitting : List ℕ → Type 0
IsFitting line = nat_lt max_line (length line) ≡ false

-- the lines are `[`, a head, documents, and `]`, and each object line but the last ends in a comma; 91 is `[` and 93
-- `]`
pub record IsBody (kind : HeadKind) (lines : List (List ℕ)) (head : Place) (docs : List SyncDoc) : Type 0 where
  pub opening : List ℕ
  pub head_at : List ℕ
  pub doc_lines : List (List ℕ)
  pub closing : List ℕ
  pub shape : lines ≡ opening ∷ head_at ∷ (doc_lines ++ closing ∷ [])
  pub opens : trim_start (trim_end opening) ≡ 91 ∷ []
  pub closes : trim_start (trim_end closing) ≡ 93 ∷ []
  pub heads : head_line kind head_at ≡ Some head
  pub says : map doc_line doc_lines ≡ map Some docs
  pub commas : map has_comma (head_at ∷ doc_lines) ≡ commas docs
  pub fits : AllByRecursion IsFitting lines

-- The text is a whole stream, and these are the lines that are given of it: its last line may stand without its CR LF,
-- and is then not given.
pub record IsStream (kind : HeadKind) (text : List ℕ) (said : List Line) : Type 0 where
  pub lines : List (List ℕ)
  pub each : AllByRecursion IsUnbroken lines
  pub head : Place
  pub docs : List SyncDoc
  pub body : IsBody kind lines head docs
  pub ends :
      ((text ≡ flat_map ended lines) × (said ≡ Head head ∷ map Doc docs ++ End ∷ []))
      ⊎ ((text ++ 13 ∷ 10 ∷ [] ≡ flat_map ended lines) × (said ≡ Head head ∷ map Doc docs))
