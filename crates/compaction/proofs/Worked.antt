-- Worked histories.
use Rattle.std.proofs.Common.{◌≡◌, ℕ, true, false, List, [], ◌∷◌, ◌++◌, length, Some, None, refl, arith}
use Rattle.std.specs.Prelude.{Bool, codes}
use Rattle.content.specs.Tree.{Tree}
use Rattle.content.specs.Canonical.{canonical}
use Rattle.vector_rev.specs.Clock.{Clock}
use Rattle.u1_base.specs.Fields.{u16_bytes, u64_bytes, text_field}
use Rattle.journal.specs.Image.{Head, first_field, header_bytes}
use Rattle.conflicts.specs.Document.{current_of}
use Rattle.conflicts.specs.State.{Text, Step, Accepted, Gone, Moved, IndexCreated, IndexDeleted, History}
use Rattle.conflicts.specs.declared.accept.Accept.{Accept}
use Rattle.conflicts.specs.declared.accept.Making.TheVariants.{Edit, Received}
use Rattle.conflicts.specs.declared.moves.PosTable.TheVariants.{Told}
use Rattle.record_codec.specs.Bodies.{accept, maybe_moved}
use Rattle.compaction.specs.Compaction.{compaction}
use Rattle.compaction.specs.Images.{image_of}
use Rattle.compaction.proofs.BodySizes.{names_in}
use Rattle.compaction.proofs.Sizes.{length-image_of}
use Rattle.compaction.proofs.Texts.{uid_texts}

abbrev a1 : Clock
a1 = record { entries = (codes "a", 1) ∷ []; well = tt }

abbrev a2 : Clock
a2 = record { entries = (codes "a", 2) ∷ []; well = tt }

abbrev b1 : Clock
b1 = record { entries = (codes "b", 1) ∷ []; well = tt }

abbrev d1 : Text
d1 = codes "d1"

abbrev taking : Clock → Bool → Accept
taking r m = record { rev = r; content = None; making = Received; parents = []; current = m }

-- ---- the marks have to be set anew

-- The third acceptance covers the current revision and is not marked, so it does not fit after the two before it; its
-- revision becomes the current one.
abbrev unfitting : List Accept
unfitting = taking a1 true ∷ taking b1 false ∷ taking a2 false ∷ []

its_current : current_of unfitting ≡ Some a2
its_current = refl

-- with the marks as they were, the two that are left would leave the other one
as_given : current_of (taking b1 false ∷ taking a2 false ∷ []) ≡ Some b1
as_given = refl

marked_anew : (t : Text)
    → compaction (Accepted d1 (taking a1 true) t None ∷ Accepted d1 (taking b1 false) t None
    ∷ Accepted d1 (taking a2 false) t None ∷ []) ≡ Gone d1 t None ∷ Accepted d1 (taking b1 false) t None
    ∷ Accepted d1 (taking a2 true) t None ∷ []
marked_anew t = refl

-- ---- positions and indexes

abbrev to_place : ℕ → Step
to_place n = Moved (record { table = Told; uid = codes "b"; at = record { generation = n; trans = None } })

-- the last move is left, here one back to generation 0, and an index that is there, by its last creation
last_ones : compaction (to_place 7 ∷ IndexCreated (codes "i") (codes "n" ∷ []) ∷ IndexDeleted (codes "i")
    ∷ IndexCreated (codes "j") (codes "n" ∷ []) ∷ IndexCreated (codes "i") (codes "m" ∷ []) ∷ IndexDeleted (codes "j")
    ∷ to_place 0 ∷ [])
    ≡ IndexCreated (codes "i") (codes "m" ∷ []) ∷ to_place 0 ∷ []
last_ones = refl

-- ---- a document that is created and put: images of 196 bytes and of 157

abbrev made : Clock → List Clock → Tree → Accept
made r ps c = record { rev = r; content = Some c; making = Edit; parents = ps; current = true }

abbrev two : Tree → Tree → Text → Text → History
two c k t v = Accepted d1 (made a1 [] c) t None ∷ Accepted d1 (made a2 (a1 ∷ []) k) v None ∷ []

-- of the first one its place in the log is left
left_two : (c k : Tree) (t v : Text)
    → compaction (two c k t v) ≡ Gone d1 t None ∷ Accepted d1 (made a2 (a1 ∷ []) k) v None ∷ []
left_two c k t v = refl

-- the uid of the header has a number, so no text of a uid stands in the bodies
no_texts : (c k : Tree) (t v : Text)
    → uid_texts (codes "a" ∷ []) (names_in (Accepted d1 (made a1 [] c) t None)
    ++ (names_in (Accepted d1 (made a2 (a1 ∷ []) k) v None) ++ [])) ≡ 0
unfolding accept maybe_moved
no_texts c k t v = refl

nor_behind : (k : Tree) (t v : Text)
    → uid_texts (codes "a" ∷ []) (names_in (Gone d1 t None)
    ++ (names_in (Accepted d1 (made a2 (a1 ∷ []) k) v None) ++ [])) ≡ 0
unfolding accept maybe_moved
nor_behind k t v = refl

abbrev head : ℕ → Head
head limit = record { name = codes "db"; uid = codes "a"; limit = limit }

length-header : (limit : ℕ) → length (header_bytes 2 (head limit)) ≡ 23
unfolding header_bytes first_field text_field u16_bytes u64_bytes
length-header limit = refl

before : (limit : ℕ) (c k : Tree) (t v : Text) → length (canonical c) ≡ 15 → length (canonical k) ≡ 2 → length t ≡ 34
    → length v ≡ 34 → length (image_of (head limit) (two c k t v)) ≡ 196
before limit c k t v ec ek et ev =
    omega (arith, length-header limit, length-image_of (head limit) (two c k t v), no_texts c k t v)

after : (limit : ℕ) (c k : Tree) (t v : Text) → length (canonical c) ≡ 15 → length (canonical k) ≡ 2 → length t ≡ 34
    → length v ≡ 34 → length (image_of (head limit) (compaction (two c k t v))) ≡ 157
after limit c k t v ec ek et ev =
    omega (arith, length-header limit, length-image_of (head limit) (compaction (two c k t v)), nor_behind k t v)
