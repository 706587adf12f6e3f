-- Fields of which some are asked for.
use Rattle.std.proofs.Common.{◌≡◌, ℕ, List, [], ◌∷◌, ◌++◌, map, Bool, true, false, cond, sym, ap, arith, ◌∙◌}
use Rattle.std.proofs.Common.{append-nil, filter, refl}
use Rattle.std.specs.Prelude.{if◌then◌else◌}
use Rattle.serde_json.specs.Written.{members_text}
use Rattle.content.specs.Canonical.{fields_data}
use Rattle.content.specs.Parts.{fields_among, is_among}
use Rattle.content.specs.inner.Pieces.{IsPartBefore, SomeBefore, asked}
use Rattle.content.specs.Tree.{Tree, Fields, no_fields, field, object}
use Rattle.content.specs.TreeOf.{fields_view, pair_of}
use Rattle.content.specs.declared.value.Field.{Field}
use Rattle.content.specs.declared.value.Json.{the_lemmas}
use Rattle.content.proofs.MadeTrees.{fields_onto, fields_onto_last, fields_onto_none}

one_onto : (b : Bool) (ps : List (List ℕ × Tree)) (name : List ℕ) (t : Tree) (fs : Fields)
    → fields_onto (ps ++ cond b ((name, t) ∷ []) []) fs ≡ fields_onto ps (if b then field name t fs else fs)
one_onto true ps name t fs = fields_onto_last ps (name, t) fs
one_onto false ps name t fs = ap (λ (qs : List (List ℕ × Tree)). fields_onto qs fs) (append-nil ps)

-- one field more was looked at
pub more_asked : (names : List (List ℕ)) (old new : List Field) (name : List ℕ) (t : Tree) (fs : Fields)
    → map pair_of new ≡ map pair_of old ++ asked names name t
    → fields_onto (map pair_of new) (fields_among names fs)
    ≡ fields_onto (map pair_of old) (fields_among names (field name t fs))
more_asked names old new name t fs e =
    ap (λ (qs : List (List ℕ × Tree)). fields_onto qs (fields_among names fs)) e
    ∙ one_onto (is_among names name) (map pair_of old) name t (fields_among names fs)

-- and it is the last
pub last_asked : (names : List (List ℕ)) (old new : List Field) (name : List ℕ) (t : Tree)
    → map pair_of new ≡ map pair_of old ++ asked names name t
    → fields_view new ≡ fields_onto (map pair_of old) (fields_among names (field name t no_fields))
last_asked names old new name t e =
    sym (fields_onto_none (map pair_of new)) ∙ more_asked names old new name t no_fields e

-- the fields of an object behind whose brace nothing stands are a part of the tree
pub whole_part : (names : List (List ℕ)) (text fields rest : List ℕ) (some : Fields) → text ≡ 123 ∷ fields
    → SomeBefore names 63 fields some rest → rest ≡ [] → IsPartBefore names text (object some)
whole_part names text fields rest some first s none =
    let all = s.0 in (
      object all,
      (
        s.1.0,
        omega (arith, s.1.1),
        first ∙ ap (λ (l : List ℕ). 123 ∷ l) (s.1.2 ∙ ap (λ (l : List ℕ). members_text false (fields_data all) ++ l) none),
      ),
      ap object s.2,
    )

-- the fields that are kept of some

pair_name : (f : Field) → (pair_of f).0 ≡ f.name
pair_name f = simp the_lemmas

one_kept : (b : Bool) (f : Field) (fs : List Field) → fields_view (if b then f ∷ fs else fs)
    ≡ (if b then field (pair_of f).0 (pair_of f).1 (fields_view fs) else fields_view fs)
one_kept true f fs = refl
one_kept false f fs = refl

pub kept_fields : (names : List (List ℕ)) (fs : List Field)
    → fields_view (filter (λ f. is_among names f.name) fs) ≡ fields_among names (fields_view fs)
kept_fields names [] = refl
kept_fields names (f ∷ fs) =
    one_kept (is_among names f.name) f (filter (λ g. is_among names g.name) fs)
    ∙ (λ i. if is_among names (sym (pair_name f) i) then field (pair_of f).0 (pair_of f).1 (kept_fields names fs i)
    else kept_fields names fs i)
