-- Items and fields that are made one by one.
use Rattle.std.proofs.Common.{◌≡◌, ℕ, ℤ, pos, negsuc, List, [], ◌∷◌, ◌++◌, map, length, Some, refl, sym, ap, ◌∙◌, subst}
use Rattle.std.proofs.Common.{◌-◌, Option, arith, append-nil, take, take_all}
use Rattle.std.proofs.lemmas.List.{length-append, map-append}
use Rattle.std.proofs.Math.Seq.{take-append_seam}
use Rattle.std.specs.Prelude.{unwrap_or}
use Rattle.serde_json.specs.Data.{Data, Num, unsigned, null}
use Rattle.serde_json.specs.Find.{of_integer}
use Rattle.serde_json.specs.Read.{max_depth, number_of, read}
use Rattle.content.specs.Canonical.{canonical, data_of}
use Rattle.content.specs.Contents.{IsContent}
use Rattle.content.specs.inner.Fronts.{IsBefore, IsNumberBefore}
use Rattle.content.specs.Reading.{tree_in, whole_in}
use Rattle.content.specs.Spelled.{IsSpelled, spelled_tree}
use Rattle.content.specs.Tree.{Tree, whole, Items, no_items, item, Fields, no_fields, field}
use Rattle.content.specs.TreeOf.{fields_of, fields_view, items_of, items_view, pair_of, tree_of}
use Rattle.content.specs.declared.value.Field.{Field}
use Rattle.content.specs.declared.value.Json.{Json}
use Rattle.content.proofs.ReadBack.{number_back, read-canonical}
use Rattle.content.proofs.Reading.{tree_back, whole_back}
use Rattle.content.proofs.SpelledTrees.{spelled_tree-is}

-- ---- items

-- these items before others
abbrev pub items_onto : List Tree → Items → Items
items_onto [] ts = ts
items_onto (u ∷ us) ts = item u (items_onto us ts)

onto_last : (us : List Tree) (t : Tree) (ts : Items) → items_onto (us ++ t ∷ []) ts ≡ items_onto us (item t ts)
onto_last [] t ts = refl
onto_last (u ∷ us) t ts = ap (item u) (onto_last us t ts)

onto_none : (us : List Tree) → items_onto us no_items ≡ items_of us
onto_none [] = refl
onto_none (u ∷ us) = ap (item u) (onto_none us)

-- one more is found
pub more_items : (old new : List Json) (j : Json) (ts : Items) → new ≡ old ++ j ∷ []
    → items_onto (map tree_of old) (item (tree_of j) ts) ≡ items_onto (map tree_of new) ts
more_items old new j ts e =
    sym (onto_last (map tree_of old) (tree_of j) ts)
    ∙ ap (λ us. items_onto us ts) (sym (ap (map tree_of) e ∙ map-append tree_of old (j ∷ [])))

-- and it is the last
pub last_item : (old new : List Json) (j : Json) → new ≡ old ++ j ∷ []
    → items_onto (map tree_of old) (item (tree_of j) no_items) ≡ items_view new
last_item old new j e = more_items old new j no_items e ∙ onto_none (map tree_of new)

-- ---- fields

abbrev pub fields_onto : List (List ℕ × Tree) → Fields → Fields
fields_onto [] fs = fs
fields_onto (p ∷ ps) fs = field p.0 p.1 (fields_onto ps fs)

pub fields_onto_last : (ps : List (List ℕ × Tree)) (p : List ℕ × Tree) (fs : Fields)
    → fields_onto (ps ++ p ∷ []) fs ≡ fields_onto ps (field p.0 p.1 fs)
fields_onto_last [] p fs = refl
fields_onto_last (q ∷ ps) p fs = ap (field q.0 q.1) (fields_onto_last ps p fs)

pub fields_onto_none : (ps : List (List ℕ × Tree)) → fields_onto ps no_fields ≡ fields_of ps
fields_onto_none [] = refl
fields_onto_none (p ∷ ps) = ap (field p.0 p.1) (fields_onto_none ps)

pub more_fields : (old new : List Field) (f : Field) (name : List ℕ) (t : Tree) (fs : Fields) → new ≡ old ++ f ∷ []
    → (pair_of f).0 ≡ name → (pair_of f).1 ≡ t
    → fields_onto (map pair_of old) (field name t fs) ≡ fields_onto (map pair_of new) fs
more_fields old new f name t fs e named is =
    (λ i. fields_onto (map pair_of old) (field (sym named i) (sym is i) fs))
    ∙ sym (fields_onto_last (map pair_of old) (pair_of f) fs)
    ∙ ap (λ ps. fields_onto ps fs) (sym (ap (map pair_of) e ∙ map-append pair_of old (f ∷ [])))

pub last_field : (old new : List Field) (f : Field) (name : List ℕ) (t : Tree) → new ≡ old ++ f ∷ []
    → (pair_of f).0 ≡ name → (pair_of f).1 ≡ t
    → fields_onto (map pair_of old) (field name t no_fields) ≡ fields_view new
last_field old new f name t e named is =
    more_fields old new f name t no_fields e named is ∙ fields_onto_none (map pair_of new)

-- ---- numbers

same_number : (y z : ℤ) → of_integer y ≡ of_integer z → y ≡ z
same_number y z e = sym (whole_back y) ∙ ap whole_in e ∙ whole_back z

front_of : (text front rest : List ℕ) → text ≡ front ++ rest → take (length text - length rest) text ≡ front
front_of text front rest e =
    ap (λ (l : List ℕ). take (length l - length rest) l) e
    ∙ ap (λ n. take n (front ++ rest)) (omega (arith, length-append front rest))
    ∙ take-append_seam front rest

-- what a number before the rest reads as
pub number_made : (text rest number : List ℕ) (z : ℤ) → IsNumberBefore text rest
    → number ≡ take (length text - length rest) text → number_of number ≡ Some (of_integer z)
    → IsBefore 0 text (whole z) rest
number_made text rest number z before is reads =
    let y = before.0 in
    let same : y ≡ z = same_number y z
    (ap (λ o. unwrap_or o (unsigned 0))
    (sym (number_back y before.1)
    ∙ ap number_of (sym (front_of text (canonical (whole y)) rest before.2) ∙ sym is) ∙ reads)) in
    subst (λ w. IsBefore 0 text (whole w) rest) same (before.1, omega arith, before.2)

-- ---- the whole text

-- the tree of which all of a content's text was made is that content
pub made_is : (text : List ℕ) (t : Tree) → IsSpelled text → IsBefore 64 text t [] → t ≡ spelled_tree text
made_is text t s b =
    let u = s.0 in
    let texts : canonical t ≡ canonical u = sym (b.2 ∙ append-nil (canonical t)) ∙ s.2 in
    let values : data_of t ≡ data_of u = ap (λ o. unwrap_or o null)
    (sym (read-canonical t b.0 (omega (arith, b.1))) ∙ ap read texts
    ∙ read-canonical u s.1.formed (omega (arith, s.1.shallow))) in
    sym (tree_back t) ∙ ap tree_in values ∙ tree_back u ∙ sym (spelled_tree-is text u s.1 s.2)
