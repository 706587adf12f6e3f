-- Lists of converted values, beside the lists of the values that they were made of.
use Rattle.std.proofs.Common.{◌≡◌, ℕ, max, Bool, false, arith, List, [], ◌∷◌, ◌++◌, map, reverse, string_bytes, refl}
use Rattle.std.proofs.Common.{sym, ap, ◌∙◌, append_assoc}
use Rattle.std.proofs.lemmas.Bool.{or_parts, or_from}
use Rattle.std.proofs.lemmas.List.{map-append, reverse-append}
use Rattle.serde_json.specs.Data.{Num, Data, Members, no_members, member, item, depth, items_depth}
use Rattle.serde_json.specs.View.{view, items_of as data_items, items_view, members_view}
use Rattle.serde_json.specs.declared.value.Value.{Value}
use Rattle.serde_json.proofs.Views.{Entry}
use Rattle.content.specs.Tree.{Tree}
use Rattle.content.specs.Canonical.{data_of, items_data, fields_data}
use Rattle.content.specs.Faults.{any_number, any_in_items}
use Rattle.content.specs.TreeOf.{tree_of, items_of, fields_of}
use Rattle.content.specs.declared.value.Json.{Json}

-- a field and an entry, each as its name and its value
abbrev pub pair_data : List ℕ × Tree → List ℕ × Data
pair_data p = (p.0, data_of p.1)

abbrev pub entry_data : Entry → List ℕ × Data
entry_data e = (string_bytes e.0, view e.1)

abbrev pub members_of_pairs : List (List ℕ × Data) → Members
members_of_pairs [] = no_members
members_of_pairs (p ∷ ps) = member p.0 p.1 (members_of_pairs ps)

pub items_data-items_of : (ts : List Tree) → items_data (items_of ts) ≡ data_items (map data_of ts)
items_data-items_of [] = refl
items_data-items_of (t ∷ ts) = ap (item (data_of t)) (items_data-items_of ts)

pub fields_data-fields_of : (fs : List (List ℕ × Tree))
    → fields_data (fields_of fs) ≡ members_of_pairs (map pair_data fs)
fields_data-fields_of [] = refl
fields_data-fields_of (f ∷ fs) = ap (member f.0 (data_of f.1)) (fields_data-fields_of fs)

pub members_of_pairs-entry_data : (es : List Entry) → members_of_pairs (map entry_data es) ≡ members_view es
members_of_pairs-entry_data [] = refl
members_of_pairs-entry_data (e ∷ es) = ap (member (string_bytes e.0) (view e.1)) (members_of_pairs-entry_data es)

-- ---- a list that is taken from its end

pub any_before_last : (p : Num → Bool) (vs : List Value) (v : Value)
    → any_in_items p (items_view (vs ++ v ∷ [])) ≡ false → (any_in_items p (items_view vs) ≡ false)
    × (any_number p (view v) ≡ false)
any_before_last p [] v e = (refl, (or_parts (any_number p (view v)) false e).0)
any_before_last p (w ∷ vs) v e =
    let parts = or_parts (any_number p (view w)) (any_in_items p (items_view (vs ++ v ∷ []))) e in
    let others = any_before_last p vs v parts.1 in
    (or_from _ _ parts.0 others.0, others.1)

pub depth_of_last : (vs : List Value) (v : Value)
    → items_depth (items_view (vs ++ v ∷ [])) ≡ max (items_depth (items_view vs)) (depth (view v))
depth_of_last [] v = omega arith
depth_of_last (w ∷ vs) v = omega (arith, depth_of_last vs v)

-- those that are left, and then those that were made of the others, are all
pub all_with_last : (rest : List Value) (v : Value) (left : List Value) (found : List Json) (j : Json)
    (more : List Json) (all : List Data) → left ≡ rest ++ v ∷ [] → more ≡ found ++ j ∷ [] → data_of (tree_of j) ≡ view v
    → map view left ++ map data_of (map tree_of (reverse found)) ≡ all
    → map view rest ++ map data_of (map tree_of (reverse more)) ≡ all
all_with_last rest v left found j more all is_left is_more same before =
    let made = map data_of (map tree_of (reverse found)) in
    ap (λ (js : List Json). map view rest ++ map data_of (map tree_of js))
    (ap reverse is_more ∙ reverse-append found (j ∷ []))
    ∙ ap (λ (d : Data). map view rest ++ d ∷ made) same
    ∙ sym (append_assoc (map view rest) (view v ∷ []) made)
    ∙ ap (λ (ds : List Data). ds ++ made) (sym (map-append view rest (v ∷ [])) ∙ ap (map view) (sym is_left))
    ∙ before

pub all_made : (items left : List Value) (found made : List Json) → left ≡ [] → made ≡ reverse found
    → map view left ++ map data_of (map tree_of (reverse found)) ≡ map view items
    → items_data (items_of (map tree_of made)) ≡ items_view items
all_made items left found made none is all =
    items_data-items_of (map tree_of made)
    ∙ ap data_items (ap (λ (js : List Json). map data_of (map tree_of js)) is
    ∙ ap (λ (vs : List Value). map view vs ++ map data_of (map tree_of (reverse found))) (sym none) ∙ all)
