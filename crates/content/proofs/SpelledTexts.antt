-- One item and one field more of a text that is read as it would be written.
use Rattle.std.proofs.Common.{◌≡◌, ℕ, ◌-◌, ◌≤◌, ◌<◌, true, List, ◌∷◌, ◌++◌, Option, Some, None, IfSome, Bor}
use Rattle.std.proofs.Common.{IsTrue, refl, sym, ap, ◌∙◌, arith, append_assoc, append-nil, length, Less, nat_cmp}
use Rattle.std.proofs.Common.{[]}
use Rattle.std.proofs.lemmas.Cmp.{nat_list_cmp_total}
use Rattle.std.proofs.lemmas.Option.{IfSome_then}
use Rattle.std.specs.Cmp.Lexicographic.{slice_cmp}
use Rattle.std.specs.Prelude.{⊤}
use Rattle.json.specs.Print.{quoted}
use Rattle.serde_json.specs.Written.{items_text, members_text}
use Rattle.content.specs.Tree.{Tree, list, object, Items, no_items, item, Fields, no_fields, field}
use Rattle.content.specs.Tree.{items_nesting, fields_nesting}
use Rattle.content.specs.Canonical.{canonical, items_data, fields_data}
use Rattle.content.specs.Contents.{AreFormed, HasFormedFields, Precedes, most_bytes}
use Rattle.content.specs.Plain.{comes_after}
use Rattle.content.specs.inner.Fronts.{AreFieldsBefore, AreItemsBefore, FieldsBefore, IsBefore, IsNamed, IsValueBefore}
use Rattle.content.specs.inner.Fronts.{ItemsBefore}
use Rattle.content.specs.Spelled.{IsSpelled}
use Rattle.content.proofs.PutFields.{is_less}

-- ---- values

pub value_deeper : (levels : ℕ) (text : List ℕ) (r : Option (Bor (List ℕ)))
    → IfSome r (λ rest. IsValueBefore 0 text rest.now) → IfSome r (λ rest. IsValueBefore levels text rest.now)
value_deeper levels text r h = IfSome_then r h (λ rest v. (v.0, (v.1.0, omega (arith, v.1.1), v.1.2)))

pub list_value : (levels : ℕ) (text items : List ℕ) (r : Option (Bor (List ℕ))) → text ≡ 91 ∷ items → 0 < levels
    → IfSome r (λ rest. AreItemsBefore (levels - 1) items rest.now)
    → IfSome r (λ rest. IsValueBefore levels text rest.now)
list_value levels text items r first some h =
    IfSome_then r h
    (λ rest v. (list v.0, (v.1.0, omega (arith, some, v.1.1), first ∙ ap (λ (l : List ℕ). 91 ∷ l) v.1.2)))

pub object_value : (levels : ℕ) (text fields : List ℕ) (r : Option (Bor (List ℕ))) → text ≡ 123 ∷ fields → 0 < levels
    → IfSome r (λ rest. AreFieldsBefore (levels - 1) fields rest.now)
    → IfSome r (λ rest. IsValueBefore levels text rest.now)
object_value levels text fields r first some h =
    IfSome_then r h
    (λ rest v. (object v.0, (v.1.0, omega (arith, some, v.1.1), first ∙ ap (λ (l : List ℕ). 123 ∷ l) v.1.2)))

-- an object behind which nothing stands is the whole text of a content
pub object_spelled : (text fields rest : List ℕ) → text ≡ 123 ∷ fields → length text ≤ most_bytes
    → AreFieldsBefore 63 fields rest → length rest ≡ 0 → IsSpelled text
object_spelled text fields [] first short v none =
    let whole : text ≡ canonical (object v.0) = first ∙ ap (λ (l : List ℕ). 123 ∷ l) (v.1.2 ∙ append-nil _) in (
      object v.0,
      record {
        root = refl;
        shallow = omega (arith, v.1.1);
        formed = v.1.0;
        short =
            omega (arith, short, ap length whole);
      },
      whole,
    )
object_spelled text fields (x ∷ xs) first short v none = absurd (omega (arith, none))

-- ---- items

-- these items, one at least
abbrev pub MoreItems : ℕ → List ℕ → Items → List ℕ → Type 0
MoreItems levels text no_items rest = ⊥
MoreItems levels text (item t ts) rest =
    AreFormed (item t ts) × (items_nesting (item t ts) ≤ levels)
    × (text ≡ canonical t ++ (items_text true (items_data ts) ++ rest))

pub no_items_before : (levels : ℕ) (text rest : List ℕ) → text ≡ 93 ∷ rest → ItemsBefore levels text no_items rest
no_items_before levels text rest e = (tt, omega arith, e)

pub items_begun : (levels : ℕ) (text : List ℕ) (ts : Items) (rest : List ℕ) → MoreItems levels text ts rest
    → ItemsBefore levels text ts rest
items_begun levels text no_items rest m = absurd m
items_begun levels text (item t ts) rest m =
    (m.0, m.1, m.2 ∙ sym (append_assoc (canonical t) (items_text true (items_data ts)) rest))

pub one_item : (levels : ℕ) (text : List ℕ) (t : Tree) (behind rest : List ℕ) → IsBefore levels text t behind
    → behind ≡ 93 ∷ rest → MoreItems levels text (item t no_items) rest
one_item levels text t behind rest v e =
    ((v.0, tt), omega (arith, v.1), v.2 ∙ ap (λ (l : List ℕ). canonical t ++ l) e)

pub item_more : (levels : ℕ) (text : List ℕ) (t : Tree) (behind more : List ℕ) (ts : Items) (rest : List ℕ)
    → IsBefore levels text t behind → behind ≡ 44 ∷ more → MoreItems levels more ts rest
    → MoreItems levels text (item t ts) rest
item_more levels text t behind more no_items rest v e m = absurd m
item_more levels text t behind more (item u us) rest v e m = (
  (v.0, m.0),
  omega (arith, v.1, m.1),
  v.2 ∙ ap (λ (l : List ℕ). canonical t ++ l)
      (e ∙ ap (λ (l : List ℕ). 44 ∷ l)
      (m.2 ∙ sym (append_assoc (canonical u) (items_text true (items_data us)) rest))),
)

-- ---- fields

-- the name stands before all of the fields, if there is one
abbrev pub AllFollow : Option (List ℕ) → Fields → Type 0
AllFollow None fs = ⊤
AllFollow (Some name) fs = Precedes name fs

-- these fields, one at least, all behind the last name
abbrev pub MoreFields : ℕ → Option (List ℕ) → List ℕ → Fields → List ℕ → Type 0
MoreFields levels last text no_fields rest = ⊥
MoreFields levels last text (field name t fs) rest =
    HasFormedFields (field name t fs) × AllFollow last (field name t fs)
    × (fields_nesting (field name t fs) ≤ levels)
    × (text ≡ quoted name ++ 58 ∷ (canonical t ++ (members_text true (fields_data fs) ++ rest)))

field_text : (name : List ℕ) (t : Tree) (fs : Fields) (rest : List ℕ)
    → quoted name ++ 58 ∷ (canonical t ++ (members_text true (fields_data fs) ++ rest))
    ≡ (quoted name ++ 58 ∷ (canonical t ++ members_text true (fields_data fs))) ++ rest
field_text name t fs rest =
    sym (append_assoc (quoted name) (58 ∷ (canonical t ++ members_text true (fields_data fs))) rest
    ∙ ap (λ (l : List ℕ). quoted name ++ 58 ∷ l)
    (append_assoc (canonical t) (members_text true (fields_data fs)) rest))

pub no_fields_before : (levels : ℕ) (text rest : List ℕ) → text ≡ 125 ∷ rest → FieldsBefore levels text no_fields rest
no_fields_before levels text rest e = (tt, omega arith, e)

pub fields_begun : (levels : ℕ) (text : List ℕ) (fs : Fields) (rest : List ℕ) → MoreFields levels None text fs rest
    → FieldsBefore levels text fs rest
fields_begun levels text no_fields rest m = absurd m
fields_begun levels text (field name t fs) rest m = (m.0, m.2, m.3 ∙ field_text name t fs rest)

-- a name before one that stands before all of the fields stands before them too
precedes_later : (k l : List ℕ) (fs : Fields) → slice_cmp nat_cmp k l ≡ Less → Precedes l fs → Precedes k fs
precedes_later k l no_fields less h = tt
precedes_later k l (field name t fs) less h =
    (nat_list_cmp_total.trans k l name less h.0, precedes_later k l fs less h.1)

follows_later : (last : Option (List ℕ)) (name : List ℕ) (t : Tree) (fs : Fields) → IsTrue (comes_after last name)
    → Precedes name fs → AllFollow last (field name t fs)
follows_later None name t fs e h = tt
follows_later (Some last) name t fs e h =
    let less = is_less (slice_cmp nat_cmp last name) e in (less, precedes_later last name fs less h)

pub one_field : (levels : ℕ) (last : Option (List ℕ)) (text name value : List ℕ) (t : Tree) (behind rest : List ℕ)
    → IsNamed last text name value → IsBefore levels value t behind → behind ≡ 125 ∷ rest
    → MoreFields levels last text (field name t no_fields) rest
one_field levels last text name value t behind rest n v e = (
  (n.utf8, tt, v.0, tt),
  follows_later last name t no_fields n.behind tt,
  omega (arith, v.1),
  n.split ∙ ap (λ (l : List ℕ). quoted name ++ 58 ∷ l) (v.2 ∙ ap (λ (l : List ℕ). canonical t ++ l) e),
)

pub field_more : (levels : ℕ) (last : Option (List ℕ)) (text name value : List ℕ) (t : Tree) (behind more : List ℕ)
    (fs : Fields) (rest : List ℕ) → IsNamed last text name value → IsBefore levels value t behind
    → behind ≡ 44 ∷ more → MoreFields levels (Some name) more fs rest
    → MoreFields levels last text (field name t fs) rest
field_more levels last text name value t behind more no_fields rest n v e m = absurd m
field_more levels last text name value t behind more (field k u fs) rest n v e m = (
  (n.utf8, m.1, v.0, m.0),
  follows_later last name t (field k u fs) n.behind m.1,
  omega (arith, v.1, m.2),
  n.split ∙ ap (λ (l : List ℕ). quoted name ++ 58 ∷ l)
      (v.2 ∙ ap (λ (l : List ℕ). canonical t ++ l)
      (e ∙ ap (λ (l : List ℕ). 44 ∷ l) (m.3 ∙ field_text k u fs rest))),
)
