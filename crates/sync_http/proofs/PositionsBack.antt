-- Ids are ASCII, and a position that was written is read as itself.
use Rattle.std.proofs.Common.{◌≡◌, ◌↔◌, ℕ, ◌<◌, ◌≤◌, pos, eqb, true, false, List, [], ◌∷◌, Option, Some}
use Rattle.std.proofs.Common.{None, IsNone, IfSome, IsUtf8, FitsSigned, unwrap_or, true≢false, refl, sym}
use Rattle.std.proofs.Common.{subst, arith}
use Rattle.std.specs.List.{list_all}
use Rattle.std.specs.Int.{w64}
use Rattle.std.proofs.lemmas.Bool.{and_parts, and_from, le-leb, lt-ltb, ne_eqb}
use Rattle.std.proofs.lemmas.Int.{ints}
use Rattle.std.proofs.lemmas.Str.{is_utf8-from_IsUtf8}
use Rattle.json.proofs.Printed.Utf8.{are_ascii, IsUtf8-are_ascii}
use Rattle.serde_json.specs.Data.{Data, number, string, unsigned}
use Rattle.serde_json.specs.Find.{get}
use Rattle.serde_json.specs.Read.{max_depth}
use Rattle.content.specs.Tree.{Tree, nesting}
use Rattle.content.specs.Canonical.{canonical, data_of}
use Rattle.content.specs.Contents.{IsFormed}
use Rattle.content.specs.Faults.{value_of}
use Rattle.content.proofs.CanonicalTexts.{IsUtf8-canonical}
use Rattle.u1_base.specs.Ids.{IsId, is_allowed}
use Rattle.u1_base.specs.Places.{Place}
use Rattle.u1_base.specs.declared.ids.Form.{Form}
use Rattle.u1_base.specs.declared.ids.Form.TheVariants.{Document, Replica, Transaction, Name}
use Rattle.u1_base.specs.declared.limits.TheConstants.{GREATEST_COUNT}
use Rattle.u1_base.proofs.IdFacts.{id_facts, in_id}
use Rattle.content.proofs.ReadBack.{read-canonical}
use Rattle.sync_http.specs.Positions.{IsPosition, place_at, position_in, trans_text}

-- ---- ids are text

pub small : (form : Form) (b : ℕ) → is_allowed form b ≡ true → b < 128
small Document b e = grind (arith, e)
small Replica b e = grind (arith, e)
small Transaction b e = grind (arith, e)
small Name b e = grind (arith, e)

ascii : (form : Form) (text : List ℕ) → list_all (is_allowed form) text ≡ true → are_ascii text ≡ true
ascii form [] e = refl
ascii form (b ∷ text) e =
    let parts = and_parts (is_allowed form b) (list_all (is_allowed form) text) e in
    and_from _ _ (lt-ltb b 128 (small form b parts.0)) (ascii form text parts.1)

pub IsUtf8-id : (form : Form) (text : List ℕ) → IsId form text → IsUtf8 text
IsUtf8-id form text is = IsUtf8-are_ascii text (ascii form text (id_facts form text is).2)

utf8_trans : (trans : Option (List ℕ)) → IfSome trans (IsId Transaction) → IsUtf8 (unwrap_or trans [])
utf8_trans None h = IsUtf8-are_ascii [] refl
utf8_trans (Some id) h = IsUtf8-id Transaction id h

pub IsUtf8-trans_text : (p : Place) → IsPosition p → IsUtf8 (trans_text p)
IsUtf8-trans_text p h = utf8_trans p.trans h.id

pub FitsSigned-generation : (p : Place) → IsPosition p → FitsSigned w64 (pos p.generation)
FitsSigned-generation p h = let less = h.counted in omega (arith, ints, less)

-- ---- the canonical text of a tree is read as its value

pub value_of-tree : (t : Tree) → IsFormed t → nesting t ≤ max_depth → value_of (canonical t) ≡ Some (data_of t)
value_of-tree t formed shallow =
    rw (is_utf8-from_IsUtf8 (canonical t) (IsUtf8-canonical t formed)) (read-canonical t formed shallow)

-- ---- positions

place_of : (g : ℕ) (trans : Option (List ℕ)) → (IsNone trans) ↔ (g ≡ 0) → IfSome trans (IsId Transaction)
    → place_at g (string (unwrap_or trans [])) ≡ Some (record { generation = g; trans = trans })
place_of g None named id =
    let zero : g ≡ 0 = named.0 refl in
    subst (λ n. place_at n (string []) ≡ Some (record { generation = n; trans = None })) (sym zero) refl
place_of g (Some t) named id =
    let other : eqb g 0 ≡ false = ne_eqb g 0 (λ e. absurd (true≢false (named.1 e))) in
    rw (other, in_id Transaction t id) refl

pub position_back : (generation_name trans_name : List ℕ) (d : Data) (p : Place) → IsPosition p
    → get generation_name d ≡ Some (number (unsigned p.generation)) → get trans_name d ≡ Some (string (trans_text p))
    → position_in generation_name trans_name d ≡ Some p
unfolding position_in
position_back generation_name trans_name d p h at1 at2 =
    rw (at1, le-leb p.generation GREATEST_COUNT h.counted, at2) (place_of p.generation p.trans h.named h.id)
