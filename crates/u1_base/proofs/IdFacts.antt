-- The three facts of an id, and what of them a text with a fault lacks.
use Rattle.std.proofs.Common.{◌≡◌, ◌≢◌, ◌≤◌, ℕ, true, false, cond, List, length, Some, None, refl, ◌∙◌, ap, arith}
use Rattle.std.proofs.Common.{leb-true, le-leb}
use Rattle.std.specs.List.{list_all}
use Rattle.std.proofs.lemmas.Bool.{and_from, and_parts}
use Rattle.u1_base.specs.declared.ids.Form.{Form}
use Rattle.u1_base.specs.declared.ids.IdFault.{IdFault}
use Rattle.u1_base.specs.declared.ids.IdFault.TheVariants.{Empty, TooLong, BadByte, Memory}
use Rattle.u1_base.specs.Ids.{IsFault, IsId, id_in, is_allowed, is_id, longest}
use Rattle.u1_base.proofs.Alphabets.{position-list_all}

-- an id is not empty, not too long, and all in the alphabet
pub id_facts : (form : Form) (text : List ℕ) → IsId form text → (1 ≤ length text) × (length text ≤ longest form)
    × (list_all (is_allowed form) text ≡ true)
id_facts form text is =
    let fits = and_parts _ _ is in
    let sized = and_parts _ _ fits.0 in
    (leb-true 1 (length text) sized.0, leb-true (length text) (longest form) sized.1, fits.1)

-- and such a text is an id
pub id_from : (form : Form) (text : List ℕ) → 1 ≤ length text → length text ≤ longest form
    → list_all (is_allowed form) text ≡ true → IsId form text
id_from form text some short allowed =
    and_from _ _ (and_from _ _ (le-leb 1 (length text) some) (le-leb (length text) (longest form) short)) allowed

-- ---- faults

-- a text with a fault is no id
pub IsFault-no_id : (form : Form) (text : List ℕ) (fault : IdFault) → fault ≢ Memory → IsFault form text fault
    → IsId form text → ⊥
IsFault-no_id form text Empty other is id = omega (arith, (id_facts form text id).0, ap length is)
IsFault-no_id form text (TooLong n) other is id = omega (arith, (id_facts form text id).1, is.0, is.1)
IsFault-no_id form text (BadByte at) other is id =
    absurd (cc (is.2, position-list_all (is_allowed form) text (id_facts form text id).2))
IsFault-no_id form text Memory other is id = other refl

-- ---- the id in a text

pub in_id : (form : Form) (text : List ℕ) → IsId form text → id_in form text ≡ Some text
in_id form text is = ap (λ b. cond b (Some text) None) is

pub in_none : (form : Form) (text : List ℕ) → (IsId form text → ⊥) → id_in form text ≡ None
in_none form text none =
    elim (is_id form text) as (λ b. is_id form text ≡ b → cond b (Some text) None ≡ None) [
      | true ↦ λ is. absurd (none is)
      | false ↦ λ _. refl
    ] refl

-- what reads is the text, and it is an id
pub in_some : (form : Form) (text id : List ℕ) → id_in form text ≡ Some id → (text ≡ id) × IsId form id
in_some form text id h =
    elim (is_id form text) as (λ b. is_id form text ≡ b → cond b (Some text) None ≡ Some id → (text ≡ id)
    × IsId form id) [
      | true ↦ λ is same. (cc, ap (is_id form) (cc) ∙ is)
      | false ↦ λ _ same. absurd (cc same)
    ] refl h

-- a text with a fault says no id
pub IsFault-none : (form : Form) (text : List ℕ) (fault : IdFault) → fault ≢ Memory → IsFault form text fault
    → id_in form text ≡ None
IsFault-none form text fault other is = in_none form text (IsFault-no_id form text fault other is)
