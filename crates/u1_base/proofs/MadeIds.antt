-- A made id is an id of every form.
use Rattle.std.proofs.Common.{◌≡◌, ℕ, zero, suc, ◌<◌, ◌≤◌, Bool, true, List, [], ◌∷◌, refl, arith, length}
use Rattle.std.proofs.Common.{length-append}
use Rattle.std.specs.List.{list_all}
use Rattle.std.proofs.lemmas.List.Folds.{list_all-append}
use Rattle.std.proofs.lemmas.Bool.Decides.{nat_tests}
use Rattle.uuid.specs.Text.{by_index, hex_digit, nibble, simple_text, lower}
use Rattle.u1_base.specs.declared.ids.Form.{Form}
use Rattle.u1_base.specs.declared.ids.Form.TheVariants as form_of
use Rattle.u1_base.specs.declared.made.IdKind.{IdKind}
use Rattle.u1_base.specs.declared.made.IdKind.TheVariants as kind_of
use Rattle.u1_base.specs.Ids.{IsId, is_allowed, longest}
use Rattle.u1_base.proofs.IdFacts.{id_from}
use Rattle.u1_base.specs.NewId.{new_id_text, identifier_text, prefix_of}

-- a hexadecimal digit is a letter or a digit
hex_is_allowed : (form : Form) (d : ℕ) → d < 16 → is_allowed form (hex_digit lower d) ≡ true
hex_is_allowed form_of.Document d small = grind (arith, nat_tests)
hex_is_allowed form_of.Replica d small = grind (arith, nat_tests)
hex_is_allowed form_of.Transaction d small = grind (arith, nat_tests)
hex_is_allowed form_of.Name d small = grind (arith, nat_tests)

list_all-by_index : (p : ℕ → Bool) (n : ℕ) (f : ℕ → ℕ) → ((k : ℕ) → p (f k) ≡ true) → list_all p (by_index n f) ≡ true
unfolding by_index
list_all-by_index p zero f each = refl
list_all-by_index p (suc n) f each = rw (list_all-append p, list_all-by_index p n f each, each n) refl

length-by_index : (n : ℕ) (f : ℕ → ℕ) → length (by_index n f) ≡ n
unfolding by_index
length-by_index zero f = refl
length-by_index (suc n) f = omega (arith, length-append (by_index n f) (f n ∷ []), length-by_index n f)

nibble-small : (xs : List ℕ) (k : ℕ) → nibble xs k < 16
nibble-small xs k = grind (arith, nat_tests)

length-simple_text : (xs : List ℕ) → length (simple_text lower xs) ≡ 32
length-simple_text xs = length-by_index 32 (λ k. hex_digit lower (nibble xs k))

simple_text_allowed : (form : Form) (xs : List ℕ) → list_all (is_allowed form) (simple_text lower xs) ≡ true
simple_text_allowed form xs =
    list_all-by_index (is_allowed form) 32 (λ k. hex_digit lower (nibble xs k))
    (λ k. hex_is_allowed form (nibble xs k) (nibble-small xs k))

length-prefix_of : (kind : IdKind) → length (prefix_of kind) ≡ 2
length-prefix_of kind_of.Doc = refl
length-prefix_of kind_of.Trans = refl
length-prefix_of kind_of.Replica = refl

prefix_of_allowed : (form : Form) (kind : IdKind) → list_all (is_allowed form) (prefix_of kind) ≡ true
prefix_of_allowed form_of.Document kind_of.Doc = refl
prefix_of_allowed form_of.Document kind_of.Trans = refl
prefix_of_allowed form_of.Document kind_of.Replica = refl
prefix_of_allowed form_of.Replica kind_of.Doc = refl
prefix_of_allowed form_of.Replica kind_of.Trans = refl
prefix_of_allowed form_of.Replica kind_of.Replica = refl
prefix_of_allowed form_of.Transaction kind_of.Doc = refl
prefix_of_allowed form_of.Transaction kind_of.Trans = refl
prefix_of_allowed form_of.Transaction kind_of.Replica = refl
prefix_of_allowed form_of.Name kind_of.Doc = refl
prefix_of_allowed form_of.Name kind_of.Trans = refl
prefix_of_allowed form_of.Name kind_of.Replica = refl

at_least_64 : (form : Form) → 64 ≤ longest form
at_least_64 form_of.Document = omega arith
at_least_64 form_of.Replica = omega arith
at_least_64 form_of.Transaction = omega arith
at_least_64 form_of.Name = omega arith

-- a made id has 34 bytes
pub length-new_id_text : (seed : ℕ) (kind : IdKind) (number : ℕ) → length (new_id_text seed kind number) ≡ 34
unfolding new_id_text identifier_text
length-new_id_text seed kind number =
    rw (length-append (prefix_of kind) _, length-prefix_of kind, length-simple_text _) refl

new_id_text_allowed : (form : Form) (seed : ℕ) (kind : IdKind) (number : ℕ)
    → list_all (is_allowed form) (new_id_text seed kind number) ≡ true
unfolding new_id_text identifier_text
new_id_text_allowed form seed kind number =
    rw (
      list_all-append (is_allowed form) (prefix_of kind) _,
      prefix_of_allowed form kind,
      simple_text_allowed form _,
    ) refl

-- a made id is an id, whatever the form
pub IsId-new_id_text : (form : Form) (seed : ℕ) (kind : IdKind) (number : ℕ) → IsId form (new_id_text seed kind number)
IsId-new_id_text form seed kind number =
    id_from form (new_id_text seed kind number)
    (omega (arith, length-new_id_text seed kind number))
    (omega (arith, length-new_id_text seed kind number, at_least_64 form)) (new_id_text_allowed form seed kind number)
