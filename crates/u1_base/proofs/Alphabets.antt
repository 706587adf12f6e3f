-- A search for a byte outside an alphabet that finds none has seen that all bytes are in it.
use Rattle.std.proofs.Common.{◌≡◌, ℕ, ◌+◌, ◌<◌, Bool, true, false, List, [], ◌∷◌, Some, None, refl, ◌∙◌, sym, cond}
use Rattle.std.proofs.Common.{◌&&◌, arith}
use Rattle.std.proofs.lemmas.Bool.{and_parts}
use Rattle.std.proofs.lemmas.Bool.Decides.{nat_tests}
use Rattle.std.proofs.lemmas.List.Elements.{All-cons, All-nil}
use Rattle.std.proofs.lemmas.Str.{IsUtf8-from_ascii}
use Rattle.std.proofs.lemmas.Str.Ascii.{IsAscii-from_all}
use Rattle.std.specs.Str.{IsUtf8}
use Rattle.u1_base.specs.Ids.{is_allowed}
use Rattle.u1_base.specs.declared.ids.Form.{Form}
use Rattle.u1_base.specs.declared.ids.Form.TheVariants.{Document, Replica, Transaction, Name}
use Rattle.std.specs.Prelude.{not, position, Option}
use Rattle.std.specs.List.{All, list_all, position_from}
use Rattle.std.proofs.lemmas.Iterator.Adapters.{position_from-zero}

-- one byte more: a byte that the search passed is in the alphabet
passed : (b : Bool) (i : ℕ) (found : Option ℕ) (all : Bool) → cond (not b) (Some i) found ≡ None
    → (found ≡ None → all ≡ true) → (b && all) ≡ true
passed true i found all none later = later none
passed false i found all none later = absurd (cc none)

all_from_position : (p : ℕ → Bool) (xs : List ℕ) (i : ℕ) → position_from (λ x. not (p x)) i xs ≡ None
    → list_all p xs ≡ true
all_from_position p [] i none = refl
all_from_position p (x ∷ xs) i none = passed (p x) i _ _ none (all_from_position p xs (i + 1))

-- no byte outside: all are in
pub list_all-position : (p : ℕ → Bool) (xs : List ℕ) → position (λ x. not (p x)) xs ≡ None → list_all p xs ≡ true
list_all-position p xs none = all_from_position p xs 0 (sym (position_from-zero (λ x. not (p x)) xs) ∙ none)

stopped : (b : Bool) (i : ℕ) (found : Option ℕ) (all : Bool) → (b && all) ≡ true → (all ≡ true → found ≡ None)
    → cond (not b) (Some i) found ≡ None
stopped true i found all each later = later each
stopped false i found all each later = absurd (cc each)

none_outside : (p : ℕ → Bool) (xs : List ℕ) (i : ℕ) → list_all p xs ≡ true → position_from (λ x. not (p x)) i xs ≡ None
none_outside p [] i each = refl
none_outside p (x ∷ xs) i each = stopped (p x) i _ _ each (none_outside p xs (i + 1))

-- all bytes in: none is found outside
pub position-list_all : (p : ℕ → Bool) (xs : List ℕ) → list_all p xs ≡ true → position (λ x. not (p x)) xs ≡ None
position-list_all p xs each = position_from-zero (λ x. not (p x)) xs ∙ none_outside p xs 0 each

-- ---- the alphabets are parts of ASCII

allowed_is_ascii : (form : Form) (b : ℕ) → is_allowed form b ≡ true → b < 128
allowed_is_ascii Document b is = grind (arith, nat_tests, is)
allowed_is_ascii Replica b is = grind (arith, nat_tests, is)
allowed_is_ascii Transaction b is = grind (arith, nat_tests, is)
allowed_is_ascii Name b is = grind (arith, nat_tests, is)

allowed_are_ascii : (form : Form) (text : List ℕ) → list_all (is_allowed form) text ≡ true → All (λ b. b < 128) text
allowed_are_ascii form [] all = All-nil (λ b. b < 128)
allowed_are_ascii form (b ∷ text) all =
    let both = and_parts _ _ all in
    All-cons (λ b. b < 128) b text (allowed_is_ascii form b both.0) (allowed_are_ascii form text both.1)

-- a text of an alphabet is UTF-8
pub IsUtf8-from_allowed : (form : Form) (text : List ℕ) → list_all (is_allowed form) text ≡ true → IsUtf8 text
IsUtf8-from_allowed form text all = IsUtf8-from_ascii text (IsAscii-from_all text (allowed_are_ascii form text all))
