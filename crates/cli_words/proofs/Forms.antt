-- What clap finds in the words by which it is asked: a fault exactly where the option has no value or the number of
-- operands is not one that the command has.
use Rattle.std.proofs.Common.{◌≡◌, ℕ, zero, suc, max, ◌≤◌, ◌<◌, ◌&&◌, ◌||◌, ◌⊎◌, inl, inr, not, Result, Ok, Err, IfOk}
use Rattle.std.proofs.Common.{IfSome, IsSomeAnd, true≢false, nat_lt, Bool, true, false, List, [], ◌∷◌, ◌++◌, length}
use Rattle.std.proofs.Common.{map, Option, Some, None, refl, sym, ap, ap₂, ◌∙◌, append_assoc, arith, fold, subst}
use Rattle.std.proofs.Common.{lt-ltb, le-ltb, ltb-false, le-leb, eqb-true}
use Rattle.std.proofs.lemmas.List.{append-nil, length-map}
use Rattle.std.proofs.lemmas.Bool.{ne_eqb, eq-eqb, cases_lt, lt-leb, not-false}
use mathlib.Core.Bool.{and-false}
use Rattle.std.specs.Prelude.{codes, nat_le, nat_eq, unwrap_or}
use Rattle.clap.specs.Lexer.{usize_max}
use Rattle.clap.specs.Kinds.{Kinds, or_else, range_kinds, values_kinds, FailsBy, HasKind}
use Rattle.clap.specs.Values.{kind_of}
use Rattle.clap.specs.declared.error.Error.{Error}
use Rattle.clap.specs.declared.error.kind.ErrorKind.TheVariants as kind
use Rattle.clap.specs.Walk.{Text, Rule, rule_of, Walk, walked, walk_from, nothing_held, positional, takes_several}
use Rattle.clap.specs.Walk.{settled, finished}
use Rattle.clap.specs.Simple.{App, Shape, built, with_rule, new_rule}
use Rattle.clap.specs.declared.builder.arg.Arg.{Arg}
use Rattle.clap.specs.declared.builder.range.ValueRange.{ValueRange}
use Rattle.clap.specs.declared.builder.action.ArgAction.TheVariants as action
use Rattle.clap.specs.declared.parser.matches.ArgMatches.{ArgMatches}
use Rattle.clap.specs.Faults.{fault_of, is_simple_and_free, walk_fault, turn_fault, settle_fault, defaults_fault}
use Rattle.clap.specs.Faults.{check_fault}
use Rattle.clap.specs.declared.builder.value_parser.ValueParser.TheVariants as vp
use Rattle.clap.proofs.OnLiterals.{clap_on_literals}
use Rattle.clap.proofs.FaultLemmas.{leaf_fault}
use Rattle.cli_words.specs.Word.{Word}
use Rattle.cli_words.specs.Words.{fits, is_within, is_whole}
use Rattle.cli_words.specs.Given.{allows}
use Rattle.cli_words.specs.inner.Form.{bare, operands_rule, with_option, form, most_of, option_text, asked, listed}
use Rattle.cli_words.specs.inner.Form.{has_no_kind}
use Rattle.cli_words.specs.declared.given.Given.{Given}
use Rattle.cli_words.specs.declared.given.Given.TheVariants as given
use Rattle.cli_words.specs.declared.synopsis.Synopsis.{Synopsis}
use Rattle.cli_words.specs.declared.synopsis.Allowed.{Allowed}
use Rattle.cli_words.specs.declared.synopsis.Allowed.TheVariants as allowed

-- an option that is given as its command allows it
pub data Option' : Type 0 where
  none : Option'
  no_deleted : Option'
  deleted : Option'
  no_limit : Option'
  limit : Text → Option'

abbrev pub allowed_of : Option' → Allowed
allowed_of none = allowed.Nothing
allowed_of no_deleted = allowed.Deleted
allowed_of deleted = allowed.Deleted
allowed_of no_limit = allowed.Limit
allowed_of (limit value) = allowed.Limit

abbrev pub text_of : Option' → Option Text
text_of none = None
text_of no_deleted = None
text_of deleted = Some (codes "--deleted")
text_of no_limit = None
text_of (limit value) = Some (codes "--limit=" ++ value)

abbrev dashes : Text
dashes = codes "--"

abbrev app : Allowed → ℕ → ℕ → App
app o l e = with_option o (with_rule bare (operands_rule l e))

abbrev shape : Allowed → ℕ → ℕ → Shape
shape o l e = (built (app o l e)).top

abbrev rules : Allowed → ℕ → ℕ → List Rule
rules o l e = (shape o l e).rules

abbrev start : Walk
start = walk_from nothing_held

-- a use of the operands may have several values
abbrev pub several : ℕ → ℕ → Bool
several l e = takes_several (operands_rule l e)

-- the walk before the operands
abbrev front : Option' → ℕ → ℕ → Walk
front c l e = fold (walked (rules (allowed_of c) l e) []) start (listed (text_of c) ++ dashes ∷ [])

-- the walk after some operands
abbrev among : Option' → ℕ → ℕ → List Text → Walk
among c l e xs = record (front c l e) {
  held = record ((front c l e).held) { pending = Some (codes "operands", xs) };
  waiting = positional;
}

-- what is tested after the walk
abbrev rest_of : Shape → Walk → Kinds
rest_of s w =
    or_else (settle_fault s.rules s.args_override_self w.held)
    (or_else (defaults_fault (settled s.rules w.held).rows s.rules)
    (check_fault s (finished s.rules w.held) false))

abbrev level : Shape → List Text → Kinds
level s words = or_else (walk_fault s [] start words) (rest_of s (fold (walked s.rules []) start words))

pub level_is : (o : Allowed) (l e : ℕ) (words : List Text) → fault_of (app o l e) words ≡ level (shape o l e) words
unfolding clap_on_literals
level_is allowed.Nothing l e words = leaf_fault (built (app allowed.Nothing l e)) nothing_held words refl
level_is allowed.Deleted l e words = leaf_fault (built (app allowed.Deleted l e)) nothing_held words refl
level_is allowed.Limit l e words = leaf_fault (built (app allowed.Limit l e)) nothing_held words refl

-- ---- the command is one of which clap's contract speaks

simple_by : (o : Allowed) (l e : ℕ) (b : Bool) → several l e ≡ b → is_simple_and_free (app o l e) ≡ true
unfolding clap_on_literals
simple_by allowed.Nothing l e true h = rw h refl
simple_by allowed.Nothing l e false h = rw h refl
simple_by allowed.Deleted l e true h = rw h refl
simple_by allowed.Deleted l e false h = rw h refl
simple_by allowed.Limit l e true h = rw h refl
simple_by allowed.Limit l e false h = rw h refl

pub is_simple_form : (o : Allowed) (l e : ℕ) → is_simple_and_free (app o l e) ≡ true
is_simple_form o l e = simple_by o l e (several l e) refl

-- ---- several operands

first_step : (c : Option') (l e : ℕ) (x : Text) → several l e ≡ true
    → walked (rules (allowed_of c) l e) [] (front c l e) x ≡ among c l e (x ∷ [])
unfolding clap_on_literals
first_step none l e x h = rw h refl
first_step no_deleted l e x h = rw h refl
first_step deleted l e x h = rw h refl
first_step no_limit l e x h = rw h refl
first_step (limit value) l e x h = rw h refl

next_step : (c : Option') (l e : ℕ) (xs : List Text) (x : Text) → several l e ≡ true
    → walked (rules (allowed_of c) l e) [] (among c l e xs) x ≡ among c l e (xs ++ x ∷ [])
unfolding clap_on_literals
next_step none l e xs x h = rw h refl
next_step no_deleted l e xs x h = rw h refl
next_step deleted l e xs x h = rw h refl
next_step no_limit l e xs x h = rw h refl
next_step (limit value) l e xs x h = rw h refl

walk_all : (c : Option') (l e : ℕ) (xs ys : List Text) → several l e ≡ true
    → fold (walked (rules (allowed_of c) l e) []) (among c l e xs) ys ≡ among c l e (xs ++ ys)
walk_all c l e xs [] h = ap (among c l e) (sym (append-nil xs))
walk_all c l e xs (y ∷ ys) h =
    ap (λ w. fold (walked (rules (allowed_of c) l e) []) w ys) (next_step c l e xs y h)
    ∙ walk_all c l e (xs ++ y ∷ []) ys h ∙ ap (among c l e) (append_assoc xs (y ∷ []) ys)

no_turn_fault : (c : Option') (l e : ℕ) (xs : List Text) (x : Text) → several l e ≡ true
    → turn_fault (shape (allowed_of c) l e) [] (among c l e xs) x ≡ []
unfolding clap_on_literals
no_turn_fault none l e xs x h = rw h refl
no_turn_fault no_deleted l e xs x h = rw h refl
no_turn_fault deleted l e xs x h = rw h refl
no_turn_fault no_limit l e xs x h = rw h refl
no_turn_fault (limit value) l e xs x h = rw h refl

no_walk_fault : (c : Option') (l e : ℕ) (xs ys : List Text) → several l e ≡ true
    → walk_fault (shape (allowed_of c) l e) [] (among c l e xs) ys ≡ []
unfolding walk_fault
no_walk_fault c l e xs [] h = refl
no_walk_fault c l e xs (y ∷ ys) h =
    let rest : walk_fault (shape (allowed_of c) l e) []
    (walked (rules (allowed_of c) l e) [] (among c l e xs) y) ys ≡ [] =
    ap (λ w. walk_fault (shape (allowed_of c) l e) [] w ys) (next_step c l e xs y h)
    ∙ no_walk_fault c l e (xs ++ y ∷ []) ys h in
    ap₂ or_else (no_turn_fault c l e xs y h) rest

or_else_nil : (k : Kinds) → or_else k [] ≡ k
or_else_nil [] = refl
or_else_nil (x ∷ xs) = refl

strings_pass : (xs : List Text) → values_kinds false vp.String xs ≡ []
strings_pass [] = refl
strings_pass (x ∷ xs) = strings_pass xs

-- the words up to the first operand
to_first : (c : Option') (l e : ℕ) (x : Text) (xs : List Text)
    → level (shape (allowed_of c) l e) (listed (text_of c) ++ dashes ∷ x ∷ xs)
    ≡ or_else (walk_fault (shape (allowed_of c) l e) [] (walked (rules (allowed_of c) l e) [] (front c l e) x) xs)
    (rest_of (shape (allowed_of c) l e)
    (fold (walked (rules (allowed_of c) l e) []) (walked (rules (allowed_of c) l e) [] (front c l e) x) xs))
unfolding clap_on_literals
to_first none l e x xs = refl
to_first no_deleted l e x xs = refl
to_first deleted l e x xs = refl
to_first no_limit l e x xs = refl
to_first (limit value) l e x xs = refl

-- after the operands their number is tested
ends_by : (c : Option') (l e : ℕ) (x : Text) (xs : List Text) (b : Bool) → nat_lt 0 l ≡ b
    → rest_of (shape (allowed_of c) l e) (among c l e (x ∷ xs))
    ≡ or_else (or_else (range_kinds l e (length (x ∷ xs))) (values_kinds false vp.String (x ∷ xs))) []
unfolding clap_on_literals
ends_by none l e x xs true h = rw h refl
ends_by none l e x xs false h = rw h refl
ends_by no_deleted l e x xs true h = rw h refl
ends_by no_deleted l e x xs false h = rw h refl
ends_by deleted l e x xs true h = rw h refl
ends_by deleted l e x xs false h = rw h refl
ends_by no_limit l e x xs true h = rw h refl
ends_by no_limit l e x xs false h = rw h refl
ends_by (limit value) l e x xs true h = rw h refl
ends_by (limit value) l e x xs false h = rw h refl

several_is : (c : Option') (l e : ℕ) (x : Text) (xs : List Text) → several l e ≡ true
    → level (shape (allowed_of c) l e) (listed (text_of c) ++ dashes ∷ x ∷ xs) ≡ range_kinds l e (length (x ∷ xs))
several_is c l e x xs h =
    let s = shape (allowed_of c) l e in
    let from : Walk → Kinds = λ w. or_else (walk_fault s [] w xs) (rest_of s (fold (walked s.rules []) w xs)) in
    let counted = range_kinds l e (length (x ∷ xs)) in
    to_first c l e x xs ∙ ap from (first_step c l e x h)
    ∙ ap₂ or_else (no_walk_fault c l e (x ∷ []) xs h) (ap (rest_of s) (walk_all c l e (x ∷ []) xs h))
    ∙ ends_by c l e x xs (nat_lt 0 l) refl
    ∙ or_else_nil _ ∙ ap (or_else counted) (strings_pass (x ∷ xs)) ∙ or_else_nil counted

-- ---- how many operands there may be

range_fits : (l e n : ℕ) → l ≤ e → has_no_kind (range_kinds l e (suc n)) ≡ (nat_le l (suc n) && nat_le (suc n) e)
range_fits l e n within = go (nat_eq l e) refl (cases_lt (suc n) l) (cases_lt e (suc n))
  where
    some : nat_eq (suc n) 0 ≡ false
    some = ne_eqb (suc n) 0 (λ same. omega arith)

    go : (q : Bool) → nat_eq l e ≡ q → (suc n < l) ⊎ (l ≤ suc n) → (e < suc n) ⊎ (suc n ≤ e)
        → has_no_kind (range_kinds l e (suc n)) ≡ (nat_le l (suc n) && nat_le (suc n) e)
    go true q (inl low) high =
        rw (some, and-false (nat_lt 0 l), q, ne_eqb l (suc n) (λ same. omega arith), lt-leb l (suc n) low) refl
    go true q (inr enough) (inl high) =
        let same : l ≡ e = eqb-true l e q in
        rw (
          some,
          and-false (nat_lt 0 l),
          q,
          ne_eqb l (suc n) (λ other. omega arith),
          le-leb l (suc n) enough,
          lt-leb (suc n) e high,
        ) refl
    go true q (inr enough) (inr few) =
        let same : l ≡ e = eqb-true l e q in
        let here : l ≡ suc n = omega arith in
        rw (some, and-false (nat_lt 0 l), q, eq-eqb l (suc n) here, le-leb l (suc n) enough, le-leb (suc n) e few) refl
    go false q (inl low) high =
        rw (some, and-false (nat_lt 0 l), q, lt-ltb (suc n) l low, lt-leb l (suc n) low) refl
    go false q (inr enough) (inl high) =
        rw (
          some,
          and-false (nat_lt 0 l),
          q,
          le-ltb (suc n) l enough,
          lt-ltb e (suc n) high,
          le-leb l (suc n) enough,
          lt-leb (suc n) e high,
        ) refl
    go false q (inr enough) (inr few) =
        rw (
          some,
          and-false (nat_lt 0 l),
          q,
          le-ltb (suc n) l enough,
          le-ltb e (suc n) few,
          le-leb l (suc n) enough,
          le-leb (suc n) e few,
        ) refl

-- ---- no operand

empty_by : (c : Option') (l e : ℕ) (b : Bool) → nat_lt 0 l ≡ b
    → has_no_kind (level (shape (allowed_of c) l e) (listed (text_of c) ++ dashes ∷ [])) ≡ not b
unfolding clap_on_literals
empty_by none l e true h = rw h refl
empty_by none l e false h = rw h refl
empty_by no_deleted l e true h = rw h refl
empty_by no_deleted l e false h = rw h refl
empty_by deleted l e true h = rw h refl
empty_by deleted l e false h = rw h refl
empty_by no_limit l e true h = rw h refl
empty_by no_limit l e false h = rw h refl
empty_by (limit value) l e true h = rw h refl
empty_by (limit value) l e false h = rw h refl

nil_fits : (l e : ℕ) → not (nat_lt 0 l) ≡ (nat_le l 0 && nat_le 0 e)
nil_fits l e = elim (cases_lt 0 l) [
  | inl some ↦ rw (lt-ltb 0 l some, lt-leb l 0 some) refl
  | inr none' ↦ rw (le-ltb 0 l none', le-leb l 0 none', le-leb 0 e (omega arith)) refl
]

-- ---- at most one operand, and no fewer than that

-- whether clap finds no fault in these operands
abbrev clean : Option' → ℕ → ℕ → List Text → Bool
clean c l e xs = has_no_kind (level (shape (allowed_of c) l e) (listed (text_of c) ++ dashes ∷ xs))

one_of_none : (c : Option') (x : Text) → clean c 0 0 (x ∷ []) ≡ false
unfolding clap_on_literals
one_of_none none x = refl
one_of_none no_deleted x = refl
one_of_none deleted x = refl
one_of_none no_limit x = refl
one_of_none (limit value) x = refl

one_of_one : (c : Option') (x : Text) → clean c 1 1 (x ∷ []) ≡ true
unfolding clap_on_literals
one_of_one none x = refl
one_of_one no_deleted x = refl
one_of_one deleted x = refl
one_of_one no_limit x = refl
one_of_one (limit value) x = refl

two_of_none : (c : Option') (x y : Text) (xs : List Text) → clean c 0 0 (x ∷ y ∷ xs) ≡ false
unfolding clap_on_literals
two_of_none none x y xs = refl
two_of_none no_deleted x y xs = refl
two_of_none deleted x y xs = refl
two_of_none no_limit x y xs = refl
two_of_none (limit value) x y xs = refl

two_of_one : (c : Option') (x y : Text) (xs : List Text) → clean c 1 1 (x ∷ y ∷ xs) ≡ false
unfolding clap_on_literals
two_of_one none x y xs = refl
two_of_one no_deleted x y xs = refl
two_of_one deleted x y xs = refl
two_of_one no_limit x y xs = refl
two_of_one (limit value) x y xs = refl

-- what the number of operands must be
abbrev counted : ℕ → ℕ → ℕ → Bool
counted l e n = nat_le l n && nat_le n e

too_many : (l n : ℕ) → l < n → false ≡ counted l l n
too_many l n more = sym (ap (λ b. nat_le l n && b) (lt-leb n l more) ∙ and-false (nat_le l n))

single_at : (c : Option') (l : ℕ) (x : Text) (xs : List Text) → l ≤ 1
    → clean c l l (x ∷ xs) ≡ counted l l (length (x ∷ xs))
single_at c zero x [] few = one_of_none c x ∙ too_many 0 1 (omega arith)
single_at c zero x (y ∷ ys) few = two_of_none c x y ys ∙ too_many 0 (length (x ∷ y ∷ ys)) (omega arith)
single_at c (suc zero) x [] few = one_of_one c x
single_at c (suc zero) x (y ∷ ys) few = two_of_one c x y ys ∙ too_many 1 (length (x ∷ y ∷ ys)) (omega arith)
single_at c (suc (suc l)) x xs few = absurd (omega arith)

or_parts : (a b : Bool) → (a || b) ≡ false → (a ≡ false) × (b ≡ false)
or_parts true b h = absurd (true≢false h)
or_parts false b h = (refl, h)

single_is : (c : Option') (l e : ℕ) (x : Text) (xs : List Text) → several l e ≡ false
    → clean c l e (x ∷ xs) ≡ counted l e (length (x ∷ xs))
single_is c l e x xs h =
    let parts = or_parts (not (nat_eq l e)) (nat_lt 1 l) h in
    let same : l ≡ e = eqb-true l e (not-false (nat_eq l e) parts.0) in
    let few : l ≤ 1 = ltb-false 1 l parts.1 in
    subst (λ m. clean c l m (x ∷ xs) ≡ counted l m (length (x ∷ xs))) same (single_at c l x xs few)

-- ---- any number of operands

operands_by : (c : Option') (l e : ℕ) (x : Text) (xs : List Text) (b : Bool) → several l e ≡ b → l ≤ e
    → clean c l e (x ∷ xs) ≡ counted l e (length (x ∷ xs))
operands_by c l e x xs true h within = ap has_no_kind (several_is c l e x xs h) ∙ range_fits l e (length xs) within
operands_by c l e x xs false h within = single_is c l e x xs h

pub form_is : (c : Option') (l e : ℕ) (xs : List Text) → l ≤ e
    → has_no_kind (fault_of (app (allowed_of c) l e) (listed (text_of c) ++ dashes ∷ xs)) ≡ counted l e (length xs)
form_is c l e [] within =
    ap has_no_kind (level_is (allowed_of c) l e (listed (text_of c) ++ dashes ∷ []))
    ∙ empty_by c l e (nat_lt 0 l) refl ∙ nil_fits l e
form_is c l e (x ∷ xs) within =
    ap has_no_kind (level_is (allowed_of c) l e (listed (text_of c) ++ dashes ∷ x ∷ xs))
    ∙ operands_by c l e x xs (several l e) refl within

-- ---- `--limit` without a value

limitless : (l e : ℕ) (xs : List Text)
    → has_no_kind (level (shape allowed.Limit l e) (codes "--limit" ∷ dashes ∷ xs)) ≡ false
unfolding clap_on_literals
limitless l e [] = refl
limitless l e (x ∷ xs) = refl

pub no_value : (l e : ℕ) (xs : List Text)
    → has_no_kind (fault_of (app allowed.Limit l e) (codes "--limit" ∷ dashes ∷ xs)) ≡ false
no_value l e xs = ap has_no_kind (level_is allowed.Limit l e (codes "--limit" ∷ dashes ∷ xs)) ∙ limitless l e xs

-- ---- the whole test

most_fits : (s : Synopsis) (n : ℕ) → IfSome s.most (λ m. s.least ≤ m) → n ≤ usize_max
    → counted s.least (max (most_of s) s.least) n ≡ (nat_le s.least n && is_within n s.most)
most_fits s n ordered few = go s.most ordered
  where
    go : (most : Option ℕ) → IfSome most (λ m. s.least ≤ m)
        → counted s.least (max (unwrap_or most usize_max) s.least) n ≡ (nat_le s.least n && is_within n most)
    go None ordered =
        let far : n ≤ max usize_max s.least = omega arith in
        ap (λ b. nat_le s.least n && b) (le-leb n (max usize_max s.least) far)
    go (Some m) ordered =
        let least : max m s.least ≡ m = omega arith in
        ap (λ e. nat_le s.least n && nat_le n e) least

-- the option is one that the command has
pub fits_is : (s : Synopsis) (g : Given) (ws : List Word) → allows s.option g ≡ true → IfSome s.most (λ m. s.least ≤ m)
    → length ws ≤ usize_max → has_no_kind (fault_of (form s) (asked (option_text g) ws)) ≡ fits s g (length ws)
fits_is s g ws allowed' ordered few = go s.option g allowed'
  where
    good : (c : Option') → has_no_kind
        (fault_of (app (allowed_of c) s.least (max (most_of s) s.least))
        (listed (text_of c) ++ dashes ∷ map (λ w. w.1) ws))
        ≡ (nat_le s.least (length ws) && is_within (length ws) s.most)
    good c =
        form_is c s.least (max (most_of s) s.least) (map (λ w. w.1) ws) (omega arith)
        ∙ ap (counted s.least (max (most_of s) s.least)) (length-map ws (λ (w : Word). w.1))
        ∙ most_fits s (length ws) ordered few

    go : (o : Allowed) (g' : Given) → allows o g' ≡ true
        → has_no_kind (fault_of (app o s.least (max (most_of s) s.least)) (asked (option_text g') ws))
        ≡ (is_whole g' && nat_le s.least (length ws) && is_within (length ws) s.most)
    go allowed.Nothing given.Nothing h = good none
    go allowed.Deleted given.Nothing h = good no_deleted
    go allowed.Limit given.Nothing h = good no_limit
    go allowed.Deleted given.Deleted h = good deleted
    go allowed.Limit (given.Limit None) h = no_value s.least (max (most_of s) s.least) (map (λ w. w.1) ws)
    go allowed.Limit (given.Limit (Some w)) h = good (limit w.1)
    go allowed.Nothing given.Deleted h = absurd (true≢false (sym h))
    go allowed.Nothing (given.Limit w) h = absurd (true≢false (sym h))
    go allowed.Deleted (given.Limit w) h = absurd (true≢false (sym h))
    go allowed.Limit given.Deleted h = absurd (true≢false (sym h))

-- ---- clap's answer

pub no_fault_found : (kinds : Kinds) → kinds ≡ [] → true ≡ has_no_kind kinds
no_fault_found kinds none' = sym (ap has_no_kind none')

pub fault_found : (kinds : Kinds) (e : Error) → HasKind kinds e → (kind_of e ≡ kind.OutOfMemory → ⊥)
    → false ≡ has_no_kind kinds
fault_found [] e (inl memory) other = absurd (other memory)
fault_found [] e (inr among') other = absurd among'
fault_found (k ∷ ks) e h other = refl

pub passes_answered : {E : Type 0} (a : App) (s : Synopsis) (ws : List Text) (answer : Result ArgMatches Error)
    (r : Result Bool E) → a ≡ form s
    → (is_simple_and_free a ≡ true → FailsBy (fault_of a ws) answer)
    → IfOk r (λ b. (kinds : Kinds) → FailsBy kinds answer → b ≡ has_no_kind kinds)
    → IfOk r (λ b. b ≡ has_no_kind (fault_of (form s) ws))
passes_answered a s ws answer (Ok b) same fails told =
    let simple : is_simple_and_free a ≡ true = ap is_simple_and_free same
    ∙ is_simple_form s.option s.least (max (most_of s) s.least) in
    told (fault_of a ws) (fails simple) ∙ ap (λ f. has_no_kind (fault_of f ws)) same
passes_answered a s ws answer (Err e) same fails told = tt

-- ---- the command that clap parses

some_and : {V : Type 0} (o : Option V) (v : V) → IsSomeAnd o (λ x. x ≡ v) → o ≡ Some v
some_and None v h = absurd h
some_and (Some x) v h = ap (λ y. Some y) h

pub operands_rule_is : (new required ranged acted : Arg) (range : ValueRange) (b : Bool) (least most : ℕ)
    → rule_of new ≡ new_rule (codes "operands")
    → required ≡ record new { required = b } → b ≡ nat_lt 0 least
    → ranged ≡ record required { num_vals = ranged.num_vals }
    → IsSomeAnd ranged.num_vals (λ r. r ≡ range) → range ≡ record { start_inclusive = least; end_inclusive = most }
    → acted ≡ record ranged { action = Some action.Set } → rule_of acted ≡ operands_rule least most
operands_rule_is new required ranged acted range b least most new_is required_is b_is ranged_is has_range
    range_is acted_is =
    let held : ranged.num_vals ≡ Some (record { start_inclusive = least; end_inclusive = most }) =
    some_and ranged.num_vals range has_range ∙ ap (λ r. Some r) range_is in
    ap rule_of acted_is
    ∙ ap (λ (r : Rule). record r { action = Some action.Set }) (ap rule_of ranged_is
    ∙ ap₂ (λ (r : Rule) (n : Option ValueRange). record r { range = n })
    (ap rule_of required_is ∙ ap₂ (λ (r : Rule) (t : Bool). record r { required = t }) new_is b_is) held)

pub fits_answered : {E : Type 0} (s : Synopsis) (g : Given) (ws : List Word) (option : Option Text) (words : List Text)
    (r : Result Bool E)
    → words ≡ asked option ws → option ≡ option_text g → allows s.option g ≡ true → IfSome s.most (λ m. s.least ≤ m)
    → length ws ≤ usize_max → IfOk r (λ b. b ≡ has_no_kind (fault_of (form s) words))
    → IfOk r (λ b. b ≡ fits s g (length ws))
fits_answered s g ws option words (Ok b) are is allowed' ordered few h =
    h ∙ ap (λ ts. has_no_kind (fault_of (form s) ts)) (are ∙ ap (λ o. asked o ws) is)
    ∙ fits_is s g ws allowed' ordered few
fits_answered s g ws option words (Err e) are is allowed' ordered few h = tt
