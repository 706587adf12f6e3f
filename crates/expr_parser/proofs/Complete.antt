-- A text that spells a form is read as that form, whatever brackets are open before it.
use Rattle.std.proofs.Common.{◌≡◌, ℕ, ◌+◌, ◌-◌, ◌*◌, ◌/◌, ◌%◌, ◌^◌, ◌<◌, ◌≤◌, true, List, [], ◌∷◌, ◌++◌, map, codes}
use Rattle.std.proofs.Common.{Some, Result, Ok, encode_utf8_all, refl, sym, ◌∙◌, ap, append_assoc, append-nil, arith}
use Rattle.std.proofs.Common.{inl, inr, decimal, lt_of_le_of_lt, lit<}
use Rattle.std.specs.List.{list_all, join_with_byte}
use lib.Utf8.{encode}
use Rattle.std.proofs.lemmas.Fmt.{decimal_by_steps}
use Rattle.std.proofs.lemmas.Bool.{and_parts}
use Rattle.expr_parser.specs.declared.transform.Transform.{Transform}
use Rattle.expr_parser.specs.declared.transform.Transform.TheVariants.{Lower, SplitWords, Number, Truth, Combine}
use Rattle.expr_parser.specs.Forms.{Form, Forms, field, lower, split_words, number, truth, combine, no_forms, form}
use Rattle.expr_parser.specs.Forms.{forms_of}
use Rattle.expr_parser.specs.Grammar.{is_white, is_part, IsWhite, IsPart, ArePartsOfField, SpellsField, SpellsWidth}
use Rattle.expr_parser.specs.Grammar.{Around, Call, Pair, Spells, SpellsEach}
use Rattle.expr_parser.specs.Descent.{Fails}
use Rattle.expr_parser.specs.Machine.{Open, none, within, combined, State, begin, word, dot, behind, done, width}
use Rattle.expr_parser.specs.Machine.{digits, spaced, step, run, named, listed, closed, goes_on}
use Rattle.expr_parser.proofs.Classes.{is_white-comma, is_white-close, is_white-open, is_part-open, is_part-dot}
use Rattle.expr_parser.proofs.Classes.{digit_not_white, goes_on-true, goes_on-bracket, goes_on-white}
use Rattle.expr_parser.proofs.Machine.{goes, Stays, white_run, begin_stays, behind_stays, done_stays, width_stays}
use Rattle.expr_parser.proofs.Machine.{spaced_stays, Enters, begin_enters, dot_enters, enter_run, PastWord}
use Rattle.expr_parser.proofs.Machine.{past_word_run, white_past_word, Delimits, delimits_past_word, delimits_not_white}
use Rattle.expr_parser.proofs.Machine.{delimits_not_open, field_run}

-- a word, and white space behind it
pub word_run : (s : State) (K : Open) (parts : List (List ℕ)) → Enters s K parts → (p w t : List ℕ) → IsPart p
    → IsWhite w → PastWord t → run s (p ++ (w ++ t)) ≡ run (behind K parts (encode_utf8_all p)) t
word_run s K parts enters p w t part white past =
    enter_run s K parts enters p (w ++ t) part
    ∙ (past_word_run K parts (encode_utf8_all p) (w ++ t) (white_past_word w t white past)
    ∙ white_run (behind K parts (encode_utf8_all p)) (behind_stays K parts (encode_utf8_all p)) w t white)

dot_step : (K : Open) (parts : List (List ℕ)) (part : List ℕ)
    → step (word K parts part) 46 ≡ Some (dot K (parts ++ part ∷ []))
dot_step K parts part = rw is_part-dot refl

-- a field
pub names_run : (s : State) (K : Open) (parts : List (List ℕ)) → Enters s K parts → (names : List (List ℕ))
    → ArePartsOfField names → (w t : List ℕ) → IsWhite w → Delimits t
    → run s (join_with_byte 46 names ++ (w ++ t)) ≡ run (done K (field (parts ++ map encode_utf8_all names))) t
names_run s K parts enters [] h w t white d = absurd h
names_run s K parts enters (p ∷ []) h w t white d =
    word_run s K parts enters p w t h white (delimits_past_word t d)
    ∙ field_run K parts (encode_utf8_all p) t (delimits_not_white t d) (delimits_not_open t d)
names_run s K parts enters (p ∷ q ∷ names) h w t white d =
    let left : List ℕ = join_with_byte 46 (q ∷ names) ++ (w ++ t) in
    let parts' : List (List ℕ) = parts ++ encode_utf8_all p ∷ [] in
    ap (run s) (append_assoc p (46 ∷ join_with_byte 46 (q ∷ names)) (w ++ t))
    ∙ (enter_run s K parts enters p (46 ∷ left) h.0
    ∙ (goes (word K parts (encode_utf8_all p)) (dot K parts') 46 left (dot_step K parts (encode_utf8_all p))
    ∙ (names_run (dot K parts') K parts' (dot_enters K parts') (q ∷ names) h.1 w t white d
    ∙ ap (λ (ps : List (List ℕ)). run (done K (field ps)) t)
    (append_assoc parts (encode_utf8_all p ∷ []) (map encode_utf8_all (q ∷ names))))))

field_core : (K : Open) (parts : List (List ℕ)) (core w t : List ℕ) → SpellsField parts core → IsWhite w → Delimits t
    → run (begin K) (core ++ (w ++ t)) ≡ run (done K (field parts)) t
field_core K parts core w t h white d =
    ap (λ (x : List ℕ). run (begin K) (x ++ (w ++ t))) h.is
    ∙ (names_run (begin K) K [] (begin_enters K) h.names h.are_parts w t white d
    ∙ ap (λ (ps : List (List ℕ)). run (done K (field ps)) t) (sym h.kept))

-- white space around
regroup : (a b c t : List ℕ) → (a ++ (b ++ c)) ++ t ≡ a ++ (b ++ (c ++ t))
regroup a b c t = simp append_assoc

pub around_run : (s : State) → Stays s → (r : Result Form (List ℕ)) (P : List ℕ → Type 0) (text t : List ℕ)
    → (a : Around P text) → ((core w : List ℕ) → P core → IsWhite w → run s (core ++ (w ++ t)) ≡ r)
    → run s (text ++ t) ≡ r
around_run s stays r P text t a inner =
    ap (λ (x : List ℕ). run s (x ++ t)) a.is
    ∙ (ap (run s) (regroup a.before a.core a.behind t)
    ∙ (white_run s stays a.before (a.core ++ (a.behind ++ t)) a.white_before
    ∙ inner a.core a.behind a.holds a.white_behind))

-- a word and its bracket
open_past_word : (t : List ℕ) → PastWord (40 ∷ t)
open_past_word t = (is_part-open, refl)

call_step : (K : Open) (t : Transform) (part : List ℕ) → named part ≡ Some t
    → step (behind K [] part) 40 ≡ Some (begin (within t K))
call_step K t part e = rw (is_white-open, e) refl

pub bracket_run : (K : Open) (t : Transform) (p w u : List ℕ) → IsPart p → named (encode_utf8_all p) ≡ Some t
    → IsWhite w → run (begin K) (p ++ (w ++ 40 ∷ u)) ≡ run (begin (within t K)) u
bracket_run K t p w u part e white =
    word_run (begin K) K [] (begin_enters K) p w (40 ∷ u) part white (open_past_word u)
    ∙ goes (behind K [] (encode_utf8_all p)) (begin (within t K)) 40 u (call_step K t (encode_utf8_all p) e)

regroup_call : (p gap inside w t : List ℕ) → (p ++ (gap ++ 40 ∷ (inside ++ 41 ∷ []))) ++ (w ++ t) ≡ p
    ++ (gap ++ 40 ∷ (inside ++ 41 ∷ (w ++ t)))
regroup_call p gap inside w t = simp append_assoc

call_core : (K : Open) (t : Transform) (p : List ℕ) → IsPart p → named (encode_utf8_all p) ≡ Some t
    → (f : Form) (P : List ℕ → Type 0)
    → ((inside u : List ℕ) → P inside → run (begin (within t K)) (inside ++ 41 ∷ u) ≡ run (done K f) u)
    → (core w u : List ℕ) → Call p P core → IsWhite w → run (begin K) (core ++ (w ++ u)) ≡ run (done K f) u
call_core K t p part e f P inner core w u h white =
    ap (λ (x : List ℕ). run (begin K) (x ++ (w ++ u))) h.is
    ∙ (ap (run (begin K)) (regroup_call p h.gap h.inside w u)
    ∙ (bracket_run K t p h.gap (h.inside ++ 41 ∷ (w ++ u)) part e h.white
    ∙ (inner h.inside (w ++ u) h.holds
    ∙ white_run (done K f) (done_stays K f) w u white)))

-- the words
pub lower_part : IsPart (codes "lower")
unfolding is_part is_white
lower_part = record { some = omega arith; allowed = refl }

split_words_part : IsPart (codes "split_words")
unfolding is_part is_white
split_words_part = record { some = omega arith; allowed = refl }

number_part : IsPart (codes "number")
unfolding is_part is_white
number_part = record { some = omega arith; allowed = refl }

bool_part : IsPart (codes "bool")
unfolding is_part is_white
bool_part = record { some = omega arith; allowed = refl }

combine_part : IsPart (codes "combine")
unfolding is_part is_white
combine_part = record { some = omega arith; allowed = refl }

lower_named : named (encode_utf8_all (codes "lower")) ≡ Some Lower
unfolding encode
lower_named = refl

split_words_named : named (encode_utf8_all (codes "split_words")) ≡ Some SplitWords
unfolding encode
split_words_named = refl

number_named : named (encode_utf8_all (codes "number")) ≡ Some Number
unfolding encode
number_named = refl

bool_named : named (encode_utf8_all (codes "bool")) ≡ Some Truth
unfolding encode
bool_named = refl

combine_named : named (encode_utf8_all (codes "combine")) ≡ Some Combine
unfolding encode
combine_named = refl

-- the width
abbrev Counts : Open → Form → ℕ → List ℕ → Type 0
Counts K f n ds = 1 ≤ n → n ≤ 128 → (t : List ℕ) → run (width K f) (ds ++ t) ≡ run (digits K f n) t

first_digit : (K : Open) (f : Form) (n : ℕ) → 1 ≤ n → n < 10
    → step (width K f) (48 + n) ≡ Some (digits K f (0 * 10 + ((48 + n) - 48)))
first_digit K f n some few =
    let not_white = digit_not_white (48 + n) (omega arith) (omega arith) in
    let goes_on = goes_on-true 0 (48 + n) (omega arith) (omega arith) (omega arith) (omega arith) in
    rw (not_white, goes_on) refl

one_digit : (K : Open) (f : Form) (n : ℕ) → n < 10 → Counts K f n ((48 + n) ∷ [])
one_digit K f n few some low t =
    let same : 0 * 10 + ((48 + n) - 48) ≡ n = omega arith in
    goes (width K f) (digits K f (0 * 10 + ((48 + n) - 48))) (48 + n) t (first_digit K f n some few)
    ∙ ap (λ (m : ℕ). run (digits K f m) t) same

digit_step : (K : Open) (f : Form) (m c : ℕ) → goes_on m c ≡ true
    → step (digits K f m) c ≡ Some (digits K f (m * 10 + (c - 48)))
digit_step K f m c e = rw e refl

more_digits : (K : Open) (f : Form) (n : ℕ) (ds : List ℕ) → 10 ≤ n → Counts K f (n / 10) ds
    → Counts K f n (ds ++ ((48 + n % 10) ∷ []))
more_digits K f n ds big front some few t =
    let c : ℕ = 48 + n % 10 in
    let low : 48 ≤ c = omega arith in
    let high : c ≤ 57 = omega arith in
    let value : (n / 10) * 10 + (c - 48) ≡ n = omega arith in
    let least : 1 ≤ (n / 10) * 10 + (c - 48) = omega arith in
    let most : (n / 10) * 10 + (c - 48) ≤ 128 = omega arith in
    ap (run (width K f)) (append_assoc ds (c ∷ []) t)
    ∙ (front (omega arith) (omega arith) (c ∷ t)
    ∙ (goes (digits K f (n / 10)) (digits K f ((n / 10) * 10 + (c - 48))) c t
    (digit_step K f (n / 10) c (goes_on-true (n / 10) c low high least most))
    ∙ ap (λ (m : ℕ). run (digits K f m) t) value))

pub digits_run : (K : Open) (f : Form) (n : ℕ) → 1 ≤ n → n ≤ 128 → (t : List ℕ)
    → run (width K f) (decimal n ++ t) ≡ run (digits K f n) t
digits_run K f n some few =
    let small : n < 2 ^ 64 = lt_of_le_of_lt few (lit< tt) in
    decimal_by_steps (Counts K f) (one_digit K f) (more_digits K f) n small some few

-- white space behind the digits, and the bracket
pub close_step : (K : Open) (f : Form) (n : ℕ) → step (digits K f n) 41 ≡ Some (done K (number f n))
close_step K f n = rw (goes_on-bracket n, is_white-close) refl

pub spaced_step : (K : Open) (f : Form) (n : ℕ) → step (spaced K f n) 41 ≡ Some (done K (number f n))
spaced_step K f n = rw is_white-close refl

space_step : (K : Open) (f : Form) (n c : ℕ) → is_white c ≡ true → step (digits K f n) c ≡ Some (spaced K f n)
space_step K f n c white = let no_digit = goes_on-white n c white in rw (no_digit, white) refl

width_end : (K : Open) (f : Form) (n : ℕ) (w u : List ℕ) → IsWhite w
    → run (digits K f n) (w ++ 41 ∷ u) ≡ run (done K (number f n)) u
width_end K f n [] u white = goes (digits K f n) (done K (number f n)) 41 u (close_step K f n)
width_end K f n (c ∷ w) u white =
    let both = and_parts (is_white c) (list_all is_white w) white in
    goes (digits K f n) (spaced K f n) c (w ++ 41 ∷ u) (space_step K f n c both.0)
    ∙ (white_run (spaced K f n) (spaced_stays K f n) w (41 ∷ u) both.1
    ∙ goes (spaced K f n) (done K (number f n)) 41 u (spaced_step K f n))

pub width_core : (K : Open) (f : Form) (n : ℕ) (core w u : List ℕ) → SpellsWidth n core → IsWhite w
    → run (width K f) (core ++ (w ++ 41 ∷ u)) ≡ run (done K (number f n)) u
width_core K f n core w u h white =
    ap (λ (x : List ℕ). run (width K f) (x ++ (w ++ 41 ∷ u))) h.is
    ∙ (digits_run K f n h.least h.greatest (w ++ 41 ∷ u)
    ∙ width_end K f n w u white)

-- the closing bracket of a transform of one argument
pub lower_close : (K : Open) (f : Form) (u : List ℕ) → run (done (within Lower K) f) (41 ∷ u) ≡ run (done K (lower f)) u
lower_close K f u = let here : step (done (within Lower K) f) 41 ≡ Some (done K (lower f)) = rw is_white-close refl
    in goes (done (within Lower K) f) (done K (lower f)) 41 u here

pub split_words_close : (K : Open) (f : Form) (u : List ℕ)
    → run (done (within SplitWords K) f) (41 ∷ u) ≡ run (done K (split_words f)) u
split_words_close K f u = let here : step (done (within SplitWords K) f) 41 ≡ Some (done K (split_words f)) =
    rw is_white-close refl in goes (done (within SplitWords K) f) (done K (split_words f)) 41 u here

pub truth_close : (K : Open) (f : Form) (u : List ℕ) → run (done (within Truth K) f) (41 ∷ u) ≡ run (done K (truth f)) u
truth_close K f u = let here : step (done (within Truth K) f) 41 ≡ Some (done K (truth f)) = rw is_white-close refl
    in goes (done (within Truth K) f) (done K (truth f)) 41 u here

pub number_comma : (K : Open) (f : Form) (u : List ℕ) → run (done (within Number K) f) (44 ∷ u) ≡ run (width K f) u
number_comma K f u = let here : step (done (within Number K) f) 44 ≡ Some (width K f) = rw is_white-comma refl
    in goes (done (within Number K) f) (width K f) 44 u here

-- an argument list that is open, with these arguments read
abbrev pub Lists : Open → Open → List Form → Type 0
Lists F K fs = (f : Form) (c : ℕ) → closed F f c ≡ listed K (fs ++ f ∷ []) c

pub list_close : (F K : Open) (fs : List Form) → Lists F K fs → (f : Form) (u : List ℕ)
    → run (done F f) (41 ∷ u) ≡ run (done K (combine (forms_of (fs ++ f ∷ [])))) u
list_close F K fs lists f u =
    let here : step (done F f) 41 ≡ Some (done K (combine (forms_of (fs ++ f ∷ [])))) =
    rw (is_white-close, lists f 41) refl in
    goes (done F f) (done K (combine (forms_of (fs ++ f ∷ [])))) 41 u here

list_comma : (F K : Open) (fs : List Form) → Lists F K fs → (f : Form) (u : List ℕ)
    → run (done F f) (44 ∷ u) ≡ run (begin (combined (fs ++ f ∷ []) K)) u
list_comma F K fs lists f u =
    let here : step (done F f) 44 ≡ Some (begin (combined (fs ++ f ∷ []) K)) = rw (is_white-comma, lists f 44) refl in
    goes (done F f) (begin (combined (fs ++ f ∷ []) K)) 44 u here

-- the forms as a list
abbrev pub list_of : Forms → List Form
list_of no_forms = []
list_of (form f fs) = f ∷ list_of fs

pub forms_of-list_of : (fs : Forms) → forms_of (list_of fs) ≡ fs
forms_of-list_of no_forms = refl
forms_of-list_of (form f fs) = ap (form f) (forms_of-list_of fs)

regroup_pair : (a b t : List ℕ) → (a ++ 44 ∷ b) ++ t ≡ a ++ 44 ∷ (b ++ t)
regroup_pair a b t = simp append_assoc

mutual
  pub complete : (f : Form) (K : Open) (text t : List ℕ) → Spells f text → Delimits t
      → run (begin K) (text ++ t) ≡ run (done K f) t
  complete (field parts) K text t h d =
      around_run (begin K) (begin_stays K) (run (done K (field parts)) t) (SpellsField parts) text t h
      (λ core w p white. field_core K parts core w t p white d)
  complete (lower f) K text t h d =
      around_run (begin K) (begin_stays K) (run (done K (lower f)) t) (Call (codes "lower") (Spells f)) text t h
      (λ core w p white. call_core K Lower (codes "lower") lower_part lower_named (lower f) (Spells f)
      (λ inside u q. complete f (within Lower K) inside (41 ∷ u) q (inr refl) ∙ lower_close K f u) core w t p white)
  complete (split_words f) K text t h d =
      around_run (begin K) (begin_stays K) (run (done K (split_words f)) t)
      (Call (codes "split_words") (Spells f)) text t h
      (λ core w p white. call_core K SplitWords (codes "split_words") split_words_part split_words_named
      (split_words f) (Spells f)
      (λ inside u q. complete f (within SplitWords K) inside (41 ∷ u) q (inr refl)
      ∙ split_words_close K f u) core w t p white)
  complete (number f n) K text t h d =
      around_run (begin K) (begin_stays K) (run (done K (number f n)) t)
      (Call (codes "number") (Pair (Spells f) (Around (SpellsWidth n)))) text t h
      (λ core w p white. call_core K Number (codes "number") number_part number_named (number f n)
      (Pair (Spells f) (Around (SpellsWidth n)))
      (λ inside u q.
      ap (λ (x : List ℕ). run (begin (within Number K)) (x ++ 41 ∷ u)) q.is
      ∙ (ap (run (begin (within Number K))) (regroup_pair q.first q.second (41 ∷ u))
      ∙ (complete f (within Number K) q.first (44 ∷ (q.second ++ 41 ∷ u)) q.first_holds (inl refl)
      ∙ (number_comma K f (q.second ++ 41 ∷ u)
      ∙ around_run (width K f) (width_stays K f) (run (done K (number f n)) u) (SpellsWidth n) q.second
      (41 ∷ u) q.second_holds (λ core' w' p' white'. width_core K f n core' w' u p' white'))))) core w t p white)
  complete (truth f) K text t h d =
      around_run (begin K) (begin_stays K) (run (done K (truth f)) t) (Call (codes "bool") (Spells f)) text t h
      (λ core w p white. call_core K Truth (codes "bool") bool_part bool_named (truth f) (Spells f)
      (λ inside u q. complete f (within Truth K) inside (41 ∷ u) q (inr refl) ∙ truth_close K f u) core w t p white)
  complete (combine fs) K text t h d =
      around_run (begin K) (begin_stays K) (run (done K (combine fs)) t)
      (Call (codes "combine") (SpellsEach fs)) text t h
      (λ core w p white. call_core K Combine (codes "combine") combine_part combine_named (combine fs) (SpellsEach fs)
      (λ inside u q. complete_each fs (within Combine K) K [] (λ f c. refl) inside u q
      ∙ ap (λ (gs : Forms). run (done K (combine gs)) u) (forms_of-list_of fs)) core w t p white)

  pub complete_each : (fs : Forms) (F K : Open) (before : List Form) → Lists F K before → (text u : List ℕ)
      → SpellsEach fs text → run (begin F) (text ++ 41 ∷ u) ≡ run (done K (combine (forms_of (before ++ list_of fs)))) u
  complete_each no_forms F K before lists text u h = absurd h
  complete_each (form f no_forms) F K before lists text u h =
      complete f F text (41 ∷ u) h (inr refl) ∙ list_close F K before lists f u
  complete_each (form f (form g fs)) F K before lists text u h =
      ap (λ (x : List ℕ). run (begin F) (x ++ 41 ∷ u)) h.is
      ∙ (ap (run (begin F)) (regroup_pair h.first h.second (41 ∷ u))
      ∙ (complete f F h.first (44 ∷ (h.second ++ 41 ∷ u)) h.first_holds (inl refl)
      ∙ (list_comma F K before lists f (h.second ++ 41 ∷ u)
      ∙ (complete_each (form g fs) (combined (before ++ f ∷ []) K) K (before ++ f ∷ [])
      (λ f' c. refl) h.second u h.second_holds
      ∙ ap (λ (gs : List Form). run (done K (combine (forms_of gs))) u)
      (append_assoc before (f ∷ []) (list_of (form g fs)))))))

-- a text that spells a form is read as it
pub read-spelled : (f : Form) (text : List ℕ) → Spells f text → run (begin none) text ≡ Ok f
read-spelled f text h = ap (run (begin none)) (sym (append-nil text)) ∙ complete f none text [] h tt
