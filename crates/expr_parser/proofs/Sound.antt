-- What is read as a form spells it.
use Rattle.std.proofs.Common.{◌≡◌, ℕ, zero, suc, ◌+◌, ◌-◌, ◌*◌, ◌/◌, ◌%◌, ◌^◌, ◌<◌, ◌≤◌, Bool, true, false, eqb, List}
use Rattle.std.proofs.Common.{[], ◌∷◌, ◌++◌, map, length, length-append, Option, Some, None, option_map, Ok}
use Rattle.std.proofs.Common.{encode_utf8_all, refl, sym, ◌∙◌, ap, subst, append_assoc, append-nil, arith, decimal}
use Rattle.std.proofs.Common.{lt_of_le_of_lt, lit<, eqb-true}
use Rattle.std.proofs.lemmas.Fmt.{decimal_digit, decimal_step}
use Rattle.expr_parser.specs.declared.transform.Transform.{Transform}
use Rattle.expr_parser.specs.declared.transform.Transform.TheVariants.{Lower, SplitWords, Number, Truth, Combine}
use Rattle.expr_parser.specs.Forms.{Form, field, lower, split_words, number, truth, combine, forms_of}
use Rattle.expr_parser.specs.Grammar.{is_white, is_part, IsWhite, IsPart, SpellsWidth, Around, Call, Pair, Spells}
use Rattle.expr_parser.specs.Grammar.{SpellsEach}
use Rattle.expr_parser.specs.Descent.{Fails, lead_of, rest_of}
use Rattle.expr_parser.specs.Machine.{Open, none, within, combined, State, begin, behind, done, width, digits, spaced}
use Rattle.expr_parser.specs.Machine.{step, result_of, run, named, goes_on}
use Rattle.expr_parser.proofs.Classes.{is_white-open, is_white-comma, is_white-close, GoesOn, goes_on-parts}
use Rattle.expr_parser.proofs.Machine.{goes, front_rest, front_passes, rest_fails, length-rest_of, rest_run}
use Rattle.expr_parser.proofs.Machine.{begin_stays, done_stays, width_stays, spaced_stays, begin_enters}
use Rattle.expr_parser.proofs.Complete.{Lists}
use Rattle.expr_parser.proofs.Passed.{no_form_at_end, no_form_where_stuck, Wants, Marked, mark_sound, PartRead}
use Rattle.expr_parser.proofs.Passed.{part_sound, begin_wants, dotted, AreParts, behind_all, FieldRead, words_sound}
use Rattle.expr_parser.proofs.Passed.{behind_all_stays, field_all, no_call, join_dotted, parts_of_field, word_of}
use Rattle.expr_parser.proofs.Passed.{spelled_word}

-- an expression at the front of a text: what it is, and how the reading goes on behind it
record Split (K : Open) (text : List ℕ) (f : Form) : Type 0 where
  first : Form
  front : List ℕ
  rest : List ℕ
  is : text ≡ front ++ rest
  spells : Spells first front
  goes_on : run (done K first) rest ≡ Ok f
  past : Fails is_white rest

-- the closing bracket and white space behind it
record Closed (K : Open) (g : Form) (text : List ℕ) (f : Form) : Type 0 where
  gap : List ℕ
  rest : List ℕ
  is : text ≡ 41 ∷ (gap ++ rest)
  white : IsWhite gap
  goes_on : run (done K g) rest ≡ Ok f
  past : Fails is_white rest

closed_from : (K : Open) (g : Form) (cs : List ℕ) (f : Form) → run (done K g) cs ≡ Ok f → Closed K g (41 ∷ cs) f
closed_from K g cs f h = record {
  gap = lead_of is_white cs;
  rest = rest_of is_white cs;
  is = ap (λ (x : List ℕ). 41 ∷ x) (sym (front_rest is_white cs));
  white = front_passes is_white cs;
  goes_on = sym (rest_run (done K g) (done_stays K g) cs) ∙ h;
  past = rest_fails is_white cs;
}

bracket_sound : (s : State) (K : Open) (g : Form) → Wants s 41 (done K g) → (text : List ℕ) (f : Form)
    → Fails is_white text → run s text ≡ Ok f → Closed K g text f
bracket_sound s K g wants text f black h =
    let m : Marked 41 (done K g) text f = mark_sound s 41 (done K g) wants text f black h in
    subst (λ (x : List ℕ). Closed K g x f) (sym m.is) (closed_from K g m.rest f m.goes_on)

lower_wants : (K : Open) (g : Form) → Wants (done (within Lower K) g) 41 (done K (lower g))
lower_wants K g = record {
  here = rw is_white-close refl;
  nothing_else = λ c black other. rw (black, other) refl;
  not_the_end = refl;
}

split_words_wants : (K : Open) (g : Form) → Wants (done (within SplitWords K) g) 41 (done K (split_words g))
split_words_wants K g =
    record { here = rw is_white-close refl; nothing_else = λ c black other. rw (black, other) refl; not_the_end = refl }

truth_wants : (K : Open) (g : Form) → Wants (done (within Truth K) g) 41 (done K (truth g))
truth_wants K g = record {
  here = rw is_white-close refl;
  nothing_else = λ c black other. rw (black, other) refl;
  not_the_end = refl;
}

number_wants : (K : Open) (g : Form) → Wants (done (within Number K) g) 44 (width K g)
number_wants K g = record {
  here = rw is_white-comma refl;
  nothing_else = λ c black other. rw (black, other) refl;
  not_the_end = refl;
}

spaced_wants : (K : Open) (g : Form) (n : ℕ) → Wants (spaced K g n) 41 (done K (number g n))
spaced_wants K g n = record {
  here = rw is_white-close refl;
  nothing_else = λ c black other. rw (black, other) refl;
  not_the_end = refl;
}

-- the digits of a width, white space and the bracket
record DigitsRead (K : Open) (g : Form) (n : ℕ) (text : List ℕ) (f : Form) : Type 0 where
  value : ℕ
  more_digits : List ℕ
  gap : List ℕ
  rest : List ℕ
  is : text ≡ more_digits ++ (gap ++ rest)
  white : IsWhite gap
  few : value ≤ 128
  some : 1 ≤ value
  decimal_is : decimal value ≡ decimal n ++ more_digits
  goes_on : run (spaced K g value) rest ≡ Ok f
  past : Fails is_white rest

spaced_after : (K : Open) (g : Form) (n : ℕ) (text : List ℕ) (f : Form) → 1 ≤ n → n ≤ 128
    → run (spaced K g n) text ≡ Ok f → DigitsRead K g n text f
spaced_after K g n text f some few h = record {
  value = n;
  more_digits = [];
  gap = lead_of is_white text;
  rest = rest_of is_white text;
  is = sym (front_rest is_white text);
  white = front_passes is_white text;
  few = few;
  some = some;
  decimal_is = sym (append-nil (decimal n));
  goes_on = sym (rest_run (spaced K g n) (spaced_stays K g n) text) ∙ h;
  past = rest_fails is_white text;
}

-- one digit more behind a number
decimal_more : (n c : ℕ) → 1 ≤ n → GoesOn n c → decimal (n * 10 + (c - 48)) ≡ decimal n ++ c ∷ []
decimal_more n c some go =
    let m : ℕ = n * 10 + (c - 48) in
    let low : 48 ≤ c = go.low in
    let high : c ≤ 57 = go.high in
    let tens : m / 10 ≡ n = omega arith in
    let ones : 48 + m % 10 ≡ c = omega arith in
    let big : 10 ≤ m = omega arith in
    let small : m < 2 ^ 64 = lt_of_le_of_lt go.few (lit< tt) in
    decimal_step m big small
    ∙ (ap (λ (k : ℕ). decimal k ++ (48 + m % 10) ∷ []) tens ∙ ap (λ (k : ℕ). decimal n ++ k ∷ []) ones)

one_digit_more : (K : Open) (g : Form) (n c : ℕ) (cs : List ℕ) (f : Form) → 1 ≤ n → GoesOn n c
    → DigitsRead K g (n * 10 + (c - 48)) cs f → DigitsRead K g n (c ∷ cs) f
one_digit_more K g n c cs f some go left = record {
  value = left.value;
  more_digits = c ∷ left.more_digits;
  gap = left.gap;
  rest = left.rest;
  is = ap (λ (x : List ℕ). c ∷ x) left.is;
  white = left.white;
  few = left.few;
  some = left.some;
  decimal_is = left.decimal_is
      ∙ (ap (λ (x : List ℕ). x ++ left.more_digits) (decimal_more n c some go)
      ∙ append_assoc (decimal n) (c ∷ []) left.more_digits);
  goes_on = left.goes_on;
  past = left.past;
}

digits_case : (K : Open) (g : Form) (n c : ℕ) (cs : List ℕ) (f : Form) → 1 ≤ n → n ≤ 128
    → (1 ≤ n * 10 + (c - 48) → n * 10 + (c - 48) ≤ 128 → run (digits K g (n * 10 + (c - 48))) cs ≡ Ok f
    → DigitsRead K g (n * 10 + (c - 48)) cs f) → run (digits K g n) (c ∷ cs) ≡ Ok f → (b : Bool) → goes_on n c ≡ b
    → DigitsRead K g n (c ∷ cs) f
digits_case K g n c cs f some few again h true e =
    let go = goes_on-parts n c e in
    let there : step (digits K g n) c ≡ Some (digits K g (n * 10 + (c - 48))) = rw e refl in
    one_digit_more K g n c cs f some go
    (again go.some go.few (sym (goes (digits K g n) (digits K g (n * 10 + (c - 48))) c cs there) ∙ h))
digits_case K g n c cs f some few again h false e =
    let same : run (spaced K g n) (c ∷ cs) ≡ run (digits K g n) (c ∷ cs) = rw e refl in
    spaced_after K g n (c ∷ cs) f some few (same ∙ h)

digits_sound : (K : Open) (g : Form) (n : ℕ) (text : List ℕ) (f : Form) → 1 ≤ n → n ≤ 128
    → run (digits K g n) text ≡ Ok f → DigitsRead K g n text f
digits_sound K g n [] f some few h = no_form_at_end (digits K g n) f refl h
digits_sound K g n (c ∷ cs) f some few h =
    digits_case K g n c cs f some few (digits_sound K g (n * 10 + (c - 48)) cs f) h (goes_on n c) refl

-- what stands between the comma and the bracket of `number`
record WidthRead (K : Open) (g : Form) (text : List ℕ) (f : Form) : Type 0 where
  value : ℕ
  inside : List ℕ
  tail : List ℕ
  is : text ≡ inside ++ tail
  spells : Around (SpellsWidth value) inside
  closed : Closed K (number g value) tail f

width_is : (before : List ℕ) (c : ℕ) (cs others gap tail : List ℕ) → cs ≡ others ++ (gap ++ tail)
    → before ++ c ∷ cs ≡ (before ++ (c ∷ others ++ gap)) ++ tail
width_is before c cs others gap tail e = rw e (simp append_assoc)

first_digit : (c : ℕ) → GoesOn 0 c → decimal (0 * 10 + (c - 48)) ≡ c ∷ []
first_digit c go =
    let low : 48 ≤ c = go.low in
    let high : c ≤ 57 = go.high in
    let small : 0 * 10 + (c - 48) < 10 = omega arith in
    let same : 48 + (0 * 10 + (c - 48)) ≡ c = omega arith in
    decimal_digit (0 * 10 + (c - 48)) small ∙ ap (λ (x : ℕ). x ∷ []) same

width_case : (K : Open) (g : Form) (before : List ℕ) (c : ℕ) (cs : List ℕ) (f : Form) → IsWhite before
    → is_white c ≡ false → run (width K g) (c ∷ cs) ≡ Ok f → (b : Bool) → goes_on 0 c ≡ b
    → WidthRead K g (before ++ c ∷ cs) f
width_case K g before c cs f white black h true e =
    let go = goes_on-parts 0 c e in
    let there : step (width K g) c ≡ Some (digits K g (0 * 10 + (c - 48))) = rw (black, e) refl in
    let d : DigitsRead K g (0 * 10 + (c - 48)) cs f =
    digits_sound K g (0 * 10 + (c - 48)) cs f go.some go.few
    (sym (goes (width K g) (digits K g (0 * 10 + (c - 48))) c cs there) ∙ h) in
    record {
      value = d.value;
      inside = before ++ (c ∷ d.more_digits ++ d.gap);
      tail = d.rest;
      is = width_is before c cs d.more_digits d.gap d.rest d.is;
      spells = record {
        before = before;
        core = c ∷ d.more_digits;
        behind = d.gap;
        is = refl;
        white_before = white;
        white_behind = d.white;
        holds = record {
          least = d.some;
          greatest = d.few;
          is = sym (d.decimal_is ∙ ap (λ (x : List ℕ). x ++ d.more_digits) (first_digit c go));
        };
      };
      closed = bracket_sound (spaced K g d.value) K (number g d.value)
          (spaced_wants K g d.value) d.rest f d.past d.goes_on;
    }
width_case K g before c cs f white black h false e =
    let stuck : step (width K g) c ≡ None = rw (black, e) refl in no_form_where_stuck (width K g) c cs f stuck h

width_at : (K : Open) (g : Form) (before text : List ℕ) (f : Form) → IsWhite before → Fails is_white text
    → run (width K g) text ≡ Ok f → WidthRead K g (before ++ text) f
width_at K g before [] f white black h = no_form_at_end (width K g) f refl h
width_at K g before (c ∷ cs) f white black h = width_case K g before c cs f white black h (goes_on 0 c) refl

width_sound : (K : Open) (g : Form) (text : List ℕ) (f : Form) → run (width K g) text ≡ Ok f → WidthRead K g text f
width_sound K g text f h =
    subst (λ (x : List ℕ). WidthRead K g x f) (front_rest is_white text)
    (width_at K g (lead_of is_white text) (rest_of is_white text) f (front_passes is_white text)
    (rest_fails is_white text) (sym (rest_run (width K g) (width_stays K g) text) ∙ h))

-- the arguments of `combine` behind the first
abbrev SpellsMore : List Form → List ℕ → Type 0
SpellsMore [] text = text ≡ []
SpellsMore (g ∷ gs) text =
    (first : List ℕ) × (others : List ℕ) × (text ≡ 44 ∷ (first ++ others)) × Spells g first × SpellsMore gs others

each_from_more : (f : Form) (fs : List Form) (first text : List ℕ) → Spells f first → SpellsMore fs text
    → SpellsEach (forms_of (f ∷ fs)) (first ++ text)
each_from_more f [] first text h e = subst (Spells f) (sym (ap (λ (x : List ℕ). first ++ x) e ∙ append-nil first)) h
each_from_more f (g ∷ gs) first text h m = record {
  first = first;
  second = m.0 ++ m.1;
  is = ap (λ (x : List ℕ). first ++ x) m.2;
  first_holds = h;
  second_holds = each_from_more g gs m.0 m.1 m.3 m.4;
}

record ArgsRead (K : Open) (before : List Form) (g : Form) (text : List ℕ) (f : Form) : Type 0 where
  more : List Form
  inside : List ℕ
  tail : List ℕ
  is : text ≡ inside ++ tail
  spells : SpellsMore more inside
  closed : Closed K (combine (forms_of (before ++ g ∷ more))) tail f

abbrev ReadsExprs : ℕ → Type 0
ReadsExprs n = (K : Open) (text : List ℕ) (f : Form) → length text < n → run (begin K) text ≡ Ok f → Split K text f

abbrev ReadsArgs : ℕ → Type 0
ReadsArgs n = (F K : Open) (before : List Form) → Lists F K before → (g : Form) (text : List ℕ) (f : Form)
    → length text < n → Fails is_white text → run (done F g) text ≡ Ok f → ArgsRead K before g text f

args_end : (F K : Open) (before : List Form) → Lists F K before → (g : Form) (c : ℕ) (cs : List ℕ) (f : Form)
    → is_white c ≡ false → run (done F g) (c ∷ cs) ≡ Ok f → eqb c 41 ≡ true → ArgsRead K before g (c ∷ cs) f
args_end F K before lists g c cs f black h e =
    let same : c ≡ 41 = eqb-true c 41 e in
    let there : step (done F g) 41 ≡ Some (done K (combine (forms_of (before ++ g ∷ [])))) =
    rw (is_white-close, lists g 41) refl in
    let h' : run (done F g) (41 ∷ cs) ≡ Ok f = subst (λ (x : ℕ). run (done F g) (x ∷ cs) ≡ Ok f) same h in
    record {
      more = [];
      inside = [];
      tail = c ∷ cs;
      is = refl;
      spells = refl;
      closed = subst (λ (x : ℕ). Closed K (combine (forms_of (before ++ g ∷ []))) (x ∷ cs) f) (sym same)
          (closed_from K (combine (forms_of (before ++ g ∷ []))) cs f
          (sym (goes (done F g) (done K (combine (forms_of (before ++ g ∷ [])))) 41 cs there) ∙ h'));
    }

args_next : (K : Open) (before : List Form) (g : Form) (cs : List ℕ) (f : Form)
    → (sp : Split (combined (before ++ g ∷ []) K) cs f) → ArgsRead K (before ++ g ∷ []) sp.first sp.rest f
    → ArgsRead K before g (44 ∷ cs) f
args_next K before g cs f sp left = record {
  more = sp.first ∷ left.more;
  inside = 44 ∷ (sp.front ++ left.inside);
  tail = left.tail;
  is = ap (λ (x : List ℕ). 44 ∷ x)
      (sp.is ∙ (ap (λ (x : List ℕ). sp.front ++ x) left.is ∙ sym (append_assoc sp.front left.inside left.tail)));
  spells = (sp.front, left.inside, refl, sp.spells, left.spells);
  closed = subst (λ (x : List Form). Closed K (combine (forms_of x)) left.tail f)
      (append_assoc before (g ∷ []) (sp.first ∷ left.more)) left.closed;
}

args_comma : (n : ℕ) → ReadsExprs n → ReadsArgs n → (F K : Open) (before : List Form) → Lists F K before
    → (g : Form) (c : ℕ) (cs : List ℕ) (f : Form) → length cs < n → is_white c ≡ false → run (done F g) (c ∷ cs) ≡ Ok f
    → eqb c 44 ≡ true → ArgsRead K before g (c ∷ cs) f
args_comma n exprs args F K before lists g c cs f few black h e =
    let same : c ≡ 44 = eqb-true c 44 e in
    let there : step (done F g) 44 ≡ Some (begin (combined (before ++ g ∷ []) K)) =
    rw (is_white-comma, lists g 44) refl in
    let h' : run (done F g) (44 ∷ cs) ≡ Ok f = subst (λ (x : ℕ). run (done F g) (x ∷ cs) ≡ Ok f) same h in
    let sp : Split (combined (before ++ g ∷ []) K) cs f =
    exprs (combined (before ++ g ∷ []) K) cs f few
    (sym (goes (done F g) (begin (combined (before ++ g ∷ []) K)) 44 cs there) ∙ h') in
    let fewer : length sp.rest < n = omega (arith, simp length-append at (ap length sp.is)) in
    let left : ArgsRead K (before ++ g ∷ []) sp.first sp.rest f =
    args (combined (before ++ g ∷ []) K) K (before ++ g ∷ [])
    (λ f' c'. refl) sp.first sp.rest f fewer sp.past sp.goes_on in
    subst (λ (x : ℕ). ArgsRead K before g (x ∷ cs) f) (sym same) (args_next K before g cs f sp left)

args_case : (n : ℕ) → ReadsExprs n → ReadsArgs n → (F K : Open) (before : List Form) → Lists F K before
    → (g : Form) (c : ℕ) (cs : List ℕ) (f : Form) → length cs < n → is_white c ≡ false → run (done F g) (c ∷ cs) ≡ Ok f
    → (a b : Bool) → eqb c 41 ≡ a → eqb c 44 ≡ b → ArgsRead K before g (c ∷ cs) f
args_case n exprs args F K before lists g c cs f few black h true b e d =
    args_end F K before lists g c cs f black h e
args_case n exprs args F K before lists g c cs f few black h false true e d =
    args_comma n exprs args F K before lists g c cs f few black h d
args_case n exprs args F K before lists g c cs f few black h false false e d =
    let stuck : step (done F g) c ≡ None = rw (black, lists g c, d, e) refl in
    no_form_where_stuck (done F g) c cs f stuck h

-- at the end no list of arguments is whole
list_not_finished : (F K : Open) (before : List Form) → Lists F K before → (g : Form) → result_of (done F g) ≡ None
list_not_finished none K before lists g =
    let bad : None ≡ Some (done K (combine (forms_of (before ++ g ∷ [])))) = lists g 41 in cc
list_not_finished (within t F) K before lists g = refl
list_not_finished (combined fs F) K before lists g = refl

args_step : (n : ℕ) → ReadsExprs n → ReadsArgs n → ReadsArgs (suc n)
args_step n exprs args F K before lists g [] f few black h =
    no_form_at_end (done F g) f (list_not_finished F K before lists g) h
args_step n exprs args F K before lists g (c ∷ cs) f few black h =
    args_case n exprs args F K before lists g c cs f (omega arith) black h (eqb c 41) (eqb c 44) refl refl

-- the call of a transform around what stands in its brackets
abbrev CallOf : Transform → List ℕ → List ℕ → Type 0
CallOf t inside = Around (Call (word_of t) (λ x. x ≡ inside))

call_with : (t : Transform) (P : List ℕ → Type 0) (inside : List ℕ) → P inside → (outer : List ℕ)
    → CallOf t inside outer → Around (Call (word_of t) P) outer
call_with t P inside h outer a = record {
  before = a.before;
  core = a.core;
  behind = a.behind;
  is = a.is;
  white_before = a.white_before;
  white_behind = a.white_behind;
  holds = record {
    gap = a.holds.gap;
    inside = a.holds.inside;
    is = a.holds.is;
    white = a.holds.white;
    holds = subst P (sym a.holds.holds) h;
  };
}

record Applied (t : Transform) (K : Open) (text : List ℕ) (f : Form) : Type 0 where
  applied : Form
  inside : List ℕ
  tail : List ℕ
  is : text ≡ inside ++ tail
  closed : Closed K applied tail f
  spells : (outer : List ℕ) → CallOf t inside outer → Spells applied outer

regroup_comma : (a b c : List ℕ) → a ++ 44 ∷ (b ++ c) ≡ (a ++ 44 ∷ b) ++ c
regroup_comma a b c = simp append_assoc

apply_number : (K : Open) (text : List ℕ) (f : Form) (sp : Split (within Number K) text f)
    → (m : Marked 44 (width K sp.first) sp.rest f) → WidthRead K sp.first m.rest f → Applied Number K text f
apply_number K text f sp m w = record {
  applied = number sp.first w.value;
  inside = sp.front ++ 44 ∷ w.inside;
  tail = w.tail;
  is = sp.is ∙ (ap (λ (x : List ℕ). sp.front ++ x) (m.is ∙ ap (λ (x : List ℕ). 44 ∷ x) w.is)
      ∙ regroup_comma sp.front w.inside w.tail);
  closed = w.closed;
  spells = call_with Number (Pair (Spells sp.first) (Around (SpellsWidth w.value)))
      (sp.front ++ 44 ∷ w.inside) (record {
        first = sp.front;
        second = w.inside;
        is = refl;
        first_holds = sp.spells;
        second_holds = w.spells;
      });
}

apply_combine : (K : Open) (text : List ℕ) (f : Form) (sp : Split (within Combine K) text f)
    → ArgsRead K [] sp.first sp.rest f → Applied Combine K text f
apply_combine K text f sp a = record {
  applied = combine (forms_of (sp.first ∷ a.more));
  inside = sp.front ++ a.inside;
  tail = a.tail;
  is = sp.is ∙ (ap (λ (x : List ℕ). sp.front ++ x) a.is ∙ sym (append_assoc sp.front a.inside a.tail));
  closed = a.closed;
  spells = call_with Combine (SpellsEach (forms_of (sp.first ∷ a.more))) (sp.front ++ a.inside)
      (each_from_more sp.first a.more sp.front a.inside sp.spells a.spells);
}

apply : (n : ℕ) → ReadsArgs n → (t : Transform) (K : Open) (text : List ℕ) (f : Form) → length text < n
    → (sp : Split (within t K) text f) → Applied t K text f
apply n args Lower K text f few sp = record {
  applied = lower sp.first;
  inside = sp.front;
  tail = sp.rest;
  is = sp.is;
  closed = bracket_sound (done (within Lower K) sp.first) K (lower sp.first)
      (lower_wants K sp.first) sp.rest f sp.past sp.goes_on;
  spells = call_with Lower (Spells sp.first) sp.front sp.spells;
}
apply n args SplitWords K text f few sp = record {
  applied = split_words sp.first;
  inside = sp.front;
  tail = sp.rest;
  is = sp.is;
  closed = bracket_sound (done (within SplitWords K) sp.first) K (split_words sp.first)
      (split_words_wants K sp.first) sp.rest f sp.past sp.goes_on;
  spells = call_with SplitWords (Spells sp.first) sp.front sp.spells;
}
apply n args Truth K text f few sp = record {
  applied = truth sp.first;
  inside = sp.front;
  tail = sp.rest;
  is = sp.is;
  closed = bracket_sound (done (within Truth K) sp.first) K (truth sp.first)
      (truth_wants K sp.first) sp.rest f sp.past sp.goes_on;
  spells = call_with Truth (Spells sp.first) sp.front sp.spells;
}
apply n args Number K text f few sp =
    let m : Marked 44 (width K sp.first) sp.rest f =
    mark_sound (done (within Number K) sp.first) 44 (width K sp.first)
    (number_wants K sp.first) sp.rest f sp.past sp.goes_on in
    apply_number K text f sp m (width_sound K sp.first m.rest f m.goes_on)
apply n args Combine K text f few sp =
    let fewer : length sp.rest < n = omega (arith, simp length-append at (ap length sp.is)) in
    apply_combine K text f sp (args (within Combine K) K [] (λ g c. refl) sp.first sp.rest f fewer sp.past sp.goes_on)

-- a field at the front of a text, white space around it, and what is left
record Begun (K : Open) (text : List ℕ) (f : Form) (names : List (List ℕ)) (rest : List ℕ) : Type 0 where
  before : List ℕ
  part : List ℕ
  gap : List ℕ
  is : text ≡ before ++ ((part ++ dotted names) ++ (gap ++ rest))
  white_before : IsWhite before
  white_gap : IsWhite gap
  is_part : IsPart part
  are_parts : AreParts names
  goes_on : run (behind_all K [] (encode_utf8_all part) names) rest ≡ Ok f
  past : Fails is_white rest

regroup_field : (a b c d : List ℕ) → a ++ (b ++ (c ++ d)) ≡ (a ++ (b ++ c)) ++ d
regroup_field a b c d = simp append_assoc

field_split : (K : Open) (text : List ℕ) (f : Form) (names : List (List ℕ)) (rest : List ℕ)
    → (b : Begun K text f names rest) → Fails (λ c. eqb c 40) rest → Split K text f
field_split K text f names rest b no_bracket = record {
  first = field (encode_utf8_all b.part ∷ map encode_utf8_all names);
  front = b.before ++ ((b.part ++ dotted names) ++ b.gap);
  rest = rest;
  is = b.is ∙ regroup_field b.before (b.part ++ dotted names) b.gap rest;
  spells = record {
    before = b.before;
    core = b.part ++ dotted names;
    behind = b.gap;
    is = refl;
    white_before = b.white_before;
    white_behind = b.white_gap;
    holds = record {
      names = b.part ∷ names;
      kept = refl;
      are_parts = parts_of_field b.part names b.is_part b.are_parts;
      is = join_dotted b.part names;
    };
  };
  goes_on = sym (field_all K [] (encode_utf8_all b.part) names rest b.past no_bracket) ∙ b.goes_on;
  past = b.past;
}

regroup_call : (before p gap inside gap' rest : List ℕ)
    → before ++ ((p ++ []) ++ (gap ++ 40 ∷ (inside ++ 41 ∷ (gap' ++ rest))))
    ≡ (before ++ ((p ++ (gap ++ 40 ∷ (inside ++ 41 ∷ []))) ++ gap')) ++ rest
regroup_call before p gap inside gap' rest = simp (append_assoc, append-nil)

call_split : (t : Transform) (K : Open) (text cs : List ℕ) (f : Form) → (b : Begun K text f [] (40 ∷ cs))
    → named (encode_utf8_all b.part) ≡ Some t → Applied t K cs f → Split K text f
call_split t K text cs f b e a = record {
  first = a.applied;
  front = b.before ++ ((b.part ++ (b.gap ++ 40 ∷ (a.inside ++ 41 ∷ []))) ++ a.closed.gap);
  rest = a.closed.rest;
  is = b.is ∙ (ap (λ (x : List ℕ). b.before ++ ((b.part ++ []) ++ (b.gap ++ 40 ∷ x)))
      (a.is ∙ ap (λ (x : List ℕ). a.inside ++ x) a.closed.is)
      ∙ regroup_call b.before b.part b.gap a.inside a.closed.gap a.closed.rest);
  spells = a.spells (b.before ++ ((b.part ++ (b.gap ++ 40 ∷ (a.inside ++ 41 ∷ []))) ++ a.closed.gap)) (record {
    before = b.before;
    core = b.part ++ (b.gap ++ 40 ∷ (a.inside ++ 41 ∷ []));
    behind = a.closed.gap;
    is = refl;
    white_before = b.white_before;
    white_behind = a.closed.white;
    holds = record {
      gap = b.gap;
      inside = a.inside;
      is = ap (λ (x : List ℕ). x ++ (b.gap ++ 40 ∷ (a.inside ++ 41 ∷ []))) (spelled_word b.part t e);
      white = b.white_gap;
      holds = refl;
    };
  });
  goes_on = a.closed.goes_on;
  past = a.closed.past;
}

called_step : (K : Open) (part : List ℕ) (o : Option Transform) → named part ≡ o
    → step (behind K [] part) 40 ≡ option_map (λ t. begin (within t K)) o
called_step K part o e = rw (is_white-open, e) refl

call_case : (n : ℕ) → ReadsExprs n → ReadsArgs n → (K : Open) (text cs : List ℕ) (f : Form) → length cs < n
    → (b : Begun K text f [] (40 ∷ cs)) → (o : Option Transform) → named (encode_utf8_all b.part) ≡ o → Split K text f
call_case n exprs args K text cs f few b None e =
    no_form_where_stuck (behind K [] (encode_utf8_all b.part)) 40 cs f
    (called_step K (encode_utf8_all b.part) None e) b.goes_on
call_case n exprs args K text cs f few b (Some t) e =
    let there : step (behind K [] (encode_utf8_all b.part)) 40 ≡ Some (begin (within t K)) =
    called_step K (encode_utf8_all b.part) (Some t) e in
    let sp : Split (within t K) cs f = exprs (within t K) cs f few
    (sym (goes (behind K [] (encode_utf8_all b.part)) (begin (within t K)) 40 cs there) ∙ b.goes_on) in
    call_split t K text cs f b e (apply n args t K cs f few sp)

bracket_case : (n : ℕ) → ReadsExprs n → ReadsArgs n
    → (K : Open) (text : List ℕ) (f : Form) (names : List (List ℕ)) (cs : List ℕ) → length cs < n
    → Begun K text f names (40 ∷ cs) → Split K text f
bracket_case n exprs args K text f [] cs few b =
    call_case n exprs args K text cs f few b (named (encode_utf8_all b.part)) refl
bracket_case n exprs args K text f (p ∷ ps) cs few b =
    no_call K (encode_utf8_all b.part) [] (encode_utf8_all p) ps cs f b.goes_on

rest_case : (n : ℕ) → ReadsExprs n → ReadsArgs n
    → (K : Open) (text : List ℕ) (f : Form) (names : List (List ℕ)) (c : ℕ) (cs : List ℕ) → length cs < n
    → Begun K text f names (c ∷ cs) → (x : Bool) → eqb c 40 ≡ x → Split K text f
rest_case n exprs args K text f names c cs few b true e =
    let same : c ≡ 40 = eqb-true c 40 e in
    bracket_case n exprs args K text f names cs few (subst (λ (x : ℕ). Begun K text f names (x ∷ cs)) same b)
rest_case n exprs args K text f names c cs few b false e = field_split K text f names (c ∷ cs) b e

begun_split : (n : ℕ) → ReadsExprs n → ReadsArgs n
    → (K : Open) (text : List ℕ) (f : Form) (names : List (List ℕ)) (rest : List ℕ) → length rest < suc n
    → Begun K text f names rest → Split K text f
begun_split n exprs args K text f names [] few b = field_split K text f names [] b tt
begun_split n exprs args K text f names (c ∷ cs) few b =
    rest_case n exprs args K text f names c cs (omega arith) b (eqb c 40) refl

begun : (K : Open) (text : List ℕ) (f : Form) (left : List ℕ) → left ≡ rest_of is_white text
    → (r : PartRead K [] left f)
    → (w : FieldRead K [] (encode_utf8_all (lead_of is_part left)) (rest_of is_part left) f)
    → Begun K text f w.names (rest_of is_white w.rest)
begun K text f left is_left r w = record {
  before = lead_of is_white text;
  part = lead_of is_part left;
  gap = lead_of is_white w.rest;
  is = sym (front_rest is_white text)
      ∙ ap (λ (x : List ℕ). lead_of is_white text ++ x)
      (sym is_left ∙ (sym (front_rest is_part left)
      ∙ (ap (λ (x : List ℕ). lead_of is_part left ++ x)
      (w.is ∙ ap (λ (x : List ℕ). dotted w.names ++ x) (sym (front_rest is_white w.rest)))
      ∙ sym (append_assoc (lead_of is_part left) (dotted w.names)
      (lead_of is_white w.rest ++ rest_of is_white w.rest)))));
  white_before = front_passes is_white text;
  white_gap = front_passes is_white w.rest;
  is_part = r.part;
  are_parts = w.are_parts;
  goes_on = sym (rest_run (behind_all K [] (encode_utf8_all (lead_of is_part left)) w.names)
      (behind_all_stays K [] (encode_utf8_all (lead_of is_part left)) w.names) w.rest) ∙ w.goes_on;
  past = rest_fails is_white w.rest;
}

expr_step : (n : ℕ) → ReadsExprs n → ReadsArgs n → ReadsExprs (suc n)
expr_step n exprs args K text f few h =
    let left : List ℕ = rest_of is_white text in
    let r : PartRead K [] left f = part_sound (begin K) K [] (begin_enters K) left f
    (begin_wants K left (rest_fails is_white text)) (sym (rest_run (begin K) (begin_stays K) text) ∙ h) in
    let w : FieldRead K [] (encode_utf8_all (lead_of is_part left)) (rest_of is_part left) f =
    words_sound (suc (length (rest_of is_part left))) K [] (encode_utf8_all (lead_of is_part left))
    (rest_of is_part left) f (omega arith) (rest_fails is_part left) r.goes_on in
    let fewer : length (rest_of is_white w.rest) < suc n =
    omega (
      arith,
      length-rest_of is_white text,
      length-rest_of is_part left,
      simp length-append at (ap length w.is),
      length-rest_of is_white w.rest,
    ) in
    begun_split n exprs args K text f w.names (rest_of is_white w.rest) fewer (begun K text f left refl r w)

record Both (n : ℕ) : Type 0 where
  exprs : ReadsExprs n
  args : ReadsArgs n

both : (n : ℕ) → Both n
both zero = record {
  exprs = λ K text f few h. absurd (omega arith);
  args = λ F K before lists g text f few black h. absurd (omega arith);
}
both (suc n) = record {
  exprs = expr_step n (both n).exprs (both n).args;
  args = args_step n (both n).exprs (both n).args;
}

whole_case : (text : List ℕ) (f first : Form) (front rest : List ℕ) → text ≡ front ++ rest → Spells first front
    → run (done none first) rest ≡ Ok f → Fails is_white rest → Spells f text
whole_case text f first front [] is spells h past =
    let same : first ≡ f = cc in
    let all : text ≡ front = is ∙ append-nil front in
    subst (λ (x : List ℕ). Spells f x) (sym all) (subst (λ (g : Form). Spells g front) same spells)
whole_case text f first front (c ∷ cs) is spells h past =
    let stuck : step (done none first) c ≡ None = rw past refl in
    no_form_where_stuck (done none first) c cs f stuck h

-- the form of a run from the beginning is one that the text spells
pub spelled-read : (text : List ℕ) (f : Form) → run (begin none) text ≡ Ok f → Spells f text
spelled-read text f h =
    let sp : Split none text f = (both (suc (length text))).exprs none text f (omega arith) h in
    whole_case text f sp.first sp.front sp.rest sp.is sp.spells sp.goes_on sp.past
