-- What each part of the descent does to a run.
use Rattle.std.proofs.Common.{◌≡◌, ℕ, zero, suc, ◌+◌, ◌-◌, ◌*◌, ◌<◌, ◌≤◌, Bool, true, false, eqb, List, [], ◌∷◌, ◌++◌}
use Rattle.std.proofs.Common.{map, length, Some, Ok, Err, encode_utf8_all, refl, sym, ◌∙◌, ap, subst, arith}
use Rattle.std.proofs.lemmas.Str.{length-le-encodes}
use Rattle.std.proofs.lemmas.List.{map_push}
use Rattle.expr_parser.specs.declared.descent.Stop.{Stop}
use Rattle.expr_parser.specs.declared.descent.Stop.TheVariants.{Here, Memory}
use Rattle.expr_parser.specs.declared.expr.Expr.{Expr}
use Rattle.expr_parser.specs.declared.transform.Transform.TheVariants.{Lower, SplitWords, Number, Truth, Combine}
use Rattle.expr_parser.specs.Forms.{Form, lower, split_words, number, truth, combine, forms_of}
use Rattle.expr_parser.specs.FormOf.{form_of}
use Rattle.expr_parser.specs.Grammar.{is_white, is_part, IsPart}
use Rattle.expr_parser.specs.Descent.{Fails, Goes, ReadsPart, StartsPart, lead_of, rest_of}
use Rattle.expr_parser.specs.inner.Descent.{Parses}
use Rattle.expr_parser.specs.Machine.{Open, none, within, combined, State, begin, word, dot, behind, done, more, width}
use Rattle.expr_parser.specs.Machine.{digits, spaced, ready, step, run, goes_on}
use Rattle.expr_parser.proofs.Classes.{is_part-dot, is_white-comma, digit_not_white, goes_on-parts}
use Rattle.expr_parser.proofs.Machine.{goes, front_rest, front_passes, rest_fails, length-rest_of, rest_run}
use Rattle.expr_parser.proofs.Machine.{begin_stays, behind_stays, done_stays, width_stays, spaced_stays, Enters}
use Rattle.expr_parser.proofs.Machine.{begin_enters, dot_enters, enter_run, past_word_run}

-- a reading that stops behind another
pub stops_behind : {T U : Type 0} (from mid : Open → State) (g : Open → Open) (to : T → Open → State)
    (to' : U → Open → State) (old middle new : List ℕ) (e : Stop)
    → ((K : Open) → run (from K) old ≡ run (mid (g K)) middle) → Goes mid to middle new (Err e)
    → Goes from to' old new (Err e)
stops_behind from mid g to to' old middle new Here first later = λ K. first K ∙ later (g K)
stops_behind from mid g to to' old middle new Memory first later = tt

-- a part
no_part_case : (c : ℕ) (cs : List ℕ) (b : Bool) → is_part c ≡ b → length (lead_of is_part (c ∷ cs)) ≡ 0
    → is_part c ≡ false
no_part_case c cs true e none_taken =
    let some : 1 ≤ length (lead_of is_part (c ∷ cs)) = rw e (omega arith) in absurd (omega arith)
no_part_case c cs false e none_taken = e

no_part_here : (cs : List ℕ) → length (lead_of is_part cs) ≡ 0 → (rest_of is_part cs ≡ cs) × Fails is_part cs
no_part_here [] none_taken = (refl, tt)
no_part_here (c ∷ cs) none_taken =
    let here = no_part_case c cs (is_part c) refl none_taken in (rw here refl, here)

pub no_part : (cs part : List ℕ) → part ≡ encode_utf8_all (lead_of is_part cs) → length part ≡ 0
    → (rest_of is_part cs ≡ cs) × Fails is_part cs
no_part cs part is empty =
    no_part_here cs (omega (arith, length-le-encodes (lead_of is_part cs), ap length is))

starts_case : (c : ℕ) (cs part : List ℕ) (b : Bool) → is_part c ≡ b
    → part ≡ encode_utf8_all (lead_of is_part (c ∷ cs)) → 0 < length part → is_part c ≡ true
starts_case c cs part true e is some = e
starts_case c cs part false e is some =
    let nothing : encode_utf8_all (lead_of is_part (c ∷ cs)) ≡ [] = rw e refl in
    absurd (omega (arith, ap length (is ∙ nothing)))

pub starts_part : (cs part : List ℕ) → part ≡ encode_utf8_all (lead_of is_part cs) → 0 < length part → StartsPart cs
starts_part [] part is some = absurd (omega (arith, ap length is))
starts_part (c ∷ cs) part is some = starts_case c cs part (is_part c) refl is some

pub part_enters : (s : State) (K : Open) (parts : List (List ℕ)) → Enters s K parts → (cs : List ℕ) → StartsPart cs
    → run s cs ≡ run (word K parts (encode_utf8_all (lead_of is_part cs))) (rest_of is_part cs)
part_enters s K parts enters [] starts = absurd starts
part_enters s K parts enters (c ∷ cs) starts =
    let some : 1 ≤ length (lead_of is_part (c ∷ cs)) = rw starts (omega arith) in
    let part : IsPart (lead_of is_part (c ∷ cs)) = record { some = some; allowed = front_passes is_part (c ∷ cs) } in
    ap (run s) (sym (front_rest is_part (c ∷ cs)))
    ∙ enter_run s K parts enters (lead_of is_part (c ∷ cs)) (rest_of is_part (c ∷ cs)) part

rest_shorter_case : (c : ℕ) (cs : List ℕ) → is_part c ≡ true → length (rest_of is_part (c ∷ cs)) < length (c ∷ cs)
rest_shorter_case c cs starts = rw starts (omega (arith, length-rest_of is_part cs))

pub rest_shorter : (cs : List ℕ) → StartsPart cs → length (rest_of is_part cs) < length cs
rest_shorter [] starts = absurd starts
rest_shorter (c ∷ cs) starts = rest_shorter_case c cs starts

begin_stuck : (K : Open) (cs : List ℕ) → Fails is_white cs → Fails is_part cs → run (begin K) cs ≡ Err cs
begin_stuck K [] black no_part = refl
begin_stuck K (c ∷ cs) black no_part = rw (no_part, black) refl

pub no_first_part : (K : Open) (old : List ℕ) → Fails is_part (rest_of is_white old)
    → run (begin K) old ≡ Err (rest_of is_white old)
no_first_part K old no_part =
    rest_run (begin K) (begin_stays K) old ∙ begin_stuck K (rest_of is_white old) (rest_fails is_white old) no_part

-- a dot and the next part
dot_step : (K : Open) (parts : List (List ℕ)) (part : List ℕ)
    → step (word K parts part) 46 ≡ Some (dot K (parts ++ part ∷ []))
dot_step K parts part = rw is_part-dot refl

pub dot_run : (K : Open) (parts : List (List ℕ)) (part old cs : List ℕ) → old ≡ 46 ∷ cs
    → run (word K parts part) old ≡ run (dot K (parts ++ part ∷ [])) cs
dot_run K parts part old cs e =
    ap (run (word K parts part)) e ∙ goes (word K parts part) (dot K (parts ++ part ∷ [])) 46 cs (dot_step K parts part)

pub next_part : (K : Open) (parts : List (List ℕ)) (part old cs : List ℕ) → old ≡ 46 ∷ cs → StartsPart cs
    → run (word K parts part) old ≡ run (word K (parts ++ part ∷ []) (encode_utf8_all (lead_of is_part cs)))
    (rest_of is_part cs)
next_part K parts part old cs e starts =
    dot_run K parts part old cs e
    ∙ part_enters (dot K (parts ++ part ∷ [])) K (parts ++ part ∷ []) (dot_enters K (parts ++ part ∷ [])) cs starts

dot_stuck : (K : Open) (parts : List (List ℕ)) (cs : List ℕ) → Fails is_part cs → run (dot K parts) cs ≡ Err cs
dot_stuck K parts [] no_part = refl
dot_stuck K parts (c ∷ cs) no_part = rw no_part refl

pub no_next_part : (K : Open) (parts : List (List ℕ)) (part old cs : List ℕ) → old ≡ 46 ∷ cs → Fails is_part cs
    → run (word K parts part) old ≡ Err cs
no_next_part K parts part old cs e no_part =
    dot_run K parts part old cs e ∙ dot_stuck K (parts ++ part ∷ []) cs no_part

-- the end of a field, white space behind it
pub field_end : (K : Open) (parts : List (List ℕ)) (part cs : List ℕ) → Fails is_part cs → Fails (λ c. eqb c 46) cs
    → run (word K parts part) cs ≡ run (behind K parts part) (rest_of is_white cs)
field_end K parts part cs no_part no_dot =
    past_word_run K parts part cs (no_part, no_dot) ∙ rest_run (behind K parts part) (behind_stays K parts part) cs

-- the state in a width: no digit yet, or a number
abbrev pub counted : Open → Form → ℕ → State
counted K f zero = width K f
counted K f (suc n) = digits K f (suc n)

pub counted_some : (K : Open) (f : Form) (n : ℕ) → 1 ≤ n → counted K f n ≡ digits K f n
counted_some K f zero some = absurd (omega arith)
counted_some K f (suc n) some = refl

counted_step : (K : Open) (f : Form) (n c : ℕ) → goes_on n c ≡ true
    → step (counted K f n) c ≡ Some (digits K f (n * 10 + (c - 48)))
counted_step K f zero c e =
    let p = goes_on-parts 0 c e in let black = digit_not_white c p.low p.high in rw (black, e) refl
counted_step K f (suc n) c e = rw e refl

pub counted_more : (K : Open) (f : Form) (n c m : ℕ) (old cs : List ℕ) → old ≡ c ∷ cs → goes_on n c ≡ true
    → m ≡ n * 10 + (c - 48) → run (counted K f n) old ≡ run (counted K f m) cs
counted_more K f n c m old cs is e same =
    let p = goes_on-parts n c e in
    let least : 1 ≤ n * 10 + (c - 48) = p.some in
    ap (run (counted K f n)) is
    ∙ (goes (counted K f n) (digits K f (n * 10 + (c - 48))) c cs (counted_step K f n c e)
    ∙ (ap (λ (s : State). run s cs) (sym (counted_some K f (n * 10 + (c - 48)) least))
    ∙ ap (λ (k : ℕ). run (counted K f k) cs) (sym same)))

pub goes_on-few : (n c m : ℕ) → goes_on n c ≡ true → m ≡ n * 10 + (c - 48) → (1 ≤ m) × (m ≤ 128)
goes_on-few n c m e same = let p = goes_on-parts n c e in let a = p.some in let b = p.few in (omega arith, omega arith)

digits_spaced : (K : Open) (f : Form) (n : ℕ) (cs : List ℕ) → Fails (goes_on n) cs
    → run (digits K f n) cs ≡ run (spaced K f n) cs
digits_spaced K f n [] no_digit = refl
digits_spaced K f n (c ∷ cs) no_digit = rw no_digit refl

spaced_ready : (K : Open) (f : Form) (n : ℕ) (cs : List ℕ) → Fails is_white cs
    → run (spaced K f n) cs ≡ run (ready K (number f n)) cs
spaced_ready K f n [] black = refl
spaced_ready K f n (c ∷ cs) black = rw black refl

pub width_end : (K : Open) (f : Form) (n : ℕ) (cs : List ℕ) → 1 ≤ n → Fails (goes_on n) cs
    → run (counted K f n) cs ≡ run (ready K (number f n)) (rest_of is_white cs)
width_end K f n cs some no_digit =
    ap (λ (s : State). run s cs) (counted_some K f n some)
    ∙ (digits_spaced K f n cs no_digit
    ∙ (rest_run (spaced K f n) (spaced_stays K f n) cs
    ∙ spaced_ready K f n (rest_of is_white cs) (rest_fails is_white cs)))

comma_step : (K : Open) (f : Form) → step (done (within Number K) f) 44 ≡ Some (width K f)
comma_step K f = rw is_white-comma refl

pub width_begins : (K : Open) (f : Form) (old cs : List ℕ) → old ≡ 44 ∷ cs
    → run (done (within Number K) f) old ≡ run (width K f) (rest_of is_white cs)
width_begins K f old cs e =
    ap (run (done (within Number K) f)) e
    ∙ (goes (done (within Number K) f) (width K f) 44 cs (comma_step K f) ∙ rest_run (width K f) (width_stays K f) cs)

-- before the closing bracket
pub lower_ready : (K : Open) (f : Form) (cs : List ℕ) → Fails is_white cs
    → run (done (within Lower K) f) cs ≡ run (ready K (lower f)) cs
lower_ready K f [] black = refl
lower_ready K f (c ∷ cs) black = rw black refl

pub split_words_ready : (K : Open) (f : Form) (cs : List ℕ) → Fails is_white cs
    → run (done (within SplitWords K) f) cs ≡ run (ready K (split_words f)) cs
split_words_ready K f [] black = refl
split_words_ready K f (c ∷ cs) black = rw black refl

pub truth_ready : (K : Open) (f : Form) (cs : List ℕ) → Fails is_white cs
    → run (done (within Truth K) f) cs ≡ run (ready K (truth f)) cs
truth_ready K f [] black = refl
truth_ready K f (c ∷ cs) black = rw black refl

pub ready_close : (K : Open) (f : Form) (old cs : List ℕ) → old ≡ 41 ∷ cs
    → run (ready K f) old ≡ run (done K f) (rest_of is_white cs)
ready_close K f old cs e = ap (run (ready K f)) e ∙ rest_run (done K f) (done_stays K f) cs

pub ready_stuck : (K : Open) (f : Form) (cs : List ℕ) → Fails (λ c. eqb c 41) cs → run (ready K f) cs ≡ Err cs
ready_stuck K f [] other = refl
ready_stuck K f (c ∷ cs) other = rw other refl

-- the arguments of `combine`
pub first_argument : (K : Open) (f : Form) (cs : List ℕ) → Fails is_white cs
    → run (done (within Combine K) f) cs ≡ run (more K (f ∷ [])) cs
first_argument K f [] black = refl
first_argument K f (c ∷ cs) black = rw black refl

combined_more : (K : Open) (fs : List Form) (f : Form) (cs : List ℕ) → Fails is_white cs
    → run (done (combined fs K) f) cs ≡ run (more K (fs ++ f ∷ [])) cs
combined_more K fs f [] black = refl
combined_more K fs f (c ∷ cs) black = rw black refl

more_step : (K : Open) (fs : List Form) → step (more K fs) 44 ≡ Some (begin (combined fs K))
more_step K fs = rw is_white-comma refl

pub argument_begins : (K : Open) (fs : List Form) (old cs : List ℕ) → old ≡ 44 ∷ cs
    → run (more K fs) old ≡ run (begin (combined fs K)) cs
argument_begins K fs old cs e =
    ap (run (more K fs)) e ∙ goes (more K fs) (begin (combined fs K)) 44 cs (more_step K fs)

pub argument_ends : (K : Open) (es all : List Expr) (e : Expr) (cs : List ℕ) → Fails is_white cs → all ≡ es ++ e ∷ []
    → run (done (combined (map form_of es) K) (form_of e)) cs ≡ run (more K (map form_of all)) cs
argument_ends K es all e cs black same =
    combined_more K (map form_of es) (form_of e) cs black
    ∙ ap (λ (fs : List Form). run (more K fs) cs) (sym (ap (map form_of) same ∙ map_push form_of es e))

pub more_ready : (K : Open) (fs : List Form) (cs : List ℕ) → Fails is_white cs → Fails (λ c. eqb c 44) cs
    → run (more K fs) cs ≡ run (ready K (combine (forms_of fs))) cs
more_ready K fs [] black other = refl
more_ready K fs (c ∷ cs) black other = rw (black, other) refl

-- the end of the text
pub whole_text : (f : Form) (cs : List ℕ) → cs ≡ [] → run (done none f) cs ≡ Ok f
whole_text f cs e = ap (run (done none f)) e

pub text_left : (f : Form) (cs : List ℕ) → 0 < length cs → Fails is_white cs → run (done none f) cs ≡ Err cs
text_left f [] some black = absurd (omega arith)
text_left f (c ∷ cs) some black = rw black refl

-- the loop over the parts of a field: what was read from the old text, and what is left
abbrev pub SeenWords : List ℕ → List (List ℕ) → List ℕ → List ℕ → Type 0
SeenWords old parts last left =
    ((K : Open) → run (begin K) old ≡ run (word K parts last) left) × Fails is_part left × (length left < length old)

fails_rest : (cs left : List ℕ) → left ≡ rest_of is_part cs → Fails is_part left
fails_rest cs left e = subst (Fails is_part) (sym e) (rest_fails is_part cs)

pub words_first : (old mid left : List ℕ) (parts : List (List ℕ)) (last : List ℕ) → mid ≡ rest_of is_white old
    → parts ≡ [] → last ≡ encode_utf8_all (lead_of is_part mid) → left ≡ rest_of is_part mid → StartsPart mid
    → SeenWords old parts last left
words_first old mid left parts last mid_is no_parts last_is left_is starts = (
  λ K. rest_run (begin K) (begin_stays K) old
      ∙ (ap (run (begin K)) (sym mid_is)
      ∙ (part_enters (begin K) K [] (begin_enters K) mid starts
      ∙ (ap (λ (x : List ℕ). run (word K [] x) (rest_of is_part mid)) (sym last_is)
      ∙ (ap (λ (x : List (List ℕ)). run (word K x last) (rest_of is_part mid)) (sym no_parts)
      ∙ ap (run (word K parts last)) (sym left_is))))),
  fails_rest mid left left_is,
  omega (arith, rest_shorter mid starts, ap length mid_is, ap length left_is, length-rest_of is_white old),
)

pub words_next : (old cur mid left : List ℕ) (parts parts' : List (List ℕ)) (last last' : List ℕ)
    → SeenWords old parts last cur → cur ≡ 46 ∷ mid → parts' ≡ parts ++ last ∷ []
    → last' ≡ encode_utf8_all (lead_of is_part mid) → left ≡ rest_of is_part mid → StartsPart mid
    → SeenWords old parts' last' left
words_next old cur mid left parts parts' last last' seen dot_is parts_is last_is left_is starts = (
  λ K. seen.0 K
      ∙ (next_part K parts last cur mid dot_is starts
      ∙ (ap (λ (x : List ℕ). run (word K (parts ++ last ∷ []) x) (rest_of is_part mid)) (sym last_is)
      ∙ (ap (λ (x : List (List ℕ)). run (word K x last') (rest_of is_part mid)) (sym parts_is)
      ∙ ap (run (word K parts' last')) (sym left_is)))),
  fails_rest mid left left_is,
  omega (arith, rest_shorter mid starts, ap length dot_is, ap length left_is, seen.2),
)

pub words_smaller : (cur mid left : List ℕ) → cur ≡ 46 ∷ mid → left ≡ rest_of is_part mid → length left < length cur
words_smaller cur mid left dot_is left_is =
    omega (arith, ap length dot_is, ap length left_is, length-rest_of is_part mid)

pub words_end : (old cur after left : List ℕ) (parts : List (List ℕ)) (last : List ℕ) → SeenWords old parts last cur
    → (after ≡ cur) × Fails (λ c. eqb c 46) cur → left ≡ rest_of is_white after
    → ((K : Open) → run (begin K) old ≡ run (behind K parts last) left) × Fails is_white left
    × (length left < length old)
words_end old cur after left parts last seen no_dot left_is = (
  λ K. seen.0 K
      ∙ (field_end K parts last cur seen.1 no_dot.1
      ∙ ap (run (behind K parts last)) (ap (rest_of is_white) (sym no_dot.0) ∙ sym left_is)),
  subst (Fails is_white) (sym left_is) (rest_fails is_white after),
  omega (arith, length-rest_of is_white after, ap length left_is, ap length no_dot.0, seen.2),
)

pub first_missing : {T : Type 0} (to : T → Open → State) (old mid new : List ℕ) (e : Stop) → mid ≡ rest_of is_white old
    → ReadsPart mid new (Err e) → Goes begin to old new (Err e)
first_missing to old mid new Here mid_is h =
    λ K. no_first_part K old (subst (Fails is_part) mid_is h.1) ∙ ap Err (sym mid_is ∙ sym h.0)
first_missing to old mid new Memory mid_is h = absurd h

pub next_missing : {T : Type 0} (to : T → Open → State) (old cur mid new : List ℕ) (parts : List (List ℕ))
    (last : List ℕ) (e : Stop) → SeenWords old parts last cur → cur ≡ 46 ∷ mid → ReadsPart mid new (Err e)
    → Goes begin to old new (Err e)
next_missing to old cur mid new parts last Here seen dot_is h =
    λ K. seen.0 K ∙ (no_next_part K parts last cur mid dot_is h.1 ∙ ap Err (sym h.0))
next_missing to old cur mid new parts last Memory seen dot_is h = absurd h

-- the loop over the digits of a width
abbrev pub SeenWidth : List ℕ → ℕ → List ℕ → Type 0
SeenWidth old n left =
    ((f : Form) (K : Open) → run (done (within Number K) f) old ≡ run (counted K f n) left) × (n ≤ 128)
    × (n ≡ 0 → Fails is_white left) × (length left ≤ length old)

pub width_first : (old mid left : List ℕ) → old ≡ 44 ∷ mid → left ≡ rest_of is_white mid → SeenWidth old 0 left
width_first old mid left comma left_is = (
  λ f K. width_begins K f old mid comma ∙ ap (run (width K f)) (sym left_is),
  omega arith,
  λ e. subst (Fails is_white) (sym left_is) (rest_fails is_white mid),
  omega (arith, length-rest_of is_white mid, ap length left_is, ap length comma),
)

pub width_next : (old cur left : List ℕ) (n c m : ℕ) → SeenWidth old n cur → cur ≡ c ∷ left → goes_on n c ≡ true
    → m ≡ n * 10 + (c - 48) → SeenWidth old m left
width_next old cur left n c m seen digit_is e same =
    let few = goes_on-few n c m e same in (
      λ f K. seen.0 f K ∙ counted_more K f n c m cur left digit_is e same,
      few.1,
      λ none. absurd (omega (arith, few.0)),
      omega (arith, ap length digit_is, seen.3),
    )

pub width_done : (old cur after left : List ℕ) (n : ℕ) → SeenWidth old n cur → (after ≡ cur) × Fails (goes_on n) cur
    → (n ≡ 0 → ⊥) → left ≡ rest_of is_white after
    → ((f : Form) (K : Open) → run (done (within Number K) f) old ≡ run (ready K (number f n)) left)
    × (length left ≤ length old)
width_done old cur after left n seen no_digit some left_is = (
  λ f K. seen.0 f K
      ∙ (width_end K f n cur (omega (arith, some)) no_digit.1
      ∙ ap (run (ready K (number f n))) (ap (rest_of is_white) (sym no_digit.0) ∙ sym left_is)),
  omega (arith, length-rest_of is_white after, ap length left_is, ap length no_digit.0, seen.3),
)

-- a reading that stops as another does
pub stops_alike : {T U : Type 0} (from : Open → State) (to : T → Open → State) (to' : U → Open → State)
    (old new : List ℕ) (e : Stop) → Goes from to old new (Err e) → Goes from to' old new (Err e)
stops_alike from to to' old new Here h = h
stops_alike from to to' old new Memory h = tt

-- the loop over the arguments of `combine`
abbrev pub SeenArguments : List ℕ → Expr → List Expr → List ℕ → Type 0
SeenArguments old first all left =
    ((K : Open) → run (done (within Combine K) (form_of first)) old ≡ run (more K (map form_of all)) left)
    × Fails is_white left × (length left ≤ length old)

pub arguments_first : (old : List ℕ) (first : Expr) (es all : List Expr) → Fails is_white old → es ≡ []
    → all ≡ es ++ first ∷ [] → SeenArguments old first all old
arguments_first old first es all black none_yet all_is =
    let one : all ≡ first ∷ [] = all_is ∙ ap (λ (x : List Expr). x ++ first ∷ []) none_yet in (
      λ K. first_argument K (form_of first) old black
          ∙ ap (λ (x : List Expr). run (more K (map form_of x)) old) (sym one),
      black,
      omega arith,
    )

pub arguments_next : (old : List ℕ) (first next : Expr) (all all' : List Expr) (cur mid left : List ℕ)
    → SeenArguments old first all cur → cur ≡ 44 ∷ mid
    → ((K : Open) → run (begin K) mid ≡ run (done K (form_of next)) left) → Fails is_white left
    → length left < length mid → all' ≡ all ++ next ∷ [] → SeenArguments old first all' left
arguments_next old first next all all' cur mid left seen comma read black shorter all_is = (
  λ K. seen.0 K
      ∙ (argument_begins K (map form_of all) cur mid comma
      ∙ (read (combined (map form_of all) K)
      ∙ argument_ends K all all' next left black all_is)),
  black,
  omega (arith, ap length comma, seen.2, shorter),
)

pub arguments_end : (old : List ℕ) (first : Expr) (all : List Expr) (cur left : List ℕ)
    → SeenArguments old first all cur → (left ≡ cur) × Fails (λ c. eqb c 44) cur → (K : Open)
    → run (done (within Combine K) (form_of first)) old ≡ run (ready K (combine (forms_of (map form_of all)))) left
arguments_end old first all cur left seen no_comma K =
    seen.0 K
    ∙ (more_ready K (map form_of all) cur seen.1 no_comma.1
    ∙ ap (run (ready K (combine (forms_of (map form_of all))))) (sym no_comma.0))

-- a whole text is read, or not, as its expression is
pub parses_alike : (old new : List ℕ) (e : Stop) → Goes {T = Expr} begin (λ x K. done K (form_of x)) old new (Err e)
    → Parses old new (Err e)
parses_alike old new Here h = h none
parses_alike old new Memory h = tt
