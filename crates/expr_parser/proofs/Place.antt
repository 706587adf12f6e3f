-- Where a run stops, no expression goes on; up to there some expression does.
use Rattle.std.proofs.Common.{◌≡◌, ℕ, ◌+◌, ◌-◌, ◌≤◌, ◌⊎◌, List, [], ◌∷◌, ◌++◌, map, length, length-append, Option, Some}
use Rattle.std.proofs.Common.{None, Result, Ok, Err, encode_utf8_all, IsUtf8, chars, refl, sym, ◌∙◌, ap, subst}
use Rattle.std.proofs.Common.{append_assoc, arith, inl, inr, decimal}
use Rattle.std.proofs.lemmas.Str.{encodes-append, encodes-chars}
use Rattle.expr_parser.specs.declared.transform.Transform.TheVariants.{Lower, SplitWords, Number, Truth, Combine}
use Rattle.expr_parser.specs.Forms.{Form, field, lower, split_words, number, truth, combine, forms_of}
use Rattle.expr_parser.specs.Grammar.{IsPart, Spells, Begins}
use Rattle.expr_parser.specs.Faults.{IsPlace, IsWrongAt, SpellsOnly}
use Rattle.expr_parser.specs.Limits.{longest}
use Rattle.expr_parser.specs.Machine.{Open, none, within, combined, State, begin, word, dot, behind, done, more, width}
use Rattle.expr_parser.specs.Machine.{digits, spaced, ready, step, result_of, at_end, onward, run}
use Rattle.expr_parser.proofs.Classes.{is_white-close, is_part-a}
use Rattle.expr_parser.proofs.Machine.{goes, stops, begin_enters, dot_enters, past_word_run, Delimits}
use Rattle.expr_parser.proofs.Machine.{delimits_past_word, delimits_not_white, delimits_not_open, field_run}
use Rattle.expr_parser.proofs.Complete.{names_run, width_core, close_step, spaced_step, lower_close, split_words_close}
use Rattle.expr_parser.proofs.Complete.{truth_close, number_comma, list_close, read-spelled}
use Rattle.expr_parser.proofs.Sound.{spelled-read}

-- what closes the brackets behind an expression
record Closes (K : Open) (g : Form) : Type 0 where
  text : List ℕ
  whole : Form
  delimits : Delimits text
  goes_on : run (done K g) text ≡ Ok whole

closes : (K : Open) (g : Form) → Closes K g
closes none g = record { text = []; whole = g; delimits = tt; goes_on = refl }
closes (within Lower K) g =
    let c : Closes K (lower g) = closes K (lower g) in
    record { text = 41 ∷ c.text; whole = c.whole; delimits = inr refl; goes_on = lower_close K g c.text ∙ c.goes_on }
closes (within SplitWords K) g =
    let c : Closes K (split_words g) = closes K (split_words g) in
    record {
      text = 41 ∷ c.text;
      whole = c.whole;
      delimits = inr refl;
      goes_on = split_words_close K g c.text
          ∙ c.goes_on;
    }
closes (within Truth K) g =
    let c : Closes K (truth g) = closes K (truth g) in
    record { text = 41 ∷ c.text; whole = c.whole; delimits = inr refl; goes_on = truth_close K g c.text ∙ c.goes_on }
closes (within Number K) g =
    let c : Closes K (number g 1) = closes K (number g 1) in
    record {
      text = 44 ∷ (decimal 1 ++ 41 ∷ c.text);
      whole = c.whole;
      delimits = inl refl;
      goes_on = number_comma K g (decimal 1 ++ 41 ∷ c.text)
          ∙ (width_core K g 1 (decimal 1) [] c.text
          (record { least = omega arith; greatest = omega arith; is = refl }) refl ∙ c.goes_on);
    }
closes (within Combine K) g =
    let c : Closes K (combine (forms_of (g ∷ []))) = closes K (combine (forms_of (g ∷ []))) in
    record {
      text = 41 ∷ c.text;
      whole = c.whole;
      delimits = inr refl;
      goes_on =
          list_close (within Combine K) K [] (λ f x. refl) g c.text ∙ c.goes_on;
    }
closes (combined fs K) g =
    let c : Closes K (combine (forms_of (fs ++ g ∷ []))) = closes K (combine (forms_of (fs ++ g ∷ []))) in
    record {
      text = 41 ∷ c.text;
      whole = c.whole;
      delimits = inr refl;
      goes_on =
          list_close (combined fs K) K fs (λ f x. refl) g c.text ∙ c.goes_on;
    }

-- from each state some text leads to the end of an expression
record Lives (s : State) : Type 0 where
  text : List ℕ
  whole : Form
  goes_on : run s text ≡ Ok whole

-- the field `a`
part_a : IsPart (97 ∷ [])
part_a = record { some = omega arith; allowed = rw is_part-a refl }

lives_behind : (s : State) (K : Open) (g : Form) → ((t : List ℕ) → Delimits t → run s t ≡ run (done K g) t) → Lives s
lives_behind s K g same =
    let c : Closes K g = closes K g in
    record { text = c.text; whole = c.whole; goes_on = same c.text c.delimits ∙ c.goes_on }

lives_before : (s : State) (K : Open) (g : Form) (front : List ℕ)
    → ((t : List ℕ) → Delimits t → run s (front ++ t) ≡ run (done K g) t) → Lives s
lives_before s K g front same =
    let c : Closes K g = closes K g in
    record { text = front ++ c.text; whole = c.whole; goes_on = same c.text c.delimits ∙ c.goes_on }

one_step : (s : State) (K : Open) (g : Form) → step s 41 ≡ Some (done K g) → Lives s
one_step s K g here = lives_before s K g (41 ∷ []) (λ t d. goes s (done K g) 41 t here)

lives : (s : State) → Lives s
lives (begin K) =
    lives_before (begin K) K (field ([] ++ map encode_utf8_all ((97 ∷ []) ∷ []))) (97 ∷ [])
    (λ t d. names_run (begin K) K [] (begin_enters K) ((97 ∷ []) ∷ []) part_a [] t refl d)
lives (word K parts part) =
    lives_behind (word K parts part) K (field (parts ++ part ∷ []))
    (λ t d. past_word_run K parts part t (delimits_past_word t d)
    ∙ field_run K parts part t (delimits_not_white t d) (delimits_not_open t d))
lives (dot K parts) =
    lives_before (dot K parts) K (field (parts ++ map encode_utf8_all ((97 ∷ []) ∷ []))) (97 ∷ [])
    (λ t d. names_run (dot K parts) K parts (dot_enters K parts) ((97 ∷ []) ∷ []) part_a [] t refl d)
lives (behind K parts part) =
    lives_behind (behind K parts part) K (field (parts ++ part ∷ []))
    (λ t d. field_run K parts part t (delimits_not_white t d) (delimits_not_open t d))
lives (done K f) = lives_behind (done K f) K f (λ t d. refl)
lives (more K fs) = one_step (more K fs) K (combine (forms_of fs)) (rw is_white-close refl)
lives (width K f) =
    let c : Closes K (number f 1) = closes K (number f 1) in
    record {
      text = decimal 1 ++ 41 ∷ c.text;
      whole = c.whole;
      goes_on = width_core K f 1 (decimal 1) [] c.text
          (record { least = omega arith; greatest = omega arith; is = refl }) refl ∙ c.goes_on;
    }
lives (digits K f n) = one_step (digits K f n) K (number f n) (close_step K f n)
lives (spaced K f n) = one_step (spaced K f n) K (number f n) (spaced_step K f n)
lives (ready K f) = one_step (ready K f) K f refl

-- where a run stops: a state that the front leads to, whatever follows, and that does not go on
abbrev Dead : State → List ℕ → Type 0
Dead s [] = result_of s ≡ None
Dead s (c ∷ cs) = step s c ≡ None

record Stops (s : State) (text rest : List ℕ) : Type 0 where
  front : List ℕ
  last : State
  is : text ≡ front ++ rest
  leads : (k : List ℕ) → run s (front ++ k) ≡ run last k
  dead : Dead last rest

stops_end : (s : State) (rest : List ℕ) (o : Option Form) → result_of s ≡ o → at_end o ≡ Err rest → Stops s [] rest
stops_end s rest None e h =
    let none_left : [] ≡ rest = cc in
    subst (λ (x : List ℕ). Stops s [] x) none_left
    (record { front = []; last = s; is = refl; leads = λ k. refl; dead = e })
stops_end s rest (Some f) e h = cc

stops_here : (s : State) (c : ℕ) (cs rest : List ℕ) → step s c ≡ None
    → ◌≡◌ {A = Result Form (List ℕ)} (Err (c ∷ cs)) (Err rest) → Stops s (c ∷ cs) rest
stops_here s c cs rest e h =
    let all_left : c ∷ cs ≡ rest = cc in
    subst (λ (x : List ℕ). Stops s (c ∷ cs) x) all_left
    (record { front = []; last = s; is = refl; leads = λ k. refl; dead = e })

stops_later : (s t : State) (c : ℕ) (cs rest : List ℕ) → step s c ≡ Some t → Stops t cs rest → Stops s (c ∷ cs) rest
stops_later s t c cs rest e later = record {
  front = c ∷ later.front;
  last = later.last;
  is = ap (λ (x : List ℕ). c ∷ x) later.is;
  leads = λ k. goes s t c (later.front ++ k) e ∙ later.leads k;
  dead = later.dead;
}

stops_case : (s : State) (c : ℕ) (cs rest : List ℕ) → ((t : State) → run t cs ≡ Err rest → Stops t cs rest)
    → (o : Option State) → step s c ≡ o → onward o (λ t. run t cs) (c ∷ cs) ≡ Err rest → Stops s (c ∷ cs) rest
stops_case s c cs rest again None e h = stops_here s c cs rest e h
stops_case s c cs rest again (Some t) e h = stops_later s t c cs rest e (again t h)

stops_at : (text : List ℕ) (s : State) (rest : List ℕ) → run s text ≡ Err rest → Stops s text rest
stops_at [] s rest h = stops_end s rest (result_of s) refl h
stops_at (c ∷ cs) s rest h = stops_case s c cs rest (λ t. stops_at cs t rest) (step s c) refl h

-- of two fronts of one text the second is no longer, or goes on past the first
record Longer (front rest other left : List ℕ) : Type 0 where
  next : ℕ
  others : List ℕ
  other_is : other ≡ front ++ next ∷ others
  rest_is : rest ≡ next ∷ (others ++ left)

longer_by_one : (x y : ℕ) (front rest other left : List ℕ) → x ≡ y → (length other ≤ length front)
    ⊎ Longer front rest other left → (length (y ∷ other) ≤ length (x ∷ front))
    ⊎ Longer (x ∷ front) rest (y ∷ other) left
longer_by_one x y front rest other left e (inl short) = inl (omega arith)
longer_by_one x y front rest other left e (inr l) = inr (record {
  next = l.next;
  others = l.others;
  other_is = ap (λ (z : ℕ). z ∷ other) (sym e) ∙ ap (λ (xs : List ℕ). x ∷ xs) l.other_is;
  rest_is = l.rest_is;
})

compare_fronts : (front rest other left : List ℕ) → front ++ rest ≡ other ++ left → (length other ≤ length front)
    ⊎ Longer front rest other left
compare_fronts front rest [] left e = inl (omega arith)
compare_fronts [] rest (y ∷ other) left e = inr (record { next = y; others = other; other_is = refl; rest_is = e })
compare_fronts (x ∷ front) rest (y ∷ other) left e =
    longer_by_one x y front rest other left (cc) (compare_fronts front rest other left (cc))

-- an expression cannot go on where the run is dead
never_begins : (text rest : List ℕ) → (p : Stops (begin none) text rest) → (other left : List ℕ)
    → Longer p.front rest other left → Begins other → ⊥
never_begins text rest p other left l b =
    let read : run (begin none) (other ++ b.rest) ≡ Ok b.form = read-spelled b.form (other ++ b.rest) b.spells in
    let split : other ++ b.rest ≡ p.front ++ (l.next ∷ (l.others ++ b.rest)) =
    ap (λ (x : List ℕ). x ++ b.rest) l.other_is ∙ append_assoc p.front (l.next ∷ l.others) b.rest in
    let there : run p.last (l.next ∷ (l.others ++ b.rest)) ≡ Ok b.form = sym (p.leads (l.next ∷ (l.others ++ b.rest)))
    ∙ (ap (run (begin none)) (sym split) ∙ read) in
    let dead : step p.last l.next ≡ None = subst (Dead p.last) l.rest_is p.dead in
    let stuck : run p.last (l.next ∷ (l.others ++ b.rest)) ≡ Err (l.next ∷ (l.others ++ b.rest)) =
    stops p.last l.next (l.others ++ b.rest) dead in
    cc

is_longest : (text rest : List ℕ) → (p : Stops (begin none) text rest) → (other left : List ℕ) → Begins other
    → (length other ≤ length p.front) ⊎ Longer p.front rest other left → length other ≤ length p.front
is_longest text rest p other left b (inl short) = short
is_longest text rest p other left b (inr l) = absurd (never_begins text rest p other left l b)

bytes_left : (front rest : List ℕ) → length (encode_utf8_all (front ++ rest)) ≡ length (encode_utf8_all front)
    + length (encode_utf8_all rest)
bytes_left front rest = ap length (encodes-append front rest) ∙ simp length-append refl

pub rest_bytes : (text rest : List ℕ) → run (begin none) text ≡ Err rest
    → length (encode_utf8_all rest) ≤ length (encode_utf8_all text)
rest_bytes text rest h =
    let p : Stops (begin none) text rest = stops_at text (begin none) rest h in
    omega (arith, bytes_left p.front rest, ap (λ (x : List ℕ). length (encode_utf8_all x)) p.is)

pub place_of : (text rest : List ℕ) → run (begin none) text ≡ Err rest
    → IsPlace (length (encode_utf8_all text) - length (encode_utf8_all rest)) text
place_of text rest h =
    let p : Stops (begin none) text rest = stops_at text (begin none) rest h in
    let alive : Lives p.last = lives p.last in
    record {
      front = p.front;
      rest = rest;
      is = p.is;
      begins = record {
        form = alive.whole;
        rest = alive.text;
        spells =
            spelled-read (p.front ++ alive.text) alive.whole (p.leads alive.text ∙ alive.goes_on);
      };
      is_longest = λ other left e b. is_longest text rest p other left b
          (compare_fronts p.front rest other left (sym p.is ∙ e));
      bytes = omega (arith, bytes_left p.front rest, ap (λ (x : List ℕ). length (encode_utf8_all x)) p.is);
    }

pub spells_nothing : (text rest : List ℕ) → run (begin none) text ≡ Err rest → (f : Form) → Spells f text → ⊥
spells_nothing text rest h f spells = let read = read-spelled f text spells in cc

-- the answers of a run over the characters of a text
pub wrong_at : (text rest : List ℕ) → IsUtf8 text → length text ≤ longest → run (begin none) (chars text) ≡ Err rest
    → IsWrongAt (length text - length (encode_utf8_all rest)) text
wrong_at text rest utf8 short h = record {
  short = short;
  spells_nothing = spells_nothing (chars text) rest h;
  goes_wrong = subst (λ (x : List ℕ). IsPlace (length x - length (encode_utf8_all rest)) (chars text))
      (encodes-chars text utf8) (place_of (chars text) rest h);
}

pub spells_only : (text : List ℕ) (f : Form) → run (begin none) text ≡ Ok f → SpellsOnly f text
spells_only text f h = record {
  spells = spelled-read text f h;
  only = λ g spells. let read = read-spelled g text spells in cc;
}
