-- Runs over white space, parts and marks.
use Rattle.std.proofs.Common.{◌≡◌, ℕ, ◌+◌, Bool, true, false, cond, ◌⊎◌, eqb, List, [], ◌∷◌, ◌++◌, length, Option, Some}
use Rattle.std.proofs.Common.{None, Err, encode_utf8, encode_utf8_all, refl, sym, ◌∙◌, ap, append_assoc, append-nil}
use Rattle.std.proofs.Common.{length-append, arith, inl, inr}
use Rattle.std.specs.List.{list_all}
use Rattle.std.proofs.lemmas.Bool.{and_parts}
use Rattle.expr_parser.specs.Forms.{Form, field}
use Rattle.expr_parser.specs.Grammar.{is_white, is_part, IsWhite, IsPart}
use Rattle.expr_parser.specs.Descent.{lead_of, rest_of, Fails}
use Rattle.expr_parser.specs.Machine.{Open, State, begin, word, dot, behind, done, more, width, spaced, step, run}
use Rattle.expr_parser.specs.Machine.{onward}
use Rattle.expr_parser.proofs.Classes.{white_not_part, is_white-comma, is_white-close, is_white-dot, is_part-comma}
use Rattle.expr_parser.proofs.Classes.{is_part-close, white_not_mark}

-- a step that is taken, and one that is not
pub goes : (s t : State) (c : ℕ) (cs : List ℕ) → step s c ≡ Some t → run s (c ∷ cs) ≡ run t cs
goes s t c cs e = ap (λ (o : Option State). onward o (λ u. run u cs) (c ∷ cs)) e

pub stops : (s : State) (c : ℕ) (cs : List ℕ) → step s c ≡ None → run s (c ∷ cs) ≡ Err (c ∷ cs)
stops s c cs e = ap (λ (o : Option State). onward o (λ u. run u cs) (c ∷ cs)) e

-- the front and the rest of a text
pub front_rest : (p : ℕ → Bool) (cs : List ℕ) → lead_of p cs ++ rest_of p cs ≡ cs
front_rest p [] = refl
front_rest p (c ∷ cs) =
    elim (p c) as (λ b. cond b (c ∷ lead_of p cs) [] ++ cond b (rest_of p cs) (c ∷ cs) ≡ c ∷ cs)
    [ true ↦ ap (λ (xs : List ℕ). c ∷ xs) (front_rest p cs) | false ↦ refl ]

one_more_passes : (p : ℕ → Bool) (c : ℕ) (front : List ℕ) (b : Bool) → p c ≡ b → list_all p front ≡ true
    → list_all p (cond b (c ∷ front) []) ≡ true
one_more_passes p c front true e h = rw (e, h) refl
one_more_passes p c front false e h = refl

pub front_passes : (p : ℕ → Bool) (cs : List ℕ) → list_all p (lead_of p cs) ≡ true
front_passes p [] = refl
front_passes p (c ∷ cs) = one_more_passes p c (lead_of p cs) (p c) refl (front_passes p cs)

here_fails : (p : ℕ → Bool) (c : ℕ) (cs rest : List ℕ) (b : Bool) → p c ≡ b → Fails p rest
    → Fails p (cond b rest (c ∷ cs))
here_fails p c cs rest true e h = h
here_fails p c cs rest false e h = e

pub rest_fails : (p : ℕ → Bool) (cs : List ℕ) → Fails p (rest_of p cs)
rest_fails p [] = tt
rest_fails p (c ∷ cs) = here_fails p c cs (rest_of p cs) (p c) refl (rest_fails p cs)

pub length-rest_of : (p : ℕ → Bool) (cs : List ℕ) → length (lead_of p cs) + length (rest_of p cs) ≡ length cs
length-rest_of p cs = sym (simp length-append refl) ∙ ap length (front_rest p cs)

-- where nothing passes, nothing is taken
pub rest_none : (p : ℕ → Bool) (cs : List ℕ) → Fails p cs → rest_of p cs ≡ cs
rest_none p [] h = refl
rest_none p (c ∷ cs) h = rw h refl

-- a state at which white space changes nothing
abbrev pub Stays : State → Type 0
Stays s = (c : ℕ) → is_white c ≡ true → step s c ≡ Some s

pub white_run : (s : State) → Stays s → (w t : List ℕ) → IsWhite w → run s (w ++ t) ≡ run s t
white_run s stays [] t e = refl
white_run s stays (c ∷ w) t e =
    let both = and_parts (is_white c) (list_all is_white w) e in
    goes s s c (w ++ t) (stays c both.0) ∙ white_run s stays w t both.1

pub rest_run : (s : State) → Stays s → (cs : List ℕ) → run s cs ≡ run s (rest_of is_white cs)
rest_run s stays cs =
    ap (run s) (sym (front_rest is_white cs))
    ∙ white_run s stays (lead_of is_white cs) (rest_of is_white cs) (front_passes is_white cs)

pub begin_stays : (K : Open) → Stays (begin K)
begin_stays K c white = let other = white_not_part c white in rw (other, white) refl

pub behind_stays : (K : Open) (parts : List (List ℕ)) (part : List ℕ) → Stays (behind K parts part)
behind_stays K parts part c white = rw white refl

pub done_stays : (K : Open) (f : Form) → Stays (done K f)
done_stays K f c white = rw white refl

pub width_stays : (K : Open) (f : Form) → Stays (width K f)
width_stays K f c white = rw white refl

pub spaced_stays : (K : Open) (f : Form) (n : ℕ) → Stays (spaced K f n)
spaced_stays K f n c white = rw white refl

-- the characters of a part
pub part_run : (K : Open) (parts : List (List ℕ)) (part p t : List ℕ) → list_all is_part p ≡ true
    → run (word K parts part) (p ++ t) ≡ run (word K parts (part ++ encode_utf8_all p)) t
part_run K parts part [] t e = ap (λ (x : List ℕ). run (word K parts x) t) (sym (append-nil part))
part_run K parts part (c ∷ p) t e =
    let both = and_parts (is_part c) (list_all is_part p) e in
    let here : step (word K parts part) c ≡ Some (word K parts (part ++ encode_utf8 c)) = rw both.0 refl in
    goes (word K parts part) (word K parts (part ++ encode_utf8 c)) c (p ++ t) here
    ∙ (part_run K parts (part ++ encode_utf8 c) p t both.1
    ∙ ap (λ (x : List ℕ). run (word K parts x) t) (append_assoc part (encode_utf8 c) (encode_utf8_all p)))

-- a state from which a part's first character leads into a field with these finished parts
abbrev pub Enters : State → Open → List (List ℕ) → Type 0
Enters s K parts = (c : ℕ) → is_part c ≡ true → step s c ≡ Some (word K parts (encode_utf8 c))

pub begin_enters : (K : Open) → Enters (begin K) K []
begin_enters K c part = rw part refl

pub dot_enters : (K : Open) (parts : List (List ℕ)) → Enters (dot K parts) K parts
dot_enters K parts c part = rw part refl

pub enter_run : (s : State) (K : Open) (parts : List (List ℕ)) → Enters s K parts → (p t : List ℕ) → IsPart p
    → run s (p ++ t) ≡ run (word K parts (encode_utf8_all p)) t
enter_run s K parts enters [] t h = absurd (omega (arith, h.some))
enter_run s K parts enters (c ∷ p) t h =
    let both = and_parts (is_part c) (list_all is_part p) h.allowed in
    goes s (word K parts (encode_utf8 c)) c (p ++ t) (enters c both.0) ∙ part_run K parts (encode_utf8 c) p t both.1

-- a text does not go on with a field
abbrev pub PastWord : List ℕ → Type 0
PastWord t = Fails is_part t × Fails (λ c. eqb c 46) t

pub past_word_run : (K : Open) (parts : List (List ℕ)) (part t : List ℕ) → PastWord t
    → run (word K parts part) t ≡ run (behind K parts part) t
past_word_run K parts part [] h = refl
past_word_run K parts part (c ∷ cs) h = rw (h.0, h.1) refl

pub white_past_word : (w t : List ℕ) → IsWhite w → PastWord t → PastWord (w ++ t)
white_past_word [] t e h = h
white_past_word (c ∷ w) t e h =
    let both = and_parts (is_white c) (list_all is_white w) e in
    (white_not_part c both.0, white_not_mark 46 c is_white-dot both.0)

-- the end of the text, a comma or a closing bracket
abbrev pub Delimits : List ℕ → Type 0
Delimits [] = Unit {0}
Delimits (c ∷ cs) = (c ≡ 44) ⊎ (c ≡ 41)

pub delimits_past_word : (t : List ℕ) → Delimits t → PastWord t
delimits_past_word [] h = (tt, tt)
delimits_past_word (c ∷ cs) (inl e) = rw e (is_part-comma, refl)
delimits_past_word (c ∷ cs) (inr e) = rw e (is_part-close, refl)

pub delimits_not_white : (t : List ℕ) → Delimits t → Fails is_white t
delimits_not_white [] h = tt
delimits_not_white (c ∷ cs) (inl e) = rw e is_white-comma
delimits_not_white (c ∷ cs) (inr e) = rw e is_white-close

-- where no white space and no opening bracket stands behind a field, it is an expression
pub field_run : (K : Open) (parts : List (List ℕ)) (part t : List ℕ) → Fails is_white t → Fails (λ c. eqb c 40) t
    → run (behind K parts part) t ≡ run (done K (field (parts ++ part ∷ []))) t
field_run K parts part [] w h = refl
field_run K parts part (c ∷ cs) w h = rw (w, h) refl

pub delimits_not_open : (t : List ℕ) → Delimits t → Fails (λ c. eqb c 40) t
delimits_not_open [] h = tt
delimits_not_open (c ∷ cs) (inl e) = rw e refl
delimits_not_open (c ∷ cs) (inr e) = rw e refl
