-- What a run that ends well has passed: a mark, a part, a field, the word of a transform.
use Rattle.std.proofs.Common.{◌≡◌, ℕ, zero, suc, ◌<◌, ◌≤◌, Bool, true, false, cond, ◌⊎◌, eqb, List, [], ◌∷◌, ◌++◌, map}
use Rattle.std.proofs.Common.{length, codes, Option, Some, None, Ok, Err, encode_utf8_all, refl, sym, ◌∙◌, ap, subst}
use Rattle.std.proofs.Common.{append_assoc, append-nil, arith, inl, inr, eqb-true, bytes_eq}
use Rattle.std.specs.List.{join_with_byte}
use Rattle.std.proofs.lemmas.Str.{encodes_same}
use Rattle.std.proofs.lemmas.Slice.Eq.{bytes_eq-Decides}
use lib.Utf8.{encode}
use Rattle.expr_parser.specs.declared.transform.Transform.{Transform}
use Rattle.expr_parser.specs.declared.transform.Transform.TheVariants.{Lower, SplitWords, Number, Truth, Combine}
use Rattle.expr_parser.specs.Forms.{Form, field}
use Rattle.expr_parser.specs.Grammar.{is_white, is_part, IsPart, ArePartsOfField}
use Rattle.expr_parser.specs.Descent.{Fails, lead_of, rest_of}
use Rattle.expr_parser.specs.Machine.{Open, State, begin, word, dot, behind, done, step, result_of, at_end, run, named}
use Rattle.expr_parser.proofs.Classes.{is_white-open}
use Rattle.expr_parser.proofs.Machine.{goes, stops, front_rest, front_passes, rest_fails, length-rest_of, Stays}
use Rattle.expr_parser.proofs.Machine.{behind_stays, Enters, dot_enters, enter_run, PastWord, past_word_run, field_run}

-- a run that ends here or stops here has no form
pub no_form_at_end : (s : State) (f : Form) {A : Type 0} → result_of s ≡ None → run s [] ≡ Ok f → A
no_form_at_end s f {A} ends h =
    let bad : at_end None ≡ Ok f = subst (λ (o : Option Form). at_end o ≡ Ok f) ends h in cc

pub no_form_where_stuck : (s : State) (c : ℕ) (cs : List ℕ) (f : Form) {A : Type 0} → step s c ≡ None
    → run s (c ∷ cs) ≡ Ok f → A
no_form_where_stuck s c cs f {A} stuck h =
    let bad : Err (c ∷ cs) ≡ Ok f = sym (stops s c cs stuck) ∙ h in cc

-- a state in which only one mark leads on, but for white space
pub record Wants (s : State) (mark : ℕ) (next : State) : Type 0 where
  pub here : step s mark ≡ Some next
  pub nothing_else : (c : ℕ) → is_white c ≡ false → eqb c mark ≡ false → step s c ≡ None
  pub not_the_end : result_of s ≡ None

pub record Marked (mark : ℕ) (next : State) (text : List ℕ) (f : Form) : Type 0 where
  pub rest : List ℕ
  pub is : text ≡ mark ∷ rest
  pub goes_on : run next rest ≡ Ok f

mark_case : (s : State) (mark : ℕ) (next : State) → Wants s mark next → (c : ℕ) (cs : List ℕ) (f : Form)
    → is_white c ≡ false → run s (c ∷ cs) ≡ Ok f → (b : Bool) → eqb c mark ≡ b → Marked mark next (c ∷ cs) f
mark_case s mark next wants c cs f black h true e =
    let same : c ≡ mark = eqb-true c mark e in
    let there : step s c ≡ Some next = subst (λ (x : ℕ). step s x ≡ Some next) (sym same) wants.here in
    record { rest = cs; is = ap (λ (x : ℕ). x ∷ cs) same; goes_on = sym (goes s next c cs there) ∙ h }
mark_case s mark next wants c cs f black h false e =
    no_form_where_stuck s c cs f (wants.nothing_else c black e) h

pub mark_sound : (s : State) (mark : ℕ) (next : State) → Wants s mark next → (text : List ℕ) (f : Form)
    → Fails is_white text → run s text ≡ Ok f → Marked mark next text f
mark_sound s mark next wants [] f black h = no_form_at_end s f wants.not_the_end h
mark_sound s mark next wants (c ∷ cs) f black h = mark_case s mark next wants c cs f black h (eqb c mark) refl

-- a state that wants a part does not go on without one
abbrev pub WantsPart : State → List ℕ → Type 0
WantsPart s [] = result_of s ≡ None
WantsPart s (c ∷ cs) = is_part c ≡ false → step s c ≡ None

pub record PartRead (K : Open) (parts : List (List ℕ)) (text : List ℕ) (f : Form) : Type 0 where
  pub part : IsPart (lead_of is_part text)
  pub goes_on : run (word K parts (encode_utf8_all (lead_of is_part text))) (rest_of is_part text) ≡ Ok f

part_case : (s : State) (K : Open) (parts : List (List ℕ)) → Enters s K parts → (c : ℕ) (cs : List ℕ) (f : Form)
    → WantsPart s (c ∷ cs) → run s (c ∷ cs) ≡ Ok f → (b : Bool) → is_part c ≡ b → PartRead K parts (c ∷ cs) f
part_case s K parts enters c cs f wants h true e =
    let some : 1 ≤ length (lead_of is_part (c ∷ cs)) = rw e (omega arith) in
    let part : IsPart (lead_of is_part (c ∷ cs)) = record { some = some; allowed = front_passes is_part (c ∷ cs) } in
    record {
      part = part;
      goes_on = sym (enter_run s K parts enters (lead_of is_part (c ∷ cs)) (rest_of is_part (c ∷ cs)) part)
          ∙ (ap (run s) (front_rest is_part (c ∷ cs)) ∙ h);
    }
part_case s K parts enters c cs f wants h false e = no_form_where_stuck s c cs f (wants e) h

pub part_sound : (s : State) (K : Open) (parts : List (List ℕ)) → Enters s K parts → (text : List ℕ) (f : Form)
    → WantsPart s text → run s text ≡ Ok f → PartRead K parts text f
part_sound s K parts enters [] f wants h = no_form_at_end s f wants h
part_sound s K parts enters (c ∷ cs) f wants h = part_case s K parts enters c cs f wants h (is_part c) refl

pub begin_wants : (K : Open) (text : List ℕ) → Fails is_white text → WantsPart (begin K) text
begin_wants K [] black = refl
begin_wants K (c ∷ cs) black = λ no_part. rw (no_part, black) refl

dot_wants : (K : Open) (parts : List (List ℕ)) (text : List ℕ) → WantsPart (dot K parts) text
dot_wants K parts [] = refl
dot_wants K parts (c ∷ cs) = λ no_part. rw no_part refl

-- the other parts of a field, each behind a dot
abbrev pub dotted : List (List ℕ) → List ℕ
dotted [] = []
dotted (p ∷ ps) = 46 ∷ (p ++ dotted ps)

abbrev pub AreParts : List (List ℕ) → Type 0
AreParts [] = Unit {0}
AreParts (p ∷ ps) = IsPart p × AreParts ps

abbrev pub behind_all : Open → List (List ℕ) → List ℕ → List (List ℕ) → State
behind_all K parts part [] = behind K parts part
behind_all K parts part (p ∷ ps) = behind_all K (parts ++ part ∷ []) (encode_utf8_all p) ps

pub record FieldRead (K : Open) (parts : List (List ℕ)) (part text : List ℕ) (f : Form) : Type 0 where
  pub names : List (List ℕ)
  pub rest : List ℕ
  pub is : text ≡ dotted names ++ rest
  pub are_parts : AreParts names
  pub goes_on : run (behind_all K parts part names) rest ≡ Ok f

no_more_parts : (K : Open) (parts : List (List ℕ)) (part text : List ℕ) (f : Form) → PastWord text
    → run (word K parts part) text ≡ Ok f → FieldRead K parts part text f
no_more_parts K parts part text f past h = record {
  names = [];
  rest = text;
  is = refl;
  are_parts = tt;
  goes_on = sym (past_word_run K parts part text past) ∙ h;
}

one_part_more : (K : Open) (parts : List (List ℕ)) (part cs : List ℕ) (f : Form)
    → (r : PartRead K (parts ++ part ∷ []) cs f)
    → FieldRead K (parts ++ part ∷ []) (encode_utf8_all (lead_of is_part cs)) (rest_of is_part cs) f
    → FieldRead K parts part (46 ∷ cs) f
one_part_more K parts part cs f r left = record {
  names = lead_of is_part cs ∷ left.names;
  rest = left.rest;
  is = ap (λ (x : List ℕ). 46 ∷ x) (sym (front_rest is_part cs)
      ∙ (ap (λ (x : List ℕ). lead_of is_part cs ++ x) left.is
      ∙ sym (append_assoc (lead_of is_part cs) (dotted left.names) left.rest)));
  are_parts = (r.part, left.are_parts);
  goes_on = left.goes_on;
}

abbrev pub ReadsWords : ℕ → Type 0
ReadsWords n = (K : Open) (parts : List (List ℕ)) (part text : List ℕ) (f : Form) → length text < n
    → Fails is_part text → run (word K parts part) text ≡ Ok f → FieldRead K parts part text f

words_case : (n : ℕ) → ReadsWords n
    → (K : Open) (parts : List (List ℕ)) (part : List ℕ) (c : ℕ) (cs : List ℕ) (f : Form) → length cs < n
    → is_part c ≡ false → run (word K parts part) (c ∷ cs) ≡ Ok f → (b : Bool) → eqb c 46 ≡ b
    → FieldRead K parts part (c ∷ cs) f
words_case n again K parts part c cs f few no_part h true e =
    let same : c ≡ 46 = eqb-true c 46 e in
    let there : step (word K parts part) c ≡ Some (dot K (parts ++ part ∷ [])) = rw (no_part, e) refl in
    let at_dot : run (dot K (parts ++ part ∷ [])) cs ≡ Ok f =
    sym (goes (word K parts part) (dot K (parts ++ part ∷ [])) c cs there) ∙ h in
    let r : PartRead K (parts ++ part ∷ []) cs f =
    part_sound (dot K (parts ++ part ∷ [])) K (parts ++ part ∷ []) (dot_enters K (parts ++ part ∷ [])) cs f
    (dot_wants K (parts ++ part ∷ []) cs) at_dot in
    let fewer : length (rest_of is_part cs) < n = omega (arith, length-rest_of is_part cs) in
    let left : FieldRead K (parts ++ part ∷ []) (encode_utf8_all (lead_of is_part cs)) (rest_of is_part cs) f =
    again K (parts ++ part ∷ []) (encode_utf8_all (lead_of is_part cs)) (rest_of is_part cs) f fewer
    (rest_fails is_part cs) r.goes_on in
    subst (λ (x : ℕ). FieldRead K parts part (x ∷ cs) f) (sym same) (one_part_more K parts part cs f r left)
words_case n again K parts part c cs f few no_part h false e = no_more_parts K parts part (c ∷ cs) f (no_part, e) h

pub words_sound : (n : ℕ) → ReadsWords n
words_sound zero K parts part text f few no_part h = absurd (omega arith)
words_sound (suc n) K parts part [] f few no_part h = no_more_parts K parts part [] f (tt, tt) h
words_sound (suc n) K parts part (c ∷ cs) f few no_part h =
    words_case n (words_sound n) K parts part c cs f (omega arith) no_part h (eqb c 46) refl

-- behind a field
pub behind_all_stays : (K : Open) (parts : List (List ℕ)) (part : List ℕ) (names : List (List ℕ))
    → Stays (behind_all K parts part names)
behind_all_stays K parts part [] = behind_stays K parts part
behind_all_stays K parts part (p ∷ ps) = behind_all_stays K (parts ++ part ∷ []) (encode_utf8_all p) ps

pub field_all : (K : Open) (parts : List (List ℕ)) (part : List ℕ) (names : List (List ℕ)) (t : List ℕ)
    → Fails is_white t → Fails (λ c. eqb c 40) t
    → run (behind_all K parts part names) t ≡ run (done K (field (parts ++ part ∷ map encode_utf8_all names))) t
field_all K parts part [] t w h = field_run K parts part t w h
field_all K parts part (p ∷ ps) t w h =
    field_all K (parts ++ part ∷ []) (encode_utf8_all p) ps t w h
    ∙ ap (λ (x : List (List ℕ)). run (done K (field x)) t)
    (append_assoc parts (part ∷ []) (encode_utf8_all p ∷ map encode_utf8_all ps))

-- a field of two parts or more has no bracket behind it
pub no_call : (K : Open) (first : List ℕ) (parts : List (List ℕ)) (part : List ℕ) (names : List (List ℕ)) (cs : List ℕ)
    (f : Form) {A : Type 0} → run (behind_all K (first ∷ parts) part names) (40 ∷ cs) ≡ Ok f → A
no_call K first parts part [] cs f h =
    let stuck : step (behind K (first ∷ parts) part) 40 ≡ None = rw is_white-open refl in
    no_form_where_stuck (behind K (first ∷ parts) part) 40 cs f stuck h
no_call K first parts part (p ∷ ps) cs f h = no_call K first (parts ++ part ∷ []) (encode_utf8_all p) ps cs f h

pub join_dotted : (p : List ℕ) (ps : List (List ℕ)) → p ++ dotted ps ≡ join_with_byte 46 (p ∷ ps)
join_dotted p [] = append-nil p
join_dotted p (q ∷ ps) = ap (λ (x : List ℕ). p ++ 46 ∷ x) (join_dotted q ps)

pub parts_of_field : (p : List ℕ) (ps : List (List ℕ)) → IsPart p → AreParts ps → ArePartsOfField (p ∷ ps)
parts_of_field p [] h hs = h
parts_of_field p (q ∷ ps) h hs = (h, parts_of_field q ps hs.0 hs.1)

-- the word of a transform
abbrev pub word_of : Transform → List ℕ
word_of Lower = codes "lower"
word_of SplitWords = codes "split_words"
word_of Number = codes "number"
word_of Truth = codes "bool"
word_of Combine = codes "combine"

chosen : (b : Bool) (t u : Transform) (others : Option Transform) → cond b (Some t) others ≡ Some u
    → ((b ≡ true) × (t ≡ u)) ⊎ (others ≡ Some u)
chosen true t u others e = inl (refl, cc)
chosen false t u others e = inr e

is_word : (w : List ℕ) (t u : Transform) → (bytes_eq w (word_of t) ≡ true) × (t ≡ u) → w ≡ word_of u
is_word w t u h = (bytes_eq-Decides w (word_of t)).0 h.0 ∙ ap word_of h.1

pub or_else : {A B C : Type 0} → A ⊎ B → (A → C) → (B → C) → C
or_else (inl a) f g = f a
or_else (inr b) f g = g b

named_word : (w : List ℕ) (t : Transform) → named w ≡ Some t → w ≡ word_of t
named_word w t e =
    or_else (chosen (bytes_eq w (codes "lower")) Lower t _ e) (is_word w Lower t)
    (λ e1. or_else (chosen (bytes_eq w (codes "split_words")) SplitWords t _ e1) (is_word w SplitWords t)
    (λ e2. or_else (chosen (bytes_eq w (codes "number")) Number t _ e2) (is_word w Number t)
    (λ e3. or_else (chosen (bytes_eq w (codes "bool")) Truth t _ e3) (is_word w Truth t)
    (λ e4. or_else (chosen (bytes_eq w (codes "combine")) Combine t None e4) (is_word w Combine t) (λ e5. cc)))))

encodes-word_of : (t : Transform) → encode_utf8_all (word_of t) ≡ word_of t
unfolding encode
encodes-word_of Lower = refl
encodes-word_of SplitWords = refl
encodes-word_of Number = refl
encodes-word_of Truth = refl
encodes-word_of Combine = refl

pub spelled_word : (p : List ℕ) (t : Transform) → named (encode_utf8_all p) ≡ Some t → p ≡ word_of t
spelled_word p t e = encodes_same p (word_of t) (named_word (encode_utf8_all p) t e ∙ sym (encodes-word_of t))
