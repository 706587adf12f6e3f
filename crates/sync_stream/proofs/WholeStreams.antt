-- A body has no fault exactly if it is a whole stream.
use Rattle.std.proofs.Common.{◌≡◌, ℕ, ◌+◌, Bool, true, false, cond, List, [], ◌∷◌, ◌++◌, map, length, flat_map, nat_lt}
use Rattle.std.proofs.Common.{Option, Some, None, refl, sym, ap, ap₂, ◌∙◌, subst, inl, inr, append_assoc}
use Rattle.std.specs.List.{AllByRecursion}
use Rattle.std.proofs.lemmas.List.{append-nil, flat_map_more}
use Rattle.sync_stream.specs.Lines.{ended, IsUnbroken}
use Rattle.sync_stream.specs.Says.{says}
use Rattle.sync_stream.specs.inner.Says.{IsShape}
use Rattle.sync_stream.specs.Stream.{Ends, IsGood, Passes, closes, counted, end_fault, is_closed, is_empty, max_line}
use Rattle.sync_stream.specs.Stream.{said_by}
use Rattle.sync_stream.specs.Format.{IsStream}
use Rattle.sync_stream.specs.declared.line.HeadKind.{HeadKind}
use Rattle.sync_stream.specs.declared.line.Line.{Line}
use Rattle.sync_stream.specs.declared.line.Line.TheVariants.{Head, Doc, End}
use Rattle.sync_stream.specs.declared.line.Next.{Next}
use Rattle.sync_stream.specs.declared.line.Next.TheVariants.{Opening, Heading, After, Closed}
use Rattle.sync_stream.specs.declared.line.Passed.{Passed}
use Rattle.sync_stream.specs.declared.fault.LineFault.{LineFault}
use Rattle.sync_stream.specs.declared.fault.LineFault.TheVariants.{At, TooLong}
use Rattle.sync_stream.proofs.Bodies.{body_passes, passes_body}
use Rattle.sync_stream.proofs.FirstFault.{all_more_front, both_open, closed_is}
use Rattle.sync_stream.proofs.Stands.{all_more, passes_more, shape_of}

-- ---- lists

head_same : {A : Type 0} {a b : A} {xs ys : List A} → a ∷ xs ≡ b ∷ ys → a ≡ b
head_same e = cc

tail_same : {A : Type 0} {a b : A} {xs ys : List A} → a ∷ xs ≡ b ∷ ys → xs ≡ ys
tail_same e = cc

some_item : {A : Type 0} (ys : List A) (y : A) → ys ++ y ∷ [] ≡ [] → ⊥
some_item [] y e = cc
some_item (z ∷ ys) y e = cc

last_same : {A : Type 0} (xs ys : List A) (x y : A) → xs ++ x ∷ [] ≡ ys ++ y ∷ [] → xs ≡ ys
last_same [] [] x y e = refl
last_same [] (b ∷ ys) x y e = absurd (some_item ys y (sym (tail_same e)))
last_same (a ∷ xs) [] x y e = absurd (some_item xs x (tail_same e))
last_same (a ∷ xs) (b ∷ ys) x y e = ap₂ (λ z zs. z ∷ zs) (head_same e) (last_same xs ys x y (tail_same e))

-- two texts with a CR LF behind them
crlf_same : (xs ys : List ℕ) → xs ++ 13 ∷ 10 ∷ [] ≡ ys ++ 13 ∷ 10 ∷ [] → xs ≡ ys
crlf_same xs ys e =
    last_same xs ys 13 13 (last_same (xs ++ 13 ∷ []) (ys ++ 13 ∷ []) 10 10
    (append_assoc xs (13 ∷ []) (10 ∷ []) ∙ e ∙ sym (append_assoc ys (13 ∷ []) (10 ∷ []))))

-- ---- a body without a fault

some_none : {f : LineFault} → Some f ≡ None → ⊥
some_none e = cc

empty_is : (n : ℕ) (rest : List ℕ) → cond (is_empty rest) None (Some (At n)) ≡ None → rest ≡ []
empty_is n [] e = refl
empty_is n (b ∷ rest) e = absurd (some_none e)

-- the last line is `]`
record Closes (kind : HeadKind) (place : Next) (rest : List ℕ) : Type 0 where
  passed : Passed
  good : IsGood kind place rest passed
  closed : is_closed passed.place ≡ true

closing_line : (kind : HeadKind) (n : ℕ) (place : Next) (rest : List ℕ) (long : Bool) (said : Option Passed)
    → nat_lt max_line (length rest) ≡ long → says kind place rest ≡ said
    → cond long (Some (TooLong n)) (closes n said) ≡ None → Closes kind place rest
closing_line kind n place rest true said fits is e = absurd (some_none e)
closing_line kind n place rest false None fits is e = absurd (some_none e)
closing_line kind n place rest false (Some passed) fits is e =
    record {
      passed = passed;
      good = record { fits = fits; says = is };
      closed =
          closed_if (is_closed passed.place) (At (counted (n + 1))) e;
    }
  where
    closed_if : (b : Bool) (f : LineFault) → cond b None (Some f) ≡ None → b ≡ true
    closed_if true f e = refl
    closed_if false f e = cc

-- a line that closes the stream says its end
ends_it : (place : Next) (passed : Passed) → IsShape place passed → is_closed passed.place ≡ true
    → passed ≡ record { line = Some End; place = Closed }
ends_it Opening passed h c = absurd (both_open (ap (λ p. is_closed p.place) h) c)
ends_it Heading passed h c = absurd (both_open (ap (λ p. is_closed p.place) h.2) c)
ends_it (After true) passed h c = absurd (both_open (ap (λ p. is_closed p.place) h.2) c)
ends_it (After false) passed h c = h
ends_it Closed passed h c = absurd h

-- at its end a body without CR LF has the line `]`
open_whole : (kind : HeadKind) (text : List ℕ) (said : List Line) (e : Ends kind text said None)
    → is_closed e.place ≡ false → IsStream kind text said
open_whole kind text said e open_ =
    let n = counted (length e.lines + 1) in
    let closing =
    closing_line kind n e.place e.rest (nat_lt max_line (length e.rest)) (says kind e.place e.rest) refl refl
    (subst (λ b. cond b (cond (is_empty e.rest) None (Some (At n)))
    (cond (nat_lt max_line (length e.rest)) (Some (TooLong n)) (closes n (says kind e.place e.rest))) ≡ None)
    open_ e.fault) in
    let is = ends_it e.place closing.passed
    (shape_of kind e.place e.rest closing.passed closing.good.says) closing.closed in
    let all : Passes kind Opening (e.lines ++ e.rest ∷ []) (said ++ End ∷ []) Closed =
    subst (λ p. Passes kind Opening (e.lines ++ e.rest ∷ []) (said ++ said_by p.line) p.place) is
    (passes_more kind Opening e.lines said e.place e.rest closing.passed e.begins.passes closing.good) in
    let body = passes_body kind (e.lines ++ e.rest ∷ []) (said ++ End ∷ []) all in
    let unbroken : IsUnbroken e.rest = elim e.last [ inl c ↦ absurd (both_open open_ c) | inr u ↦ u ] in
    record {
      lines = e.lines ++ e.rest ∷ [];
      each = all_more IsUnbroken e.lines e.rest e.begins.splits.each unbroken;
      head = body.0;
      docs = body.1;
      body = body.2;
      ends = inr (
        ap (λ (t : List ℕ). t ++ 13 ∷ 10 ∷ []) e.begins.splits.whole
            ∙ append_assoc (flat_map ended e.lines) e.rest (13 ∷ 10 ∷ []) ∙ flat_map_more ended [] e.lines e.rest,
        last_same said (Head body.0 ∷ map Doc body.1) End End body.3,
      );
    }

closed_whole : (kind : HeadKind) (text : List ℕ) (said : List Line) (e : Ends kind text said None)
    → is_closed e.place ≡ true → IsStream kind text said
closed_whole kind text said e closed =
    let n = counted (length e.lines + 1) in
    let none =
    empty_is n e.rest
    (subst (λ b. cond b (cond (is_empty e.rest) None (Some (At n)))
    (cond (nat_lt max_line (length e.rest)) (Some (TooLong n)) (closes n (says kind e.place e.rest))) ≡ None)
    closed e.fault) in
    let body = passes_body kind e.lines said
    (subst (Passes kind Opening e.lines said) (closed_is e.place closed) e.begins.passes) in
    record {
      lines = e.lines;
      each = e.begins.splits.each;
      head = body.0;
      docs = body.1;
      body = body.2;
      ends = inl (
        e.begins.splits.whole ∙ ap (λ r. flat_map ended e.lines ++ r) none
            ∙ append-nil (flat_map ended e.lines),
        body.3,
      );
    }

pub whole_is : (kind : HeadKind) (text : List ℕ) (said : List Line) → Ends kind text said None → IsStream kind text said
whole_is kind text said e = by_place (is_closed e.place) refl
  where
    by_place : (b : Bool) → is_closed e.place ≡ b → IsStream kind text said
    by_place true is = closed_whole kind text said e is
    by_place false is = open_whole kind text said e is

-- ---- and back

-- good lines but for the last one
record Before (kind : HeadKind) (from : Next) (lines : List (List ℕ)) (line : List ℕ) (said : List Line)
    (to : Next) : Type 0 where
  place : Next
  before : List Line
  passed : Passed
  passes : Passes kind from lines before place
  good : IsGood kind place line passed
  given : said ≡ before ++ said_by passed.line
  leads : to ≡ passed.place

before_last : (kind : HeadKind) (from : Next) (lines : List (List ℕ)) (line : List ℕ) (said : List Line) (to : Next)
    → Passes kind from (lines ++ line ∷ []) said to → Before kind from lines line said to
before_last kind from [] line said to h =
    record {
      place = from;
      before = [];
      passed = h.0;
      passes = (refl, refl);
      good = h.2;
      given = h.3
          ∙ ap (λ s. said_by h.0.line ++ s) h.4.0 ∙ append-nil (said_by h.0.line);
      leads = h.4.1;
    }
before_last kind from (l ∷ lines) line said to h =
    let rest = before_last kind h.0.place lines line h.1 to h.4 in
    record {
      place = rest.place;
      before = said_by h.0.line ++ rest.before;
      passed = rest.passed;
      passes = (h.0, rest.before, h.2, refl, rest.passes);
      good = rest.good;
      given = h.3 ∙ ap (λ s. said_by h.0.line ++ s) rest.given
          ∙ sym (append_assoc (said_by h.0.line) rest.before (said_by rest.passed.line));
      leads = rest.leads;
    }

is_open : (place : Next) (passed : Passed) → IsShape place passed → is_closed place ≡ false
is_open Opening passed h = refl
is_open Heading passed h = refl
is_open (After comma) passed h = refl
is_open Closed passed h = absurd h

no_fault : (kind : HeadKind) (n : ℕ) (place : Next) (rest : List ℕ) (passed : Passed) → is_closed place ≡ false
    → IsGood kind place rest passed → is_closed passed.place ≡ true → end_fault kind n place rest ≡ None
no_fault kind n place rest passed open_ good closed =
    ap (λ b. cond b (cond (is_empty rest) None (Some (At n)))
    (cond (nat_lt max_line (length rest)) (Some (TooLong n)) (closes n (says kind place rest)))) open_
    ∙ ap₂ (λ b o. cond b (Some (TooLong n)) (closes n o)) good.fits good.says
    ∙ ap (λ b. cond b None (Some (At (counted (n + 1))))) closed

all_front : (P : List ℕ → Type 0) (xs : List (List ℕ)) (x : List ℕ) → AllByRecursion P (xs ++ x ∷ [])
    → AllByRecursion P xs
all_front P [] x h = tt
all_front P (y ∷ xs) x h = (h.0, all_front P xs x h.1)

without_crlf : (kind : HeadKind) (text : List ℕ) (said : List Line) (s : IsStream kind text said)
    → text ++ 13 ∷ 10 ∷ [] ≡ flat_map ended s.lines → said ≡ Head s.head ∷ map Doc s.docs → Ends kind text said None
without_crlf kind text said s whole given =
    let b = s.body in
    let front = b.opening ∷ b.head_at ∷ b.doc_lines in
    let each = subst (AllByRecursion IsUnbroken) b.shape s.each in
    let h = before_last kind Opening front b.closing (Head s.head ∷ map Doc s.docs ++ End ∷ []) Closed
    (subst (λ ls. Passes kind Opening ls (Head s.head ∷ map Doc s.docs ++ End ∷ []) Closed) b.shape
    (body_passes kind s.lines s.head s.docs b)) in
    let shape = shape_of kind h.place b.closing h.passed h.good.says in
    let closed : is_closed h.passed.place ≡ true = ap is_closed (sym h.leads) in
    let is = ends_it h.place h.passed shape closed in
    let same = last_same (Head s.head ∷ map Doc s.docs) h.before End End
    (h.given ∙ ap (λ p. h.before ++ said_by p.line) is) in
    record {
      lines = front;
      place = h.place;
      rest = b.closing;
      begins = record {
        splits = record {
          whole = crlf_same text (flat_map ended front ++ b.closing)
              (whole ∙ ap (flat_map ended) b.shape ∙ sym (flat_map_more ended [] front b.closing)
              ∙ sym (append_assoc (flat_map ended front) b.closing (13 ∷ 10 ∷ [])));
          each = all_front IsUnbroken front b.closing each;
        };
        passes = subst (λ x. Passes kind Opening front x h.place) (sym (given ∙ same)) h.passes;
      };
      last = inr (all_more_front front b.closing [] each);
      fault = no_fault kind (counted (length front + 1)) h.place b.closing h.passed
          (is_open h.place h.passed shape) h.good closed;
    }

with_crlf : (kind : HeadKind) (text : List ℕ) (said : List Line) (s : IsStream kind text said)
    → text ≡ flat_map ended s.lines → said ≡ Head s.head ∷ map Doc s.docs ++ End ∷ [] → Ends kind text said None
with_crlf kind text said s whole given =
    record {
      lines = s.lines;
      place = Closed;
      rest = [];
      begins = record {
        splits = record { whole = whole ∙ sym (append-nil (flat_map ended s.lines)); each = s.each };
        passes = subst (λ x. Passes kind Opening s.lines x Closed) (sym given)
            (body_passes kind s.lines s.head s.docs s.body);
      };
      last = inl refl;
      fault = refl;
    }

pub is_whole : (kind : HeadKind) (text : List ℕ) (said : List Line) → IsStream kind text said → Ends kind text said None
is_whole kind text said s =
    elim s.ends [
      | inl e ↦ with_crlf kind text said s e.0 e.1
      | inr e ↦ without_crlf kind text said s e.0 e.1
    ]
