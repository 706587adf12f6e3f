-- A line more, or a fault, of what a reader stands for.
use Rattle.std.proofs.Common.{◌≡◌, ℕ, ◌+◌, Bool, true, false, List, [], ◌∷◌, ◌++◌, length, flat_map, Option, Some, None}
use Rattle.std.proofs.Common.{IfSome, Ok, Err, refl, sym, ap, ap₂, ◌∙◌, subst, arith}
use Rattle.std.specs.List.{AllByRecursion}
use Rattle.key_lanes.specs.Breaks.{IsBreak, NoBreak}
use Rattle.std.proofs.Common.{take, drop, get_or, ◌⊎◌, inl}
use Rattle.std.proofs.lemmas.List.{get_or-take, length-take-le, take-append-drop, drop_more, append_assoc}
use Rattle.std.proofs.lemmas.List.{length-append, flat_map_more}
use Rattle.std.proofs.lemmas.Option.{cond_some}
use Rattle.sync_stream.specs.Lines.{ended, IsUnbroken}
use Rattle.sync_stream.specs.Says.{says}
use Rattle.sync_stream.specs.Stream.{Begins, counted, said_by, IsGood, Passes, IsFaultyAt}
use Rattle.sync_stream.specs.HeldText.{HeldText, StandsFor}
use Rattle.sync_stream.specs.inner.HeldText.{PassesOne}
use Rattle.sync_stream.specs.declared.line.HeadKind.{HeadKind}
use Rattle.sync_stream.specs.declared.line.Line.{Line}
use Rattle.sync_stream.specs.declared.line.Next.{Next}
use Rattle.sync_stream.specs.declared.line.Passed.{Passed}
use Rattle.sync_stream.specs.declared.fault.LineFault.{LineFault}
use Rattle.std.proofs.Common.{Result}
use Rattle.u1_base.specs.Places.{Place}
use Rattle.sync_stream.specs.Objects.{head_in, doc_in}
use Rattle.sync_stream.specs.Says.{with_head, with_doc, object_part}
use Rattle.sync_stream.specs.inner.Says.{IsShape}
use Rattle.sync_stream.specs.declared.line.SyncDoc.{SyncDoc}
use Rattle.sync_stream.specs.Stream.IsFaultyAt.{whole_line}
use Rattle.sync_stream.specs.declared.fault.LineFault.TheVariants.{At, TooLong}
use Rattle.sync_stream.specs.declared.fault.StreamFault.{StreamFault}
use Rattle.sync_stream.specs.declared.fault.StreamFault.TheVariants as fault
use Rattle.sync_stream.specs.Stream.{answered, fault_of, end_fault, Ends, is_closed}
use Rattle.sync_stream.specs.HeldText.{IsReadUp, Answers}
use Rattle.sync_stream.specs.inner.HeldText.{lines_passed}
use Rattle.sync_stream.specs.declared.line.Next.TheVariants.{Opening, Heading, After, Closed}
use Rattle.sync_stream.specs.declared.line.Line.TheVariants.{Head, Doc, End}

append-nil : {X : Type 0} (xs : List X) → xs ++ [] ≡ xs
append-nil [] = refl
append-nil (x ∷ xs) = ap (λ ys. x ∷ ys) (append-nil xs)

pub at_break : (bytes : List ℕ) (at : ℕ) → IsBreak bytes at → bytes ≡ ended (take at bytes) ++ drop (at + 2) bytes
at_break bytes at h =
    let first : drop at bytes ≡ get_or bytes at 0 ∷ drop (at + 1) bytes = drop_more bytes at 0 (omega (arith, h.0)) in
    let second : drop (at + 1) bytes ≡ get_or bytes (at + 1) 0 ∷ drop (at + 1 + 1) bytes =
    drop_more bytes (at + 1) 0 h.0 in
    let two : at + 1 + 1 ≡ at + 2 = omega arith in
    let rest : drop at bytes ≡ 13 ∷ 10 ∷ drop (at + 2) bytes = first
    ∙ ap₂ (λ x xs. x ∷ xs) h.1 (second ∙ ap₂ (λ x xs. x ∷ xs) h.2 (ap (λ n. drop n bytes) two)) in
    sym (take-append-drop at bytes) ∙ ap (λ b. take at bytes ++ b) rest
    ∙ sym (append_assoc (take at bytes) (13 ∷ 10 ∷ []) (drop (at + 2) bytes))

pub unbroken_take : (bytes : List ℕ) (at : ℕ) → IsBreak bytes at × NoBreak bytes 0 at → IsUnbroken (take at bytes)
unbroken_take bytes at h k from to b =
    let short : length (take at bytes) ≡ at = length-take-le at bytes (omega (arith, h.0.0)) in
    let one = get_or-take at bytes k 0 (omega (arith, b.0, short)) in
    let two = get_or-take at bytes (k + 1) 0 (omega (arith, b.0, short)) in
    h.1 k from (omega (arith, b.0, short)) (omega (arith, h.0.0, b.0, short), sym one ∙ b.1, sym two ∙ b.2)

pub faulty_line : (kind : HeadKind) (n : ℕ) (place : Next) (bytes : List ℕ) (at : ℕ) (fault : LineFault)
    → is_closed place ≡ false
    → IsBreak bytes at × NoBreak bytes 0 at → fault_of kind n place (take at bytes) ≡ Some fault
    → IsFaultyAt kind n place bytes fault
faulty_line kind n place bytes at fault open_ h is =
    whole_line (take at bytes) (drop (at + 2) bytes) open_ (at_break bytes at h.0) (unbroken_take bytes at h) is

none_some : {X : Type 0} {x : X} → None ≡ Some x → ⊥
none_some h = cc

some_inj : {X : Type 0} {x y : X} → Some x ≡ Some y → x ≡ y
some_inj h = cc

head_end : {x : Place} → Head x ≡ End → ⊥
head_end h = cc

doc_end : {x : SyncDoc} → Doc x ≡ End → ⊥
doc_end h = cc

pub passes_more : (kind : HeadKind) (from : Next) (lines : List (List ℕ)) (said : List Line) (to : Next)
    (line : List ℕ) (passed : Passed)
    → Passes kind from lines said to → IsGood kind to line passed
    → Passes kind from (lines ++ line ∷ []) (said ++ said_by passed.line) passed.place
passes_more kind from [] said to line passed h good = (
  passed,
  [],
  subst (λ p. IsGood kind p line passed) h.1 good,
  ap (λ s. s ++ said_by passed.line) h.0
      ∙ sym (append-nil (said_by passed.line)),
  (refl, refl),
)
passes_more kind from (l ∷ lines) said to line passed h good =
    let x = h.0 in
    let later = h.1 in (
      x,
      later ++ said_by passed.line,
      h.2,
      ap (λ s. s ++ said_by passed.line) h.3 ∙ append_assoc (said_by x.line) later (said_by passed.line),
      passes_more kind x.place lines later to line passed h.4 good,
    )

pub all_more : (P : List ℕ → Type 0) (xs : List (List ℕ)) (x : List ℕ) → AllByRecursion P xs → P x
    → AllByRecursion P (xs ++ x ∷ [])
all_more P [] x h p = (p, tt)
all_more P (y ∷ xs) x h p = (h.0, all_more P xs x h.1 p)

counted_more : (n : ℕ) → counted (counted n + 1) ≡ counted (n + 1)
counted_more n = omega arith

-- a text that begins with good lines and goes on with one more begins with all of them
pub begins_more : (kind : HeadKind) (text : List ℕ) (lines : List (List ℕ)) (given : List Line) (place : Next)
    (bytes line rest : List ℕ) (passed : Passed)
    → Begins kind text lines given place bytes → bytes ≡ ended line ++ rest → IsUnbroken line
    → IsGood kind place line passed
    → Begins kind text (lines ++ line ∷ []) (given ++ said_by passed.line) passed.place rest
begins_more kind text lines given place bytes line rest passed b is unbroken good =
    record {
      splits = record {
        whole = b.splits.whole ∙ ap (λ k. flat_map ended lines ++ k) is
            ∙ sym (append_assoc (flat_map ended lines) (ended line) rest)
            ∙ ap (λ k. k ++ rest) (flat_map_more ended [] lines line);
        each = all_more IsUnbroken lines line b.splits.each unbroken;
      };
      passes = passes_more kind Opening lines given place line passed b.passes good;
    }

stands_at : (old : HeldText) (rest : List ℕ) (text : List ℕ) (given : List Line) (line : List ℕ) (passed : Passed)
    → StandsFor old text given → old.fault ≡ None → old.rest ≡ ended line ++ rest → IsUnbroken line
    → IsGood old.kind old.place line passed
    → StandsFor (record old { number = counted (old.number + 1); place = passed.place; rest = rest }) text
    (given ++ said_by passed.line)
stands_at old rest text given line passed s no_fault bytes unbroken good =
    record {
      lines = s.lines ++ line ∷ [];
      begins = begins_more old.kind text s.lines given old.place old.rest line rest passed s.begins bytes unbroken good;
      number = ap (λ n. counted (n + 1)) s.number ∙ counted_more (length s.lines + 1)
          ∙ ap (λ n. counted (n + 1)) (sym (length-append s.lines (line ∷ [])));
      fault = subst (λ f. IfSome f (λ g. IsFaultyAt old.kind (counted (old.number + 1)) passed.place rest g
          ⊎ (end_fault old.kind (counted (old.number + 1)) passed.place rest ≡ Some g))) (sym no_fault) tt;
    }

pub stands_passed : (old new : HeldText) (text : List ℕ) (given : List Line) (passed : Passed) → old.fault ≡ None
    → PassesOne old new (Ok (Some passed))
    → StandsFor old text given → StandsFor new text (given ++ said_by passed.line)
stands_passed old new text given passed no_fault h s =
    subst (λ k. StandsFor k text (given ++ said_by passed.line)) (sym h.4)
    (stands_at old new.rest text given h.0 passed s no_fault h.1 h.2 h.3)

pub stands_fault : (old new : HeldText) (text : List ℕ) (given : List Line) (fault : LineFault)
    → PassesOne old new (Err fault)
    → StandsFor old text given → StandsFor new text (given ++ [])
stands_fault old new text given fault h s =
    subst (λ k. StandsFor k text (given ++ [])) (sym h.0)
    (subst (λ l. StandsFor (record old { fault = Some fault }) text l) (sym (append-nil given))
    (record { lines = s.lines; begins = s.begins; number = s.number; fault = inl h.1 }))

pub stands_after : (old new : HeldText) (text : List ℕ) (given : List Line) (result : Result (Option Passed) LineFault)
    → old.fault ≡ None → PassesOne old new result
    → StandsFor old text given → StandsFor new text (given ++ lines_passed result)
stands_after old new text given (Ok None) no_fault h s =
    subst (λ k. StandsFor k text (given ++ [])) (sym h.0) (subst (λ l. StandsFor old text l) (sym (append-nil given)) s)
stands_after old new text given (Ok (Some passed)) no_fault h s = stands_passed old new text given passed no_fault h s
stands_after old new text given (Err fault) no_fault h s = stands_fault old new text given fault h s

head_shape : (comma : Bool) (o : Option Place) (passed : Passed) → with_head comma o ≡ Some passed
    → IsShape Heading passed
head_shape comma None passed h = absurd (none_some h)
head_shape comma (Some x) passed h = (x, comma, sym (some_inj h))

doc_shape : (comma : Bool) (o : Option SyncDoc) (passed : Passed) → with_doc comma o ≡ Some passed
    → IsShape (After true) passed
doc_shape comma None passed h = absurd (none_some h)
doc_shape comma (Some x) passed h = (x, comma, sym (some_inj h))

pub shape_of : (kind : HeadKind) (place : Next) (line : List ℕ) (passed : Passed) → says kind place line ≡ Some passed
    → IsShape place passed
unfolding says
shape_of kind Opening line passed h = sym (cond_some _ _ _ h).1
shape_of kind Heading line passed h = head_shape (object_part line).1 (head_in kind (object_part line).0) passed h
shape_of kind (After true) line passed h = doc_shape (object_part line).1 (doc_in (object_part line).0) passed h
shape_of kind (After false) line passed h = sym (cond_some _ _ _ h).1
shape_of kind Closed line passed h = absurd (none_some h)

pub opened : (place : Next) (passed : Passed) → IsShape place passed → passed.line ≡ None → passed.place ≡ Heading
opened Opening passed h none = ap (λ p. p.place) h
opened Heading passed h none = absurd (none_some (sym none ∙ ap (λ p. p.line) h.2))
opened (After true) passed h none = absurd (none_some (sym none ∙ ap (λ p. p.line) h.2))
opened (After false) passed h none = absurd (none_some (sym none ∙ ap (λ p. p.line) h))
opened Closed passed h none = absurd h

answer_is : (old new : HeldText) (line : Line) → new.fault ≡ None → (line ≡ End → new.place ≡ Closed)
    → Answers old new (Ok (Some line))
answer_is old new (Head x) no_fault closed = no_fault
answer_is old new (Doc x) no_fault closed = no_fault
answer_is old new End no_fault closed = (closed refl, no_fault)

ended_is : (place : Next) (passed : Passed) → IsShape place passed → passed.line ≡ Some End → passed.place ≡ Closed
ended_is Opening passed h is = absurd (none_some (sym (ap (λ p. p.line) h) ∙ is))
ended_is Heading passed h is = absurd (head_end (some_inj (sym (ap (λ p. p.line) h.2) ∙ is)))
ended_is (After true) passed h is = absurd (doc_end (some_inj (sym (ap (λ p. p.line) h.2) ∙ is)))
ended_is (After false) passed h is = ap (λ p. p.place) h
ended_is Closed passed h is = absurd h

pub answers_said : (old new : HeldText) (passed : Passed) (line : Line) → old.fault ≡ None → IsShape old.place passed
    → PassesOne old new (Ok (Some passed)) → passed.line ≡ Some line → Answers old new (Ok (Some line))
answers_said old new passed line no_fault shape h is =
    answer_is old new line (ap (λ k. k.fault) h.4 ∙ no_fault)
    (λ e. ap (λ k. k.place) h.4 ∙ ended_is old.place passed shape (is ∙ ap Some e))

pub heading_after : (old new : HeldText) (passed : Passed) → IsShape old.place passed
    → PassesOne old new (Ok (Some passed)) → passed.line ≡ None → new.place ≡ Heading
heading_after old new passed shape h none = ap (λ k. k.place) h.4 ∙ opened old.place passed shape none

-- after the line `[` a line is there
pub answers_head : (old new : HeldText) (passed : Passed) → old.fault ≡ None → old.place ≡ Heading
    → IsShape old.place passed → PassesOne old new (Ok (Some passed)) → Answers old new (Ok passed.line)
answers_head old new passed no_fault heading shape h =
    let head : IsShape Heading passed = subst (λ p. IsShape p passed) heading shape in
    let is : passed.line ≡ Some (Head head.0) = ap (λ p. p.line) head.2 in
    subst (λ o. Answers old new (Ok o)) (sym is) (answers_said old new passed (Head head.0) no_fault shape h is)

pub ends_of : (reader : HeldText) (text : List ℕ) (given : List Line) (fault : Option LineFault)
    → StandsFor reader text given → IsReadUp reader
    → end_fault reader.kind reader.number reader.place reader.rest ≡ fault → Ends reader.kind text given fault
ends_of reader text given fault s up is =
    record {
      lines = s.lines;
      place = reader.place;
      rest = reader.rest;
      begins = s.begins;
      last = up;
      fault =
          subst (λ n. end_fault reader.kind n reader.place reader.rest ≡ fault) s.number is;
    }

answers_fault : (old new : HeldText) (f : LineFault) → new.fault ≡ Some f
    → IsFaultyAt new.kind new.number new.place new.rest f → Answers old new (Err (answered f))
answers_fault old new (At n) is faulty = (is, λ _. faulty)
answers_fault old new (TooLong n) is faulty = (is, λ _. faulty)

pub faulty_after : (old new : HeldText) (f : LineFault) → PassesOne old new (Err f) → Answers old new (Err (answered f))
faulty_after old new f h =
    answers_fault old new f (ap (λ k. k.fault) h.0)
    (subst (λ k. IsFaultyAt k.kind k.number k.place k.rest f) (sym h.0) h.1)

pub answers_from : (old between new : HeldText) (result : Result (Option Line) StreamFault) → between.fault ≡ None
    → Answers between new result → Answers old new result
answers_from old between new (Ok None) no_fault h = h
answers_from old between new (Ok (Some End)) no_fault h = h
answers_from old between new (Ok (Some (Head x))) no_fault h = h
answers_from old between new (Ok (Some (Doc x))) no_fault h = h
answers_from old between new (Err fault.Memory) no_fault h = h
answers_from old between new (Err (fault.At n)) no_fault h = (h.0, λ _. h.1 no_fault)
answers_from old between new (Err (fault.TooLong n)) no_fault h = (h.0, λ _. h.1 no_fault)
