-- The laws of bodies.
use Rattle.std.proofs.Common.{◌≡◌, ℕ, ◌^◌, ◌≤◌, Bool, true, false, cond, eqb, List, [], ◌∷◌, ◌++◌, length, Option, Some}
use Rattle.std.proofs.Common.{None, Result, Ok, Err, refl, sym, ap, ap₂, subst, ◌∙◌, lit≤}
use Rattle.std.specs.Prelude.{is_some}
use Rattle.std.specs.List.{flat_map}
use Rattle.std.proofs.lemmas.Bool.{eqb-true}
use Rattle.std.proofs.lemmas.List.{append-nil, nil_from_length}
use Rattle.std.proofs.lemmas.List.Concat.{flat_map-cons}
use Rattle.content.specs.Tree.{Tree}
use Rattle.vector_rev.specs.Clock.{Clock}
use Rattle.conflicts.specs.State.{Step, Accepted, Gone, Moved, IndexCreated, IndexDeleted}
use Rattle.record_fields.specs.Table.{Text, Table, table_with, uids, number_of, with_uid, after, AreNumbered}
use Rattle.record_fields.specs.inner.Table.{HasRoom}
use Rattle.record_fields.specs.Fields.{Rest, ◌>>=◌}
use Rattle.record_fields.specs.Plain.{content, expression}
use Rattle.record_fields.specs.Named.{clock}
use Rattle.record_codec.specs.Bodies.{accept, moved, maybe_moved, step, body_of, added_of, Recorded, at_end, placed}
use Rattle.record_codec.specs.Bodies.{recorded_in, step_in, first_body_of, step_alone, first_step_in}
use Rattle.record_codec.specs.Steps.{IsStep}
use Rattle.record_codec.specs.Laws.{AreBytes, HasNumbers, Says, BodiesReadBack, FirstBodiesReadBack}
use Rattle.record_fields.specs.declared.format.Format.{Format}
use Rattle.record_fields.specs.declared.format.Format.TheVariants.{First, Second}
use Rattle.record_fields.proofs.Tables.{IsTable, none_numbered}
use Rattle.record_fields.proofs.Lawful.{rest, Took, bind_ok, ok_is}
use Rattle.record_codec.proofs.StepLaws.{step_lawful}

-- ---- the table before a body and after it

-- what had numbers keeps them
given-with_uid : (t : Table) (u : Text) → (with_uid t u).given ≡ t.given
given-with_uid t u = by (is_some (number_of (uids t) u))
  where
    by : (b : Bool) → (cond b t (record { given = t.given; added = t.added ++ u ∷ [] })).given ≡ t.given
    by true = refl
    by false = refl

given-after : (t : Table) (us : List Text) → (after t us).given ≡ t.given
given-after t [] = refl
given-after t (u ∷ us) = given-after (with_uid t u) us ∙ given-with_uid t u

uids-after : (us named : List Text) → uids (after (table_with us) named) ≡ us ++ (after (table_with us) named).added
uids-after us named = ap (λ given. given ++ (after (table_with us) named).added) (given-after (table_with us) named)

numbered_before : (us : List Text) → AreNumbered us → IsTable (table_with us)
numbered_before us are = subst AreNumbered (sym (append-nil us)) are

-- ---- a whole body

placed_ok : {A : Type 0} (body : List ℕ) (q : Result A ℕ) (x : A) → placed body q ≡ Ok x → q ≡ Ok x
placed_ok body (Ok y) x e = e
placed_ok body (Err left) x e = absurd (cc e)

if_ok : {A : Type 0} (b : Bool) (x : A) (left : ℕ) (y : A) → cond b (Ok x) (Err left) ≡ Ok y → (b ≡ true) × (x ≡ y)
if_ok true x left y e = (refl, ok_is x y e)
if_ok false x left y e = absurd (cc e)

recorded_back : (format : Format) (us : List Text) (x : Step) → IsStep x
    → HasRoom (after (table_with us) ((step format).named x))
    → recorded_in format us ((step format).spelled (table_with us) x)
    ≡ Ok (record { step = x; added = (after (table_with us) ((step format).named x)).added })
unfolding recorded_in
recorded_back format us x is room =
    let t = table_with us in
    let body = (step format).spelled t x in
    ap (λ s. placed body ((step format).read (rest t s) >>= at_end)) (sym (append-nil body))
    ∙ ap (λ q. placed body (q >>= at_end)) ((step_lawful format).back t x [] is room)

-- what a body was read as
record TookBody (format : Format) (us : List Text) (body : List ℕ) (r : Recorded) : Type 0 where
  step_is : IsStep r.step
  spelled : body ≡ (step format).spelled (table_with us) r.step
  added_is : r.added ≡ (after (table_with us) ((step format).named r.step)).added
  numbered : AreNumbered (us ++ r.added)

took_body : (format : Format) (us : List Text) (body : List ℕ) (x : Step) (behind : Rest)
    → Took (step format) IsStep (rest (table_with us) body) x behind → behind.bytes ≡ []
    → TookBody format us body (record { step = x; added = behind.table.added })
took_body format us body x behind took ended =
    let added_is : behind.table.added ≡ (after (table_with us) ((step format).named x)).added =
    ap (λ t. t.added) took.table in
    record {
      step_is = took.is;
      spelled = took.bytes ∙ ap (λ s. (step format).spelled (table_with us) x ++ s) ended
          ∙ append-nil ((step format).spelled (table_with us) x);
      added_is = added_is;
      numbered = subst AreNumbered (ap uids took.table ∙ uids-after us ((step format).named x)
          ∙ ap (λ a. us ++ a) (sym added_is)) took.sound;
    }

recorded_only : (format : Format) (us : List Text) (body : List ℕ) (r : Recorded) → AreNumbered us → AreBytes body
    → recorded_in format us body ≡ Ok r → TookBody format us body r
unfolding recorded_in
recorded_only format us body r are fits e =
    let start = rest (table_with us) body in
    let read = bind_ok ((step format).read start) at_end r (placed_ok body ((step format).read start >>= at_end) r e) in
    let x = read.0 in
    let made : Recorded = record { step = x.0; added = x.1.table.added } in
    let ended = if_ok (eqb (length x.1.bytes) 0) made (length x.1.bytes) r read.2 in
    let took = (step_lawful format).only start x.0 x.1 (numbered_before us are) fits read.1 in
    subst (TookBody format us body) ended.1
    (took_body format us body x.0 x.1 took (nil_from_length x.1.bytes (eqb-true (length x.1.bytes) 0 ended.0)))

-- ---- format 2

room_after : (us : List Text) (x : Step) → HasNumbers us x → HasRoom (after (table_with us) ((step Second).named x))
unfolding added_of
room_after us x room = subst (λ (vs : List Text). length vs ≤ 2 ^ 32) (sym (uids-after us ((step Second).named x))) room

pub body_back : (us : List Text) (x : Step) → IsStep x → HasNumbers us x
    → step_in us (body_of us x) ≡ Ok (record { step = x; added = added_of us x })
unfolding body_of added_of
body_back us x is room = recorded_back Second us x is (room_after us x room)

pub body_only : (us : List Text) (body : List ℕ) (r : Recorded) → AreNumbered us → AreBytes body
    → step_in us body ≡ Ok r → Says us body r
unfolding body_of added_of
body_only us body r are fits e =
    let took = recorded_only Second us body r are fits e in
    record { step = took.step_is; spelled = took.spelled; added = took.added_is; numbered = took.numbered }

-- what reads as one value is not read as another
one_step : {A : Type 0} (f : A → Step) (read : List ℕ → Result A ℕ) (a b : List ℕ) (x y : A) → read a ≡ Ok x
    → read b ≡ Ok y → a ≡ b → f x ≡ f y
one_step f read a b x y reads_x reads_y same = ap f (ok_is x y (sym reads_x ∙ ap read same ∙ reads_y))

pub bodies : BodiesReadBack
bodies = record {
  back = body_back;
  only = body_only;
  apart = λ us x y is_x is_y room_x room_y same.
      one_step (λ r. r.step) (step_in us) (body_of us x) (body_of us y) (record { step = x; added = added_of us x })
      (record { step = y; added = added_of us y }) (body_back us x is_x room_x) (body_back us y is_y room_y) same;
}

-- ---- format 1

none_named : (cs : List Clock) → flat_map (clock First).named cs ≡ []
none_named [] = refl
none_named (c ∷ cs) = flat_map-cons (clock First).named c cs ∙ none_named cs

no_content : (o : Option Tree) → content.named o ≡ []
no_content None = refl
no_content (Some t) = refl

no_names : (es : List Text) → flat_map expression.named es ≡ []
no_names [] = refl
no_names (e ∷ es) = flat_map-cons expression.named e es ∙ no_names es

-- no uid is named by its number
first_named : (x : Step) → (step First).named x ≡ []
unfolding accept moved maybe_moved
first_named (Accepted d a trans None) = ap₂ (λ us vs. (us ++ vs) ++ []) (none_named a.parents) (no_content a.content)
first_named (Accepted d a trans (Some m)) = ap₂ (λ us vs. (us ++ vs) ++ []) (none_named a.parents)
    (no_content a.content)
first_named (Gone d trans None) = refl
first_named (Gone d trans (Some m)) = refl
first_named (Moved m) = refl
first_named (IndexCreated n es) = no_names es
first_named (IndexDeleted n) = refl

pub first_back : (x : Step) → IsStep x → first_step_in (first_body_of x) ≡ Ok x
unfolding first_step_in first_body_of
first_back x is =
    ap step_alone (recorded_back First [] x is
    (subst (λ (us : List Text). HasRoom (after (table_with []) us)) (sym (first_named x)) (lit≤ tt)))

step_alone_ok : (q : Result Recorded ℕ) (x : Step) → step_alone q ≡ Ok x → (r : Recorded) × (q ≡ Ok r) × (r.step ≡ x)
step_alone_ok (Ok r) x e = (r, refl, ok_is r.step x e)
step_alone_ok (Err place) x e = absurd (cc e)

pub first_only : (body : List ℕ) (x : Step) → AreBytes body → first_step_in body ≡ Ok x → IsStep x
    × (body ≡ first_body_of x)
unfolding first_step_in first_body_of
first_only body x fits e =
    let r = step_alone_ok (recorded_in First [] body) x e in
    let took = recorded_only First [] body r.0 none_numbered fits r.1 in
    subst (λ (y : Step). IsStep y × (body ≡ (step First).spelled (table_with []) y)) r.2 (took.step_is, took.spelled)

pub first_bodies : FirstBodiesReadBack
first_bodies = record {
  back = first_back;
  only = first_only;
  apart = λ x y is_x is_y same. one_step (λ z. z) first_step_in (first_body_of x) (first_body_of y) x y
      (first_back x is_x) (first_back y is_y) same;
}
