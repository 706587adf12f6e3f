-- A field is lawful where what is spelled is read as itself, and what is read is spelled so. Fields that are put
-- together of lawful ones are lawful.
use Rattle.std.proofs.Common.{◌≡◌, ℕ, zero, suc, ◌<◌, List, [], ◌∷◌, ◌++◌, length, get_or, Option, Some, None, Result}
use Rattle.std.proofs.Common.{Ok, Err, refl, sym, ap, ◌∙◌, subst, append_assoc}
use Rattle.std.specs.List.{flat_map, AllByRecursion}
use Rattle.std.proofs.lemmas.List.Concat.{flat_map-cons}
use Rattle.record_fields.specs.Table.{Table, after}
use Rattle.record_fields.specs.inner.Table.{HasRoom}
use Rattle.record_fields.specs.Fields.{Rest, Read, Field, ◌>>=◌, ◌then◌, mapped, found, tested, checked, each_spelled}
use Rattle.record_fields.specs.Fields.{each_read, each, counted}
use Rattle.record_fields.proofs.Tables.{IsTable, after-append, room_before}

abbrev pub IsBytes : List ℕ → Type 0
IsBytes s = (i : ℕ) → get_or s i 0 < 256

abbrev pub rest : Table → List ℕ → Rest
rest t s = record { table = t; bytes = s }

-- what was read stood at the front
pub record Took {A : Type 0} (f : Field A) (Is : A → Type 0) (r : Rest) (x : A) (behind : Rest) : Type 0 where
  pub is : Is x
  pub bytes : r.bytes ≡ f.spelled r.table x ++ behind.bytes
  pub table : behind.table ≡ after r.table (f.named x)
  pub sound : IsTable behind.table
  pub fits : IsBytes behind.bytes

pub record IsLawful {A : Type 0} (f : Field A) (Is : A → Type 0) : Type 0 where
  pub back : (t : Table) (x : A) (more : List ℕ) → Is x → HasRoom (after t (f.named x))
      → f.read (rest t (f.spelled t x ++ more)) ≡ Ok (x, rest (after t (f.named x)) more)
  pub only : (r : Rest) (x : A) (behind : Rest) → IsTable r.table → IsBytes r.bytes → f.read r ≡ Ok (x, behind)
      → Took f Is r x behind

-- ---- steps of reading

-- the value of a step that did not fail
pub bind_ok : {A B : Type 0} (r : Result A ℕ) (f : A → Result B ℕ) (y : B) → (r >>= f) ≡ Ok y → (x : A) × (r ≡ Ok x)
    × (f x ≡ Ok y)
bind_ok (Ok x) f y e = (x, refl, e)
bind_ok (Err left) f y e = absurd (cc e)

abbrev done : {A : Type 0} → A → Result A ℕ
done x = Ok x

pub ok_is : {A : Type 0} (x y : A) → done x ≡ done y → x ≡ y
ok_is x y e = cc e

-- ---- one field behind another

then_ok : {A : Type 0} {B : A → Type 0} (f : Field A) (g : (a : A) → Field (B a)) (r : Rest) (a : A) (b : B a)
    (r1 r2 : Rest) → f.read r ≡ Ok (a, r1) → (g a).read r1 ≡ Ok (b, r2) → (f then g).read r ≡ Ok ((a, b), r2)
then_ok f g r a b r1 r2 first second =
    ap (λ q. q >>= λ x. (g x.0).read x.1 >>= λ y. Ok ((x.0, y.0), y.1)) first
    ∙ ap (λ q. q >>= λ y. Ok ((a, y.0), y.1)) second

then_back : {A : Type 0} {B : A → Type 0} (f : Field A) (g : (a : A) → Field (B a)) (IsA : A → Type 0)
    (IsB : (a : A) → B a → Type 0) → IsLawful f IsA → ((a : A) → IsA a → IsLawful (g a) (IsB a))
    → (t : Table) (a : A) (b : B a) (more : List ℕ) → IsA a → IsB a b → HasRoom (after t (f.named a ++ (g a).named b))
    → (f then g).read (rest t ((f.spelled t a ++ (g a).spelled (after t (f.named a)) b) ++ more))
    ≡ Ok ((a, b), rest (after t (f.named a ++ (g a).named b)) more)
then_back f g IsA IsB lf lg t a b more is_a is_b room =
    let t1 = after t (f.named a) in
    let whole : after t (f.named a ++ (g a).named b) ≡ after t1 ((g a).named b) =
    after-append t (f.named a) ((g a).named b) in
    let room2 : HasRoom (after t1 ((g a).named b)) = subst HasRoom whole room in
    let room1 : HasRoom t1 = room_before t1 ((g a).named b) room2 in
    let first = lf.back t a ((g a).spelled t1 b ++ more) is_a room1 in
    let second = (lg a is_a).back t1 b more is_b room2 in
    ap (λ s. (f then g).read (rest t s)) (append_assoc (f.spelled t a) ((g a).spelled t1 b) more)
    ∙ then_ok f g (rest t (f.spelled t a ++ ((g a).spelled t1 b ++ more))) a b (rest t1 ((g a).spelled t1 b ++ more))
    (rest (after t1 ((g a).named b)) more) first second
    ∙ ap (λ t2. Ok ((a, b), rest t2 more)) (sym whole)

pub then_lawful : {A : Type 0} {B : A → Type 0} (f : Field A) (g : (a : A) → Field (B a)) (IsA : A → Type 0)
    (IsB : (a : A) → B a → Type 0) → IsLawful f IsA → ((a : A) → IsA a → IsLawful (g a) (IsB a))
    → IsLawful (f then g) (λ x. IsA x.0 × IsB x.0 x.1)
then_lawful {A} {B} f g IsA IsB lf lg = record {
  back = λ t x more is room. then_back f g IsA IsB lf lg t x.0 x.1 more is.0 is.1 room;
  only = λ r x behind sound fits e.
      let a = bind_ok (f.read r) (λ a. (g a.0).read a.1 >>= λ b. Ok ((a.0, b.0), b.1)) (x, behind) e in
      let b = bind_ok ((g a.0.0).read a.0.1) (λ b. Ok ((a.0.0, b.0), b.1)) (x, behind) a.2 in
      let first = lf.only r a.0.0 a.0.1 sound fits a.1 in
      let second = (lg a.0.0 first.is).only a.0.1 b.0.0 b.0.1 first.sound first.fits b.1 in
      let made : ((a : A) × B a) × Rest = ((a.0.0, b.0.0), b.0.1) in
      subst (λ (y : ((a : A) × B a) × Rest). Took (f then g) (λ x. IsA x.0 × IsB x.0 x.1) r y.0 y.1)
      (ok_is made (x, behind) b.2) (record {
        is = (first.is, second.is);
        bytes =
            first.bytes
            ∙ ap (λ s. f.spelled r.table a.0.0 ++ s)
            (second.bytes ∙ ap (λ t. (g a.0.0).spelled t b.0.0 ++ b.0.1.bytes) first.table)
            ∙ sym (append_assoc (f.spelled r.table a.0.0)
            ((g a.0.0).spelled (after r.table (f.named a.0.0)) b.0.0) b.0.1.bytes);
        table = second.table ∙ ap (λ t. after t ((g a.0.0).named b.0.0)) first.table
            ∙ sym (after-append r.table (f.named a.0.0) ((g a.0.0).named b.0.0));
        sound = second.sound;
        fits = second.fits;
      });
}

-- ---- the same bytes for another value

pub mapped_lawful : {A B : Type 0} (f : Field A) (to : A → B) (from : B → A) (IsA : A → Type 0) (IsB : B → Type 0)
    → IsLawful f IsA → ((b : B) → IsB b → IsA (from b) × (to (from b) ≡ b))
    → ((a : A) → IsA a → IsB (to a) × (from (to a) ≡ a)) → IsLawful (mapped f to from) IsB
mapped_lawful {B = B} f to from IsA IsB lf forth back = record {
  back = λ t b more is room.
      let h = forth b is in
      ap (λ q. q >>= λ x. Ok (to x.0, x.1)) (lf.back t (from b) more h.0 room)
      ∙ ap (λ y. Ok (y, rest (after t (f.named (from b))) more)) h.1;
  only = λ r b behind sound fits e.
      let a = bind_ok (f.read r) (λ x. Ok (to x.0, x.1)) (b, behind) e in
      let took = lf.only r a.0.0 a.0.1 sound fits a.1 in
      let h = back a.0.0 took.is in
      subst (λ (y : B × Rest). Took (mapped f to from) IsB r y.0 y.1)
      (ok_is (to a.0.0, a.0.1) (b, behind) a.2) (record {
        is = h.0;
        bytes = took.bytes ∙ ap (λ x. f.spelled r.table x ++ a.0.1.bytes) (sym h.1);
        table = took.table ∙ ap (λ x. after r.table (f.named x)) (sym h.1);
        sound = took.sound;
        fits = took.fits;
      });
}

-- ---- a field with a test

found_ok : {B : Type 0} (r : Rest) (o : Option B) (behind : Rest) (y : B × Rest) → found r o behind ≡ Ok y → (b : B)
    × (o ≡ Some b) × ((b, behind) ≡ y)
found_ok r None behind y e = absurd (cc e)
found_ok r (Some b) behind y e = (b, refl, ok_is (b, behind) y e)

tested_ok : {A B : Type 0} (test : A → Option B) (r : Rest) (read : Read A) (y : B × Rest) → tested test r read ≡ Ok y
    → (a : A) × (behind : Rest) × (b : B) × (read ≡ Ok (a, behind)) × (test a ≡ Some b) × ((b, behind) ≡ y)
tested_ok test r (Ok x) y e = let h = found_ok r (test x.0) x.1 y e in (x.0, x.1, h.0, refl, h.1, h.2)
tested_ok test r (Err left) y e = absurd (cc e)

pub checked_lawful : {A B : Type 0} (f : Field A) (test : A → Option B) (from : B → A) (IsA : A → Type 0)
    (IsB : B → Type 0) → IsLawful f IsA → ((b : B) → IsB b → IsA (from b) × (test (from b) ≡ Some b))
    → ((a : A) (b : B) → IsA a → test a ≡ Some b → IsB b × (from b ≡ a)) → IsLawful (checked f test from) IsB
checked_lawful {B = B} f test from IsA IsB lf forth back = record {
  back = λ t b more is room.
      let h = forth b is in
      let r = rest t (f.spelled t (from b) ++ more) in
      ap (tested test r) (lf.back t (from b) more h.0 room)
      ∙ ap (λ o. found r o (rest (after t (f.named (from b))) more)) h.1;
  only = λ r b behind sound fits e.
      let a = tested_ok test r (f.read r) (b, behind) e in
      let took = lf.only r a.0 a.1 sound fits a.3 in
      let h = back a.0 a.2 took.is a.4 in
      subst (λ (y : B × Rest). Took (checked f test from) IsB r y.0 y.1) a.5 (record {
        is = h.0;
        bytes = took.bytes ∙ ap (λ x. f.spelled r.table x ++ a.1.bytes) (sym h.1);
        table = took.table ∙ ap (λ x. after r.table (f.named x)) (sym h.1);
        sound = took.sound;
        fits = took.fits;
      });
}

-- ---- many fields

each_back : {A : Type 0} (f : Field A) (Is : A → Type 0) → IsLawful f Is → (t : Table) (xs : List A) (more : List ℕ)
    → AllByRecursion Is xs → HasRoom (after t (flat_map f.named xs))
    → each_read f (length xs) (rest t (each_spelled f t xs ++ more))
    ≡ Ok (xs, rest (after t (flat_map f.named xs)) more)
unfolding each_read
each_back f Is lf t [] more all room = refl
each_back f Is lf t (x ∷ xs) more all room =
    let t1 = after t (f.named x) in
    let whole : after t (flat_map f.named (x ∷ xs)) ≡ after t1 (flat_map f.named xs) =
    ap (after t) (flat_map-cons f.named x xs) ∙ after-append t (f.named x) (flat_map f.named xs) in
    let room2 : HasRoom (after t1 (flat_map f.named xs)) = subst HasRoom whole room in
    let room1 : HasRoom t1 = room_before t1 (flat_map f.named xs) room2 in
    let first = lf.back t x (each_spelled f t1 xs ++ more) all.0 room1 in
    let others = each_back f Is lf t1 xs more all.1 room2 in
    ap (λ s. each_read f (suc (length xs)) (rest t s)) (append_assoc (f.spelled t x) (each_spelled f t1 xs) more)
    ∙ ap (λ q. q >>= λ y. each_read f (length xs) y.1 >>= λ ys. Ok (y.0 ∷ ys.0, ys.1)) first
    ∙ ap (λ q. q >>= λ ys. Ok (x ∷ ys.0, ys.1)) others
    ∙ ap (λ t2. Ok (x ∷ xs, rest t2 more)) (sym whole)

abbrev Took_each : {A : Type 0} → Field A → (A → Type 0) → ℕ → Rest → List A → Rest → Type 0
Took_each f Is n r xs behind = Took (each f n) (λ ys. AllByRecursion Is ys × (length ys ≡ n)) r xs behind

each_only : {A : Type 0} (f : Field A) (Is : A → Type 0) → IsLawful f Is
    → (n : ℕ) (r : Rest) (xs : List A) (behind : Rest) → IsTable r.table → IsBytes r.bytes
    → each_read f n r ≡ Ok (xs, behind) → Took_each f Is n r xs behind
unfolding each_read
each_only {A} f Is lf zero r xs behind sound fits e =
    subst (λ (y : List A × Rest). Took_each f Is 0 r y.0 y.1) (ok_is ([], r) (xs, behind) e)
    (record { is = (tt, refl); bytes = refl; table = refl; sound = sound; fits = fits })
each_only {A} f Is lf (suc n) r xs behind sound fits e =
    let a = bind_ok (f.read r) (λ x. each_read f n x.1 >>= λ ys. Ok (x.0 ∷ ys.0, ys.1)) (xs, behind) e in
    let b = bind_ok (each_read f n a.0.1) (λ ys. Ok (a.0.0 ∷ ys.0, ys.1)) (xs, behind) a.2 in
    let first = lf.only r a.0.0 a.0.1 sound fits a.1 in
    let others = each_only f Is lf n a.0.1 b.0.0 b.0.1 first.sound first.fits b.1 in
    let made : List A × Rest = (a.0.0 ∷ b.0.0, b.0.1) in
    subst (λ (y : List A × Rest). Took_each f Is (suc n) r y.0 y.1) (ok_is made (xs, behind) b.2) (record {
      is = ((first.is, others.is.0), ap suc others.is.1);
      bytes =
          first.bytes
          ∙ ap (λ s. f.spelled r.table a.0.0 ++ s) (others.bytes
          ∙ ap (λ t. each_spelled f t b.0.0 ++ b.0.1.bytes) first.table)
          ∙ sym (append_assoc (f.spelled r.table a.0.0)
          (each_spelled f (after r.table (f.named a.0.0)) b.0.0) b.0.1.bytes);
      table =
          others.table
          ∙ ap (λ t. after t (flat_map f.named b.0.0)) first.table
          ∙ sym (after-append r.table (f.named a.0.0) (flat_map f.named b.0.0))
          ∙ ap (after r.table) (sym (flat_map-cons f.named a.0.0 b.0.0));
      sound = others.sound;
      fits = others.fits;
    })

pub each_lawful : {A : Type 0} (f : Field A) (Is : A → Type 0) → IsLawful f Is → (n : ℕ)
    → IsLawful (each f n) (λ xs. AllByRecursion Is xs × (length xs ≡ n))
each_lawful f Is lf n = record {
  back = λ t xs more is room.
      ap (λ k. each_read f k (rest t (each_spelled f t xs ++ more))) (sym is.1) ∙ each_back f Is lf t xs more is.0 room;
  only = λ r xs behind sound fits e. each_only f Is lf n r xs behind sound fits e;
}

pub counted_lawful : {A : Type 0} (count : Field ℕ) (f : Field A) (IsN : ℕ → Type 0) (Is : A → Type 0)
    → IsLawful count IsN → IsLawful f Is → IsLawful (counted count f) (λ xs. IsN (length xs) × AllByRecursion Is xs)
counted_lawful {A} count f IsN Is lc lf =
    mapped_lawful (count then each f) (λ p. p.1) (λ xs. (length xs, xs))
    (λ p. IsN p.0 × (AllByRecursion Is p.1 × (length p.1 ≡ p.0))) (λ xs. IsN (length xs) × AllByRecursion Is xs)
    (then_lawful count (each f) IsN (λ n xs. AllByRecursion Is xs × (length xs ≡ n)) lc (λ n is. each_lawful f Is lf n))
    (λ xs is. ((is.0, (is.1, refl)), refl))
    (λ p is. ((subst IsN (sym is.1.1) is.0, is.1.0), ap (λ (k : ℕ). let q : ℕ × List A = (k, p.1) in q) is.1.1))

-- the same field, of whose values the same is said in other words
pub same_lawful : {A : Type 0} (f : Field A) (Is Other : A → Type 0) → IsLawful f Is → ((x : A) → Other x → Is x)
    → ((x : A) → Is x → Other x) → IsLawful f Other
same_lawful f Is Other lf forth back = record {
  back = λ t x more is room. lf.back t x more (forth x is) room;
  only = λ r x behind sound fits e.
      let took = lf.only r x behind sound fits e in
      record { is = back x took.is; bytes = took.bytes; table = took.table; sound = took.sound; fits = took.fits };
}
