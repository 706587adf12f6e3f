-- A list without doubles grows where a text is new.
use Rattle.std.proofs.Common.{◌≡◌, ℕ, Bool, true, false, not, cond, ◌||◌, List, [], ◌∷◌, ◌++◌, refl, sym, ap, ap₂, ◌∙◌}
use Rattle.std.proofs.Common.{append-nil, Bor}
use Rattle.std.proofs.lemmas.Bool.{not-true, not-false}
use Rattle.std.proofs.lemmas.Bool.Decides.{same_from_decides}
use Rattle.std.proofs.lemmas.List.{map-append}
use Rattle.std.proofs.lemmas.List.Elements.{filter-append}
use Rattle.std.proofs.lemmas.List.Folds.{list_any-append}
use Rattle.std.proofs.lemmas.Map.Text.{is_eq-slice_cmp}
use Rattle.std.proofs.lemmas.Slice.Eq.{bytes_eq-Decides}
use Rattle.std.specs.Cmp.Lexicographic.{slice_cmp}
use Rattle.std.specs.List.{filter, list_any}
use Rattle.std.specs.Ordering.{is_eq, nat_cmp}
use Rattle.std.specs.Str.{bytes_eq}
use Rattle.expr_eval.specs.inner.Lent.{lent}
use Rattle.expr_eval.specs.Words.{distinct}

-- whether the list has the text
abbrev pub has : List (List ℕ) → List ℕ → Bool
has texts text = list_any (bytes_eq text) texts

pub bytes_eq-flipped : (a b : List ℕ) → bytes_eq a b ≡ bytes_eq b a
bytes_eq-flipped a b =
    let there = bytes_eq-Decides a b in
    let back = bytes_eq-Decides b a in
    same_from_decides (bytes_eq a b) (bytes_eq b a) there ((λ h. sym (back.0 h)), (λ e. back.1 (sym e)))

abbrev other : List ℕ → List ℕ → Bool
other text = λ next. not (bytes_eq text next)

one_kept : (x y : List ℕ) → bytes_eq x y ≡ false → filter (other x) (y ∷ []) ≡ y ∷ []
one_kept x y e = ap (λ (b : Bool). cond (not b) (y ∷ []) []) e

one_dropped : (x y : List ℕ) → bytes_eq x y ≡ true → filter (other x) (y ∷ []) ≡ []
one_dropped x y e = ap (λ (b : Bool). cond (not b) (y ∷ []) []) e

step : (x y : List ℕ) (firsts next : List (List ℕ)) (same there : Bool) → bytes_eq x y ≡ same
    → next ≡ cond there firsts (firsts ++ y ∷ [])
    → x ∷ filter (other x) next ≡ cond (same || there) (x ∷ filter (other x) firsts)
    ((x ∷ filter (other x) firsts) ++ y ∷ [])
step x y firsts next true true e is = ap (λ (l : List (List ℕ)). x ∷ filter (other x) l) is
step x y firsts next false true e is = ap (λ (l : List (List ℕ)). x ∷ filter (other x) l) is
step x y firsts next true false e is =
    ap (λ (l : List (List ℕ)). x ∷ l) (ap (filter (other x)) is ∙ (filter-append (other x) firsts (y ∷ [])
    ∙ (ap (λ (l : List (List ℕ)). filter (other x) firsts ++ l) (one_dropped x y e)
    ∙ append-nil (filter (other x) firsts))))
step x y firsts next false false e is =
    ap (λ (l : List (List ℕ)). x ∷ l) (ap (filter (other x)) is ∙ (filter-append (other x) firsts (y ∷ [])
    ∙ ap (λ (l : List (List ℕ)). filter (other x) firsts ++ l) (one_kept x y e)))

pub distinct-push : (texts : List (List ℕ)) (y : List ℕ)
    → distinct (texts ++ y ∷ []) ≡ cond (has texts y) (distinct texts) (distinct texts ++ y ∷ [])
distinct-push [] y = refl
distinct-push (x ∷ texts) y =
    step x y (distinct texts) (distinct (texts ++ y ∷ [])) (bytes_eq y x) (has texts y) (bytes_eq-flipped x y)
    (distinct-push texts y)

-- who leaves out another text keeps this one
kept_cond : (b : Bool) (x y z : List ℕ) (less texts : List (List ℕ)) → bytes_eq x z ≡ b → bytes_eq x y ≡ false
    → has less y ≡ has texts y
    → has (cond (not b) (z ∷ less) less) y ≡ has (z ∷ texts) y
kept_cond false x y z less texts is apart same = ap (λ (r : Bool). bytes_eq y z || r) same
kept_cond true x y z less texts is apart same =
    same ∙ sym (ap (λ (r : Bool). r || has texts y)
    (ap (bytes_eq y) (sym ((bytes_eq-Decides x z).0 is)) ∙ (bytes_eq-flipped y x ∙ apart)))

kept : (x y : List ℕ) (texts : List (List ℕ)) → bytes_eq x y ≡ false → has (filter (other x) texts) y ≡ has texts y
kept x y [] apart = refl
kept x y (z ∷ texts) apart = kept_cond (bytes_eq x z) x y z (filter (other x) texts) texts refl apart
    (kept x y texts apart)

had : (b : Bool) (x y : List ℕ) (firsts texts : List (List ℕ)) → bytes_eq y x ≡ b → has firsts y ≡ has texts y
    → (b || has (filter (other x) firsts) y) ≡ (b || has texts y)
had true x y firsts texts is same = refl
had false x y firsts texts is same = kept x y firsts (bytes_eq-flipped x y ∙ is) ∙ same

-- a list without doubles has the same texts
pub has-distinct : (texts : List (List ℕ)) (y : List ℕ) → has (distinct texts) y ≡ has texts y
has-distinct [] y = refl
has-distinct (x ∷ texts) y = had (bytes_eq y x) x y (distinct texts) texts refl (has-distinct texts y)

pub has-lent : (texts : List (Bor (List ℕ))) (y : List ℕ)
    → list_any (λ (t : Bor (List ℕ)). bytes_eq y t.now) texts ≡ has (lent texts) y
has-lent [] y = refl
has-lent (t ∷ texts) y = ap (λ (r : Bool). bytes_eq y t.now || r) (has-lent texts y)

pub lent-push : (xs : List (Bor (List ℕ))) (text : Bor (List ℕ)) → lent (xs ++ text ∷ []) ≡ lent xs ++ text.now ∷ []
lent-push xs text = map-append (λ (t : Bor (List ℕ)). t.now) xs (text ∷ [])

-- a text that was not met, and one that was
pub new_text : (xs firsts : List (Bor (List ℕ))) (text : Bor (List ℕ)) (new : Bool)
    → new ≡ not (has (lent xs) text.now) → new ≡ true
    → lent firsts ≡ distinct (lent xs) → lent (firsts ++ text ∷ []) ≡ distinct (lent (xs ++ text ∷ []))
new_text xs firsts text new is added before =
    let none : has (lent xs) text.now ≡ false = not-true (has (lent xs) text.now) (sym is ∙ added) in
    lent-push firsts text ∙ (ap (λ (l : List (List ℕ)). l ++ text.now ∷ []) before
    ∙ sym (ap distinct (lent-push xs text) ∙ (distinct-push (lent xs) text.now
    ∙ ap (λ (b : Bool). cond b (distinct (lent xs)) (distinct (lent xs) ++ text.now ∷ [])) none)))

pub old_text : (xs firsts : List (Bor (List ℕ))) (text : Bor (List ℕ)) (new : Bool)
    → new ≡ not (has (lent xs) text.now) → new ≡ false
    → lent firsts ≡ distinct (lent xs) → lent firsts ≡ distinct (lent (xs ++ text ∷ []))
old_text xs firsts text new is kept before =
    let some : has (lent xs) text.now ≡ true = not-false (has (lent xs) text.now) (sym is ∙ kept) in
    before ∙ sym (ap distinct (lent-push xs text) ∙ (distinct-push (lent xs) text.now
    ∙ ap (λ (b : Bool). cond b (distinct (lent xs)) (distinct (lent xs) ++ text.now ∷ [])) some))

-- what the set has
abbrev pub in_set : List (Bor (List ℕ)) → Bor (List ℕ) → Bool
in_set keys q = list_any (λ (k : Bor (List ℕ)). is_eq (slice_cmp nat_cmp q.now k.now)) keys

either : (b a : Bool) → cond b true a ≡ (a || (b || false))
either true true = refl
either true false = refl
either false true = refl
either false false = refl

pub met : (before after xs : List (Bor (List ℕ))) (text q : Bor (List ℕ))
    → in_set after q ≡ cond (is_eq (slice_cmp nat_cmp text.now q.now)) true (in_set before q)
    → in_set before q ≡ has (lent xs) q.now → in_set after q ≡ has (lent (xs ++ text ∷ [])) q.now
met before after xs text q updated was =
    updated ∙ (ap₂ (λ (b a : Bool). cond b true a)
    (is_eq-slice_cmp text.now q.now ∙ bytes_eq-flipped text.now q.now) was
    ∙ (either (bytes_eq q.now text.now) (has (lent xs) q.now)
    ∙ sym (ap (λ (l : List (List ℕ)). has l q.now) (lent-push xs text)
    ∙ list_any-append (bytes_eq q.now) (lent xs) (text.now ∷ []))))
