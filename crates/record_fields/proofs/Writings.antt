-- What is written field by field is the spelling of the whole.
use Rattle.std.proofs.Common.{◌≡◌, ℕ, zero, suc, ◌^◌, ◌<◌, true, List, [], ◌∷◌, ◌++◌, length, take, get_or, Some, None}
use Rattle.std.proofs.Common.{refl, sym, ap, ap₂, subst, ◌∙◌, append_assoc, append-nil, arith}
use Rattle.std.specs.Prelude.{is_some}
use Rattle.std.specs.List.{flat_map, list_all}
use Rattle.std.specs.Int.{w16, w32, w64, to_be_bytes}
use Rattle.std.proofs.lemmas.Bool.{and_parts}
use Rattle.std.proofs.lemmas.List.Concat.{flat_map-cons}
use Rattle.u1_base.specs.Fields.{u16_bytes, u32_bytes}
use Rattle.u1_base.specs.Places.{Place}
use Rattle.u1_base.specs.declared.ids.Form.TheVariants.{Replica, Transaction}
use Rattle.content.specs.Tree.{Tree}
use Rattle.content.specs.Canonical.{canonical}
use Rattle.expr_parser.specs.declared.expr.Expr.{Expr}
use Rattle.expr_parser.specs.Reading.{is_spelled}
use Rattle.expr_parser.proofs.ReadBack.{spelled, expr_in-text}
use Rattle.vector_rev.specs.Counts.{Uid}
use Rattle.vector_rev.specs.Clock.{Clock}
use Rattle.record_fields.specs.Table.{Text, Table, uids, number_of, after}
use Rattle.record_fields.specs.Fields.{Field, ◌then◌, each_spelled, each, counted}
use Rattle.record_fields.specs.Plain.{byte, number, text, id, flag, held, content, expression, count, expressions}
use Rattle.record_fields.specs.Plain.{generation, trans_at, trans_text}
use Rattle.record_fields.specs.Named.{reference_bytes, reference, entry, entries, clock, clocks, place}
use Rattle.record_fields.specs.Reading.{texts_of}
use Rattle.record_fields.specs.inner.Reading.{text_of}
use Rattle.record_fields.specs.Writing.{Written, with_field}
use Rattle.record_fields.specs.declared.format.Format.TheVariants.{Second}
use Rattle.record_fields.proofs.Tables.{after-append, with_known, with_new}

abbrev pub written : Table → List ℕ → Written
written t s = record { table = t; bytes = s }

-- ---- texts

pub short_text_is : (text_bytes : List ℕ) (w : Written)
    → with_field (text w16) text_bytes w
    ≡ written w.table ((w.bytes ++ u16_bytes (length text_bytes)) ++ text_bytes)
unfolding with_field u16_bytes
short_text_is text_bytes w =
    ap (written w.table) (sym (append_assoc w.bytes (to_be_bytes w16 (length text_bytes)) text_bytes))

pub text_is : (text_bytes : List ℕ) (w : Written)
    → with_field (text w32) text_bytes w
    ≡ written w.table ((w.bytes ++ u32_bytes (length text_bytes)) ++ text_bytes)
unfolding with_field u32_bytes
text_is text_bytes w =
    ap (written w.table) (sym (append_assoc w.bytes (to_be_bytes w32 (length text_bytes)) text_bytes))

-- ---- fields put together

-- fields that name and spell alike are written alike
pub alike : {A B : Type 0} (f : Field A) (x : A) (g : Field B) (y : B) (w : Written) → f.named x ≡ g.named y
    → f.spelled w.table x ≡ g.spelled w.table y → with_field f x w ≡ with_field g y w
unfolding with_field
alike f x g y w names bytes = ap₂ (λ us s. written (after w.table us) (w.bytes ++ s)) names bytes

pub then_is : {A : Type 0} {B : A → Type 0} (f : Field A) (g : (a : A) → Field (B a)) (a : A) (b : B a) (w : Written)
    → with_field (f then g) (a, b) w ≡ with_field (g a) b (with_field f a w)
unfolding with_field
then_is f g a b w =
    ap₂ written (after-append w.table (f.named a) ((g a).named b))
    (sym (append_assoc w.bytes (f.spelled w.table a) ((g a).spelled (after w.table (f.named a)) b)))

pub each_none : {A : Type 0} (f : Field A) (n : ℕ) (w : Written) → with_field (each f n) [] w ≡ w
unfolding with_field
each_none f n w = ap (written w.table) (append-nil w.bytes)

each_more : {A : Type 0} (f : Field A) (n : ℕ) (x : A) (xs : List A) (w : Written)
    → with_field (each f n) (x ∷ xs) w ≡ with_field (each f n) xs (with_field f x w)
unfolding with_field
each_more f n x xs w =
    ap₂ written
    (ap (after w.table) (flat_map-cons f.named x xs) ∙ after-append w.table (f.named x) (flat_map f.named xs))
    (sym (append_assoc w.bytes (f.spelled w.table x) (each_spelled f (after w.table (f.named x)) xs)))

each_push : {A : Type 0} (f : Field A) (n : ℕ) (xs : List A) (x : A) (w : Written)
    → with_field (each f n) (xs ++ x ∷ []) w ≡ with_field f x (with_field (each f n) xs w)
each_push f n [] x w = each_more f n x [] w ∙ each_none f n (with_field f x w)
    ∙ ap (with_field f x) (sym (each_none f n w))
each_push f n (y ∷ ys) x w =
    each_more f n y (ys ++ x ∷ []) w ∙ each_push f n ys x (with_field f y w)
    ∙ ap (with_field f x) (sym (each_more f n y ys w))

take-more : {A : Type 0} (xs : List A) (i : ℕ) (x : A) → i < length xs → x ≡ get_or xs i x
    → take (suc i) xs ≡ take i xs ++ x ∷ []
take-more [] i x inside at = absurd (omega (arith, inside))
take-more (y ∷ ys) zero x inside at = ap (λ z. z ∷ []) (sym at)
take-more (y ∷ ys) (suc i) x inside at = ap (λ zs. y ∷ zs) (take-more ys i x (omega (arith, inside)) at)

-- one value more is written
pub each_next : {A : Type 0} (f : Field A) (n : ℕ) (xs : List A) (i : ℕ) (x : A) (w : Written) → i < length xs
    → x ≡ get_or xs i x → with_field (each f n) (take (suc i) xs) w
    ≡ with_field f x (with_field (each f n) (take i xs) w)
each_next f n xs i x w inside at = ap (λ ys. with_field (each f n) ys w) (take-more xs i x inside at)
    ∙ each_push f n (take i xs) x w

counted_is : {A : Type 0} (count : Field ℕ) (f : Field A) (xs : List A) (w : Written)
    → with_field (counted count f) xs w ≡ with_field (each f (length xs)) xs (with_field count (length xs) w)
counted_is count f xs w = alike (counted count f) xs (count then each f) (length xs, xs) w refl refl
    ∙ then_is count (each f) (length xs) xs w

-- ---- each kind of field

pub entry_is : (e : Uid × ℕ) (w : Written)
    → with_field entry e w ≡ with_field (number w64) e.1 (with_field reference e.0 w)
entry_is e w = then_is reference (λ _. number w64) e.0 e.1 w

pub clock_is : (c : Clock) (w : Written)
    → with_field (clock Second) c w ≡ with_field (each entry (length c.entries)) c.entries
    (with_field byte (length c.entries) w)
clock_is c w = alike (clock Second) c entries c.entries w refl refl ∙ counted_is byte entry c.entries w

pub clocks_is : (cs : List Clock) (w : Written)
    → with_field (clocks Second) cs w ≡ with_field (each (clock Second) (length cs)) cs
    (with_field (number w32) (length cs) w)
clocks_is cs w = counted_is (number w32) (clock Second) cs w

place_is : (p : Place) (w : Written)
    → with_field place p w ≡ with_field (text w16) (trans_text p.trans) (with_field (number w64) p.generation w)
place_is p w =
    alike place p (generation then trans_at) (p.generation, p.trans) w refl refl
    ∙ then_is generation trans_at p.generation p.trans w
    ∙ alike (trans_at p.generation) p.trans (text w16) (trans_text p.trans)
    (with_field generation p.generation w) refl refl
    ∙ ap (with_field (text w16) (trans_text p.trans))
    (alike generation p.generation (number w64) p.generation w refl refl)

pub place_none : (p : Place) (w : Written) → p.trans ≡ None
    → with_field place p w ≡ with_field (text w16) [] (with_field (number w64) p.generation w)
place_none p w none = place_is p w
    ∙ ap (λ o. with_field (text w16) (trans_text o) (with_field (number w64) p.generation w)) none

pub place_some : (p : Place) (w : Written) (t : Text) → p.trans ≡ Some t
    → with_field place p w ≡ with_field (id Transaction) t (with_field (number w64) p.generation w)
place_some p w t some =
    place_is p w
    ∙ ap (λ o. with_field (text w16) (trans_text o) (with_field (number w64) p.generation w)) some
    ∙ alike (text w16) t (id Transaction) t (with_field (number w64) p.generation w) refl refl

pub content_none : (w : Written) → with_field content None w ≡ with_field byte 0 w
content_none w = alike content None byte 0 w refl refl

pub content_some : (t : Tree) (w : Written)
    → with_field content (Some t) w ≡ with_field (text w32) (canonical t) (with_field byte 1 w)
content_some t w =
    alike content (Some t) (flag then held) (true, t) w refl refl
    ∙ then_is flag held true t w
    ∙ alike (held true) t (text w32) (canonical t) (with_field flag true w) refl refl
    ∙ ap (with_field (text w32) (canonical t)) (alike flag true byte 1 w refl refl)

pub ruleset contents = (content_some, content_none)

pub expression_is : (e : Text) (w : Written) → with_field expression e w ≡ with_field (text w16) e w
expression_is e w = alike expression e (text w16) e w refl refl

length-texts : (es : List Expr) → length (texts_of es) ≡ length es
length-texts [] = refl
length-texts (e ∷ es) = ap suc (length-texts es)

pub expressions_is : (es : List Expr) (w : Written)
    → with_field expressions (texts_of es) w ≡ with_field (each expression (length es)) (texts_of es)
    (with_field byte (length es) w)
expressions_is es w =
    counted_is count expression (texts_of es) w
    ∙ ap (with_field (each expression (length (texts_of es))) (texts_of es))
    (alike count (length (texts_of es)) byte (length (texts_of es)) w refl refl)
    ∙ ap (λ n. with_field (each expression n) (texts_of es) (with_field byte n w)) (length-texts es)

-- ---- references

pub reference_known : (w : Written) (u : Uid) (n : ℕ) → number_of (uids w.table) u ≡ Some n
    → with_field reference u w ≡ with_field (number w32) n w
unfolding with_field
reference_known w u n known = ap₂ written (with_known w.table u n known)
    (ap (λ o. w.bytes ++ reference_bytes w.table u o) known)

-- the number, the text, and the uid among those that were added
pub reference_new : (w v : Written) (u : Uid) (n : ℕ) (us : List Text) → number_of (uids w.table) u ≡ None
    → n ≡ length (uids w.table) → v ≡ with_field (id Replica) u (with_field (number w32) n w)
    → us ≡ v.table.added ++ u ∷ [] →
    written (record { given = v.table.given; added = us }) v.bytes ≡ with_field reference u w
unfolding with_field
reference_new w v u n us unknown next wrote more =
    ap₂ written
    (ap (λ vs. record { given = v.table.given; added = vs }) more
    ∙ ap (λ (x : Written). record { given = x.table.given; added = x.table.added ++ u ∷ [] }) wrote
    ∙ sym (with_new w.table u (ap is_some unknown)))
    (ap (λ (x : Written). x.bytes) wrote
    ∙ ap (λ k. (w.bytes ++ to_be_bytes w32 k) ++ (id Replica).spelled w.table u) next
    ∙ append_assoc w.bytes (to_be_bytes w32 (length (uids w.table))) ((id Replica).spelled w.table u)
    ∙ ap (λ o. w.bytes ++ reference_bytes w.table u o) (sym unknown))

-- ---- expressions, which stand as their texts

texts-take : (es : List Expr) (i : ℕ) (e : Expr) → i < length es → e ≡ get_or es i e
    → texts_of (take (suc i) es) ≡ texts_of (take i es) ++ text_of e ∷ []
texts-take [] i e inside at = absurd (omega (arith, inside))
texts-take (d ∷ es) zero e inside at = ap (λ x. text_of x ∷ []) (sym at)
texts-take (d ∷ es) (suc i) e inside at = ap (λ ts. text_of d ∷ ts) (texts-take es i e (omega (arith, inside)) at)

pub texts_next : (n : ℕ) (es : List Expr) (i : ℕ) (e : Expr) (w : Written) → i < length es → e ≡ get_or es i e
    → with_field (each expression n) (texts_of (take (suc i) es)) w
    ≡ with_field (text w16) (text_of e) (with_field (each expression n) (texts_of (take i es)) w)
texts_next n es i e w inside at =
    ap (λ ts. with_field (each expression n) ts w) (texts-take es i e inside at)
    ∙ each_push expression n (texts_of (take i es)) (text_of e) w
    ∙ expression_is (text_of e) (with_field (each expression n) (texts_of (take i es)) w)

-- the text of an expression that an index has is short
pub text_short : (es : List Expr) (i : ℕ) (e : Expr) → list_all is_spelled (texts_of es) ≡ true → i < length es
    → e ≡ get_or es i e → length (text_of e) < 2 ^ 16
text_short [] i e all inside at = absurd (omega (arith, inside))
text_short (d ∷ es) zero e all inside at =
    let is = (and_parts (is_spelled (text_of d)) (list_all is_spelled (texts_of es)) all).0 in
    let read = spelled (text_of d) is in
    subst (λ x. length (text_of x) < 2 ^ 16) (sym at)
    (omega (arith, ((expr_in-text read.0 (text_of d)).0 read.1).short))
text_short (d ∷ es) (suc i) e all inside at =
    text_short es i e (and_parts (is_spelled (text_of d)) (list_all is_spelled (texts_of es)) all).1
    (omega (arith, inside)) at
