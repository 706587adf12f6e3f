-- Reading and writing fields one after the other, as a loop does.
use Rattle.std.proofs.Common.{◌≡◌, ℕ, suc, ◌-◌, ◌+◌, ◌≤◌, ◌<◌, List, [], ◌∷◌, ◌++◌, map, Ok, Err, refl, sym, ap, ◌∙◌}
use Rattle.std.proofs.Common.{append_assoc, append-nil, arith}
use Rattle.std.specs.List.{All, AllByRecursion}
use Rattle.std.proofs.lemmas.List.Elements.{All-from_recursion, recursion_from_All}
use Rattle.expr_parser.specs.declared.expr.Expr.{Expr}
use Rattle.expr_parser.specs.FormOf.{form_of}
use Rattle.expr_parser.specs.Reading.{IsExpr}
use Rattle.record_fields.specs.Fields.{Rest, Read, Field, ◌>>=◌, each_read}
use Rattle.record_fields.specs.Reading.{Stops, texts_of}
use Rattle.record_fields.specs.inner.Reading.{text_of}
use Rattle.record_fields.specs.declared.stop.Stop.{Stop}
use Rattle.record_fields.specs.declared.stop.Stop.TheVariants.{Bad, Memory}

-- what was read before, and what is still read
abbrev pub with_front : {A : Type 0} → List A → Read (List A) → Read (List A)
with_front front read = read >>= λ x. Ok (front ++ x.0, x.1)

regroup : {A : Type 0} (front : List A) (x : A) (read : Read (List A))
    → with_front front (read >>= λ xs. Ok (x ∷ xs.0, xs.1)) ≡ with_front (front ++ x ∷ []) read
regroup {A} front x (Ok xs) = ap (λ (ys : List A). Ok (ys, xs.1)) (sym (append_assoc front (x ∷ []) xs.0))
regroup front x (Err left) = refl

pub begins : {A : Type 0} (read : Read (List A)) → with_front [] read ≡ read
begins (Ok xs) = refl
begins (Err left) = refl

pub goes_on : {A : Type 0} (f : Field A) (front : List A) (count i : ℕ) (r : Rest) (x : A) (behind : Rest)
    (total : Read (List A)) → i < count → f.read r ≡ Ok (x, behind)
    → with_front front (each_read f (count - i) r) ≡ total
    → with_front (front ++ x ∷ []) (each_read f (count - (i + 1)) behind) ≡ total
unfolding each_read
goes_on {A} f front count i r x behind total lt read so_far =
    let k : count - i ≡ suc (count - (i + 1)) = omega arith in
    let one : with_front front (each_read f (count - i) r)
    ≡ with_front (front ++ x ∷ []) (each_read f (count - (i + 1)) behind) =
    rw (k, read) (regroup front x (each_read f (count - (i + 1)) behind)) in
    sym one ∙ so_far

pub ends : {A : Type 0} (f : Field A) (e : Stop) (front : List A) (count i : ℕ) (r : Rest) (total : Read (List A))
    → i < count → Stops (f.read r) e
    → with_front front (each_read f (count - i) r) ≡ total → Stops total e
unfolding each_read
ends f Memory front count i r total lt stops so_far = tt
ends f (Bad left) front count i r total lt stops so_far =
    let k : count - i ≡ suc (count - (i + 1)) = omega arith in
    let one : with_front front (each_read f (count - i) r) ≡ Err left = rw (k, stops) refl in
    sym so_far ∙ one

pub is_done : {A : Type 0} (f : Field A) (front : List A) (count i : ℕ) (r : Rest) (total : Read (List A)) → count ≤ i
    → with_front front (each_read f (count - i) r) ≡ total → total ≡ Ok (front, r)
unfolding each_read
is_done {A} f front count i r total le so_far =
    let k : count - i ≡ 0 = omega arith in
    let one : with_front front (each_read f (count - i) r) ≡ Ok (front, r) =
    rw k (ap (λ (xs : List A). Ok (xs, r)) (append-nil front)) in
    sym so_far ∙ one

-- ---- expressions, which stand as their texts

pub texts_push : (es : List Expr) (e : Expr) → texts_of (es ++ e ∷ []) ≡ texts_of es ++ text_of e ∷ []
texts_push [] e = refl
texts_push (d ∷ es) e = ap (λ ts. text_of d ∷ ts) (texts_push es e)

exprs_by : (es : List Expr) (e : Expr) → AllByRecursion IsExpr (map form_of es) → IsExpr (form_of e)
    → AllByRecursion IsExpr (map form_of (es ++ e ∷ []))
exprs_by [] e all is = (is, tt)
exprs_by (d ∷ es) e all is = (all.0, exprs_by es e all.1 is)

pub exprs_push : (es : List Expr) (e : Expr) → All IsExpr (map form_of es) → IsExpr (form_of e)
    → All IsExpr (map form_of (es ++ e ∷ []))
exprs_push es e all is = All-from_recursion IsExpr (map form_of (es ++ e ∷ []))
    (exprs_by es e (recursion_from_All IsExpr (map form_of es) all) is)
