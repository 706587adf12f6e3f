-- Texts written one after another, each but the first behind a mark.
use Rattle.std.proofs.Common.{◌≡◌, ℕ, ◌+◌, ◌<◌, ◌≤◌, List, [], ◌∷◌, ◌++◌, map, length, drop, get_or, IsUtf8}
use Rattle.std.proofs.Common.{append_assoc, append-nil, refl, sym, ◌∙◌, ap}
use Rattle.std.proofs.lemmas.List.{at_drop_more, at_drop_all, drop_all}
use lib.Utf8.{encode}
use Rattle.std.specs.List.{join_with_byte}
use Rattle.expr_parser.specs.declared.expr.Expr.{Expr}
use Rattle.expr_parser.specs.Forms.{forms_of}
use Rattle.expr_parser.specs.FormOf.{form_of}
use Rattle.expr_parser.specs.Canonical.{canonical, canonical_each}

-- the texts, the first behind these bytes
abbrev pub joined : ℕ → List ℕ → List (List ℕ) → List ℕ
joined mark before [] = []
joined mark before (x ∷ xs) = before ++ (x ++ joined mark (mark ∷ []) xs)

pub joined-join : (mark : ℕ) (xs : List (List ℕ)) → joined mark [] xs ≡ join_with_byte mark xs
joined-join mark [] = refl
joined-join mark (x ∷ []) = append-nil x
joined-join mark (x ∷ y ∷ xs) = ap (λ (z : List ℕ). x ++ mark ∷ z) (joined-join mark (y ∷ xs))

-- the spelling of a list of expressions
abbrev pub spelling : Expr → List ℕ
spelling e = canonical (form_of e)

pub joined-canonical : (es : List Expr) → joined 44 [] (map spelling es) ≡ canonical_each (forms_of (map form_of es))
joined-canonical [] = refl
joined-canonical (e ∷ []) = append-nil (spelling e)
joined-canonical (e ∷ f ∷ es) = ap (λ (z : List ℕ). spelling e ++ 44 ∷ z) (joined-canonical (f ∷ es))

pub IsUtf8-mark : IsUtf8 (46 ∷ [])
unfolding encode
IsUtf8-mark = (46 ∷ [], (refl, refl))

-- one more text is written, behind the mark
pub joined_next : (mark : ℕ) (before : List ℕ) (xs : List (List ℕ)) (i : ℕ) (x : List ℕ) → i < length xs
    → x ≡ get_or xs i x → (old mid new start : List ℕ) → mid ≡ old ++ before → new ≡ mid ++ x
    → old ++ joined mark before (drop i xs) ≡ start → new ++ joined mark (mark ∷ []) (drop (i + 1) xs) ≡ start
joined_next mark before xs i x low is old mid new start mid_is new_is h =
    let left : List ℕ = joined mark (mark ∷ []) (drop (i + 1) xs) in
    let next : joined mark before (drop i xs) ≡ before ++ (x ++ left) = at_drop_more (joined mark before) xs i x low
    ∙ ap (λ (y : List ℕ). before ++ (y ++ left)) (sym is) in
    ap (λ (y : List ℕ). y ++ left) (new_is ∙ ap (λ (y : List ℕ). y ++ x) mid_is)
    ∙ (append_assoc (old ++ before) x left
    ∙ (append_assoc old before (x ++ left)
    ∙ (ap (λ (y : List ℕ). old ++ y) (sym next) ∙ h)))

-- all are written
pub joined_all : (mark : ℕ) (before : List ℕ) (xs : List (List ℕ)) (i : ℕ) → length xs ≤ i → (out start : List ℕ)
    → out ++ joined mark before (drop i xs) ≡ start → out ≡ start
joined_all mark before xs i high out start h =
    sym (append-nil out) ∙ (ap (λ (y : List ℕ). out ++ y) (sym (at_drop_all (joined mark before) xs i high)) ∙ h)

-- the same for a list of expressions, between the brackets of `combine`
pub combined_all : (before : List ℕ) (es : List Expr) (i : ℕ) → length es ≤ i → (out start word old : List ℕ)
    → out ++ joined 44 before (map spelling (drop i es)) ≡ start ++ joined 44 [] (map spelling es)
    → start ≡ old ++ word → out ++ 41 ∷ [] ≡ old ++ (word ++ (canonical_each (forms_of (map form_of es)) ++ 41 ∷ []))
combined_all before es i high out start word old h start_is =
    let rest : joined 44 before (map spelling (drop i es)) ≡ [] =
    ap (λ (x : List Expr). joined 44 before (map spelling x)) (drop_all i es high) in
    let all : out ≡ start ++ canonical_each (forms_of (map form_of es)) = sym (append-nil out)
    ∙ (ap (λ (y : List ℕ). out ++ y) (sym rest) ∙ (h ∙ ap (λ (y : List ℕ). start ++ y) (joined-canonical es))) in
    ap (λ (y : List ℕ). y ++ 41 ∷ [])
    (all ∙ ap (λ (y : List ℕ). y ++ canonical_each (forms_of (map form_of es))) start_is)
    ∙ (append_assoc (old ++ word) (canonical_each (forms_of (map form_of es))) (41 ∷ [])
    ∙ append_assoc old word (canonical_each (forms_of (map form_of es)) ++ 41 ∷ []))
