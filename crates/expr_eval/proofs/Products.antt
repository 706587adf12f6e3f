-- The keys are made one after another, up to their greatest number.
use Rattle.std.proofs.Common.{◌≡◌, ℕ, zero, suc, ◌<◌, ◌≤◌, true, List, [], ◌∷◌, ◌++◌, length, map, take, refl, sym, ap}
use Rattle.std.proofs.Common.{ap₂, subst, ◌∙◌, inl, inr, arith, append-nil, append_assoc, length-append, take_all, Bor}
use Rattle.std.proofs.Common.{Vec, vec_len, eqb, ◌-◌}
use Rattle.std.specs.List.{flat_map, list_any}
use Rattle.content.specs.Tree.{Tree}
use Rattle.expr_parser.specs.declared.expr.Expr.{Expr}
use Rattle.expr_parser.specs.FormOf.{form_of}
use Rattle.expr_eval.specs.inner.Lent.{behind, lent}
use Rattle.expr_eval.specs.Values.{texts_of}
use Rattle.std.proofs.lemmas.Bool.{eqb-true, false≢true, or_cases}
use Rattle.std.proofs.lemmas.List.{nil_from_length, length-take, take_at}
use Rattle.std.proofs.lemmas.List.Concat.{flat_map-append}
use Rattle.expr_eval.specs.Keys.{key_texts, keys_of, most, tuples}

abbrev Texts : Type 0
Texts = List (List ℕ)

map-append : (f : Texts → Texts) (xs ys : List Texts) → map f (xs ++ ys) ≡ map f xs ++ map f ys
map-append f [] ys = refl
map-append f (x ∷ xs) ys = ap (λ (l : List Texts). f x ∷ l) (map-append f xs ys)

take_again : (n : ℕ) (xs ys : List Texts) → take n (take n xs ++ ys) ≡ take n (xs ++ ys)
take_again zero xs ys = refl
take_again (suc n) [] ys = refl
take_again (suc n) (x ∷ xs) ys = ap (λ (l : List Texts). x ∷ l) (take_again n xs ys)

take_full : (n : ℕ) (xs ys : List Texts) → n ≤ length (take n xs) → take n (xs ++ ys) ≡ take n xs
take_full zero xs ys full = refl
take_full (suc n) [] ys full = absurd (omega arith)
take_full (suc n) (x ∷ xs) ys full = ap (λ (l : List Texts). x ∷ l) (take_full n xs ys (omega arith))

-- the tuples of two parts of the first list
behind-append : (front xs ys : Texts) (lists : List Texts)
    → behind front ((xs ++ ys) ∷ lists) ≡ behind front (xs ∷ lists) ++ behind front (ys ∷ lists)
behind-append front xs ys lists =
    ap (map (λ (t : Texts). front ++ t))
    (flat_map-append (λ (x : List ℕ). map (λ (t : Texts). x ∷ t) (tuples lists)) xs ys)
    ∙ map-append (λ (t : Texts). front ++ t) (flat_map (λ (x : List ℕ). map (λ (t : Texts). x ∷ t) (tuples lists)) xs)
    (flat_map (λ (x : List ℕ). map (λ (t : Texts). x ∷ t) (tuples lists)) ys)

longer_front : (front : Texts) (x : List ℕ) (ts : List Texts)
    → map (λ (t : Texts). (front ++ x ∷ []) ++ t) ts ≡ map (λ (t : Texts). front ++ t) (map (λ (t : Texts). x ∷ t) ts)
longer_front front x [] = refl
longer_front front x (t ∷ ts) = ap₂ (λ (a : Texts) (b : List Texts). a ∷ b) (append_assoc front (x ∷ []) t)
    (longer_front front x ts)

-- those of one text of the first list
behind-one : (front : Texts) (x : List ℕ) (lists : List Texts)
    → behind front ((x ∷ []) ∷ lists) ≡ behind (front ++ x ∷ []) lists
behind-one front x lists =
    ap (map (λ (t : Texts). front ++ t)) (append-nil (map (λ (t : Texts). x ∷ t) (tuples lists)))
    ∙ sym (longer_front front x (tuples lists))

-- one text more
pub taken_more : (most : ℕ) (front xs : Texts) (x : List ℕ) (lists keys done next : List Texts)
    → done ≡ take most (keys ++ behind front (xs ∷ lists))
    → next ≡ take most (done ++ behind (front ++ x ∷ []) lists)
    → next ≡ take most (keys ++ behind front ((xs ++ x ∷ []) ∷ lists))
taken_more most front xs x lists keys done next before after =
    after ∙ (ap (λ (l : List Texts). take most (l ++ behind (front ++ x ∷ []) lists)) before
    ∙ (take_again most (keys ++ behind front (xs ∷ lists)) (behind (front ++ x ∷ []) lists)
    ∙ ap (take most) (append_assoc keys (behind front (xs ∷ lists)) (behind (front ++ x ∷ []) lists)
    ∙ ap (λ (l : List Texts). keys ++ l)
    (ap (λ (l : List Texts). behind front (xs ∷ lists) ++ l) (sym (behind-one front x lists))
    ∙ sym (behind-append front xs (x ∷ []) lists)))))

-- no more where there are enough
pub taken_enough : (most : ℕ) (front xs ys : Texts) (lists keys done : List Texts)
    → done ≡ take most (keys ++ behind front (xs ∷ lists))
    → most ≤ length done → done ≡ take most (keys ++ behind front ((xs ++ ys) ∷ lists))
taken_enough most front xs ys lists keys done before enough =
    let full : most ≤ length (take most (keys ++ behind front (xs ∷ lists))) =
    subst (λ (l : List Texts). most ≤ length l) before enough in
    before ∙ sym (ap (λ (l : List Texts). take most (keys ++ l)) (behind-append front xs ys lists)
    ∙ (ap (take most) (sym (append_assoc keys (behind front (xs ∷ lists)) (behind front (ys ∷ lists))))
    ∙ take_full most (keys ++ behind front (xs ∷ lists)) (behind front (ys ∷ lists)) full))

pub behind-nothing : (ts : List Texts) → map (λ (t : Texts). [] ++ t) ts ≡ ts
behind-nothing [] = refl
behind-nothing (t ∷ ts) = ap (λ (l : List Texts). t ∷ l) (behind-nothing ts)

pub one_more : (most : ℕ) (keys : List Texts) (key : Texts) → length keys < most
    → keys ++ key ∷ [] ≡ take most (keys ++ key ∷ [])
one_more most keys key room = sym (take_all most (keys ++ key ∷ []) (omega (arith, length-append keys (key ∷ []))))

-- a list without texts leaves no tuple
nothing_behind : (texts : Texts) → flat_map (λ (x : List ℕ). map (λ (t : Texts). x ∷ t) []) texts ≡ []
nothing_behind [] = refl
nothing_behind (x ∷ texts) = nothing_behind texts

pub tuples-none : (texts : Texts) (lists : List Texts) → tuples lists ≡ [] → tuples (texts ∷ lists) ≡ []
tuples-none texts lists none =
    ap (λ (l : List Texts). flat_map (λ (x : List ℕ). map (λ (t : Texts). x ∷ t) l) texts) none ∙ nothing_behind texts

-- where the front is a whole key
pub last_of_front : (most : ℕ) (keys lists : List Texts) (front : Texts) → lists ≡ [] → length keys < most
    → keys ++ front ∷ [] ≡ take most (keys ++ behind front lists)
last_of_front most keys lists front none room =
    ap (λ (key : Texts). keys ++ key ∷ []) (sym (append-nil front)) ∙ (one_more most keys (front ++ []) room
    ∙ ap (λ (l : List Texts). take most (keys ++ behind front l)) (sym none))

pub none_taken : (most : ℕ) (keys lists : List Texts) (front : Texts) → length keys ≤ most
    → keys ≡ take most (keys ++ behind front ([] ∷ lists))
none_taken most keys lists front few = sym (ap (take most) (append-nil keys) ∙ take_all most keys few)

-- a list of borrowed texts, none of which is there
no_texts : {Z : Type 0} (list : Vec (Bor (List ℕ)) Z) → eqb (vec_len list) 0 ≡ true → lent list.items ≡ []
no_texts list none = ap lent (nil_from_length list.items (omega (arith, eqb-true (vec_len list) 0 none, list.ok.0)))

pub tuples-empty : {Z : Type 0} (lists : List (Vec (Bor (List ℕ)) Z))
    → list_any (λ list. eqb (vec_len list) 0) lists ≡ true → tuples (map (λ list. lent list.items) lists) ≡ []
tuples-empty [] some = absurd (false≢true some)
tuples-empty (list ∷ lists) some =
    elim (or_cases (eqb (vec_len list) 0) (list_any (λ l. eqb (vec_len l) 0) lists) some) [
      | inl here ↦ ap (λ (texts : Texts). tuples (texts ∷ map (λ l. lent l.items) lists)) (no_texts list here)
      | inr there ↦ tuples-none (lent list.items) (map (λ l. lent l.items) lists) (tuples-empty lists there)
    ]

-- the lists that the code makes are those of the definition
pub lists_same : (tree : Tree) (exprs : List Expr)
    → map key_texts (map (λ e. texts_of (form_of e) tree) exprs)
    ≡ map (λ f. key_texts (texts_of f tree)) (map form_of exprs)
lists_same tree [] = refl
lists_same tree (e ∷ exprs) = ap (λ (l : List Texts). key_texts (texts_of (form_of e) tree) ∷ l) (lists_same tree exprs)

-- the front without its last text
pub popped : {Z : Type 0} (longer : Vec (Bor (List ℕ)) Z) (front rest : List (Bor (List ℕ))) (text : Bor (List ℕ))
    → longer.items ≡ front ++ text ∷ []
    → rest ≡ take (vec_len longer - 1) longer.items → rest ≡ front
popped longer front rest text is left =
    left ∙ (ap (take (vec_len longer - 1)) is
    ∙ take_at front (text ∷ []) (vec_len longer - 1)
    (omega (arith, longer.ok.0, ap length is, length-append front (text ∷ []))))

pub taken_few : (most : ℕ) (done more : List Texts) → done ≡ take most more → length done ≤ most
taken_few most done more e = omega (arith, ap length e, length-take most more)

-- what the code makes is what the definition says
pub keys_made : (tree : Tree) (exprs : List Expr) (lists : List Texts)
    → lists ≡ map (λ f. key_texts (texts_of f tree)) (map form_of exprs)
    → take most ([] ++ behind [] lists) ≡ keys_of (map form_of exprs) tree
keys_made tree exprs lists all = ap (take most) (behind-nothing (tuples lists) ∙ ap tuples all)

pub no_keys : (tree : Tree) (exprs : List Expr) (lists : List Texts)
    → lists ≡ map (λ f. key_texts (texts_of f tree)) (map form_of exprs)
    → tuples lists ≡ [] → keys_of (map form_of exprs) tree ≡ []
no_keys tree exprs lists all none = ap (take most) (sym (ap tuples all) ∙ none)

-- one text of one expression is the key
pub only_key : (tree : Tree) (exprs : List Expr) (text : List ℕ)
    → map key_texts (map (λ e. texts_of (form_of e) tree) exprs) ≡ (text ∷ []) ∷ []
    → keys_of (map form_of exprs) tree ≡ (text ∷ []) ∷ []
only_key tree exprs text all = ap (λ (lists : List Texts). take most (tuples lists)) (sym (lists_same tree exprs) ∙ all)
