-- What is made from the lists of the code is what the definition says, and has no doubles.
use Rattle.std.proofs.Common.{◌≡◌, ◌≢◌, ℕ, List, ◌++◌, length, Bor, Vec, Global, map, take, sym, ap, ap₂, subst, ◌∙◌}
use Rattle.std.proofs.Common.{arith}
use Rattle.std.proofs.lemmas.List.{length-map}
use Rattle.std.proofs.lemmas.List.Elements.{All-nil}
use Rattle.std.specs.Prelude.{IfOk}
use Rattle.std.specs.List.{All, AllPairs}
use Rattle.content.specs.TreeOf.{tree_of}
use Rattle.expr_parser.specs.FormOf.{form_of}
use Rattle.expr_eval.specs.Keys.{key_texts, keys_of, most}
use Rattle.expr_eval.specs.inner.Lent.{behind, lent}
use Rattle.expr_eval.specs.Values.{texts_of}
use Rattle.expr_eval.proofs.Apart.{keys_of-apart}
use Rattle.expr_eval.proofs.Widths.{keys_of-width}
use Rattle.expr_eval.proofs.Products.{keys_made, lists_same, no_keys, only_key, tuples-empty}
use Rattle.expr_eval.proofs.product.keys.Goals as goal

abbrev Keys : Type 0
Keys = List (List (List ℕ))

abbrev lists_of : List (Vec (Bor (List ℕ)) Global) → Keys
lists_of lists = map (λ (list : Vec (Bor (List ℕ)) Global). lent list.items) lists

abbrev AreApart : Keys → Type 0
AreApart keys = AllPairs (λ (key other : List (List ℕ)). key ≢ other) keys

abbrev HaveWidth : ℕ → Keys → Type 0
HaveWidth n keys = All (λ (key : List (List ℕ)). length key ≡ n) keys

pub returns-then-has_empty-clause-value : goal.returns-then-has_empty-clause-value
returns-then-has_empty-clause-value c =
    let tree = tree_of c.args.root.now in
    let exprs = c.args.exprs.now in
    let all : lists_of c.deref-3.result.now ≡ map (λ f. key_texts (texts_of f tree)) (map form_of exprs) =
    ap lists_of c.deref-3.ensures.value
    ∙ (c.in_ok-lists.ensures
    ∙ (ap (map key_texts) (c.deref-2.ensures.value ∙ c.in_ok-given.ensures) ∙ lists_same tree exprs)) in
    c.new-keys.ensures ∙ sym
    (no_keys tree exprs (lists_of c.deref-3.result.now) all
    (tuples-empty c.deref-3.result.now (sym c.has_empty.ensures ∙ c.if-has_empty.true)))

pub returns-then-has_empty-clause-distinct : goal.returns-then-has_empty-clause-distinct
returns-then-has_empty-clause-distinct c = subst AreApart (sym c.new-keys.ensures)
    (λ i j d before within. absurd (omega arith))

pub returns-clause-value : goal.returns-clause-value
returns-clause-value c =
    let tree = tree_of c.args.root.now in
    let exprs = c.args.exprs.now in
    let lists = lists_of c.deref-4.result.now in
    let all : lists ≡ map (λ f. key_texts (texts_of f tree)) (map form_of exprs) =
    ap lists_of c.deref-4.ensures.value
    ∙ (c.in_ok-lists.ensures
    ∙ (ap (map key_texts) (c.deref-2.ensures.value ∙ c.in_ok-given.ensures) ∙ lists_same tree exprs)) in
    c.in_ok-add_keys.ensures.keys
    ∙ (ap₂ (λ (keys : Keys) (front : List (Bor (List ℕ))). take most (keys ++ behind (lent front) lists))
    c.new-keys.ensures c.in_ok-front.ensures.items
    ∙ keys_made tree exprs lists all)

pub returns-then-has_empty-clause-widths : goal.returns-then-has_empty-clause-widths
returns-then-has_empty-clause-widths c =
    let n = length c.args.exprs.now in
    subst (HaveWidth n) (sym c.new-keys.ensures) (All-nil (λ (key : List (List ℕ)). length key ≡ n))

pub returns-clause-widths : goal.returns-clause-widths
returns-clause-widths c =
    let exprs = c.args.exprs.now in
    let forms = map form_of exprs in
    let tree = tree_of c.args.root.now in
    subst (HaveWidth (length exprs)) (sym (returns-clause-value c))
    (subst (λ (n : ℕ). HaveWidth n (keys_of forms tree)) (length-map exprs form_of) (keys_of-width forms tree))

pub returns-clause-distinct : goal.returns-clause-distinct
returns-clause-distinct c =
    let tree = tree_of c.args.root.now in
    let forms = map form_of c.args.exprs.now in
    subst AreApart (sym (returns-clause-value c)) (keys_of-apart forms tree)

pub returns-in-Some-clause-value : goal.returns-in-Some-clause-value
returns-in-Some-clause-value c =
    let tree = tree_of c.args.root.now in
    let all = ap (map key_texts) (c.deref.ensures.value ∙ c.in_ok-given.ensures) in
    subst (λ (k : Keys). IfOk c.only_key.result (λ keys. keys ≡ k))
    (sym (only_key tree c.args.exprs.now c.in-Some.text.now (sym all ∙ c.in-Some.ensures)))
    c.only_key.ensures
