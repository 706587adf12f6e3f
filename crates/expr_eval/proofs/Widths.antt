-- Each key has one text of each expression.
use Rattle.std.proofs.Common.{◌≡◌, ℕ, suc, List, [], ◌∷◌, length, map, refl, ap, subst}
use Rattle.std.proofs.lemmas.List.{length-map}
use Rattle.std.proofs.lemmas.List.Elements.{All-nil, All-cons, All-append, All-map, All-take, All-weaker}
use Rattle.std.specs.List.{All, flat_map}
use Rattle.content.specs.Tree.{Tree}
use Rattle.expr_parser.specs.Forms.{Form}
use Rattle.expr_eval.specs.Keys.{key_texts, keys_of, most, tuples}
use Rattle.expr_eval.specs.Values.{texts_of}

abbrev Texts : Type 0
Texts = List (List ℕ)

abbrev HaveWidth : ℕ → List Texts → Type 0
HaveWidth n keys = All (λ (key : Texts). length key ≡ n) keys

abbrev before_each : List ℕ → List Texts → List Texts
before_each x ts = map (λ (t : Texts). x ∷ t) ts

wider : (n : ℕ) (x : List ℕ) (ts : List Texts) → HaveWidth n ts → HaveWidth (suc n) (before_each x ts)
wider n x ts all =
    All-map (λ (t : Texts). length t ≡ suc n) (λ (t : Texts). x ∷ t) ts
    (All-weaker (λ (t : Texts). length t ≡ n) (λ (t : Texts). suc (length t) ≡ suc n) (λ t e. ap suc e) ts all)

wider_each : (n : ℕ) (ts : List Texts) → HaveWidth n ts → (texts : Texts)
    → HaveWidth (suc n) (flat_map (λ (x : List ℕ). before_each x ts) texts)
wider_each n ts all [] = All-nil (λ (t : Texts). length t ≡ suc n)
wider_each n ts all (x ∷ texts) =
    All-append (λ (t : Texts). length t ≡ suc n) (before_each x ts) (flat_map (λ (y : List ℕ). before_each y ts) texts)
    (wider n x ts all) (wider_each n ts all texts)

tuples-width : (lists : List Texts) → HaveWidth (length lists) (tuples lists)
tuples-width [] = All-cons (λ (t : Texts). length t ≡ 0) [] [] refl (All-nil (λ (t : Texts). length t ≡ 0))
tuples-width (texts ∷ lists) = wider_each (length lists) (tuples lists) (tuples-width lists) texts

pub keys_of-width : (forms : List Form) (tree : Tree)
    → All (λ (key : Texts). length key ≡ length forms) (keys_of forms tree)
keys_of-width forms tree =
    let lists = map (λ f. key_texts (texts_of f tree)) forms in
    subst (λ (n : ℕ). HaveWidth n (keys_of forms tree)) (length-map forms (λ f. key_texts (texts_of f tree)))
    (All-take (λ (key : Texts). length key ≡ length lists) most (tuples lists) (tuples-width lists))
