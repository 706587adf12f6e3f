-- The front is a key where no list is left; else it is longer by each text of the next list in turn.
use Rattle.std.proofs.Common.{◌≡◌, ◌≤◌, ◌+◌, ℕ, List, [], ◌∷◌, ◌++◌, Bor, Vec, Global, length, map, take, drop, get_or}
use Rattle.std.proofs.Common.{refl, sym, ap, ◌∙◌, arith}
use Rattle.std.proofs.lemmas.List.{map-append, nil_from_length, take-append-drop, take_more}
use Rattle.expr_eval.specs.Keys.{most}
use Rattle.expr_eval.specs.inner.Lent.{behind, lent}
use Rattle.expr_eval.proofs.Places.{lent-push}
use Rattle.expr_eval.proofs.Products.{last_of_front, none_taken, popped, taken_enough, taken_few, taken_more}
use Rattle.expr_eval.proofs.product.+product.Goals as goal

abbrev lists_of : List (Vec (Bor (List ℕ)) Global) → List (List (List ℕ))
lists_of lists = map (λ (list : Vec (Bor (List ℕ)) Global). lent list.items) lists

pub add_keys-returns-in_ok-add_key-in-None-clause-keys :
    goal.add_keys-returns-in_ok-add_key-in-None-clause-keys
add_keys-returns-in_ok-add_key-in-None-clause-keys t c =
    let none : lists_of c.args.lists.now ≡ [] = ap lists_of (nil_from_length c.args.lists.now c.in-None.ensures.cases)
    in
    c.in_ok-add_key-in-None.ensures
    ∙ (ap (λ (f : List (Bor (List ℕ))). c.args.keys.now ++ lent f ∷ []) c.deref.ensures.value
    ∙ last_of_front most c.args.keys.now (lists_of c.args.lists.now) (lent c.args.front.now.items) none c.requires.room)

pub add_keys_of_each-loop-text-init : goal.add_keys_of_each-loop-text-init
add_keys_of_each-loop-text-init t c = record {
  front = refl;
  few = c.requires.room;
  keys = none_taken most c.args.keys.now (lists_of c.args.others.now) (lent c.args.front.now.items) c.requires.room;
}

pub add_keys_of_each-returns-then-len-ge-MOST_DOCUMENT_KEYS-clause-keys :
    goal.add_keys_of_each-returns-then-len-ge-MOST_DOCUMENT_KEYS-clause-keys
add_keys_of_each-returns-then-len-ge-MOST_DOCUMENT_KEYS-clause-keys t c =
    let texts = c.args.texts.now in
    let i = c.loop-text.text-index in
    let enough : most ≤ length c.loop-text.keys = omega arith in
    let whole : lent (take i texts) ++ lent (drop i texts) ≡ lent texts =
    sym (map-append (λ (text : Bor (List ℕ)). text.now) (take i texts) (drop i texts))
    ∙ ap lent (take-append-drop i texts) in
    taken_enough most (lent c.args.front.now.items) (lent (take i texts)) (lent (drop i texts))
    (lists_of c.args.others.now) c.args.keys.now c.loop-text.keys c.loop-text.invariant.keys enough
    ∙ ap (λ (l : List (List ℕ)). take most
    (c.args.keys.now ++ behind (lent c.args.front.now.items) (l ∷ lists_of c.args.others.now))) whole

pub add_keys_of_each-loop-text-preserved : goal.add_keys_of_each-loop-text-preserved
add_keys_of_each-loop-text-preserved t c =
    let texts = c.args.texts.now in
    let i = c.loop-text.text-index in
    let none : Bor (List ℕ) = record { ref_ptr = (0, 0); now = [] } in
    let text : Bor (List ℕ) = get_or texts i none in
    let front = lent c.args.front.now.items in
    let others = lists_of c.args.others.now in
    let longer : lent c.push.new.self.items ≡ front ++ text.now ∷ [] =
    ap lent c.in_ok-push.ensures.items ∙ (lent-push c.loop-text.front.items text
    ∙ ap (λ (l : List (Bor (List ℕ))). lent l ++ text.now ∷ []) c.loop-text.invariant.front) in
    let next : c.add_keys.new.keys ≡ take most (c.loop-text.keys ++ behind (front ++ text.now ∷ []) others) =
    c.in_ok-add_keys.ensures.keys ∙ ap (λ (f : List (List ℕ)). take most (c.loop-text.keys ++ behind f others)) longer
    in
    let more : lent (take i texts) ++ text.now ∷ [] ≡ lent (take (i + 1) texts) =
    sym (ap lent (take_more texts i none c.loop-text-test.true) ∙ lent-push (take i texts) text) in
    record {
      front = popped c.add_keys.new.front c.loop-text.front.items c.pop.new.self.items text
          (c.in_ok-add_keys.ensures.front ∙ c.in_ok-push.ensures.items) c.pop.ensures.rest
          ∙ c.loop-text.invariant.front;
      few = taken_few most c.add_keys.new.keys (c.loop-text.keys ++ behind (front ++ text.now ∷ []) others) next;
      keys = taken_more most front (lent (take i texts)) text.now others c.args.keys.now c.loop-text.keys
          c.add_keys.new.keys c.loop-text.invariant.keys next
          ∙ ap (λ (l : List (List ℕ)). take most (c.args.keys.now ++ behind front (l ∷ others))) more;
    }
