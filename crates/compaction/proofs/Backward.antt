-- One pass from the last step to the first makes the compaction.
use Rattle.std.proofs.Common.{◌≡◌, List, [], ◌∷◌, ◌++◌, map, reverse, Option, Some, None, refl, sym, ap, ◌∙◌}
use Rattle.std.proofs.Common.{append-nil, append_assoc}
use Rattle.std.specs.Prelude.{option_map}
use Rattle.std.specs.Option.{option_to_list}
use Rattle.std.proofs.lemmas.List.{map-append, reverse-append}
use Rattle.conflicts.specs.State.{History, State}
use Rattle.replica_state.specs.Steps.{step_of}
use Rattle.replica_state.specs.declared.step.Step.{Step as Held}
use Rattle.compaction.specs.Compaction.{Later, later_in, nothing_later, left, compacted}
use Rattle.compaction.specs.inner.Noted.{with_step, with_steps, backward}
use Rattle.compaction.proofs.Repeated.{left_same}

-- ---- the definition

turned : History → History → History
turned [] out = out
turned (x ∷ xs) out = turned xs (x ∷ out)

turned-reverse : (xs out : History) → turned xs out ≡ reverse xs ++ out
unfolding turned
turned-reverse [] out = refl
turned-reverse (x ∷ xs) out =
    turned-reverse xs (x ∷ out)
    ∙ sym (append_assoc (reverse xs) (x ∷ []) out)
    ∙ ap (λ (l : History). l ++ out) (sym (reverse-append (x ∷ []) xs))

reverse-twice : (xs : History) → reverse (reverse xs) ≡ xs
reverse-twice [] = refl
reverse-twice (x ∷ xs) =
    ap (λ (l : History). reverse l) (reverse-append (x ∷ []) xs)
    ∙ reverse-append (reverse xs) (x ∷ [])
    ∙ ap (λ (l : History). x ∷ l) (reverse-twice xs)

with_steps_is : (xs ys : History) → with_steps xs (later_in ys) ≡ later_in (xs ++ ys)
with_steps_is [] ys = refl
with_steps_is (x ∷ xs) ys = ap (with_step x) (with_steps_is xs ys)

-- it is enough to note what is left
pass : (s : State) (rs ys : History)
    → backward s (later_in (compacted s ys)) rs (compacted s ys) ≡ compacted s (turned rs ys)
unfolding turned
pass s [] ys = refl
pass s (x ∷ rs) ys =
    (λ i. backward s (with_steps (left_same s x ys i) (later_in (compacted s ys))) rs
    (left_same s x ys i ++ compacted s ys))
    ∙ ap (λ l. backward s l rs (compacted s (x ∷ ys))) (with_steps_is (left s (later_in ys) x) (compacted s ys))
    ∙ pass s rs (x ∷ ys)

-- before the first step of the pass
pub begun : (s : State) (l : Later) (h : History) → l ≡ nothing_later → backward s l (reverse h) [] ≡ compacted s h
begun s l h nothing =
    ap (λ k. backward s k (reverse h) []) nothing
    ∙ pass s (reverse h) []
    ∙ ap (compacted s) (turned-reverse (reverse h) [] ∙ append-nil (reverse (reverse h)) ∙ reverse-twice h)

-- ---- the code's lists

abbrev pub steps_of : List Held → History
steps_of xs = map step_of xs

-- what is still to do of these steps, with what is left so far, the last one first
abbrev pub goes_to : State → Later → List Held → List Held → History
goes_to s l steps found = backward s l (reverse (steps_of steps)) (steps_of (reverse found))

taken_last : (rest steps : List Held) (x : Held) → steps ≡ rest ++ x ∷ []
    → reverse (steps_of steps) ≡ step_of x ∷ reverse (steps_of rest)
taken_last rest steps x is =
    ap (λ (l : List Held). reverse (steps_of l)) is
    ∙ ap (λ (l : History). reverse l) (map-append step_of rest (x ∷ []))
    ∙ reverse-append (steps_of rest) (step_of x ∷ [])

put_front : (found more : List Held) (o : Option Held) → more ≡ found ++ option_to_list o
    → steps_of (reverse more) ≡ option_to_list (option_map step_of o) ++ steps_of (reverse found)
put_front found more (Some y) is = ap (λ (l : List Held). steps_of (reverse l)) is
    ∙ ap (λ (l : List Held). steps_of l) (reverse-append found (y ∷ []))
put_front found more None is = ap (λ (l : List Held). steps_of (reverse l)) (is ∙ append-nil found)

-- one step of the pass
pub one_more : (s : State) (l k : Later) (steps rest found more : List Held) (x : Held) (o : Option Held)
    (all : History) → steps ≡ rest ++ x ∷ [] → more ≡ found ++ option_to_list o
    → option_to_list (option_map step_of o) ≡ left s l (step_of x) → k ≡ with_steps (left s l (step_of x)) l
    → goes_to s l steps found ≡ all → goes_to s k rest more ≡ all
one_more s l k steps rest found more x o all is_steps is_more is_left is_noted before =
    (λ i. backward s (is_noted i) (reverse (steps_of rest)) (put_front found more o is_more i))
    ∙ ap (λ (w : History). backward s (with_steps (left s l (step_of x)) l) (reverse (steps_of rest))
    (w ++ steps_of (reverse found))) is_left
    ∙ ap (λ (rs : History). backward s l rs (steps_of (reverse found))) (sym (taken_last rest steps x is_steps))
    ∙ before

pub all_done : (s : State) (l : Later) (steps found made : List Held) (all : History) → steps ≡ []
    → made ≡ reverse found → goes_to s l steps found ≡ all → steps_of made ≡ all
all_done s l steps found made all none is before =
    ap steps_of is ∙ ap (λ (k : List Held). goes_to s l k found) (sym none) ∙ before
