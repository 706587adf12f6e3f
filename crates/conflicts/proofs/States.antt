-- One more step changes the state that a history leaves by the step alone.
use Rattle.std.specs.Prelude.{◌≡◌, List, [], ◌∷◌, ◌++◌, None, refl}
use Rattle.std.specs.List.{flat_map}
use Rattle.std.proofs.Common.{sym, ◌∙◌, ap, append-nil, append_assoc}
use Rattle.vector_rev.specs.Counts.{Uid}
use Rattle.conflicts.specs.Lists.{last_or}
use Rattle.conflicts.specs.Document.{document_of}
use Rattle.conflicts.specs.State.{Text, Step, History, accepts_in, entries_in, positions_in, indexes_in, state_of}
use Rattle.conflicts.specs.State.{after, after_all}
use Rattle.conflicts.specs.Laws.{StateGoesOn}
use Rattle.conflicts.proofs.Documents.{document_of-append}

pub flat_map-push : {X A : Type 0} (f : X → List A) (xs : List X) (x : X)
    → flat_map f (xs ++ x ∷ []) ≡ flat_map f xs ++ f x
flat_map-push f [] x = append-nil (f x)
flat_map-push f (y ∷ xs) x = ap (λ r. f y ++ r) (flat_map-push f xs x) ∙ sym (append_assoc (f y) (flat_map f xs) (f x))

last_or-append : {A : Type 0} (a : A) (xs ys : List A) → last_or a (xs ++ ys) ≡ last_or (last_or a xs) ys
last_or-append a [] ys = refl
last_or-append a (x ∷ xs) ys = last_or-append x xs ys

state_of-push : (name : Text) (uid : Uid) (h : History) (x : Step)
    → state_of name uid (h ++ x ∷ []) ≡ after (state_of name uid h) x
state_of-push name uid h x = λ i. record {
  name = name;
  uid = uid;
  document = λ d. (ap document_of (flat_map-push (accepts_in d) h x)
      ∙ document_of-append (flat_map (accepts_in d) h) (accepts_in d x)) i;
  log = flat_map-push entries_in h x i;
  position = λ t u. (ap (last_or None) (flat_map-push (positions_in t u) h x)
      ∙ last_or-append None (flat_map (positions_in t u) h) (positions_in t u x)) i;
  index = λ n. (ap (last_or None) (flat_map-push (indexes_in n) h x)
      ∙ last_or-append None (flat_map (indexes_in n) h) (indexes_in n x)) i;
}

state_of-append : (name : Text) (uid : Uid) (h later : History)
    → state_of name uid (h ++ later) ≡ after_all (state_of name uid h) later
state_of-append name uid h [] = ap (state_of name uid) (append-nil h)
state_of-append name uid h (x ∷ later) =
    ap (state_of name uid) (sym (append_assoc h (x ∷ []) later))
    ∙ state_of-append name uid (h ++ x ∷ []) later
    ∙ ap (λ s. after_all s later) (state_of-push name uid h x)

pub goes_on : StateGoesOn
goes_on = record { step = state_of-push; steps = state_of-append }
