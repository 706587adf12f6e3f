-- A walk through entries from a place on, up to the first that is not taken.
use Rattle.std.proofs.Common.{◌≡◌, ℕ, ◌+◌, ◌≤◌, Bool, true, false, cond, List, [], ◌∷◌, ◌++◌, length, map, drop, zero}
use Rattle.std.proofs.Common.{suc, refl, sym, ◌∙◌, ap, ap₂, arith, add-one, Bor, Some, None}
use Rattle.std.proofs.lemmas.List.{append-nil, append_assoc, length-append, map-append}
use Rattle.std.proofs.lemmas.List.Sums.{take_while-cons}
use Rattle.std.specs.List.{slice_get, take_while}
use Rattle.index_tables.specs.Order.{Entry}

-- what stands at a place, and behind it
pub from_place : {X : Type 0} (xs : List X) (n : ℕ) (x : X) → Some x ≡ slice_get xs n → drop n xs ≡ x ∷ drop (n + 1) xs
from_place xs n x at = here xs n x at ∙ ap (λ (m : ℕ). x ∷ drop m xs) (sym (add-one n))
  where
    here : {X : Type 0} (xs : List X) (n : ℕ) (x : X) → Some x ≡ slice_get xs n → drop n xs ≡ x ∷ drop (suc n) xs
    here [] n x at = absurd (cc)
    here (y ∷ xs) zero x at = let same : x ≡ y = (cc) in ap (λ (z : _). z ∷ xs) (sym same)
    here (y ∷ xs) (suc n) x at = here xs n x at

pub none_from : {X : Type 0} (xs : List X) (n : ℕ) → None ≡ slice_get xs n → drop n xs ≡ []
none_from [] zero at = refl
none_from [] (suc n) at = refl
none_from (y ∷ xs) zero at = absurd (cc)
none_from (y ∷ xs) (suc n) at = none_from xs n at

abbrev pub ids_of : List Entry → List (List ℕ)
ids_of entries = map (λ entry. entry.1) entries

abbrev pub told : List (Bor (List ℕ)) → List (List ℕ)
told found = map (λ id. id.now) found

-- the entries from the first place to this one are taken, and their ids found. Each was looked at once
pub record Walked (test : Entry → Bool) (entries : List Entry) (start place : ℕ) (found : List (Bor (List ℕ)))
    (begun now : ℕ) : Type 0 where
  pub taken : List Entry
  pub split : take_while test (drop start entries) ≡ taken ++ take_while test (drop place entries)
  pub ids : told found ≡ ids_of taken
  pub looks : now ≤ begun + length taken

module _ (test : Entry → Bool) (entries : List Entry) (start place : ℕ) (found : List (Bor (List ℕ))) (begun now : ℕ)
    (walked : Walked test entries start place found begun now) where
  -- nothing more is taken
  pub walk_ends : take_while test (drop place entries) ≡ [] → told found ≡ ids_of (take_while test (drop start entries))
  walk_ends ends = walked.ids
      ∙ ap ids_of (sym (walked.split ∙ ap (λ (l : List Entry). walked.taken ++ l) ends ∙ append-nil walked.taken))

  pub past_end : drop place entries ≡ [] → take_while test (drop place entries) ≡ []
  past_end none = ap (take_while test) none

  module _ (entry : Entry) (at : Some entry ≡ slice_get entries place) where
    split_off : take_while test (drop place entries)
        ≡ cond (test entry) (entry ∷ take_while test (drop (place + 1) entries)) []
    split_off = ap (take_while test) (from_place entries place entry at)
        ∙ take_while-cons test entry (drop (place + 1) entries)

    pub refused : test entry ≡ false → take_while test (drop place entries) ≡ []
    refused fails = split_off ∙ ap (λ (b : Bool). cond b (entry ∷ take_while test (drop (place + 1) entries)) []) fails

    -- one entry more is taken
    pub took : test entry ≡ true → (id : Bor (List ℕ)) → id.now ≡ entry.1 → (after : List (Bor (List ℕ)))
        → after ≡ found ++ id ∷ [] → (later : ℕ) → later ≤ now + 1
        → Walked test entries start (place + 1) after begun later
    took passes id id_is after pushed later step = record {
      taken = walked.taken ++ entry ∷ [];
      split =
          walked.split
          ∙ ap (λ (l : List Entry). walked.taken ++ l)
          (split_off ∙ ap (λ (b : Bool). cond b (entry ∷ take_while test (drop (place + 1) entries)) []) passes)
          ∙ sym (append_assoc walked.taken (entry ∷ []) (take_while test (drop (place + 1) entries)));
      ids =
          ap told pushed
          ∙ map-append (λ (i : Bor (List ℕ)). i.now) found (id ∷ [])
          ∙ ap₂ (λ (l : List (List ℕ)) (i : List ℕ). l ++ i ∷ []) walked.ids id_is
          ∙ sym (map-append (λ (e : Entry). e.1) walked.taken (entry ∷ []));
      looks = omega (arith, walked.looks, step, length-append walked.taken (entry ∷ []));
    }
