-- Lists that are read one item after the other: what is read so far stands before what is read of the rest.
use Rattle.std.proofs.Common.{◌≡◌, ℕ, suc, ◌+◌, ◌<◌, ◌≤◌, List, [], ◌∷◌, ◌++◌, length, drop, get_or, Option, Some, None}
use Rattle.std.proofs.Common.{Result, Ok, Err, refl, sym, ap, ap₂, ◌∙◌, append_assoc, arith, drop-cons}
use Rattle.std.proofs.Common.{drop_of_length-le}
use Rattle.std.proofs.lemmas.List.{append-nil}
use Rattle.std.specs.Prelude.{option_map}
use Rattle.serde_json.specs.Data.{Data, Items, item}
use Rattle.serde_json.specs.Find.{as_str}
use Rattle.serde_json.specs.View.{view, items_view}
use Rattle.serde_json.specs.declared.value.Value.{Value}
use Rattle.cli_words.specs.Ends.{texts_in}
use Rattle.cli_words.specs.Word.{Word}
use Rattle.cli_words.specs.Operands.{each, with_one}
use Rattle.cli_words.specs.Parted.{joined, nothing, one, role_of, after, parted}
use Rattle.cli_words.specs.declared.fault.Refused.{Refused}
use Rattle.cli_words.specs.declared.parted.Next.{Next}
use Rattle.cli_words.specs.declared.parted.Parted.{Parted}
use Rattle.cli_words.specs.declared.parted.Role.{Role}

-- a list from the place of an item on
pub drop_here : {A : Type 0} (xs : List A) (i : ℕ) (x : A) → i < length xs → x ≡ get_or xs i x
    → drop i xs ≡ x ∷ drop (i + 1) xs
drop_here xs i x lt at =
    let next : suc i ≡ i + 1 = omega arith in
    drop-cons xs i x lt ∙ ap₂ (λ y k. y ∷ drop k xs) (sym at) next

-- ---- words that are each read

each_next : {A : Type 0} (reader : Word → Result A Refused) (found : List A) (w : Word) (ws : List Word) (x : A)
    → reader w ≡ Ok x
    → with_one (λ rest. found ++ rest) (each reader (w ∷ ws))
    ≡ with_one (λ rest. (found ++ x ∷ []) ++ rest) (each reader ws)
each_next {A} reader found w ws x read = rw read (go (each reader ws))
  where
    go : (rest : Result (List A) Refused)
        → with_one (λ more. found ++ more) (with_one (λ more. x ∷ more) rest)
        ≡ with_one (λ more. (found ++ x ∷ []) ++ more) rest
    go (Ok ys) = ap (λ zs. Ok zs) (sym (append_assoc found (x ∷ []) ys))
    go (Err refused) = refl

pub each_more : {A : Type 0} (reader : Word → Result A Refused) (found more : List A) (ws : List Word) (i : ℕ)
    (w : Word) (x : A)
    → i < length ws → w ≡ get_or ws i w → reader w ≡ Ok x → more ≡ found ++ x ∷ []
    → with_one (λ rest. found ++ rest) (each reader (drop i ws))
    ≡ with_one (λ rest. more ++ rest) (each reader (drop (i + 1) ws))
each_more reader found more ws i w x lt at read grown =
    ap (λ left. with_one (λ rest. found ++ rest) (each reader left)) (drop_here ws i w lt at)
    ∙ each_next reader found w (drop (i + 1) ws) x read
    ∙ ap (λ all. with_one (λ rest. all ++ rest) (each reader (drop (i + 1) ws))) (sym grown)

pub each_stops : {A : Type 0} (reader : Word → Result A Refused) (found : List A) (ws : List Word) (i : ℕ) (w : Word)
    (refused : Refused)
    → i < length ws → w ≡ get_or ws i w → reader w ≡ Err refused
    → with_one (λ rest. found ++ rest) (each reader (drop i ws)) ≡ Err refused
each_stops reader found ws i w refused lt at is_refused =
    ap (λ left. with_one (λ rest. found ++ rest) (each reader left)) (drop_here ws i w lt at) ∙ rw is_refused refl

pub each_ends : {A : Type 0} (reader : Word → Result A Refused) (found : List A) (ws : List Word) (i : ℕ)
    → length ws ≤ i
    → with_one (λ rest. found ++ rest) (each reader (drop i ws)) ≡ Ok found
each_ends reader found ws i past =
    ap (λ left. with_one (λ rest. found ++ rest) (each reader left)) (drop_of_length-le ws past)
    ∙ ap (λ ys. Ok ys) (append-nil found)

-- ---- the texts of a JSON list

texts_next : (found : List (List ℕ)) (d : Data) (ds : Items) (t : List ℕ) → as_str d ≡ Some t
    → option_map (λ rest. found ++ rest) (texts_in (item d ds))
    ≡ option_map (λ rest. (found ++ t ∷ []) ++ rest) (texts_in ds)
texts_next found d ds t is_text = rw is_text (go (texts_in ds))
  where
    go : (rest : Option (List (List ℕ)))
        → option_map (λ more. found ++ more) (option_map (λ more. t ∷ more) rest)
        ≡ option_map (λ more. (found ++ t ∷ []) ++ more) rest
    go (Some ys) = ap (λ zs. Some zs) (sym (append_assoc found (t ∷ []) ys))
    go None = refl

pub texts_more : (found more : List (List ℕ)) (vs : List Value) (i : ℕ) (v : Value) (t : List ℕ) → i < length vs
    → v ≡ get_or vs i v
    → as_str (view v) ≡ Some t → more ≡ found ++ t ∷ []
    → option_map (λ rest. found ++ rest) (texts_in (items_view (drop i vs)))
    ≡ option_map (λ rest. more ++ rest) (texts_in (items_view (drop (i + 1) vs)))
texts_more found more vs i v t lt at is_text grown =
    ap (λ left. option_map (λ rest. found ++ rest) (texts_in (items_view left))) (drop_here vs i v lt at)
    ∙ texts_next found (view v) (items_view (drop (i + 1) vs)) t is_text
    ∙ ap (λ all. option_map (λ rest. all ++ rest) (texts_in (items_view (drop (i + 1) vs)))) (sym grown)

pub texts_stop : (found : List (List ℕ)) (vs : List Value) (i : ℕ) (v : Value) → i < length vs → v ≡ get_or vs i v
    → as_str (view v) ≡ None → option_map (λ rest. found ++ rest) (texts_in (items_view (drop i vs))) ≡ None
texts_stop found vs i v lt at other =
    ap (λ left. option_map (λ rest. found ++ rest) (texts_in (items_view left))) (drop_here vs i v lt at)
    ∙ rw other refl

pub texts_end : (found : List (List ℕ)) (vs : List Value) (i : ℕ) → length vs ≤ i
    → option_map (λ rest. found ++ rest) (texts_in (items_view (drop i vs))) ≡ Some found
texts_end found vs i past =
    ap (λ left. option_map (λ rest. found ++ rest) (texts_in (items_view left))) (drop_of_length-le vs past)
    ∙ ap (λ ys. Some ys) (append-nil found)

-- ---- words that are parted

joined_assoc : (p q r : Parted) → joined (joined p q) r ≡ joined p (joined q r)
joined_assoc p q r = λ i. record {
  operands = append_assoc p.operands q.operands r.operands i;
  flags = append_assoc p.flags q.flags r.flags i;
  values = append_assoc p.values q.values r.values i;
}

pub joined_nothing : (p : Parted) → joined p nothing ≡ p
joined_nothing p = λ i. record {
  operands = append-nil p.operands i;
  flags = append-nil p.flags i;
  values = append-nil p.values i;
}

pub parted_more : (p : Parted) (next : Next) (words : List (List ℕ)) (place : ℕ) (text : List ℕ) → place < length words
    → text ≡ get_or words place text
    → joined (joined p (one (role_of next text) (place, text)))
    (parted (after next text) (place + 1) (drop (place + 1) words))
    ≡ joined p (parted next place (drop place words))
parted_more p next words place text lt at =
    joined_assoc p (one (role_of next text) (place, text))
    (parted (after next text) (place + 1) (drop (place + 1) words))
    ∙ ap (λ left. joined p (parted next place left)) (sym (drop_here words place text lt at))

pub parted_ends : (p : Parted) (next : Next) (words : List (List ℕ)) (place : ℕ) → length words ≤ place
    → joined p (parted next place (drop place words)) ≡ p
parted_ends p next words place past =
    ap (λ left. joined p (parted next place left)) (drop_of_length-le words past) ∙ joined_nothing p

-- one word more, by what the code makes of it
pub part_step : (p p' : Parted) (next next' : Next) (words : List (List ℕ)) (place : ℕ) (text : List ℕ) (role : Role)
    (word : Word) (whole : Parted)
    → place < length words → text ≡ get_or words place text → role ≡ role_of next text → word ≡ (place, text)
    → p' ≡ joined p (one role word) → next' ≡ after next text → joined p (parted next place (drop place words)) ≡ whole
    → joined p' (parted next' (place + 1) (drop (place + 1) words)) ≡ whole
part_step p p' next next' words place text role word whole lt at role_is word_is added next_is so_far =
    let grown : p' ≡ joined p (one (role_of next text) (place, text)) = added
    ∙ ap₂ (λ r w. joined p (one r w)) role_is word_is in
    ap₂ (λ q n. joined q (parted n (place + 1) (drop (place + 1) words))) grown next_is
    ∙ parted_more p next words place text lt at ∙ so_far
