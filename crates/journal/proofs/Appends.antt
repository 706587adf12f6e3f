-- What the two writes of an append leave, whole or torn, of one entry or of many.
use Rattle.std.proofs.Common.{◌≡◌, ◌≢◌, ℕ, ◌+◌, ◌<◌, ◌≤◌, ◌⊎◌, inl, inr, ⊎_elim, false, List, [], ◌∷◌, ◌++◌, length}
use Rattle.std.proofs.Common.{get_or, set, take, drop, sym, ◌∙◌, ap, subst, arith, length-append, length-take}
use Rattle.std.proofs.Common.{length-set, get_or-set_same, get_or-set_other}
use Rattle.std.proofs.lemmas.List.{ext_get_or, get_or-take, take_at, drop_at, take-append-drop, append-nil}
use Rattle.std.proofs.lemmas.List.{append_assoc, drop-drop}
use Rattle.std.proofs.lemmas.List.{set_at}
use Rattle.std.proofs.lemmas.Bool.{cases_eq}
use Rattle.std.proofs.lemmas.Bool.Decides.{nat_tests}
use Rattle.disk_model.specs.Disk.{Torn, is_touched, overwritten}
use Rattle.journal.specs.Image.{Head, AreBodies, ReadsAs, ReadsWithOrWithoutAll, IsBody, body_field, entries, entry}
use Rattle.journal.specs.Image.{up_to_gate}
use Rattle.journal.specs.inner.Adding.{IsAdding}
use Rattle.journal.proofs.Entries.{AreBodies-append, up_to_gate-append}

outside : (at n k : ℕ) → (k < at) ⊎ (at + n ≤ k) → is_touched ((at, n) ∷ []) k ≡ false
outside at n k (inl h) = grind (arith, nat_tests)
outside at n k (inr h) = grind (arith, nat_tests)

-- a torn write leaves what stands before it
pub torn_before : (at n : ℕ) (old new : List ℕ) → at ≤ length old → Torn at n old new → take at new ≡ take at old
torn_before at n old new h t =
    let long : length (take at new) ≡ at = omega (arith, length-take at new, t.no_shorter) in
    ext_get_or 0 (take at new) (take at old) (omega (arith, long, length-take at old))
    (λ k l. let low : k < at = omega (arith, l, long) in
    get_or-take at new k 0 low ∙ t.same k (omega (arith, low, h)) (outside at n k (inl low))
    ∙ sym (get_or-take at old k 0 low))

-- a torn write of one byte leaves all others
pub torn_one : (at : ℕ) (old new : List ℕ) → at < length old → Torn at 1 old new → new ≡ set old at (get_or new at 0)
torn_one at old new h t =
    let size : length new ≡ length old = omega (arith, t.no_shorter, t.no_longer) in
    ext_get_or 0 new (set old at (get_or new at 0)) (size ∙ sym (length-set old at (get_or new at 0)))
    (λ k l. ⊎_elim
    (λ e. ap (λ (i : ℕ). get_or new i 0) e ∙ sym (get_or-set_same old at (get_or new at 0) 0 h)
    ∙ ap (λ (i : ℕ). get_or (set old at (get_or new at 0)) i 0) (sym e))
    (λ ne. t.same k (omega (arith, l, size)) (apart at k ne) ∙ sym (get_or-set_other old at k (get_or new at 0) 0 ne))
    (cases_eq k at))
  where
    apart : (a k : ℕ) → k ≢ a → is_touched ((a, 1) ∷ []) k ≡ false
    apart a k ne = grind (arith, nat_tests)

-- the gate stands at the place
pub gate_one : (f : List ℕ) (g : ℕ) (t new : List ℕ) (at : ℕ) → length f ≡ at → Torn at 1 (f ++ g ∷ t) new
    → new ≡ f ++ get_or new at 0 ∷ t
gate_one f g t new at size torn =
    torn_one at (f ++ g ∷ t) new (omega (arith, length-append f (g ∷ t), size)) torn
    ∙ set_at f g t (get_or new at 0) at size

overwritten_gate : (f : List ℕ) (g h : ℕ) (t : List ℕ) (at : ℕ) → length f ≡ at
    → overwritten (f ++ g ∷ t) at (h ∷ []) ≡ f ++ h ∷ t
overwritten_gate f g h t at size =
    let front_is : take at (f ++ g ∷ t) ≡ f = take_at f (g ∷ t) at size in
    let rest_is : drop (at + 1) (f ++ g ∷ t) ≡ t =
    ap (drop (at + 1)) (sym (append_assoc f (g ∷ []) t))
    ∙ drop_at (f ++ g ∷ []) t (at + 1) (omega (arith, length-append f (g ∷ []), size)) in
    ap (λ (l : List ℕ). l ++ h ∷ [] ++ drop (at + 1) (f ++ g ∷ t)) front_is
    ∙ ap (λ (l : List ℕ). f ++ h ∷ [] ++ l) rest_is ∙ append_assoc f (h ∷ []) t

overwritten_behind : (f : List ℕ) (g : ℕ) (t piece : List ℕ) (at : ℕ) → length f ≡ at
    → overwritten (f ++ g ∷ t) (at + 1) piece ≡ f ++ g ∷ (piece ++ drop (length piece) t)
overwritten_behind f g t piece at size =
    let n = length piece in
    let regroup : f ++ g ∷ t ≡ (f ++ g ∷ []) ++ t = sym (append_assoc f (g ∷ []) t) in
    let long : length (f ++ g ∷ []) ≡ at + 1 = omega (arith, length-append f (g ∷ []), size) in
    let front_is : take (at + 1) (f ++ g ∷ t) ≡ f ++ g ∷ [] = ap (take (at + 1)) regroup
    ∙ take_at (f ++ g ∷ []) t (at + 1) long in
    let rest_is : drop (at + 1 + n) (f ++ g ∷ t) ≡ drop n t =
    sym (drop-drop n (at + 1) (f ++ g ∷ t))
    ∙ ap (drop n) (ap (drop (at + 1)) regroup ∙ drop_at (f ++ g ∷ []) t (at + 1) long) in
    ap (λ (l : List ℕ). l ++ piece ++ drop (at + 1 + n) (f ++ g ∷ t)) front_is
    ∙ ap (λ (l : List ℕ). f ++ g ∷ [] ++ piece ++ l) rest_is
    ∙ append_assoc (f ++ g ∷ []) piece (drop n t) ∙ append_assoc f (g ∷ []) (piece ++ drop n t)

-- the bytes behind a closed gate are nothing to the reader
pub torn_behind : (format : ℕ) (head : Head) (bodies : List (List ℕ)) (file image : List ℕ) (gate n : ℕ)
    → ReadsAs format head bodies file
    → length (up_to_gate format head bodies) ≡ gate → Torn (gate + 1) n file image → ReadsAs format head bodies image
torn_behind format head bodies file image gate n r size t =
    let f = up_to_gate format head bodies in
    let regroup : file ≡ (f ++ r.gate ∷ []) ++ r.rest = r.split ∙ sym (append_assoc f (r.gate ∷ []) r.rest) in
    let long : length (f ++ r.gate ∷ []) ≡ gate + 1 = omega (arith, length-append f (r.gate ∷ []), size) in
    let fits : gate + 1 ≤ length file = omega (arith, ap length regroup, length-append (f ++ r.gate ∷ []) r.rest, long)
    in
    let same : take (gate + 1) image ≡ f ++ r.gate ∷ [] =
    torn_before (gate + 1) n file image fits t ∙ ap (take (gate + 1)) regroup
    ∙ take_at (f ++ r.gate ∷ []) r.rest (gate + 1) long in
    record {
      gate = r.gate;
      rest = drop (gate + 1) image;
      header = r.header;
      fit = r.fit;
      shut = r.shut;
      split = sym (take-append-drop (gate + 1) image) ∙ ap (λ (l : List ℕ). l ++ drop (gate + 1) image) same
          ∙ append_assoc f (r.gate ∷ []) (drop (gate + 1) image);
    }

-- the entries behind the gate that is open
with_bodies : (format : ℕ) (head : Head) (bodies more : List (List ℕ)) (file image piece rest : List ℕ)
    → ReadsAs format head bodies file → AreBodies more → 1 ∷ piece ≡ entries more ++ 0 ∷ []
    → image ≡ up_to_gate format head bodies ++ 1 ∷ (piece ++ rest) → ReadsAs format head (bodies ++ more) image
with_bodies format head bodies more file image piece rest r are spelled e =
    let f = up_to_gate format head bodies in
    record {
      gate = 0;
      rest = rest;
      header = r.header;
      fit = AreBodies-append bodies more r.fit are;
      shut = λ z. cc z;
      split = e ∙ ap (λ (l : List ℕ). f ++ (l ++ rest)) spelled
          ∙ ap (λ (l : List ℕ). f ++ l) (append_assoc (entries more) (0 ∷ []) rest)
          ∙ sym (append_assoc f (entries more) (0 ∷ rest))
          ∙ ap (λ (l : List ℕ). l ++ 0 ∷ rest) (sym (up_to_gate-append format head bodies more));
    }

written_behind : (format : ℕ) (head : Head) (bodies : List (List ℕ)) (file piece : List ℕ) (gate : ℕ)
    (r : ReadsAs format head bodies file)
    → length (up_to_gate format head bodies) ≡ gate
    → overwritten file (gate + 1) piece ≡ up_to_gate format head bodies
    ++ r.gate ∷ (piece ++ drop (length piece) r.rest)
written_behind format head bodies file piece gate r size =
    ap (λ (l : List ℕ). overwritten l (gate + 1) piece) r.split
    ∙ overwritten_behind (up_to_gate format head bodies) r.gate r.rest piece gate size

-- the gate is open then, or it is not
torn_gate : (format : ℕ) (head : Head) (bodies more : List (List ℕ)) (file image piece : List ℕ) (gate : ℕ)
    → ReadsAs format head bodies file → AreBodies more → 1 ∷ piece ≡ entries more ++ 0 ∷ []
    → length (up_to_gate format head bodies) ≡ gate → Torn gate 1 (overwritten file (gate + 1) piece) image
    → ReadsWithOrWithoutAll more format head bodies image
torn_gate format head bodies more file image piece gate r are spelled size t =
    let f = up_to_gate format head bodies in let tail = piece ++ drop (length piece) r.rest in
    let image_is : image ≡ f ++ get_or image gate 0 ∷ tail =
    gate_one f r.gate tail image gate size
    (subst (λ (l : List ℕ). Torn gate 1 l image) (written_behind format head bodies file piece gate r size) t) in
    ⊎_elim
    (λ e. inr (with_bodies format head bodies more file image piece (drop (length piece) r.rest) r are spelled
    (image_is ∙ ap (λ (g : ℕ). f ++ g ∷ tail) e)))
    (λ ne. inl (record {
      gate = get_or image gate 0;
      rest = tail;
      header = r.header;
      fit = r.fit;
      shut = ne;
      split =
          image_is;
    }))
    (cases_eq (get_or image gate 0) 1)

-- both writes whole
pub all_added : (format : ℕ) (head : Head) (bodies more : List (List ℕ)) (file new piece : List ℕ) (gate : ℕ)
    → ReadsAs format head bodies file → AreBodies more → 1 ∷ piece ≡ entries more ++ 0 ∷ []
    → length (up_to_gate format head bodies) ≡ gate
    → new ≡ overwritten (overwritten file (gate + 1) piece) gate (1 ∷ [])
    → ReadsAs format head (bodies ++ more) new
all_added format head bodies more file new piece gate r are spelled size e =
    let f = up_to_gate format head bodies in let rest = drop (length piece) r.rest in
    with_bodies format head bodies more file new piece rest r are spelled
    (e ∙ ap (λ (l : List ℕ). overwritten l gate (1 ∷ [])) (written_behind format head bodies file piece gate r size)
    ∙ overwritten_gate f r.gate 1 (piece ++ rest) gate size)

-- what may be left on the way
pub all_or_none : (format : ℕ) (head : Head) (bodies more : List (List ℕ)) (file piece : List ℕ) (gate : ℕ)
    → ReadsAs format head bodies file → AreBodies more → 1 ∷ piece ≡ entries more ++ 0 ∷ []
    → length (up_to_gate format head bodies) ≡ gate → (image : List ℕ) → IsAdding gate piece file image
    → ReadsWithOrWithoutAll more format head bodies image
all_or_none format head bodies more file piece gate r are spelled size image a =
    ⊎_elim (λ t. inl (torn_behind format head bodies file image gate (length piece) r size t))
    (λ t. torn_gate format head bodies more file image piece gate r are spelled size t) a

-- ---- one entry

one_entry : (body piece : List ℕ) → piece ≡ body_field body ++ 0 ∷ []
    → 1 ∷ piece ≡ entries (body ∷ []) ++ 0 ∷ []
one_entry body piece p =
    ap (λ (l : List ℕ). 1 ∷ l) p ∙ ap (λ (l : List ℕ). l ++ 0 ∷ []) (sym (append-nil (entry body)))

pub was_added : (format : ℕ) (head : Head) (bodies : List (List ℕ)) (body file new piece : List ℕ) (gate : ℕ)
    → ReadsAs format head bodies file → IsBody body
    → length (up_to_gate format head bodies) ≡ gate → piece ≡ body_field body ++ 0 ∷ []
    → new ≡ overwritten (overwritten file (gate + 1) piece) gate (1 ∷ [])
    → ReadsAs format head (bodies ++ body ∷ []) new
was_added format head bodies body file new piece gate r is size p e =
    all_added format head bodies (body ∷ []) file new piece gate r (is, tt) (one_entry body piece p) size e

pub is_adding : (format : ℕ) (head : Head) (bodies : List (List ℕ)) (body file piece : List ℕ) (gate : ℕ)
    → ReadsAs format head bodies file → IsBody body
    → length (up_to_gate format head bodies) ≡ gate → piece ≡ body_field body ++ 0 ∷ [] → (image : List ℕ)
    → IsAdding gate piece file image
    → ReadsAs format head bodies image ⊎ ReadsAs format head (bodies ++ body ∷ []) image
is_adding format head bodies body file piece gate r is size p image a =
    all_or_none format head bodies (body ∷ []) file piece gate r (is, tt) (one_entry body piece p) size image a
