-- The walk backward over a log that finds the last entries.
use Rattle.std.proofs.Common.{◌≡◌, ℕ, zero, suc, ◌+◌, ◌-◌, ◌<◌, ◌≤◌, ◌⊎◌, Bool, true, false, cond, not, ◌&&◌, ◌||◌}
use Rattle.std.proofs.Common.{List, [], ◌∷◌, ◌++◌, length, get_or, drop, reverse, refl, sym, ◌∙◌, ap, ap₂, subst, arith}
use Rattle.std.proofs.Common.{inl, inr, ltb, lt-ltb, le-ltb, nat_cmp, Bor, Ordering}
use Rattle.std.specs.Prelude.{filter}
use Rattle.std.specs.List.{list_any}
use Rattle.std.specs.Cmp.Lexicographic.{slice_cmp}
use Rattle.std.specs.BTreeSet.{BTreeSet, contains, Updates}
use Rattle.std.proofs.lemmas.List.{drop_more, drop_all, reverse-append}
use Rattle.u1_base.specs.Ids.{same_id}
use Rattle.u1_base.proofs.SameIds.{same_id-comm}
use Rattle.translog.specs.declared.entry.Entry.{Entry}
use Rattle.translog.specs.declared.entry.Change.{Change}
use Rattle.translog.specs.Entries.{change_at, numbered, is_last, changes_since}

-- the order of the texts in the set
abbrev pub text_cmp : Bor (List ℕ) → Bor (List ℕ) → Ordering
text_cmp x y = slice_cmp nat_cmp x.now y.now

-- the documents of the entries from a place on are in the set, and the changes found are the last entries among them,
-- the latest first
pub record Walked (es : List Entry) (g place : ℕ) (later : BTreeSet (Bor (List ℕ))) (found : List Change) : Type 0 where
  pub start : (place ≡ length es) ⊎ (g ≤ place)
  pub within : place ≤ length es
  pub seen : (q : Bor (List ℕ)) → contains text_cmp later q ≡ list_any (λ e. same_id q.now e.doc) (drop place es)
  pub last : reverse found ≡ filter (is_last es) (numbered (place + 1) (drop place es))

or_cond : (b x : Bool) → cond b true x ≡ (b || x)
or_cond true x = refl
or_cond false x = refl

from_place : (es : List Entry) (p : ℕ) (e : Entry) → p < length es → e ≡ get_or es p e → drop p es ≡ e ∷ drop (p + 1) es
from_place es p e below at = drop_more es p e below ∙ ap (λ (f : Entry). f ∷ drop (p + 1) es) (sym at)

-- the set after one more document
seen_more : (es : List Entry) (p : ℕ) (e : Entry) (key q : Bor (List ℕ)) (old new : BTreeSet (Bor (List ℕ)))
    → drop p es ≡ e ∷ drop (p + 1) es → key.now ≡ e.doc → Updates text_cmp old new key true
    → contains text_cmp old q ≡ list_any (λ f. same_id q.now f.doc) (drop (p + 1) es)
    → contains text_cmp new q ≡ list_any (λ f. same_id q.now f.doc) (drop p es)
seen_more es p e key q old new d k u h =
    u.0 q ∙ or_cond _ (contains text_cmp old q)
    ∙ ap₂ (λ a b. a || b) (same_id-comm key.now q.now ∙ ap (same_id q.now) k) h
    ∙ ap (list_any (λ f. same_id q.now f.doc)) (sym d)

-- whether the entry at a place is the last one of its document
last_test : (es : List Entry) (p : ℕ) (e : Entry) (key : Bor (List ℕ)) (old : BTreeSet (Bor (List ℕ))) (b : Bool)
    → key.now ≡ e.doc → b ≡ not (contains text_cmp old key)
    → contains text_cmp old key ≡ list_any (λ f. same_id key.now f.doc) (drop (p + 1) es)
    → is_last es (change_at e (p + 1)) ≡ b
last_test es p e key old b k is h = ap (λ d. not (list_any (λ f. same_id d f.doc) (drop (p + 1) es))) (sym k)
    ∙ ap not (sym h) ∙ sym is

numbered_from : (es : List Entry) (p : ℕ) (e : Entry) → drop p es ≡ e ∷ drop (p + 1) es
    → numbered (p + 1) (drop p es) ≡ change_at e (p + 1) ∷ numbered ((p + 1) + 1) (drop (p + 1) es)
numbered_from es p e d = ap (numbered (p + 1)) d
    ∙ ap (λ n. change_at e (p + 1) ∷ numbered n (drop (p + 1) es)) (one_more (p + 1))
  where
    one_more : (n : ℕ) → suc n ≡ n + 1
    one_more n = omega arith

walked_at : (es : List Entry) (g p : ℕ) (old new : BTreeSet (Bor (List ℕ))) (found after : List Change) (e : Entry)
    (key : Bor (List ℕ)) (b : Bool) → g < p + 1 → p < length es → e ≡ get_or es p e → key.now ≡ e.doc
    → Walked es g (p + 1) old found → Updates text_cmp old new key true → b ≡ not (contains text_cmp old key)
    → after ≡ cond b (found ++ change_at e (p + 1) ∷ []) found → Walked es g p new after
walked_at es g p old new found after e key b low below at k w u is next =
    let d : drop p es ≡ e ∷ drop (p + 1) es = from_place es p e below at in
    record {
      start = inr (omega (arith, low));
      within = omega (arith, below);
      seen = λ q. seen_more es p e key q old new d k u (w.seen q);
      last =
          ap reverse next ∙ added b
          ∙ ap (λ t. cond t (change_at e (p + 1) ∷ filter (is_last es) (numbered ((p + 1) + 1) (drop (p + 1) es)))
          (filter (is_last es) (numbered ((p + 1) + 1) (drop (p + 1) es))))
          (sym (last_test es p e key old b k is (w.seen key)))
          ∙ ap (filter (is_last es)) (sym (numbered_from es p e d));
    }
  where
    added : (t : Bool) → reverse (cond t (found ++ change_at e (p + 1) ∷ []) found)
        ≡ cond t (change_at e (p + 1) ∷ filter (is_last es) (numbered ((p + 1) + 1) (drop (p + 1) es)))
        (filter (is_last es) (numbered ((p + 1) + 1) (drop (p + 1) es)))
    added true = reverse-append found (change_at e (p + 1) ∷ []) ∙ ap (λ cs. change_at e (p + 1) ∷ cs) w.last
    added false = w.last

pub walked_new : (es : List Entry) (g place : ℕ) (old new : BTreeSet (Bor (List ℕ))) (found after : List Change)
    (e : Entry) (key : Bor (List ℕ)) (b : Bool) (c : Change) → g < place → place ≤ length es
    → e ≡ get_or es (place - 1) e → key.now ≡ e.doc → Walked es g place old found → Updates text_cmp old new key true
    → b ≡ not (contains text_cmp old key) → b ≡ true → c ≡ change_at e place → after ≡ found ++ c ∷ []
    → Walked es g (place - 1) new after
walked_new es g place old new found after e key b c low high at k w u is fresh change pushed =
    let p : place ≡ (place - 1) + 1 = omega (arith, low) in
    walked_at es g (place - 1) old new found after e key b (omega (arith, low)) (omega (arith, low, high)) at k
    (subst (λ n. Walked es g n old found) p w) u is
    (pushed ∙ ap (λ (d : Change). found ++ d ∷ []) (change ∙ ap (λ n. change_at e n) p)
    ∙ sym (ap (λ t. cond t (found ++ change_at e ((place - 1) + 1) ∷ []) found) fresh))

pub walked_old : (es : List Entry) (g place : ℕ) (old new : BTreeSet (Bor (List ℕ))) (found after : List Change)
    (e : Entry) (key : Bor (List ℕ)) (b : Bool) → g < place → place ≤ length es → e ≡ get_or es (place - 1) e
    → key.now ≡ e.doc → Walked es g place old found → Updates text_cmp old new key true
    → b ≡ not (contains text_cmp old key) → b ≡ false → after ≡ found → Walked es g (place - 1) new after
walked_old es g place old new found after e key b low high at k w u is already same =
    let p : place ≡ (place - 1) + 1 = omega (arith, low) in
    walked_at es g (place - 1) old new found after e key b (omega (arith, low)) (omega (arith, low, high)) at k
    (subst (λ n. Walked es g n old found) p w) u is
    (same ∙ sym (ap (λ t. cond t (found ++ change_at e ((place - 1) + 1) ∷ []) found) already))

-- ---- the definition, from a generation on

all_after : (P : Change → Bool) (g n : ℕ) (es : List Entry) → g < n
    → filter (λ c. ltb g c.generation && P c) (numbered n es) ≡ filter P (numbered n es)
all_after P g n [] low = refl
all_after P g n (e ∷ es) low =
    ap (λ b. cond (b && P (change_at e n))
    (change_at e n ∷ filter (λ c. ltb g c.generation && P c) (numbered (suc n) es))
    (filter (λ c. ltb g c.generation && P c) (numbered (suc n) es))) (lt-ltb g n low)
    ∙ ap (λ r. cond (P (change_at e n)) (change_at e n ∷ r) r) (all_after P g (suc n) es (omega (arith, low)))

none_before : (P : Change → Bool) (g n k : ℕ) (es : List Entry) → n + k ≡ g + 1
    → filter (λ c. ltb g c.generation && P c) (numbered n es) ≡ filter P (numbered (g + 1) (drop k es))
none_before P g n zero es e =
    all_after P g n es (omega (arith, e)) ∙ ap (λ m. filter P (numbered m es)) (same n g e)
  where
    same : (m h : ℕ) → m + 0 ≡ h + 1 → m ≡ h + 1
    same m h q = omega arith
none_before P g n (suc k) [] e = refl
none_before P g n (suc k) (x ∷ es) e =
    ap (λ b. cond (b && P (change_at x n))
    (change_at x n ∷ filter (λ c. ltb g c.generation && P c) (numbered (suc n) es))
    (filter (λ c. ltb g c.generation && P c) (numbered (suc n) es))) (le-ltb g n (omega (arith, e)))
    ∙ none_before P g (suc n) k es (omega (arith, e))

pub changes_since-from : (es : List Entry) (g : ℕ)
    → changes_since es g ≡ filter (is_last es) (numbered (g + 1) (drop g es))
changes_since-from es g = none_before (is_last es) g 1 g es (omega arith)

pub walked_end : (es : List Entry) (g place : ℕ) (later : BTreeSet (Bor (List ℕ))) (found turned : List Change)
    → place ≤ g → Walked es g place later found → turned ≡ reverse found → turned ≡ changes_since es g
walked_end es g place later found turned low w t =
    t ∙ w.last ∙ ends w.start ∙ sym (changes_since-from es g)
  where
    nothing : (n m : ℕ) → length es ≤ m → filter (is_last es) (numbered n (drop m es)) ≡ []
    nothing n m le = ap (λ fs. filter (is_last es) (numbered n fs)) (drop_all m es le)

    ends : (place ≡ length es) ⊎ (g ≤ place)
        → filter (is_last es) (numbered (place + 1) (drop place es))
        ≡ filter (is_last es) (numbered (g + 1) (drop g es))
    ends (inl all) = nothing (place + 1) place (omega (arith, all)) ∙ sym (nothing (g + 1) g (omega (arith, all, low)))
    ends (inr at) = let same : place ≡ g = omega (arith, at, low)
        in ap (λ n. filter (is_last es) (numbered (n + 1) (drop n es))) same
