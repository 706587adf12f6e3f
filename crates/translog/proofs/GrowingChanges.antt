-- How the changes since a generation grow with one more entry.
use Rattle.std.proofs.Common.{◌≡◌, ℕ, suc, ◌+◌, ◌≤◌, Bool, true, false, cond, not, ◌&&◌, ◌||◌, List, [], ◌∷◌, ◌++◌}
use Rattle.std.proofs.Common.{length, drop, refl, ◌∙◌, ap, ap₂, arith, ltb, lt-ltb}
use Rattle.std.specs.Prelude.{filter}
use Rattle.std.specs.List.{list_any}
use Rattle.std.proofs.lemmas.List.{drop-append-le, drop_all}
use Rattle.std.proofs.lemmas.List.Elements.{filter-append}
use Rattle.std.proofs.lemmas.List.Folds.{list_any-append}
use Rattle.u1_base.specs.Ids.{same_id}
use Rattle.u1_base.proofs.SameIds.{same_id-comm}
use Rattle.translog.specs.declared.entry.Entry.{Entry}
use Rattle.translog.specs.declared.entry.Change.{Change}
use Rattle.translog.specs.Entries.{change_at, numbered, is_last, changes_since}

-- the change that comes is the last one
numbered-push : (es : List Entry) (e : Entry) (n m : ℕ) → m ≡ n + length es
    → numbered n (es ++ e ∷ []) ≡ numbered n es ++ change_at e m ∷ []
numbered-push [] e n m is = ap (λ k. change_at e k ∷ []) (zero_more n m is)
  where
    zero_more : (a b : ℕ) → b ≡ a + 0 → a ≡ b
    zero_more a b h = omega arith
numbered-push (x ∷ es) e n m is = ap (λ cs. change_at x n ∷ cs) (numbered-push es e (suc n) m (omega arith))

-- an entry that was there is still the last one of its document, unless the new one has that document
is_last-push : (es : List Entry) (e : Entry) (c : Change) → c.generation ≤ length es
    → is_last (es ++ e ∷ []) c ≡ (is_last es c && not (same_id e.doc c.doc))
is_last-push es e c low =
    ap (λ fs. not (list_any (λ f. same_id c.doc f.doc) fs)) (drop-append-le c.generation es (e ∷ []) low)
    ∙ ap not (list_any-append (λ f. same_id c.doc f.doc) (drop c.generation es) (e ∷ []))
    ∙ neither (list_any (λ f. same_id c.doc f.doc) (drop c.generation es)) (same_id c.doc e.doc)
    ∙ ap (λ b. is_last es c && not b) (same_id-comm c.doc e.doc)
  where
    neither : (a b : Bool) → not (a || (b || false)) ≡ (not a && not b)
    neither true b = refl
    neither false true = refl
    neither false false = refl

-- of the entries that were there, those stay that do not have the new one's document
kept : (es : List Entry) (e : Entry) (g n : ℕ) (fs : List Entry) → n + length fs ≤ length es + 1 →
    filter (λ c. ltb g c.generation && is_last (es ++ e ∷ []) c) (numbered n fs)
    ≡ filter (λ c. not (same_id e.doc c.doc)) (filter (λ c. ltb g c.generation && is_last es c) (numbered n fs))
kept es e g n [] low = refl
kept es e g n (f ∷ fs) low =
    ap (λ b. cond (ltb g n && b) (change_at f n ∷ rest) rest) (is_last-push es e (change_at f n) (omega (arith, low)))
    ∙ one (ltb g n) (is_last es (change_at f n)) (kept es e g (suc n) fs (omega (arith, low)))
  where
    rest : List Change
    rest = filter (λ c. ltb g c.generation && is_last (es ++ e ∷ []) c) (numbered (suc n) fs)

    former : List Change
    former = filter (λ c. ltb g c.generation && is_last es c) (numbered (suc n) fs)

    stays : Change → Bool
    stays c = not (same_id e.doc c.doc)

    one : (a b : Bool) → rest ≡ filter stays former
        → cond (a && (b && stays (change_at f n))) (change_at f n ∷ rest) rest
        ≡ filter stays (cond (a && b) (change_at f n ∷ former) former)
    one false b same = same
    one true false same = same
    one true true same = ap (λ cs. cond (stays (change_at f n)) (change_at f n ∷ cs) cs) same

-- the new one is a change since the generation, and the last one of its document
comes : (es : List Entry) (e : Entry) (g : ℕ) → g ≤ length es →
    filter (λ c. ltb g c.generation && is_last (es ++ e ∷ []) c) (change_at e (length es + 1) ∷ [])
    ≡ change_at e (length es + 1) ∷ []
comes es e g low =
    ap₂ (λ a b. cond (a && b) (change_at e (length es + 1) ∷ []) [])
    (lt-ltb g (length es + 1) (omega (arith, low)))
    (ap (λ fs. not (list_any (λ f. same_id e.doc f.doc) fs)) (drop_all (length es + 1) (es ++ e ∷ []) (long es)))
  where
    long : (xs : List Entry) → length (xs ++ e ∷ []) ≤ length xs + 1
    long [] = omega arith
    long (x ∷ xs) = omega (arith, long xs)

pub changes_grow : (es : List Entry) (e : Entry) (g : ℕ) → g ≤ length es
    → changes_since (es ++ e ∷ []) g ≡ filter (λ c. not (same_id e.doc c.doc)) (changes_since es g)
    ++ change_at e (length es + 1) ∷ []
changes_grow es e g low =
    ap (filter (λ c. ltb g c.generation && is_last (es ++ e ∷ []) c))
    (numbered-push es e 1 (length es + 1) (omega arith))
    ∙ filter-append (λ c. ltb g c.generation && is_last (es ++ e ∷ []) c) (numbered 1 es)
    (change_at e (length es + 1) ∷ [])
    ∙ ap₂ (λ (cs ds : List Change). cs ++ ds) (kept es e g 1 es (omega arith)) (comes es e g low)
