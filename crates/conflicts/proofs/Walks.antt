-- One walk over the members finds what the table asks of them.
use Rattle.std.specs.Prelude.{◌≡◌, ℕ, suc, ◌+◌, ◌<◌, ◌≤◌, max, Bool, true, false, cond, not, ◌&&◌, ◌||◌, nat_le, nat_lt}
use Rattle.std.specs.Prelude.{List, [], ◌∷◌, ◌++◌, filter, length, slice_get, Some, Result, Ok, Err, IfOk, refl}
use Rattle.std.specs.List.{list_any, list_all}
use Rattle.std.proofs.Common.{sym, ◌∙◌, ap, ap₂, subst, arith, get_or, append-nil, leb-true, le-leb, lt-ltb}
use Rattle.std.specs.Cmp.{both_ways}
use Rattle.std.proofs.lemmas.Bool.{and_parts, and_from}
use Rattle.std.proofs.lemmas.List.Elements.{filter-append}
use Rattle.std.proofs.lemmas.List.Folds.{list_any-append}
use Rattle.std.proofs.lemmas.Option.{slice_get_read}
use Rattle.vector_rev.specs.Counts.{Uid}
use Rattle.vector_rev.specs.Clock.{Clock, count_of, covers, dominates}
use Rattle.vector_rev.specs.Compare.{same}
use Rattle.conflicts.specs.Lists.{In, is_empty}
use Rattle.conflicts.specs.Document.{others}
use Rattle.conflicts.specs.Kept.{Kept, current, current_first}
use Rattle.conflicts.specs.Making.{greatest, revs}
use Rattle.conflicts.specs.Decision.{same_content, is_alike, is_unlike, alike, unlike, merge_parents, may_merge}
use Rattle.conflicts.specs.Walk.{seen}
use Rattle.conflicts.specs.inner.Walk.{IsMerging, LooksAt, FoundAt, StepsTo, SomeNewer, SomeSame}
use Rattle.conflicts.specs.declared.member.Member.{Member}
use Rattle.conflicts.specs.declared.merges.Merging.{Merging}
use Rattle.conflicts.specs.declared.merges.Met.{Met}
use Rattle.conflicts.specs.declared.merges.Met.TheVariants.{Newer, Same, Neither}
use Rattle.conflicts.proofs.Apart.{same_itself, In-get, ordered_not}
use Rattle.conflicts.proofs.Loops.{revs-append, seen_current, seen_other, seen_all}
use Rattle.conflicts.proofs.MadeClocks.{greatest-append}
use Rattle.u1_base.proofs.Booleans.{not_true}
use Rattle.conflicts.proofs.Members.{finds, passes_none, In-filter, from_filter}
use Rattle.conflicts.proofs.Sets.{kept_apart, other_at}

-- ---- one member

-- a member that the revision is newer than is neither alike nor another one
pub look_newer : (x : Member) (own : Uid) (n : Member) (old new : Merging) → dominates x.rev n.rev ≡ true → new ≡ old
    → LooksAt x own n old new
look_newer x own n old new newer e = record {
  uncovered = not_true _ (and_parts (covers x.rev n.rev) (not (covers n.rev x.rev)) newer).1;
  parents = ap (λ (m : Merging). m.parents) e
      ∙ sym (ap (λ b. old.parents ++ revs (cond (not b && same_content n.content x.content) (n ∷ []) [])) newer
      ∙ append-nil old.parents);
  leads = ap (λ (m : Merging). m.leads) e;
  most = omega (
    arith,
    ap (λ (m : Merging). m.most) e,
    ap (λ b. greatest own (revs (cond (not b && not (same_content n.content x.content)) (n ∷ []) []))) newer,
  );
}

-- one that it is apart from is alike where its content is, and else is not
pub look_apart : (x : Member) (own : Uid) (n : Member) (old new : Merging) (b : Bool) → covers x.rev n.rev ≡ false
    → covers n.rev x.rev ≡ false → b ≡ same_content n.content x.content →
    new.parents ≡ old.parents ++ cond b (n.rev ∷ []) [] → new.leads ≡ old.leads
    → new.most ≡ max (cond b 0 (count_of n.rev own)) old.most → LooksAt x own n old new
look_apart x own n old new b apart uncovered is parents leads most = record {
  uncovered = uncovered;
  parents = parents ∙ ap (λ (cs : List Clock). old.parents ++ cs)
      (listed b ∙ ap₂ (λ d c. revs (cond (not (d && not (covers n.rev x.rev)) && c) (n ∷ []) [])) (sym apart) is);
  leads = leads;
  most = most ∙ ap (λ (m : ℕ). max m old.most)
      (counted b ∙ ap₂ (λ d c. greatest own (revs (cond (not (d && not (covers n.rev x.rev)) && not c) (n ∷ []) [])))
      (sym apart) is);
}
  where
    listed : (b : Bool) → cond b (n.rev ∷ []) [] ≡ revs (cond b (n ∷ []) [])
    listed true = refl
    listed false = refl

    counted : (b : Bool) → cond b 0 (count_of n.rev own) ≡ greatest own (revs (cond (not b) (n ∷ []) []))
    counted true = refl
    counted false = omega arith

-- ---- one member more

more_uncovered : (x : Member) (ms : List Member) (n : Member) → list_any (λ m. covers m.rev x.rev) ms ≡ false
    → covers n.rev x.rev ≡ false → list_any (λ m. covers m.rev x.rev) (ms ++ n ∷ []) ≡ false
more_uncovered x ms n none one =
    list_any-append (λ m. covers m.rev x.rev) ms (n ∷ []) ∙ ap₂ (λ b c. b || (c || false)) none one

kept-append : (q : Member → Bool) (ms : List Member) (n : Member)
    → revs (filter q (ms ++ n ∷ [])) ≡ revs (filter q ms) ++ revs (filter q (n ∷ []))
kept-append q ms n = ap revs (filter-append q ms (n ∷ [])) ∙ revs-append (filter q ms) (filter q (n ∷ []))

merging_more : (k : Kept) (x : Member) (own : Uid) (ms : List Member) (n : Member) (old new : Merging)
    → IsMerging k x own ms old → LooksAt x own n old new → IsMerging k x own (ms ++ n ∷ []) new
merging_more k x own ms n old new so look = record {
  uncovered = more_uncovered x ms n so.uncovered look.uncovered;
  parents = look.parents ∙ ap (λ (cs : List Clock). cs ++ revs (alike x (n ∷ []))) so.parents
      ∙ ap (λ (cs : List Clock). x.rev ∷ cs) (sym (kept-append (is_alike x) ms n));
  leads = look.leads ∙ so.leads;
  most = omega (
    arith,
    look.most,
    so.most,
    ap (greatest own) (kept-append (is_unlike x) ms n),
    greatest-append own (revs (unlike x ms)) (revs (unlike x (n ∷ []))),
  );
}

-- the walk begins with the current member
pub merging_first : (k : Kept) (x : Member) (own : Uid) (c : Member) (m : Merging) (first : List Clock) (b : Bool)
    → c ≡ current k → covers x.rev (current k).rev ≡ false → covers (current k).rev x.rev ≡ false
    → b ≡ same_content c.content x.content → first ≡ x.rev ∷ [] →
    m.parents ≡ first ++ cond b (c.rev ∷ []) [] → m.leads ≡ b → m.most ≡ max (cond b 0 (count_of c.rev own)) 0
    → IsMerging k x own (seen k 0) m
merging_first k x own c m first b is apart uncovered alike begins parents leads most =
    let start : Merging = record { parents = x.rev ∷ []; leads = m.leads; most = 0 } in
    let same : b ≡ same_content (current k).content x.content = alike
    ∙ ap (λ (n : Member). same_content n.content x.content) is in
    merging_more k x own [] (current k) start m
    (record {
      uncovered = refl;
      parents = refl;
      leads = leads ∙ same
          ∙ ap (λ d. not (d && not (covers (current k).rev x.rev)) && same_content (current k).content x.content)
          (sym apart);
      most = refl;
    })
    (look_apart x own (current k) start m b apart uncovered same
    (parents ∙ (λ i. begins i ++ cond b ((is i).rev ∷ []) []))
    refl (most ∙ ap (λ (n : Member). max (cond b 0 (count_of n.rev own)) 0) is))

-- the current member is not looked at again
pub step_current : (k : Kept) (x : Member) (own : Uid) (i : ℕ) (old new : Merging) → i ≡ k.place → new ≡ old
    → IsMerging k x own (seen k i) old → IsMerging k x own (seen k (i + 1)) new
step_current k x own i old new here e so =
    subst (λ (ms : List Member). IsMerging k x own ms new) (sym (seen_current k i here))
    (subst (λ (m : Merging). IsMerging k x own (seen k i) m) (sym e) so)

pub step_other : (k : Kept) (x : Member) (own : Uid) (i : ℕ) (m : Member) (old new : Merging) → i < length k.members
    → m ≡ get_or k.members i m → (i ≡ k.place → ⊥) → LooksAt x own m old new → IsMerging k x own (seen k i) old
    → IsMerging k x own (seen k (i + 1)) new
step_other k x own i m old new low here other look so =
    subst (λ (ms : List Member). IsMerging k x own ms new) (sym (seen_other k i m low here other))
    (merging_more k x own (seen k i) m old new so look)

-- ---- where the walk ends

at_index : (k : Kept) (i : ℕ) (m : Member) → i < length k.members → m ≡ get_or k.members i m
    → slice_get k.members i ≡ Some m
at_index k i m low here = slice_get_read k.members (length k.members) i m refl low here

among_others : (k : Kept) (i : ℕ) (m : Member) → i < length k.members → m ≡ get_or k.members i m → (i ≡ k.place → ⊥)
    → In m (others (current k).rev k.members)
among_others k i m low here other =
    In-filter (λ n. not (same n.rev (current k).rev)) m k.members (In-get k.members i m (at_index k i m low here))
    (ap not (other_at k i m (at_index k i m low here) other))

pub newer_found : (k : Kept) (x : Member) (i : ℕ) (m : Member) → i < length k.members → m ≡ get_or k.members i m
    → (i ≡ k.place → ⊥) → dominates m.rev x.rev ≡ true → SomeNewer k x
newer_found k x i m low here other newer =
    finds (λ n. dominates n.rev x.rev) m (others (current k).rev k.members) (among_others k i m low here other) newer

-- no member is newer than a revision that one of them has
pub same_found : (k : Kept) (x : Member) (i : ℕ) (m : Member) → i < length k.members → m ≡ get_or k.members i m
    → (i ≡ k.place → ⊥) → m.rev ≡ x.rev → SomeSame k x
same_found k x i m low here other e = record {
  not_newer = passes_none (λ n. dominates n.rev x.rev) (others (current k).rev k.members) (λ n j.
      ap (dominates n.rev) (sym e)
      ∙ ordered_not k.members n m (kept_apart k) (from_filter (λ n. not (same n.rev (current k).rev)) n k.members j).0
      (In-get k.members i m (at_index k i m low here)));
  same = finds (λ n. same n.rev x.rev) m (others (current k).rev k.members) (among_others k i m low here other)
      (ap (same m.rev) (sym e) ∙ same_itself m.rev);
}

-- what a look at another member finds is what the step finds
pub step_found : {E : Type 0} (r : Result Met E) (k : Kept) (x : Member) (own : Uid) (i : ℕ) (m : Member)
    (old new : Merging) → i < length k.members → m ≡ get_or k.members i m → (i ≡ k.place → ⊥)
    → IfOk r (FoundAt x own m old new) → IfOk r (StepsTo k x own i old new)
step_found (Ok Newer) k x own i m old new low here other h = newer_found k x i m low here other h
step_found (Ok Same) k x own i m old new low here other h = same_found k x i m low here other h
step_found (Ok Neither) k x own i m old new low here other h = step_other k x own i m old new low here other h
step_found (Err e) k x own i m old new low here other h = tt

-- after all members each was looked at
pub walk_done : (k : Kept) (x : Member) (own : Uid) (i : ℕ) (m : Merging) → length k.members ≤ i
    → IsMerging k x own (seen k i) m → IsMerging k x own (current_first k) m
walk_done k x own i m most so = subst (λ (ms : List Member). IsMerging k x own ms m) (seen_all k i most) so

-- ---- whether a merge is made

-- each counter is at most n where the greatest one is
all_at_most : (own : Uid) (n : ℕ) (ms : List Member)
    → list_all (λ m. nat_le (count_of m.rev own) n) ms ≡ nat_le (greatest own (revs ms)) n
all_at_most own n [] = sym (le-leb 0 n (omega arith))
all_at_most own n (m ∷ ms) =
    ap (λ b. nat_le (count_of m.rev own) n && b) (all_at_most own n ms)
    ∙ both_most (count_of m.rev own) (greatest own (revs ms)) n
  where
    both_most : (a b n : ℕ) → (nat_le a n && nat_le b n) ≡ nat_le (max a b) n
    both_most a b n = both_ways (nat_le a n && nat_le b n) (nat_le (max a b) n)
        (λ h. let p = and_parts (nat_le a n) (nat_le b n) h in let l = leb-true a n p.0 in let r = leb-true b n p.1
        in le-leb (max a b) n (omega arith))
        (λ h. let l = leb-true (max a b) n h
        in and_from (nat_le a n) (nat_le b n) (le-leb a n (omega arith)) (le-leb b n (omega arith)))

some_parents : (x : Member) (ms : List Member) → nat_lt 1 (length (merge_parents x ms)) ≡ not (is_empty (alike x ms))
some_parents x ms = by (alike x ms)
  where
    by : (ns : List Member) → nat_lt 1 (suc (length (revs ns))) ≡ not (is_empty ns)
    by [] = refl
    by (n ∷ ns) = lt-ltb 1 (suc (suc (length (revs ns)))) (omega arith)

pub may_merge_is : (x : Member) (own : Uid) (ms : List Member) (ps : List Clock) (most : ℕ) → ps ≡ merge_parents x ms
    → most ≡ greatest own (revs (unlike x ms))
    → (nat_lt 1 (length ps) && nat_le most (greatest own ps)) ≡ may_merge ms x own
may_merge_is x own ms ps most parents is =
    ap₂ (λ (cs : List Clock) (n : ℕ). nat_lt 1 (length cs) && nat_le n (greatest own cs)) parents is
    ∙ ap₂ (λ b c. b && c) (some_parents x ms) (sym (all_at_most own (greatest own (merge_parents x ms)) (unlike x ms)))
