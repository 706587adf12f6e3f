-- What is made and what is accepted fits, and a made revision counts more than any member for the own uid.
use Rattle.std.specs.Prelude.{◌≡◌, ◌≢◌, ℕ, suc, ◌<◌, ◌≤◌, ◌⊎◌, Bool, true, false, cond, not, ◌&&◌, ◌||◌, nat_le, nat_lt}
use Rattle.std.specs.Prelude.{List, [], ◌∷◌, filter, length, Option, Some, None, Result, Err, IfOk, IfSome, refl}
use Rattle.std.specs.List.{list_any}
use Rattle.std.specs.Option.{option_map, ok_or}
use Rattle.std.proofs.Common.{sym, ◌∙◌, ap, ap₂, subst, inl, inr, arith, leb-true, lt-ltb, le_trans}
use Rattle.std.proofs.lemmas.Bool.{cases_lt, cond_both, and_parts, and_from}
use Rattle.content.specs.Tree.{Tree}
use Rattle.vector_rev.specs.Counts.{Uid, count_in, raised}
use Rattle.vector_rev.specs.Clock.{Clock, count_of, Covers, covers, dominates}
use Rattle.vector_rev.specs.Compare.{same}
use Rattle.vector_rev.proofs.CountsLaws.{count-raised}
use Rattle.u1_base.specs.Ids.{same_id}
use Rattle.u1_base.proofs.SameIds.{same_id_is, same_id-itself}
use Rattle.vector_rev.proofs.RoundTrip.{entries-clock_of}
use Rattle.vector_rev.proofs.ClockLaws.{covers_at, dominates_from, same_decides, not_same}
use Rattle.conflicts.specs.Lists.{In, is_empty}
use Rattle.conflicts.specs.Document.{Document, has_rev, others, in_order, is_conflicted, is_live, covers_member}
use Rattle.conflicts.specs.Document.{StaysBeside}
use Rattle.conflicts.specs.Making.{joined, made_clock, greatest, revs, names, edited, edited_at, deleted, deleted_at}
use Rattle.conflicts.specs.Making.{named_in, leader, resolved_at, resolved}
use Rattle.conflicts.specs.Decision.{same_content, is_alike, is_unlike, alike, unlike, merge_parents, may_merge}
use Rattle.conflicts.specs.Decision.{received, nothing, Row, first_row, table, decides_over, decides_at, decides}
use Rattle.conflicts.specs.Laws.{CurrentIs, IsDocument, IsMade, MakesOf, TakesOf}
use Rattle.conflicts.specs.declared.member.Member.{Member}
use Rattle.conflicts.specs.declared.accept.Accept.{Accept}
use Rattle.conflicts.specs.declared.accept.Making.TheVariants.{Edit, Resolve, Merge}
use Rattle.conflicts.specs.declared.receipts.Taken.{Taken}
use Rattle.conflicts.specs.declared.receipts.Outcome4.TheVariants.{Conflicted}
use Rattle.conflicts.specs.declared.edits.EditFault.TheVariants as edit_fault
use Rattle.conflicts.specs.declared.resolutions.ResolveFault.TheVariants as resolve_fault
use Rattle.u1_base.proofs.Booleans.{none_true, not_both}
use Rattle.conflicts.proofs.Members.{finds, passes_none, In-left, In-right, In-either, In-filter, from_filter, In-map}
use Rattle.conflicts.proofs.Members.{from_map}
use Rattle.conflicts.proofs.Apart.{all_at}
use Rattle.conflicts.proofs.Documents.{members_preorder}
use Rattle.conflicts.proofs.Pruned.{above_through}
use Rattle.conflicts.proofs.MadeClocks.{count-joined}

-- ---- what a made clock counts

most_counts : (u : Uid) (p : Clock) (ps : List Clock) → In p ps → count_of p u ≤ greatest u ps
most_counts u p [] i = absurd i
most_counts u p (q ∷ ps) (inl e) = omega (arith, ap (λ (c : Clock). count_of c u) e)
most_counts u p (q ∷ ps) (inr i) = omega (arith, most_counts u p ps i)

-- some clock has the greatest counter, where there are clocks
greatest_parent : (u : Uid) (ps : List Clock) → ps ≢ [] → (p : Clock) × In p ps × (count_of p u ≡ greatest u ps)
greatest_parent u [] some = absurd (some refl)
greatest_parent u (p ∷ []) some = (p, inl refl, omega arith)
greatest_parent u (p ∷ q ∷ ps) some =
    let r = greatest_parent u (q ∷ ps) (λ e. cc) in
    elim (cases_lt (count_of p u) (greatest u (q ∷ ps))) [
      | inl less ↦ (r.0, inr r.1, omega (arith, r.2, less))
      | inr most ↦ (p, inl refl, omega (arith, most))
    ]

made_counts : (own : Uid) (ps : List Clock) (r : Clock) → made_clock own ps ≡ Some r → (u : Uid)
    → count_of r u ≡ cond (same_id u own) (suc (greatest own ps)) (greatest u ps)
made_counts own ps r e u =
    ap (λ es. count_in es u) (sym (entries-clock_of r (raised (joined ps) own) e))
    ∙ count-raised (joined ps) own u
    ∙ ap₂ (λ (m n : ℕ). cond (same_id u own) (suc m) n) (count-joined own ps) (count-joined u ps)

made_own : (own : Uid) (ps : List Clock) (r : Clock) → made_clock own ps ≡ Some r
    → count_of r own ≡ suc (greatest own ps)
made_own own ps r e = made_counts own ps r e own
    ∙ ap (λ b. cond b (suc (greatest own ps)) (greatest own ps)) (same_id-itself own)

made_other : (own : Uid) (ps : List Clock) (r : Clock) → made_clock own ps ≡ Some r → (u : Uid) → u ≢ own
    → count_of r u ≡ greatest u ps
made_other own ps r e u other = made_counts own ps r e u
    ∙ ap (λ b. cond b (suc (greatest own ps)) (greatest u ps)) (not_same u own other)

made_covers : (own : Uid) (ps : List Clock) (r : Clock) → made_clock own ps ≡ Some r → (p : Clock) → In p ps
    → Covers r p
made_covers own ps r e p i u =
    elim (same_id u own) as (λ b. same_id u own ≡ b → count_of p u ≤ count_of r u) [
      | true ↦ λ t.
          subst (λ v. count_of p v ≤ count_of r v) (sym (same_id_is u own t))
          (omega (arith, most_counts own p ps i, made_own own ps r e))
      | false ↦ λ f.
          let at : count_of r u ≡ greatest u ps = made_counts own ps r e u
          ∙ ap (λ b. cond b (suc (greatest own ps)) (greatest u ps)) f in
          omega (arith, most_counts u p ps i)
    ] refl

made_above : (own : Uid) (ps : List Clock) (r : Clock) → made_clock own ps ≡ Some r → (p : Clock) → In p ps
    → dominates r p ≡ true
made_above own ps r e p i =
    dominates_from r p (
      made_covers own ps r e p i,
      λ q. absurd (omega (arith, ap (λ (c : Clock). count_of c own) q, most_counts own p ps i, made_own own ps r e)),
    )

-- what has a smaller counter does not cover
smaller : (x y : Clock) (u : Uid) → count_of x u < count_of y u → covers x y ≡ false
smaller x y u less = none_true _ (λ c. absurd (omega (arith, covers_at x y c u)))

pub is_made : (own : Uid) (ms : List Member) (a : Accept) → made_clock own a.parents ≡ Some a.rev
    → ((m : Member) → In m ms → count_of m.rev own ≤ greatest own a.parents) → IsMade own ms a
is_made own ms a e most = record {
  own_counter = omega (arith, made_own own a.parents a.rev e);
  others = made_other own a.parents a.rev e;
  greatest_parent = λ u some. greatest_parent u a.parents some;
  above = made_above own a.parents a.rev e;
  fresh = λ m i. omega (arith, made_own own a.parents a.rev e, most m i);
}

-- a fresh revision is older than no member
pub not_older : (own : Uid) (ms : List Member) (a : Accept) → IsMade own ms a
    → list_any (λ m. dominates m.rev a.rev) ms ≡ false
not_older own ms a made = passes_none (λ m. dominates m.rev a.rev) ms
    (λ m i. ap (λ b. b && not (covers a.rev m.rev)) (smaller m.rev a.rev own (made.fresh m i)))

-- a fresh revision that is not newer than a member does not cover it
not_newer : (own : Uid) (ms : List Member) (a : Accept) (m : Member) → IsMade own ms a → In m ms
    → dominates a.rev m.rev ≡ false → covers a.rev m.rev ≡ false
not_newer own ms a m made i h =
    none_true _ (λ c. not_both _
    (and_from (covers a.rev m.rev) (not (covers m.rev a.rev)) c (ap not (smaller m.rev a.rev own (made.fresh m i)))) h)

-- ---- answers that are made where nothing refuses

made_ok : {E : Type 0} (f : Clock → Accept) (o : Option Clock) (e : E) (P : Accept → Type 0)
    → ((r : Clock) → o ≡ Some r → P (f r)) → IfOk (ok_or (option_map f o) e) P
made_ok f None e P h = tt
made_ok f (Some r) e P h = h r refl

pub made_some : (f : Clock → Accept) (o : Option Clock) (P : Accept → Type 0) → ((r : Clock) → o ≡ Some r → P (f r))
    → IfSome (option_map f o) P
made_some f None P h = tt
made_some f (Some r) P h = h r refl

unless : {E : Type 0} (b : Bool) (e : E) (y : Result Accept E) (P : Accept → Type 0) → (b ≡ false → IfOk y P)
    → IfOk (cond b (Err e) y) P
unless true e y P h = tt
unless false e y P h = h refl

-- ---- members and their orders

to_order : (c : Clock) (ms : List Member) (m : Member) → In m ms → In m (in_order c ms)
to_order c ms m i =
    elim (same m.rev c) as (λ b. same m.rev c ≡ b → In m (in_order c ms)) [
      | true ↦ λ e. In-left m (filter (λ n. same n.rev c) ms) (others c ms) (In-filter (λ n. same n.rev c) m ms i e)
      | false ↦ λ e. In-right m (filter (λ n. same n.rev c) ms) (others c ms)
          (In-filter (λ n. not (same n.rev c)) m ms i (ap not e))
    ] refl

from_order : (c : Clock) (ms : List Member) (m : Member) → In m (in_order c ms) → In m ms
from_order c ms m i =
    elim (In-either m (filter (λ n. same n.rev c) ms) (others c ms) i) [
      | inl a ↦ (from_filter (λ n. same n.rev c) m ms a).0
      | inr b ↦ (from_filter (λ n. not (same n.rev c)) m ms b).0
    ]

only_one : (ms : List Member) (m n : Member) → length ms ≤ 1 → In m ms → In n ms → n ≡ m
only_one [] m n l i j = absurd i
only_one (x ∷ []) m n l (inl p) (inl q) = q ∙ sym p
only_one (x ∷ []) m n l (inl p) (inr j) = absurd j
only_one (x ∷ []) m n l (inr i) j = absurd i
only_one (x ∷ y ∷ ms) m n l i j = absurd (omega arith)

at_most_one : (ms : List Member) → nat_lt 1 (length ms) ≡ false → length ms ≤ 1
at_most_one [] h = omega arith
at_most_one (x ∷ []) h = omega arith
at_most_one (x ∷ y ∷ ms) h = absurd (not_both _ (lt-ltb 1 (length (x ∷ y ∷ ms)) (omega arith)) h)

-- ---- edits and deletions

edit_makes : (own : Uid) (d : Document) (c : Clock) → CurrentIs d.members (Some c) → is_conflicted d ≡ false
    → (t : Option Tree) (r : Clock) → made_clock own (c ∷ []) ≡ Some r
    → MakesOf own d (record { rev = r; content = t; making = Edit; parents = c ∷ []; current = true })
edit_makes own d c m one t r e =
    let a : Accept = record { rev = r; content = t; making = Edit; parents = c ∷ []; current = true } in
    let made : IsMade own d.members a = is_made own d.members a e
    (λ n i. subst (λ (k : Clock). count_of k own ≤ greatest own (c ∷ []))
    (sym (ap (λ (z : Member). z.rev) (only_one d.members m.0 n (at_most_one d.members one) m.1 i) ∙ m.2))
    (most_counts own c (c ∷ []) (inl refl))) in
    record {
      own_making = refl;
      fits = record { not_older = not_older own d.members a made; settled = inl refl };
      made = made;
      parents = λ p i. elim i [ inl q ↦ (m.0, m.1, m.2 ∙ sym q) | inr z ↦ absurd z ];
    }

first_makes : (own : Uid) (d : Document) → d.members ≡ [] → (t : Option Tree) (r : Clock) → made_clock own [] ≡ Some r
    → MakesOf own d (record { rev = r; content = t; making = Edit; parents = []; current = true })
first_makes own d none t r e =
    let a : Accept = record { rev = r; content = t; making = Edit; parents = []; current = true } in
    let made : IsMade own d.members a = is_made own d.members a e (λ n i. absurd (subst (In n) none i)) in
    record {
      own_making = refl;
      fits = record { not_older = not_older own d.members a made; settled = inl refl };
      made = made;
      parents = λ p i. absurd i;
    }

edited_makes_at : (own : Uid) (d : Document) (c : Option Clock) → CurrentIs d.members c
    → (rev : Option Clock) (t : Tree) → IfOk (edited_at c d rev t own) (MakesOf own d)
edited_makes_at own d None none None t =
    made_ok (λ r. record { rev = r; content = Some t; making = Edit; parents = []; current = true })
    (made_clock own []) edit_fault.ClockFull (MakesOf own d) (first_makes own d none (Some t))
edited_makes_at own d None none (Some r) t = tt
edited_makes_at own d (Some c) m rev t =
    unless (is_conflicted d) edit_fault.Conflicted _ (MakesOf own d)
    (λ one. unless (not (names rev c (is_live d))) (edit_fault.RevisionConflict c) _ (MakesOf own d) (λ _.
    made_ok (λ r. record { rev = r; content = Some t; making = Edit; parents = c ∷ []; current = true })
    (made_clock own (c ∷ [])) edit_fault.ClockFull (MakesOf own d) (edit_makes own d c m one (Some t))))

pub edited_makes : (d : Document) → IsDocument d → (rev : Option Clock) (t : Tree) (own : Uid)
    → IfOk (edited d rev t own) (MakesOf own d)
edited_makes d w rev t own = edited_makes_at own d d.current w.current rev t

deleted_makes_at : (own : Uid) (d : Document) (c : Option Clock) → CurrentIs d.members c → (rev : Clock)
    → IfOk (deleted_at c d rev own) (MakesOf own d)
deleted_makes_at own d None none rev = tt
deleted_makes_at own d (Some c) m rev =
    unless (is_conflicted d) edit_fault.Conflicted _ (MakesOf own d)
    (λ one. unless (not (same rev c)) (edit_fault.RevisionConflict c) _ (MakesOf own d)
    (λ _. unless (not (is_live d)) edit_fault.AlreadyDeleted _ (MakesOf own d) (λ _.
    made_ok (λ r. record { rev = r; content = None; making = Edit; parents = c ∷ []; current = true })
    (made_clock own (c ∷ [])) edit_fault.ClockFull (MakesOf own d) (edit_makes own d c m one None))))

pub deleted_makes : (d : Document) → IsDocument d → (rev : Clock) (own : Uid) → IfOk (deleted d rev own) (MakesOf own d)
deleted_makes d w rev own = deleted_makes_at own d d.current w.current rev

-- ---- resolutions

-- a made revision that may leave the current one beside it is marked current where it does not
made_settled : (own : Uid) (d : Document) (c : Clock) → d.current ≡ Some c → CurrentIs d.members (Some c)
    → (a : Accept) → IsMade own d.members a → (b : Bool) → a.current ≡ (b || dominates a.rev c) → (a.current ≡ true)
    ⊎ StaysBeside d.current a.rev
made_settled own d c now m a made true e = inl e
made_settled own d c now m a made false e =
    elim (dominates a.rev c) as (λ k. dominates a.rev c ≡ k → (a.current ≡ true) ⊎ StaysBeside d.current a.rev) [
      | true ↦ λ n. inl (e ∙ n)
      | false ↦ λ n. inr (subst (λ o. StaysBeside o a.rev) (sym now)
          (subst (λ (k : Clock). covers a.rev k ≡ false) m.2
          (not_newer own d.members a m.0 made m.1 (subst (λ (k : Clock). dominates a.rev k ≡ false) (sym m.2) n))))
    ] refl

resolution_makes : (own : Uid) (d : Document) (c : Clock) → d.current ≡ Some c → CurrentIs d.members (Some c)
    → (named : List Clock) (t : Option Tree)
    → nat_lt (greatest own (revs (named_in named (in_order c d.members))))
    (greatest own (revs (in_order c d.members))) ≡ false →
    (r : Clock) → made_clock own (revs (named_in named (in_order c d.members))) ≡ Some r →
    MakesOf own d (record {
      rev = r;
      content = t;
      making = Resolve;
      parents =
          revs (named_in named (in_order c d.members));
      current = list_any (λ p. same p c) (revs (named_in named (in_order c d.members))) || dominates r c;
    })
resolution_makes own d c now m named t least r e =
    let ps = revs (named_in named (in_order c d.members)) in
    let a : Accept = record {
      rev = r;
      content = t;
      making = Resolve;
      parents = ps;
      current =
          list_any (λ p. same p c) ps || dominates r c;
    } in
    let made : IsMade own d.members a = is_made own d.members a e
    (λ n i. le_trans (most_counts own n.rev (revs (in_order c d.members))
    (In-map (λ k. k.rev) n (in_order c d.members) (to_order c d.members n i))) (not_less _ _ least)) in
    record {
      own_making = refl;
      fits = record {
        not_older = not_older own d.members a made;
        settled =
            made_settled own d c now m a made (list_any (λ p. same p c) ps) refl;
      };
      made = made;
      parents = λ p i.
          let f = from_map (λ k. k.rev) p (named_in named (in_order c d.members)) i in (
            f.0,
            from_order c d.members f.0
                (from_filter (λ k. list_any (λ n. same n k.rev) named) f.0 (in_order c d.members) f.1).0,
            sym f.2,
          );
    }
  where
    not_less : (x y : ℕ) → nat_lt x y ≡ false → y ≤ x
    not_less x y h = grind arith

resolved_makes_at : (own : Uid) (d : Document) (c : Option Clock) → d.current ≡ c → CurrentIs d.members c
    → (named : List Clock) (t : Option Tree) → IfOk (resolved_at c d named t own) (MakesOf own d)
resolved_makes_at own d None now none named t = tt
resolved_makes_at own d (Some c) now m named t =
    let ps = revs (named_in named (in_order c d.members)) in
    unless (not (is_conflicted d)) resolve_fault.NotConflicted _ (MakesOf own d)
    (λ _. unless (is_empty ps) resolve_fault.NothingNamed _ (MakesOf own d) (λ _.
    unless (nat_lt (greatest own ps) (greatest own (revs (in_order c d.members))))
    (resolve_fault.Unnamed (leader own c (in_order c d.members))) _ (MakesOf own d) (λ least.
    made_ok (λ r. record {
      rev = r;
      content = t;
      making = Resolve;
      parents = ps;
      current = list_any (λ p. same p c) ps
          || dominates r c;
    }) (made_clock own ps) resolve_fault.ClockFull (MakesOf own d) (resolution_makes own d c now m named t least))))

pub resolved_makes : (d : Document) → IsDocument d → (named : List Clock) (t : Option Tree) (own : Uid)
    → IfOk (resolved d named t own) (MakesOf own d)
resolved_makes d w named t own = resolved_makes_at own d d.current refl w.current named t

-- ---- receipts

-- what holds of each row where it is the first that applies
abbrev pub EachRow : (Taken → Type 0) → List Row → Taken → Type 0
EachRow P [] last = P last
EachRow P (r ∷ rs) last = (r.0 ≡ true → P r.1) × (r.0 ≡ false → EachRow P rs last)

pub by_rows : (P : Taken → Type 0) (rs : List Row) (last : Taken) → EachRow P rs last → P (first_row rs last)
by_rows P [] last h = h
by_rows P (r ∷ rs) last h = cond_both r.0 r.1 (first_row rs last) P h.0 (λ e. by_rows P rs last (h.1 e))

pub takes_received : (own : Uid) (d : Document) (x : Member) → list_any (λ m. dominates m.rev x.rev) d.members ≡ false
    → TakesOf own d x (received x)
takes_received own d x none = record {
  fits = record { not_older = none; settled = inl refl };
  received = λ _. (refl, refl);
  merged = λ h. absurd (h refl);
  parents = λ p i. absurd i;
}

module _ (own : Uid) (d : Document) (w : IsDocument d) (c : Clock) (now : d.current ≡ Some c)
    (m : CurrentIs d.members (Some c)) (x : Member) where
  -- no member is newer where neither the current one nor another one is
  pub none_newer : dominates c x.rev ≡ false → list_any (λ n. dominates n.rev x.rev) (others c d.members) ≡ false
      → list_any (λ n. dominates n.rev x.rev) d.members ≡ false
  none_newer p q =
      passes_none (λ n. dominates n.rev x.rev) d.members (λ n i.
      elim (same n.rev c) as (λ b. same n.rev c ≡ b → dominates n.rev x.rev ≡ false) [
        | true ↦ λ e. ap (λ k. dominates k x.rev) ((same_decides n.rev c).0 e) ∙ p
        | false ↦ λ e. none_true _
            (λ t. not_both _ (finds (λ k. dominates k.rev x.rev) n (others c d.members)
            (In-filter (λ k. not (same k.rev c)) n d.members i (ap not e)) t) q)
      ] refl)

  -- no member is newer than what is newer than the current one
  pub none_newer_above : dominates x.rev c ≡ true → list_any (λ n. dominates n.rev x.rev) d.members ≡ false
  none_newer_above n =
      passes_none (λ k. dominates k.rev x.rev) d.members (λ k i. none_true _ (λ t.
      not_both _
      (finds (λ j. dominates j.rev m.0.rev) k d.members i
      (above_through covers_member members_preorder k x m.0 t
      (subst (λ (j : Clock). covers x.rev j ≡ true) (sym m.2) (and_parts (covers x.rev c) (not (covers c x.rev)) n).0)))
      (w.apart m.0 m.1)))

  -- a member counts no more than a revision that is merged
  pub merge_least : may_merge (in_order c d.members) x own ≡ true → (n : Member) → In n d.members
      → count_of n.rev own ≤ greatest own (merge_parents x (in_order c d.members))
  merge_least may n i =
      let ms = in_order c d.members in
      let j : In n (in_order c d.members) = to_order c d.members n i in
      elim (dominates x.rev n.rev) as (λ b. dominates x.rev n.rev ≡ b
      → count_of n.rev own ≤ greatest own (merge_parents x (in_order c d.members))) [
        | true ↦ λ e. le_trans (covers_at x.rev n.rev
            (and_parts (covers x.rev n.rev) (not (covers n.rev x.rev)) e).0 own)
            (most_counts own x.rev (merge_parents x ms) (inl refl))
        | false ↦ λ e. elim (same_content n.content x.content) as
            (λ b. same_content n.content x.content ≡ b
            → count_of n.rev own ≤ greatest own (merge_parents x (in_order c d.members))) [
              | true ↦ λ s. most_counts own n.rev (merge_parents x ms)
                  (inr (In-map (λ k. k.rev) n (alike x ms)
                  (In-filter (is_alike x) n ms j (ap₂ (λ a b. not a && b) e s))))
              | false ↦ λ s.
                  leb-true (count_of n.rev own) (greatest own (merge_parents x ms))
                  (all_at (λ k. nat_le (count_of k.rev own) (greatest own (merge_parents x ms))) n (unlike x ms)
                  (and_parts (not (is_empty (alike x ms))) _ may).1
                  (In-filter (is_unlike x) n ms j (ap₂ (λ a b. not a && not b) e s)))
            ] refl
      ] refl

  merge_takes : (save : Bool) → may_merge (in_order c d.members) x own ≡ true → (r : Clock)
      → made_clock own (merge_parents x (in_order c d.members)) ≡ Some r →
      TakesOf own d x (record {
        rev = r;
        content = x.content;
        making = Merge;
        parents =
            merge_parents x (in_order c d.members);
        current = save || has_rev (alike x (in_order c d.members)) c || dominates r c;
      })
  merge_takes save may r e =
      let ms = in_order c d.members in
      let a : Accept = record {
        rev = r;
        content = x.content;
        making = Merge;
        parents = merge_parents x ms;
        current =
            save || has_rev (alike x ms) c || dominates r c;
      } in
      let made : IsMade own d.members a = is_made own d.members a e (merge_least may) in
      record {
        fits = record {
          not_older = not_older own d.members a made;
          settled =
              made_settled own d c now m a made (save || has_rev (alike x ms) c) refl;
        };
        received = λ h. absurd (cc);
        merged = λ _. (made, inl refl, refl);
        parents = λ p i. elim i [
          | inl q ↦ inl q
          | inr j ↦ let f = from_map (λ k. k.rev) p (alike x ms) j
              in inr (f.0, from_order c d.members f.0 (from_filter (is_alike x) f.0 ms f.1).0, sym f.2)
        ];
      }

  takes_over : (save : Bool) → IfSome (decides_over c (in_order c d.members) (others c d.members) x save own).accepted
      (TakesOf own d x)
  takes_over save =
      by_rows (λ (t : Taken). IfSome t.accepted (TakesOf own d x))
      (table c (in_order c d.members) (others c d.members) x save own) (nothing Conflicted) (
        λ _. tt,
        λ _. (
          λ _. tt,
          λ older. (
            λ n. takes_received own d x (none_newer_above n),
            λ _. (
              λ _. tt,
              λ no. (
                λ _. takes_received own d x (none_newer older no),
                λ _. (
                  λ _. tt,
                  λ _. (
                    λ may. made_some (λ r. record {
                      rev = r;
                      content = x.content;
                      making = Merge;
                      parents =
                          merge_parents x (in_order c d.members);
                      current = save || has_rev (alike x (in_order c d.members)) c || dominates r c;
                    }) (made_clock own (merge_parents x (in_order c d.members))) (TakesOf own d x)
                        (merge_takes save (and_parts (may_merge (in_order c d.members) x own) _ may).0),
                    λ _. (λ _. takes_received own d x (none_newer older no), λ _. tt),
                  ),
                ),
              ),
            ),
          ),
        ),
      )

takes_at : (own : Uid) (d : Document) → IsDocument d → (c : Option Clock) → d.current ≡ c → CurrentIs d.members c
    → (x : Member) (save : Bool) → IfSome (decides_at c d.members x save own).accepted (TakesOf own d x)
takes_at own d w None now none x save =
    takes_received own d x (ap (λ (ms : List Member). list_any (λ m. dominates m.rev x.rev) ms) none)
takes_at own d w (Some c) now m x save = takes_over own d w c now m x save

pub decides_takes : (d : Document) → IsDocument d → (x : Member) (save : Bool) (own : Uid)
    → IfSome (decides d x save own).accepted (TakesOf own d x)
decides_takes d w x save own = takes_at own d w d.current refl w.current x save
