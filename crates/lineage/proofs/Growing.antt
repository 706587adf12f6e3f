-- One acceptance more keeps the facts of a lineage: one that is handed over, and one that is made.
use Rattle.std.specs.Prelude.{◌≡◌, ◌≢◌, ℕ, ◌+◌, ◌<◌, ◌≤◌, ◌⊎◌, true, false, cond, List, [], ◌∷◌, ◌++◌, refl}
use Rattle.std.proofs.Common.{sym, ◌∙◌, ap, subst, inl, inr, arith}
use Rattle.u1_base.specs.Ids.{same_id}
use Rattle.u1_base.proofs.SameIds.{same_id_is, same_id-itself}
use Rattle.u1_base.proofs.Booleans.{not_both}
use Rattle.vector_rev.specs.Counts.{Uid}
use Rattle.vector_rev.specs.Clock.{Clock, count_of, dominates}
use Rattle.vector_rev.proofs.ClockLaws.{covers_at}
use Rattle.conflicts.specs.Lists.{In}
use Rattle.conflicts.specs.Document.{member_of}
use Rattle.conflicts.specs.Making.{greatest}
use Rattle.conflicts.specs.State.{is_own}
use Rattle.conflicts.specs.declared.accept.Accept.{Accept}
use Rattle.conflicts.proofs.Members.{In-left, In-push, In-last}
use Rattle.conflicts.proofs.Documents.{accepted_covered}
use Rattle.lineage.specs.Lineage.{Lines, Makes, Parent, Ancestor, parent, Was, Arrives}
use Rattle.lineage.specs.inner.Lineage.{Leads, grown}
use Rattle.lineage.specs.Lineage.{Begins, Rising, Lineage}
use Rattle.lineage.proofs.Descent.{Ancestor-more, Was-more, Leads-Ancestor}
use Rattle.lineage.proofs.Descent.{reaches, leads_own}

-- ---- what the grown lines hold

in_grown : (of : Lines) (u : Uid) (a : Accept) (v : Uid) (x : Accept) → In x (of v) → In x (grown of u a v)
in_grown of u a v x i = elim (same_id v u) as (λ b. In x (cond b (of v ++ a ∷ []) (of v))) [
  | true ↦ In-left x (of v) (a ∷ []) i
  | false ↦ i
]

new_in : (of : Lines) (u : Uid) (a : Accept) → In a (grown of u a u)
new_in of u a = subst (λ b. In a (cond b (of u ++ a ∷ []) (of u))) (sym (same_id-itself u)) (In-last a (of u))

from_grown : (of : Lines) (u : Uid) (a : Accept) (v : Uid) (x : Accept) → In x (grown of u a v)
    → In x (of v) ⊎ ((v ≡ u) × (x ≡ a))
from_grown of u a v x i = elim (same_id v u) as (λ b. same_id v u ≡ b → In x (cond b (of v ++ a ∷ []) (of v))
    → In x (of v) ⊎ ((v ≡ u) × (x ≡ a))) [
      | true ↦ λ t j. elim (In-push x a (of v) j) [ inl k ↦ inl k | inr e ↦ inr (same_id_is v u t, e) ]
      | false ↦ λ _ j. inl j
    ] refl i

lifted : (of : Lines) (u : Uid) (a : Accept) (v : Uid) (x : Accept) → Makes of v x → Makes (grown of u a) v x
lifted of u a v x m = record { accepted = in_grown of u a v x m.accepted; own = m.own }

Rising-push : (u : Uid) (line : List Accept) (a : Accept) → Rising u line
    → (is_own a.making ≡ true → (b : Accept) → In b line → is_own b.making ≡ true → count_of b.rev u < count_of a.rev u)
    → Rising u (line ++ a ∷ [])
Rising-push u [] a r h = (λ _ b i. absurd i, tt)
Rising-push u (c ∷ cs) a r h = (
  λ own b i mine. elim (In-push b a cs i) [
    | inl j ↦ r.0 own b j mine
    | inr e ↦ subst (λ (z : Accept). count_of c.rev u < count_of z.rev u) (sym e)
        (h (subst (λ (z : Accept). is_own z.making ≡ true) e mine) c (inl refl) own)
  ],
  Rising-push u cs a r.1 (λ own b i mine. h own b (inr i) mine),
)

Rising-grown : (of : Lines) (u : Uid) (a : Accept) → ((v : Uid) → Rising v (of v))
    → (is_own a.making ≡ true → (b : Accept) → In b (of u) → is_own b.making ≡ true
    → count_of b.rev u < count_of a.rev u)
    → (v : Uid) → Rising v (grown of u a v)
Rising-grown of u a r h v = elim (same_id v u) as (λ b. same_id v u ≡ b → Rising v (cond b (of v ++ a ∷ []) (of v))) [
  | true ↦ λ t. Rising-push v (of v) a (r v)
      (subst (λ w. is_own a.making ≡ true → (b : Accept) → In b (of w) → is_own b.making ≡ true
      → count_of b.rev w < count_of a.rev w) (sym (same_id_is v u t)) h)
  | false ↦ λ _. r v
] refl

-- ---- a revision that is handed over

module _ (of : Lines) (l : Lineage of) (u : Uid) (a : Accept) where
  module _ (comes : Arrives of a) where
    -- it adds no making
    no_making : (v : Uid) (x : Accept) → Makes (grown of u a) v x → Makes of v x
    no_making v x m = elim (from_grown of u a v x m.accepted) [
      | inl i ↦ record { accepted = i; own = m.own }
      | inr e ↦ absurd (not_both _ (subst (λ (z : Accept). is_own z.making ≡ true) e.1 m.own) comes.received)
    ]

    more : (r s : Clock) → Ancestor of r s → Ancestor (grown of u a) r s
    more r s = Ancestor-more of (grown of u a) (lifted of u a) r s

    origin_arrived : (v : Uid) (x : Accept) → In x (grown of u a v) → Was (grown of u a) (member_of x)
    origin_arrived v x i = Was-more of (grown of u a) (lifted of u a) (member_of x) (elim (from_grown of u a v x i) [
      | inl j ↦ l.origin v x j
      | inr e ↦ subst (λ (z : Accept). Was of (member_of z)) (sym e.1) comes.was
    ])

    pub after_arrival : Lineage (grown of u a)
    after_arrival = record {
      origin = origin_arrived;
      rising = Rising-grown of u a l.rising (λ own. absurd (not_both _ own comes.received));
      counts = λ v x m. l.counts v x (no_making v x m);
      above = λ v x m. l.above v x (no_making v x m);
      counted = λ v w x m other some.
          let c = l.counted v w x (no_making v x m) other some in
          (c.0, lifted of u a w c.0 c.1, c.2, more _ _ c.3);
      chain = λ v x y m n less. more _ _ (l.chain v x y (no_making v x m) (no_making v y n) less);
    }

  -- ---- a revision that the replica makes
  module _ (begins : Begins of u a) where
    of_more : Lines
    of_more = grown of u a

    some_parent : (v : Uid) → 1 ≤ greatest v a.parents
        → (p : Clock) × In p a.parents × (count_of p v ≡ greatest v a.parents)
    some_parent v some = begins.made.greatest_parent v (λ none. none_greater none)
      where
        none_greater : a.parents ≡ [] → ⊥
        none_greater none =
            let zero_of : greatest v a.parents ≡ 0 = ap (greatest v) none in omega (arith, some, zero_of)

    -- what a parent counts for v, v made, and that leads to the new making
    reached : (v : Uid) (n : ℕ) → 1 ≤ n → n ≡ greatest v a.parents
        → (b : Accept) × Makes of v b × (count_of b.rev v ≡ n) × Ancestor (grown of u a) b.rev a.rev
    reached v n some is =
        let p = some_parent v (subst (λ (k : ℕ). 1 ≤ k) is some) in
        let from = begins.known p.0 p.1 in
        let same : count_of from.1.rev v ≡ n = ap (λ c. count_of c v) from.3 ∙ p.2 ∙ sym is in
        let r = reaches of l from.0 v from.1 from.2 (subst (λ (k : ℕ). 1 ≤ k) (sym same) some) in
        let last : Parent (grown of u a) p.0 a.rev = record {
          maker = u;
          accept = a;
          made = record { accepted = new_in of u a; own = begins.own };
          is = refl;
          named = p.1;
        } in (
          r.0,
          r.1,
          r.2 ∙ same,
          Leads-Ancestor (grown of u a) r.0.rev p.0 a.rev
              (subst (λ c. Leads (grown of u a) r.0.rev c) from.3 (more_leads r.0.rev from.1.rev r.3)) (parent last),
        )
      where
        more_leads : (r s : Clock) → Leads of r s → Leads (grown of u a) r s
        more_leads r s (inl e) = inl e
        more_leads r s (inr b) = inr (Ancestor-more of (grown of u a) (lifted of u a) r s b)

    -- each own making before it has a lower own counter
    below : (b : Accept) → In b (of u) → count_of b.rev u < count_of a.rev u
    below b i =
        let m = accepted_covered (of u) b i in
        let low : count_of b.rev u ≤ count_of m.0.rev u = covers_at m.0.rev b.rev m.2 u in
        let high : count_of m.0.rev u < count_of a.rev u = begins.made.fresh m.0 m.1 in
        omega (arith, low, high)

    older : (r s : Clock) → Ancestor of r s → Ancestor (grown of u a) r s
    older r s = Ancestor-more of (grown of u a) (lifted of u a) r s

    -- each own making before it is its ancestor
    from_own : (b : Accept) → Makes of u b → Ancestor (grown of u a) b.rev a.rev
    from_own b m =
        let less : count_of b.rev u < count_of a.rev u = below b m.accepted in
        let some : 1 ≤ count_of b.rev u = l.counts u b m in
        let up : count_of a.rev u ≡ greatest u a.parents + 1 = begins.made.own_counter in
        let r = reached u (greatest u a.parents) (omega (arith, less, some, up)) refl in
        Leads-Ancestor (grown of u a) b.rev r.0.rev a.rev
        (lead_more (leads_own of l u b r.0 m r.1 (omega (arith, less, up, r.2)))) r.3
      where
        lead_more : {r s : Clock} → Leads of r s → Leads (grown of u a) r s
        lead_more (inl e) = inl e
        lead_more (inr b) = inr (older _ _ b)

    origin_made : (v : Uid) (x : Accept) → In x (grown of u a v) → Was (grown of u a) (member_of x)
    origin_made v x i = elim (from_grown of u a v x i) [
      | inl j ↦ Was-more of (grown of u a) (lifted of u a) (member_of x) (l.origin v x j)
      | inr e ↦ record {
        maker = u;
        accept = a;
        made = record { accepted = new_in of u a; own = begins.own };
        rev = ap (λ (z : Accept). z.rev) (sym e.1);
        content = ap (λ (z : Accept). z.content) (sym e.1);
      }
    ]

    -- a making was there before, or is the new one
    old_or_new : (v : Uid) (x : Accept) → Makes (grown of u a) v x → Makes of v x ⊎ ((v ≡ u) × (x ≡ a))
    old_or_new v x m = elim (from_grown of u a v x m.accepted) [
      | inl i ↦ inl (record { accepted = i; own = m.own })
      | inr e ↦ inr e
    ]

    counts_made : (v : Uid) (x : Accept) → Makes (grown of u a) v x → 1 ≤ count_of x.rev v
    counts_made v x m = elim (old_or_new v x m) [
      | inl n ↦ l.counts v x n
      | inr e ↦ subst (λ w. 1 ≤ count_of x.rev w) (sym e.0)
          (subst (λ (z : Accept). 1 ≤ count_of z.rev u) (sym e.1) (omega (arith, begins.made.own_counter)))
    ]

    above_made : (v : Uid) (x : Accept) → Makes (grown of u a) v x → (p : Clock) → In p x.parents
        → dominates x.rev p ≡ true
    above_made v x m p i = elim (old_or_new v x m) [
      | inl n ↦ l.above v x n p i
      | inr e ↦ subst (λ (z : Accept). dominates z.rev p ≡ true) (sym e.1)
          (begins.made.above p (subst (λ (z : Accept). In p z.parents) e.1 i))
    ]

    counted_made : (v w : Uid) (x : Accept) → Makes (grown of u a) v x → v ≢ w → 1 ≤ count_of x.rev w
        → (b : Accept) × Makes (grown of u a) w b × (count_of b.rev w ≡ count_of x.rev w)
        × Ancestor (grown of u a) b.rev x.rev
    counted_made v w x m other some = elim (old_or_new v x m) [
      | inl n ↦ let c = l.counted v w x n other some in (c.0, lifted of u a w c.0 c.1, c.2, older _ _ c.3)
      | inr e ↦ subst
          (λ (z : Accept). (b : Accept) × Makes (grown of u a) w b × (count_of b.rev w ≡ count_of z.rev w)
          × Ancestor (grown of u a) b.rev z.rev) (sym e.1) (new_one e.0 e.1)
    ]
      where
        new_one : v ≡ u → x ≡ a → (b : Accept) × Makes (grown of u a) w b × (count_of b.rev w ≡ count_of a.rev w)
            × Ancestor (grown of u a) b.rev a.rev
        new_one same is =
            let r = reached w (count_of a.rev w) (subst (λ (z : Accept). 1 ≤ count_of z.rev w) is some)
            (begins.made.others w (λ e. other (same ∙ sym e))) in
            (r.0, lifted of u a w r.0 r.1, r.2, r.3)

    chain_made : (v : Uid) (x y : Accept) → Makes (grown of u a) v x → Makes (grown of u a) v y
        → count_of x.rev v < count_of y.rev v → Ancestor (grown of u a) x.rev y.rev
    chain_made v x y m n less = by (old_or_new v x m) (old_or_new v y n)
      where
        by : Makes of v x ⊎ ((v ≡ u) × (x ≡ a)) → Makes of v y ⊎ ((v ≡ u) × (y ≡ a))
            → Ancestor (grown of u a) x.rev y.rev
        by (inl p) (inl q) = older _ _ (l.chain v x y p q less)
        by (inl p) (inr e) = subst (λ (z : Accept). Ancestor (grown of u a) x.rev z.rev) (sym e.1)
            (from_own x (subst (λ w. Makes of w x) e.0 p))
        by (inr e) (inl q) =
            let low : count_of y.rev u < count_of a.rev u = below y (subst (λ w. In y (of w)) e.0 q.accepted) in
            let turned : count_of a.rev u < count_of y.rev u =
            subst (λ (z : Accept). count_of z.rev u < count_of y.rev u) e.1
            (subst (λ w. count_of x.rev w < count_of y.rev w) e.0 less) in
            absurd (omega (arith, low, turned))
        by (inr e) (inr f) =
            let same : count_of x.rev v ≡ count_of y.rev v = ap (λ (z : Accept). count_of z.rev v) (e.1 ∙ sym f.1) in
            absurd (omega (arith, less, same))

    pub after_making : Lineage (grown of u a)
    after_making = record {
      origin = origin_made;
      rising = Rising-grown of u a l.rising (λ _ b i _. below b i);
      counts = counts_made;
      above = above_made;
      counted = counted_made;
      chain = chain_made;
    }
