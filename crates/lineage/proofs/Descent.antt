-- What the facts of a lineage say together: ancestry is read off the clocks, and equal clocks are one making.
use Rattle.std.specs.Prelude.{◌≡◌, ◌≢◌, ℕ, ◌<◌, ◌≤◌, ◌⊎◌, true, false, List, [], ◌∷◌, refl}
use Rattle.std.proofs.Common.{sym, ◌∙◌, ap, subst, inl, inr, arith, le_trans}
use Rattle.std.proofs.lemmas.Bool.{cases_lt}
use Rattle.u1_base.specs.Ids.{same_id}
use Rattle.u1_base.proofs.SameIds.{same_id_is, is_same_id}
use Rattle.u1_base.proofs.Booleans.{not_both}
use Rattle.vector_rev.specs.Counts.{Uid}
use Rattle.vector_rev.specs.Clock.{Clock, count_of, covers, dominates, Covers}
use Rattle.vector_rev.proofs.ClockLaws.{covers_at, dominates_at, dominates_from, Covers-both}
use Rattle.conflicts.specs.Lists.{In}
use Rattle.conflicts.specs.State.{is_own}
use Rattle.conflicts.specs.declared.member.Member.{Member}
use Rattle.conflicts.specs.declared.accept.Accept.{Accept}
use Rattle.lineage.specs.Lineage.{Lines, Makes, Parent, Ancestor, parent, earlier, Was}
use Rattle.lineage.specs.inner.Lineage.{Leads}
use Rattle.lineage.specs.Lineage.{Rising, Lineage}

pub same_or_other : (u v : Uid) → (u ≡ v) ⊎ (u ≢ v)
same_or_other u v = elim (same_id u v) as (λ b. same_id u v ≡ b → (u ≡ v) ⊎ (u ≢ v)) [
  | true ↦ λ t. inl (same_id_is u v t)
  | false ↦ λ f. inr (λ e. not_both _ (is_same_id u v e) f)
] refl

-- ---- chains of parents

module _ (of : Lines) where
  pub Ancestor-trans : (r s t : Clock) → Ancestor of r s → Ancestor of s t → Ancestor of r t
  Ancestor-trans r s t (parent p) later = earlier p later
  Ancestor-trans r s t (earlier p on) later = earlier p (Ancestor-trans _ s t on later)

  pub Leads-Ancestor : (r s t : Clock) → Leads of r s → Ancestor of s t → Ancestor of r t
  Leads-Ancestor r s t (inl e) a = subst (λ q. Ancestor of q t) (sym e) a
  Leads-Ancestor r s t (inr b) a = Ancestor-trans r s t b a

  pub Leads-trans : (r s t : Clock) → Leads of r s → Leads of s t → Leads of r t
  Leads-trans r s t a (inl e) = subst (Leads of r) e a
  Leads-trans r s t a (inr b) = inr (Leads-Ancestor r s t a b)

-- lines that have all makings of others have their chains too
pub Ancestor-more : (of more : Lines) → ((u : Uid) (a : Accept) → Makes of u a → Makes more u a) → (r s : Clock)
    → Ancestor of r s → Ancestor more r s
Ancestor-more of more lift r s (parent p) =
    parent
    (record { maker = p.maker; accept = p.accept; made = lift p.maker p.accept p.made; is = p.is; named = p.named })
Ancestor-more of more lift r s (earlier p on) =
    earlier
    (record { maker = p.maker; accept = p.accept; made = lift p.maker p.accept p.made; is = p.is; named = p.named })
    (Ancestor-more of more lift _ s on)

pub Was-more : (of more : Lines) → ((u : Uid) (a : Accept) → Makes of u a → Makes more u a) → (m : Member) → Was of m
    → Was more m
Was-more of more lift m w =
    record { maker = w.maker; accept = w.accept; made = lift w.maker w.accept w.made; rev = w.rev; content = w.content }

-- ---- what the facts say together

same_counter : (u : Uid) (line : List Accept) → Rising u line → (a b : Accept) → In a line → In b line
    → is_own a.making ≡ true
    → is_own b.making ≡ true → count_of a.rev u ≡ count_of b.rev u → a ≡ b
same_counter u [] r a b i j p q e = absurd i
same_counter u (c ∷ cs) r a b (inl x) (inl y) p q e = x ∙ sym y
same_counter u (c ∷ cs) r a b (inl x) (inr j) p q e =
    let less : count_of c.rev u < count_of b.rev u = r.0 (subst (λ (z : Accept). is_own z.making ≡ true) x p) b j q in
    let same : count_of a.rev u ≡ count_of c.rev u = ap (λ (z : Accept). count_of z.rev u) x in
    absurd (omega (arith, less, same, e))
same_counter u (c ∷ cs) r a b (inr i) (inl y) p q e =
    let less : count_of c.rev u < count_of a.rev u = r.0 (subst (λ (z : Accept). is_own z.making ≡ true) y q) a i p in
    let same : count_of b.rev u ≡ count_of c.rev u = ap (λ (z : Accept). count_of z.rev u) y in
    absurd (omega (arith, less, same, e))
same_counter u (c ∷ cs) r a b (inr i) (inr j) p q e = same_counter u cs r.1 a b i j p q e

module _ (of : Lines) (l : Lineage of) where
  -- of two makings of one replica the one with the lower own counter leads to the other
  pub leads_own : (u : Uid) (a b : Accept) → Makes of u a → Makes of u b → count_of a.rev u ≤ count_of b.rev u
      → Leads of a.rev b.rev
  leads_own u a b m n le = elim (cases_lt (count_of a.rev u) (count_of b.rev u)) [
    | inl less ↦ inr (l.chain u a b m n less)
    | inr more ↦ inl
        (ap (λ (z : Accept). z.rev)
        (same_counter u (of u) (l.rising u) a b m.accepted n.accepted m.own n.own (omega (arith, le, more))))
  ]

  -- what a making counts for any replica, the replica made, and that leads to the making
  pub reaches : (u v : Uid) (a : Accept) → Makes of u a → 1 ≤ count_of a.rev v
      → (b : Accept) × Makes of v b × (count_of b.rev v ≡ count_of a.rev v) × Leads of b.rev a.rev
  reaches u v a m some = elim (same_or_other u v) [
    | inl e ↦ (a, subst (λ w. Makes of w a) e m, refl, inl refl)
    | inr other ↦ let c = l.counted u v a m other some
        in (c.0, c.1, c.2, inr c.3)
  ]

  pub leads_counted : (u v : Uid) (a b : Accept) → Makes of u a → Makes of v b → count_of b.rev v ≤ count_of a.rev v
      → Leads of b.rev a.rev
  leads_counted u v a b m n le =
      let c = reaches u v a m (le_trans (l.counts v b n) le) in
      Leads-trans of b.rev c.0.rev a.rev
      (leads_own v b c.0 n c.1 (subst (λ (k : ℕ). count_of b.rev v ≤ k) (sym c.2) le)) c.3

  -- a making that covers another one is that one or descends from it
  pub covers_leads : (u v : Uid) (a b : Accept) → Makes of u a → Makes of v b → covers a.rev b.rev ≡ true
      → Leads of b.rev a.rev
  covers_leads u v a b m n c = leads_counted u v a b m n (covers_at a.rev b.rev c v)

  parent_above : (r s : Clock) → Parent of r s → dominates s r ≡ true
  parent_above r s p = subst (λ z. dominates z r ≡ true) p.is (l.above p.maker p.accept p.made r p.named)

  pub ancestor_above : (r s : Clock) → Ancestor of r s → dominates s r ≡ true
  ancestor_above r s (parent p) = parent_above r s p
  ancestor_above r t (earlier {s = s} p on) =
      let low = dominates_at s r (parent_above r s p) in
      let high = dominates_at t s (ancestor_above s t on) in
      dominates_from t r (λ u. le_trans (low.0 u) (high.0 u), λ e. high.1 (e ∙ back t s r e low.0 high.0))
    where
      back : (t s r : Clock) → t ≡ r → Covers s r → Covers t s → r ≡ s
      back t s r e low high = Covers-both r s (λ u. subst (λ z. count_of s u ≤ count_of z u) e (high u)) low

  not_own_ancestor : (r : Clock) → Ancestor of r r → ⊥
  not_own_ancestor r a = (dominates_at r r (ancestor_above r r a)).1 refl

  -- equal clocks are one making
  pub one_making : (u v : Uid) (a b : Accept) → Makes of u a → Makes of v b → a.rev ≡ b.rev → (u ≡ v) × (a ≡ b)
  one_making u v a b m n e = elim (same_or_other v u) [
    | inl same ↦ (
      sym same,
      same_counter u (of u) (l.rising u) a b m.accepted (subst (λ w. In b (of w)) same n.accepted) m.own n.own
          (ap (λ c. count_of c u) e),
    )
    | inr other ↦
        let c = l.counted v u b n other (subst (λ r. 1 ≤ count_of r u) e (l.counts u a m)) in
        let same : c.0 ≡ a = same_counter u (of u) (l.rising u) c.0 a c.1.accepted m.accepted c.1.own m.own
        (c.2 ∙ ap (λ r. count_of r u) (sym e)) in
        absurd (not_own_ancestor b.rev (subst (λ r. Ancestor of r b.rev) (ap (λ (z : Accept). z.rev) same ∙ e) c.3))
  ]

  pub one_content : (u v : Uid) (a b : Accept) → In a (of u) → In b (of v) → a.rev ≡ b.rev → a.content ≡ b.content
  one_content u v a b i j e =
      let x = l.origin u a i in
      let y = l.origin v b j in
      sym x.content
      ∙ ap (λ (z : Accept). z.content)
      (one_making x.maker y.maker x.accept y.accept x.made y.made (x.rev ∙ e ∙ sym y.rev)).1
      ∙ y.content
