-- Histories descend from their beginnings on, and what that says of their clocks and of their members.
use Rattle.std.specs.Prelude.{◌≡◌, ◌⊎◌, true, false, cond, not, List, [], ◌∷◌, ◌++◌, map, refl}
use Rattle.std.proofs.Common.{sym, ◌∙◌, ap, subst, inl, inr, append-nil}
use Rattle.std.proofs.lemmas.Bool.{and_parts}
use Rattle.u1_base.specs.Ids.{same_id}
use Rattle.vector_rev.specs.Counts.{Uid}
use Rattle.vector_rev.specs.Clock.{Clock, covers, dominates}
use Rattle.vector_rev.proofs.ClockLaws.{dominates_at}
use Rattle.conflicts.specs.Lists.{In}
use Rattle.conflicts.specs.Document.{covers_member, document_of, member_of, members_of}
use Rattle.conflicts.specs.State.{Text, Step, History, Accepted, Gone, Moved, IndexCreated, IndexDeleted, accepts_in}
use Rattle.conflicts.specs.State.{MadeBy, IsParent, IsAncestor}
use Rattle.conflicts.specs.State as state
use Rattle.conflicts.specs.declared.member.Member.{Member}
use Rattle.conflicts.specs.declared.accept.Accept.{Accept}
use Rattle.conflicts.proofs.Documents.{accepted_covered}
use Rattle.conflicts.proofs.Members.{from_map}
use Rattle.conflicts.proofs.Pruned.{from_undominated}
use Rattle.conflicts.proofs.States.{flat_map-push}
use Rattle.conflicts.proofs.WellFormed.{document_of-IsDocument}
use Rattle.lineage.specs.Lineage.{Makes, Parent, Ancestor, parent, earlier, Was, Lineage}
use Rattle.lineage.specs.inner.Lineage.{Leads, grown}
use Rattle.lineage.specs.Histories.{Histories, Lawful, Descends, Ancestry, Cover, lines, seen, stepped}
use Rattle.lineage.proofs.Descent.{covers_leads, ancestor_above, one_making, one_content}
use Rattle.lineage.proofs.Growing.{after_arrival, after_making}

-- ---- empty histories, and one step more

pub begins : Descends (λ u. [])
begins doc = record {
  origin = λ u a i. absurd i;
  rising = λ u. tt;
  counts = λ u a m. absurd m.accepted;
  above = λ u a m. absurd m.accepted;
  counted = λ u v a m. absurd m.accepted;
  chain = λ u a b m. absurd m.accepted;
}

-- a step accepts one revision of a document or none
one_or_none : (doc : Text) (x : Step) → (accepts_in doc x ≡ []) ⊎ ((a : Accept) × (accepts_in doc x ≡ a ∷ []))
one_or_none doc (Accepted d a trans moved) =
    elim (same_id doc d) as (λ b. (cond b (a ∷ []) [] ≡ []) ⊎ ((c : Accept) × (cond b (a ∷ []) [] ≡ c ∷ []))) [
      | true ↦ inr (a, refl)
      | false ↦ inl refl
    ]
one_or_none doc (Gone d trans moved) = inl refl
one_or_none doc (Moved m) = inl refl
one_or_none doc (IndexCreated n es) = inl refl
one_or_none doc (IndexDeleted n) = inl refl

module _ (of : Histories) (u : Uid) (x : Step) (doc : Text) where
  lines_same : accepts_in doc x ≡ [] → (v : Uid) → lines doc (stepped of u x) v ≡ lines doc of v
  lines_same none v = elim (same_id v u) as (λ b. seen doc (cond b (of v ++ x ∷ []) (of v)) ≡ seen doc (of v)) [
    | true ↦ flat_map-push (accepts_in doc) (of v) x
        ∙ ap (λ new. seen doc (of v) ++ new) none ∙ append-nil (seen doc (of v))
    | false ↦ refl
  ]

  lines_more : (a : Accept) → accepts_in doc x ≡ a ∷ [] → (v : Uid)
      → lines doc (stepped of u x) v ≡ grown (lines doc of) u a v
  lines_more a one v =
      elim (same_id v u) as (λ b. seen doc (cond b (of v ++ x ∷ []) (of v))
      ≡ cond b (seen doc (of v) ++ a ∷ []) (seen doc (of v))) [
        | true ↦ flat_map-push (accepts_in doc) (of v) x ∙ ap (λ new. seen doc (of v) ++ new) one
        | false ↦ refl
      ]

  grows_at : Lawful of u x → Lineage (lines doc of) → Lineage (lines doc (stepped of u x))
  grows_at lawful l = elim (one_or_none doc x) [
    | inl none ↦ subst Lineage (λ i v. sym (lines_same none v) i) l
    | inr one ↦ subst Lineage (λ i v. sym (lines_more one.0 one.1 v) i)
        (elim (lawful doc one.0 (subst (In one.0) (sym one.1) (inl refl))) [
          | inl comes ↦ after_arrival (lines doc of) l u one.0 comes
          | inr makes ↦ after_making (lines doc of) l u one.0 makes
        ])
  ]

pub grows : (of : Histories) (u : Uid) (x : Step) → Lawful of u x → Descends of → Descends (stepped of u x)
grows of u x lawful descends doc = grows_at of u x doc lawful (descends doc)

-- ---- ancestry over lines is ancestry over histories

module _ (of : Histories) (doc : Text) where
  pub makes_of : (u : Uid) (a : Accept) → MadeBy doc (of u) a → Makes (lines doc of) u a
  makes_of u a m = record { accepted = m.accepted; own = m.own }

  to_parent : (r s : Clock) → Parent (lines doc of) r s → IsParent of doc r s
  to_parent r s p = record {
    maker = p.maker;
    accept = p.accept;
    made = record { accepted = p.made.accepted; own = p.made.own };
    is = p.is;
    named = p.named;
  }

  to_ancestor : (r s : Clock) → Ancestor (lines doc of) r s → IsAncestor of doc r s
  to_ancestor r s (parent p) = state.parent (to_parent r s p)
  to_ancestor r s (earlier {s = m} p on) = state.earlier (to_parent r m p) (to_ancestor m s on)

  from_parent : (r s : Clock) → IsParent of doc r s → Parent (lines doc of) r s
  from_parent r s p = record {
    maker = p.maker;
    accept = p.accept;
    made = makes_of p.maker p.accept p.made;
    is = p.is;
    named = p.named;
  }

  from_ancestor : (r s : Clock) → IsAncestor of doc r s → Ancestor (lines doc of) r s
  from_ancestor r s (state.parent p) = parent (from_parent r s p)
  from_ancestor r s (state.earlier {s = m} p on) = earlier (from_parent r m p) (from_ancestor m s on)

  to_leads : (r s : Clock) → Leads (lines doc of) r s → (r ≡ s) ⊎ IsAncestor of doc r s
  to_leads r s (inl e) = inl e
  to_leads r s (inr b) = inr (to_ancestor r s b)

-- ---- what a clock says is what ancestry says

module _ (of : Histories) (descends : Descends of) where
  newer_descends : (doc : Text) (u v : Uid) (a b : Accept) → MadeBy doc (of u) a → MadeBy doc (of v) b
      → dominates b.rev a.rev ≡ true → IsAncestor of doc a.rev b.rev
  newer_descends doc u v a b m n newer =
      elim (covers_leads (lines doc of) (descends doc) v u b a (makes_of of doc v b n) (makes_of of doc u a m)
      (and_parts (covers b.rev a.rev) (not (covers a.rev b.rev)) newer).0) [
        | inl same ↦ absurd ((dominates_at b.rev a.rev newer).1 (sym same))
        | inr on ↦ to_ancestor of doc a.rev b.rev on
      ]

  pub ancestry : Ancestry of
  ancestry = record {
    newer = λ doc u v a b m n. (
      newer_descends doc u v a b m n,
      λ on. ancestor_above (lines doc of) (descends doc) a.rev b.rev (from_ancestor of doc a.rev b.rev on),
    );
    one = λ doc u v a b m n e.
        one_making (lines doc of) (descends doc) u v a b (makes_of of doc u a m) (makes_of of doc v b n) e;
    once = λ doc u. (descends doc).rising u;
    content = λ doc u v a b i j e. one_content (lines doc of) (descends doc) u v a b i j e;
  }

-- ---- nothing is lost

-- a member was accepted
pub accepted_member : (h : List Accept) (m : Member) → In m (members_of h) → (a : Accept) × In a h × (m ≡ member_of a)
accepted_member h m i = from_map member_of m h (from_undominated covers_member m (map member_of h) i)

module _ (of : Histories) (descends : Descends of) where
  -- so it was made
  pub member_was : (doc : Text) (u : Uid) (m : Member) → In m (document_of (seen doc (of u))).members
      → Was (lines doc of) m
  member_was doc u m i =
      let a = accepted_member (seen doc (of u)) m i in
      subst (Was (lines doc of)) (sym a.2) ((descends doc).origin u a.0 a.1)

  kept : (doc : Text) (u : Uid) (a : Accept) → In a (seen doc (of u))
      → (m : Member) × In m (document_of (seen doc (of u))).members
      × ((a.rev ≡ m.rev) ⊎ IsAncestor of doc a.rev m.rev)
  kept doc u a i =
      let c = accepted_covered (seen doc (of u)) a i in
      let high = member_was doc u c.0 c.1 in
      let low = (descends doc).origin u a i in (
        c.0,
        c.1,
        to_leads of doc a.rev c.0.rev
            (subst (λ r. Leads (lines doc of) r c.0.rev) low.rev
            (subst (Leads (lines doc of) low.accept.rev) high.rev
            (covers_leads (lines doc of) (descends doc) high.maker low.maker high.accept low.accept high.made low.made
            (subst (λ r. covers high.accept.rev r ≡ true) (sym low.rev)
            (subst (λ r. covers r a.rev ≡ true) (sym high.rev) c.2))))),
      )

  pub cover : Cover of
  cover = record { kept = kept; current = λ doc u. (document_of-IsDocument (seen doc (of u))).current }
