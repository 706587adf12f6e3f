-- What a replica makes is lawful, and so is what it accepts of a revision that was made somewhere.
use Rattle.std.specs.Prelude.{◌≡◌, ◌≢◌, ◌⊎◌, true, false, cond, List, [], ◌∷◌, Option, Some, None, refl}
use Rattle.std.specs.Option.{option_map}
use Rattle.std.proofs.Common.{sym, ◌∙◌, ap, subst, inl, inr}
use Rattle.vector_rev.specs.Counts.{Uid}
use Rattle.vector_rev.specs.Clock.{Clock}
use Rattle.vector_rev.specs.Compare.{same}
use Rattle.vector_rev.proofs.ClockLaws.{same_decides}
use Rattle.u1_base.proofs.Booleans.{not_both}
use Rattle.conflicts.specs.Lists.{In}
use Rattle.conflicts.specs.Document.{Document, content_at, current_member, document_of}
use Rattle.conflicts.specs.Laws.{CurrentIs, MakesOf, TakesOf}
use Rattle.conflicts.specs.State.{Text, is_own}
use Rattle.conflicts.specs.declared.member.Member.{Member}
use Rattle.conflicts.specs.declared.accept.Accept.{Accept}
use Rattle.conflicts.specs.declared.accept.Making.{Making}
use Rattle.conflicts.specs.declared.accept.Making.TheVariants.{Edit, Resolve, Merge, Received}
use Rattle.conflicts.proofs.WellFormed.{document_of-IsDocument}
use Rattle.lineage.specs.Lineage.{Makes, Was, Arrives, Begins}
use Rattle.lineage.specs.Histories.{Histories, Descends, lines, seen}
use Rattle.lineage.proofs.Descended.{member_was}

-- a making is the replica's own, or it was received
own_or_received : (m : Making) → ((m ≢ Received) × (is_own m ≡ true)) ⊎ (m ≡ Received)
own_or_received Edit = inl (λ e. not_both _ refl (ap is_own e), refl)
own_or_received Resolve = inl (λ e. not_both _ refl (ap is_own e), refl)
own_or_received Merge = inl (λ e. not_both _ refl (ap is_own e), refl)
own_or_received Received = inr refl

module _ (of : Histories) (descends : Descends of) (doc : Text) (u : Uid) where
  -- a making of the revision
  abbrev Known : Clock → Type 0
  Known p = (v : Uid) × (b : Accept) × Makes (lines doc of) v b × (b.rev ≡ p)

  known_was : (m : Member) (p : Clock) → m.rev ≡ p → Was (lines doc of) m → Known p
  known_was m p e w = (w.maker, w.accept, w.made, w.rev ∙ e)

  known_member : (p : Clock) → (m : Member) × In m (document_of (seen doc (of u))).members × (m.rev ≡ p) → Known p
  known_member p m = known_was m.0 p m.2 (member_was of descends doc u m.0 m.1)

  pub made_lawful : (a : Accept) → MakesOf u (document_of (seen doc (of u))) a → Begins (lines doc of) u a
  made_lawful a m = record { own = m.own_making; made = m.made; known = λ p i. known_member p (m.parents p i) }

  pub taken_lawful : (x : Member) (a : Accept) → Was (lines doc of) x → TakesOf u (document_of (seen doc (of u))) x a
      → Arrives (lines doc of) a ⊎ Begins (lines doc of) u a
  taken_lawful x a was takes = elim (own_or_received a.making) [
    | inr e ↦ let r = takes.received e in
        inl (record {
          received = ap is_own e;
          was = record {
            maker = was.maker;
            accept = was.accept;
            made = was.made;
            rev = was.rev ∙ sym r.0;
            content = was.content ∙ sym r.1;
          };
        })
    | inl own ↦ let m = takes.merged own.0 in
        inr (record {
          own = own.1;
          made = m.0;
          known = λ p i. elim (takes.parents p i) [
            | inl e ↦ known_was x p (sym e) was
            | inr member ↦ known_member p member
          ];
        })
  ]

-- ---- the current member of a document

-- the content at a member's revision is that of a member with this revision
content_from : (c : Clock) (ms : List Member) (m : Member) → In m ms → m.rev ≡ c
    → (n : Member) × In n ms × (n.rev ≡ c) × (content_at c ms ≡ n.content)
content_from c [] m i e = absurd i
content_from c (x ∷ ms) m i e =
    elim (same x.rev c) as (λ b. same x.rev c ≡ b
    → (n : Member) × In n (x ∷ ms) × (n.rev ≡ c) × (cond b x.content (content_at c ms) ≡ n.content)) [
      | true ↦ λ t. (x, inl refl, (same_decides x.rev c).0 t, refl)
      | false ↦ λ f. elim i [
        | inl is ↦ absurd (not_both _
            ((same_decides x.rev c).1 (ap (λ (z : Member). z.rev) (sym is) ∙ e)) f)
        | inr j ↦ let r = content_from c ms m j e in (r.0, inr r.1, r.2, r.3)
      ]
    ] refl

-- the current member is one with the current revision and its content
is_current : (d : Document) (c : Clock) (n m : Member) → d.current ≡ Some c → n.rev ≡ c
    → content_at c d.members ≡ n.content → current_member d ≡ Some m → n ≡ m
is_current d c n m now rev content e =
    same_some n m
    ((λ i. Some (record { rev = rev i; content = sym content i }))
    ∙ sym (ap (λ (o : Option Clock). option_map (λ k. record { rev = k; content = content_at k d.members }) o) now) ∙ e)
  where
    same_some : (x y : Member) → Some x ≡ Some y → x ≡ y
    same_some x y e = cc

no_current : (d : Document) (m : Member) → d.current ≡ None → current_member d ≡ Some m → ⊥
no_current d m now e =
    none_some
    (sym (ap (λ (o : Option Clock). option_map (λ k. record { rev = k; content = content_at k d.members }) o) now) ∙ e)
  where
    none_some : None ≡ Some m → ⊥
    none_some e = cc

module _ (of : Histories) (descends : Descends of) (doc : Text) (u : Uid) where
  abbrev kept : Document
  kept = document_of (seen doc (of u))

  current_was_at : (c : Option Clock) → kept.current ≡ c → CurrentIs kept.members c → (m : Member)
      → current_member kept ≡ Some m → Was (lines doc of) m
  current_was_at None now none m e = absurd (no_current kept m now e)
  current_was_at (Some c) now member m e =
      let n = content_from c kept.members member.0 member.1 member.2 in
      subst (Was (lines doc of)) (is_current kept c n.0 m now n.2 n.3 e) (member_was of descends doc u n.0 n.1)

  -- the current member of a replica's document was made
  pub current_was : (m : Member) → current_member kept ≡ Some m → Was (lines doc of) m
  current_was m e =
      current_was_at kept.current refl (document_of-IsDocument (seen doc (of u))).current m e
