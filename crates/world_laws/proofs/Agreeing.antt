-- Two documents of one member each, of which one is not older and the other one covers it, read the same.
use Rattle.std.specs.Prelude.{◌≡◌, ℕ, zero, suc, ◌≤◌, Bool, true, false, cond, not, ◌||◌, List, [], ◌∷◌, ◌++◌, Option}
use Rattle.std.specs.Prelude.{Some}
use Rattle.std.specs.Prelude.{None, refl}
use Rattle.std.specs.List.{flat_map, list_any}
use Rattle.std.proofs.Common.{sym, ◌∙◌, ap, subst, inl, arith}
use Rattle.std.proofs.lemmas.Bool.{and_from}
use Rattle.u1_base.specs.Ids.{same_id}
use Rattle.u1_base.proofs.Booleans.{not_both}
use Rattle.vector_rev.specs.Clock.{Clock, covers, dominates}
use Rattle.vector_rev.specs.Compare.{same}
use Rattle.vector_rev.specs.Counts.{Uid}
use Rattle.vector_rev.proofs.ClockLaws.{covers-both}
use Rattle.conflicts.specs.Document.{Document, content_at, content_now, content_of, document_of}
use Rattle.conflicts.specs.Laws.{CurrentIs, IsDocument}
use Rattle.conflicts.specs.Lists.{In}
use Rattle.conflicts.specs.State.{Text, History, Accepted, Gone, Moved, IndexCreated, IndexDeleted, accepts_in}
use Rattle.conflicts.specs.State.{entries_in, state_of}
use Rattle.conflicts.specs.declared.accept.Accept.{Accept}
use Rattle.conflicts.specs.declared.member.Member.{Member}
use Rattle.conflicts.proofs.Apart.{same_itself}
use Rattle.sync_places.specs.inner.Facts.{CoversRev, NotOlder}
use Rattle.sync_places.specs.inner.Last.{last_in, last_of}
use Rattle.sync_places.proofs.LastPlaces.{none_last}
use Rattle.world_laws.proofs.Single.{Single, one_member}

-- ---- two documents

-- what is read where there is one member
content_single : (ms : List Member) (m : Member) → (n : Member) → In n ms → (k : Clock) → n.rev ≡ k
    → ((z : Member) → In z ms → z ≡ m) → content_at k ms ≡ m.content
content_single [] m n i k is one = absurd i
content_single (x ∷ ms) m n i k is one =
    let first : x ≡ m = one x (inl refl) in
    let here : n ≡ m = one n i in
    let rev : k ≡ x.rev = sym is ∙ ap (λ (z : Member). z.rev) here ∙ sym (ap (λ (z : Member). z.rev) first) in
    ap (λ (c : Clock). cond (same x.rev c) x.content (content_at k ms)) rev
    ∙ ap (λ b. cond b x.content (content_at k ms)) (same_itself x.rev)
    ∙ ap (λ (z : Member). z.content) first

both_ways : (x y : Clock) → covers x y ≡ true → dominates x y ≡ false → covers y x ≡ true
both_ways x y over not_newer = by (covers y x) refl
  where
    by : (b : Bool) → covers y x ≡ b → b ≡ true
    by true e = refl
    by false e = absurd (not_both (dominates x y) (and_from (covers x y) (not (covers y x)) over (ap not e)) not_newer)

module _ (a b : Document) (one : Single a) (other : Single b) (is_a : IsDocument a) (is_b : IsDocument b)
    (contents : (m n : Member) → In m a.members → In n b.members → m.rev ≡ n.rev → m.content ≡ n.content) where
  agree_at : (r s : Clock) → CurrentIs a.members (Some r) → CurrentIs b.members (Some s) → NotOlder b r
      → CoversRev a s → content_at r a.members ≡ content_at s b.members
  agree_at r s x y older over =
      let m : Member = x.0 in
      let n : Member = y.0 in
      let mine : over.0 ≡ m = one_member a.members one over.0 m over.1 x.1 in
      let theirs : older.0 ≡ n = one_member b.members other older.0 n older.1 y.1 in
      let high : covers r s ≡ true =
      subst (λ (k : Clock). covers k s ≡ true) (ap (λ (z : Member). z.rev) mine ∙ x.2) over.2 in
      let low : dominates r s ≡ false =
      subst (λ (k : Clock). dominates r k ≡ false) (ap (λ (z : Member). z.rev) theirs ∙ y.2) older.2 in
      let rev : r ≡ s = covers-both r s high (both_ways r s high low) in
      content_single a.members m m x.1 r x.2 (λ z i. one_member a.members one z m i x.1)
      ∙ contents m n x.1 y.1 (x.2 ∙ rev ∙ sym y.2)
      ∙ sym (content_single b.members n n y.1 s y.2 (λ z i. one_member b.members other z n i y.1))

  pub agree : ((r : Clock) → a.current ≡ Some r → NotOlder b r) → ((r : Clock) → b.current ≡ Some r → CoversRev a r)
      → content_of a ≡ content_of b
  agree told known = by a.current b.current refl refl is_a.current is_b.current
    where
      by : (c e : Option Clock) → a.current ≡ c → b.current ≡ e → CurrentIs a.members c → CurrentIs b.members e
          → content_now c a.members ≡ content_now e b.members
      by None None p q x y = refl
      by None (Some s) p q x y = let k = known s q in absurd (subst (In k.0) x k.1)
      by (Some r) None p q x y = let k = told r p in absurd (subst (In k.0) y k.1)
      by (Some r) (Some s) p q x y = agree_at r s x y (told r p) (known s q)

-- ---- what is read has an entry in the log

neither : (p q : Bool) → (p || q) ≡ false → (p ≡ false) × (q ≡ false)
neither true q e = absurd (not_both true refl e)
neither false q e = (refl, e)

nothing_seen : (d : Text) (h : History) → list_any (λ e. same_id d e.doc) (flat_map entries_in h) ≡ false
    → flat_map (accepts_in d) h ≡ []
nothing_seen d [] none = refl
nothing_seen d (Accepted e a trans m ∷ h) none =
    let parts = neither (same_id d e) (list_any (λ x. same_id d x.doc) (flat_map entries_in h)) none in
    ap (λ b. cond b (a ∷ []) [] ++ flat_map (accepts_in d) h) parts.0 ∙ nothing_seen d h parts.1
nothing_seen d (Gone e trans m ∷ h) none =
    nothing_seen d h (neither (same_id d e) (list_any (λ x. same_id d x.doc) (flat_map entries_in h)) none).1
nothing_seen d (Moved m ∷ h) none = nothing_seen d h none
nothing_seen d (IndexCreated n es ∷ h) none = nothing_seen d h none
nothing_seen d (IndexDeleted n ∷ h) none = nothing_seen d h none

pub read_logged : (name : Text) (u : Uid) (h : History) (d : Text) (r : Clock)
    → ((state_of name u h).document d).current ≡ Some r → 1 ≤ last_of (state_of name u h) d
read_logged name u h d r is = by (last_in (flat_map entries_in h) d) refl
  where
    none_some : None ≡ Some r → ⊥
    none_some e = cc

    by : (n : ℕ) → last_in (flat_map entries_in h) d ≡ n → 1 ≤ n
    by zero e =
        absurd (none_some
        (sym (ap (λ (xs : List Accept). (document_of xs).current)
        (nothing_seen d h (none_last (flat_map entries_in h) d e))) ∙ is))
    by (suc n) e = omega arith
