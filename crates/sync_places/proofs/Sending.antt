-- What a replica sends of its changes: which documents stand in the list, and at which places.
use Rattle.std.specs.Prelude.{◌≡◌, ℕ, suc, ◌<◌, ◌≤◌, ◌⊎◌, Bool, true, false, not, cond, ◌&&◌, nat_le, List, [], ◌∷◌}
use Rattle.std.specs.Prelude.{◌++◌}
use Rattle.std.specs.Prelude.{length, filter, Option, Some, None, refl}
use Rattle.std.specs.Option.{option_map}
use Rattle.std.proofs.Common.{sym, ◌∙◌, ap, subst, inl, inr, arith, leb-true}
use Rattle.std.proofs.lemmas.Bool.{and_parts}
use Rattle.u1_base.specs.Ids.{same_id}
use Rattle.u1_base.specs.Places.{Place}
use Rattle.u1_base.proofs.Booleans.{none_true}
use Rattle.u1_base.proofs.SameIds.{same_id_is}
use Rattle.translog.specs.Entries.{changes_since, numbered}
use Rattle.translog.specs.Log.{end_of}
use Rattle.translog.specs.declared.entry.Change.{Change}
use Rattle.translog.specs.declared.entry.Entry.{Entry}
use Rattle.translog.proofs.PlaceTests.{end_fits}
use Rattle.vector_rev.specs.Clock.{Clock, covers, dominates}
use Rattle.vector_rev.specs.Counts.{Uid}
use Rattle.vector_rev.proofs.ClockLaws.{covers-itself, dominates_at}
use Rattle.conflicts.specs.Document.{Document, content_at, current_member}
use Rattle.conflicts.specs.Laws.{CurrentIs}
use Rattle.conflicts.specs.Lists.{In}
use Rattle.conflicts.specs.State.{State, Text, position_kept}
use Rattle.conflicts.specs.declared.member.Member.{Member}
use Rattle.conflicts.specs.declared.moves.PosTable.TheVariants.{Known}
use Rattle.conflicts.proofs.Members.{In-either, In-left, In-right, In-filter, from_filter, found}
use Rattle.sync_stream.specs.Serving.{Held, is_held, sent, sent_if}
use Rattle.sync_stream.specs.declared.line.SyncDoc.{SyncDoc}
use Rattle.sync_places.specs.inner.Last.{last_of}
use Rattle.sync_places.specs.inner.Facts.{CoversRev, NotOlder, AllDocuments, Rising, InDocs, Stands, Listed, Returned}
use Rattle.sync_places.specs.inner.Facts.{AtLines}
use Rattle.sync_places.proofs.LastPlaces.{change_is, change_of, last_in-within}
use Rattle.sync_places.proofs.Laters.{le_itself}

-- ---- changes rise

abbrev ChangesRise : List Change → Type 0
ChangesRise [] = Unit {0}
ChangesRise (c ∷ cs) = ((e : Change) → In e cs → c.generation < e.generation) × ChangesRise cs

numbered_from : (n : ℕ) (es : List Entry) (c : Change) → In c (numbered n es) → n ≤ c.generation
numbered_from n [] c i = absurd i
numbered_from n (x ∷ es) c (inl e) =
    let at : c.generation ≡ n = ap (λ (z : Change). z.generation) e in omega (arith, at)
numbered_from n (x ∷ es) c (inr i) =
    let low : suc n ≤ c.generation = numbered_from (suc n) es c i in omega (arith, low)

numbered_rise : (n : ℕ) (es : List Entry) → ChangesRise (numbered n es)
numbered_rise n [] = tt
numbered_rise n (x ∷ es) = (λ e i. numbered_from (suc n) es e i, numbered_rise (suc n) es)

filter_rises : (p : Change → Bool) (cs : List Change) → ChangesRise cs → ChangesRise (filter p cs)
filter_rises p [] h = tt
filter_rises p (c ∷ cs) h = elim (p c) as (λ b. ChangesRise (cond b (c ∷ filter p cs) (filter p cs))) [
  | true ↦ (λ e i. h.0 e (from_filter p e cs i).0, filter_rises p cs h.1)
  | false ↦ filter_rises p cs h.1
]

-- ---- what stands in a list that is sent

-- the document as it is sent for a change
abbrev as_sent : Change → Member → SyncDoc
as_sent c m = record {
  id = c.doc;
  member = m;
  at =
      record { generation = c.generation; trans = Some c.trans };
}

pub record SentFor (s : State) (changes : List Change) (doc : SyncDoc) : Type 0 where
  pub change : Change
  pub told : In change changes
  pub member : Member
  pub current : current_member (s.document change.doc) ≡ Some member
  pub is : doc ≡ as_sent change member

module _ (s : State) where
  pub from_sent : (changes : List Change) (doc : SyncDoc) → In doc (sent s changes) → SentFor s changes doc
  from_sent [] doc i = absurd i
  from_sent (c ∷ changes) doc i =
      elim (In-either doc (sent_if c (current_member (s.document c.doc))) (sent s changes) i) [
        | inl j ↦ here (current_member (s.document c.doc)) refl j
        | inr j ↦
            let r = from_sent changes doc j in
            record { change = r.change; told = inr r.told; member = r.member; current = r.current; is = r.is }
      ]
    where
      here : (o : Option Member) → current_member (s.document c.doc) ≡ o → In doc (sent_if c o)
          → SentFor s (c ∷ changes) doc
      here None e j = absurd j
      here (Some m) e (inl is) = record { change = c; told = inl refl; member = m; current = e; is = is }
      here (Some m) e (inr j) = absurd j

  sent_here : (c : Change) (o : Option Member) (m : Member) → o ≡ Some m → In (as_sent c m) (sent_if c o)
  sent_here c o m e = subst (λ (z : Option Member). In (as_sent c m) (sent_if c z)) (sym e) (inl refl)

  pub in_sent : (changes : List Change) (c : Change) (m : Member) → In c changes
      → current_member (s.document c.doc) ≡ Some m → In (as_sent c m) (sent s changes)
  in_sent [] c m i e = absurd i
  in_sent (x ∷ changes) c m (inl is) e =
      In-left (as_sent c m) (sent_if x (current_member (s.document x.doc))) (sent s changes)
      (subst (λ (z : Change). In (as_sent c m) (sent_if z (current_member (s.document z.doc)))) is
      (sent_here c (current_member (s.document c.doc)) m e))
  in_sent (x ∷ changes) c m (inr i) e =
      In-right (as_sent c m) (sent_if x (current_member (s.document x.doc))) (sent s changes)
      (in_sent changes c m i e)

  pub sent_rises : (changes : List Change) → ChangesRise changes → Rising (sent s changes)
  sent_rises [] h = tt
  sent_rises (c ∷ changes) h = by (current_member (s.document c.doc)) (sent_rises changes h.1)
    where
      by : (o : Option Member) → Rising (sent s changes) → Rising (sent_if c o ++ sent s changes)
      by None rest = rest
      by (Some m) rest = (
        λ e i.
            let r = from_sent changes e i in
            let at : e.at.generation ≡ r.change.generation = ap (λ (z : SyncDoc). z.at.generation) r.is in
            let less : c.generation < r.change.generation = h.0 r.change r.told in
            subst (λ (k : ℕ). c.generation < k) (sym at) less,
        rest,
      )

-- ---- current revisions

-- the current member has the current revision
current_has : (d : Document) (c : Option Clock) (m : Member) → d.current ≡ c → current_member d ≡ Some m
    → d.current ≡ Some m.rev
current_has d None m now e = absurd (none_member (sym (of_current d None now) ∙ e))
  where
    none_member : None ≡ Some m → ⊥
    none_member e = cc

    of_current : (d : Document) (c : Option Clock) → d.current ≡ c
        → current_member d ≡ option_map (λ k. record { rev = k; content = content_at k d.members }) c
    of_current d c now =
        ap (λ (o : Option Clock). option_map (λ k. record { rev = k; content = content_at k d.members }) o) now
current_has d (Some c) m now e =
    now ∙ ap Some (same_rev (record { rev = c; content = content_at c d.members }) (sym of_current ∙ e))
  where
    of_current : current_member d ≡ Some (record { rev = c; content = content_at c d.members })
    of_current =
        ap (λ (o : Option Clock). option_map (λ k. record { rev = k; content = content_at k d.members }) o) now

    same_rev : (x : Member) → Some x ≡ Some m → x.rev ≡ m.rev
    same_rev x e = ap (λ (z : Member). z.rev) (same_some x m e)
      where
        same_some : (x y : Member) → Some x ≡ Some y → x ≡ y
        same_some x y e = cc

current_is : (d : Document) (r : Clock) → d.current ≡ Some r
    → current_member d ≡ Some (record { rev = r; content = content_at r d.members })
current_is d r now =
    ap (λ (o : Option Clock). option_map (λ k. record { rev = k; content = content_at k d.members }) o) now

-- and it is that of a member
current_in : (d : Document) (r : Clock) → CurrentIs d.members d.current → d.current ≡ Some r
    → (m : Member) × In m d.members × (m.rev ≡ r)
current_in d r is now = subst (CurrentIs d.members) now is

not_own_newer : (r : Clock) → dominates r r ≡ false
not_own_newer r = none_true (dominates r r) (λ t. (dominates_at r r t).1 refl)

module _ (s : State) (documents : AllDocuments s) where
  member_of_sent : (changes : List Change) (doc : SyncDoc) → In doc (sent s changes)
      → (m : Member) × In m (s.document doc.id).members × (m.rev ≡ doc.member.rev)
  member_of_sent changes doc i =
      let r = from_sent s changes doc i in
      let d = s.document r.change.doc in
      let now = current_has d d.current r.member refl r.current in
      subst (λ (z : SyncDoc). (m : Member) × In m (s.document z.id).members × (m.rev ≡ z.member.rev)) (sym r.is)
      (current_in d r.member.rev (documents r.change.doc).current now)

  pub sent_covered : (changes : List Change) (doc : SyncDoc) → In doc (sent s changes)
      → CoversRev (s.document doc.id) doc.member.rev
  sent_covered changes doc i =
      let r = member_of_sent changes doc i in
      (r.0, r.1, subst (λ (z : Clock). covers z doc.member.rev ≡ true) (sym r.2) (covers-itself doc.member.rev))

  pub sent_not_older : (changes : List Change) (doc : SyncDoc) → In doc (sent s changes)
      → NotOlder (s.document doc.id) doc.member.rev
  sent_not_older changes doc i =
      let r = member_of_sent changes doc i in
      (r.0, r.1, subst (λ (z : Clock). dominates doc.member.rev z ≡ false) (sym r.2) (not_own_newer doc.member.rev))

-- ---- the changes that a test leaves

module _ (s : State) (g : ℕ) (p : Change → Bool) where
  abbrev changes : List Change
  changes = filter p (changes_since s.log g)

  pub sent_stands : (doc : SyncDoc) → In doc (sent s changes) → Stands s (length s.log) doc
  sent_stands doc i =
      let r = from_sent s changes doc i in
      let c = change_is s.log g r.change (from_filter p r.change (changes_since s.log g) r.told).0 in
      let within = last_in-within r.change.doc s.log in
      let low : r.change.generation ≤ length s.log = omega (arith, within, c.last) in
      subst (λ (z : SyncDoc). Stands s (length s.log) z) (sym r.is) (record { fits = c.fits; low = low })

  -- each comes after the generation from which changes are told
  pub sent_after : (doc : SyncDoc) → In doc (sent s changes) → g < doc.at.generation
  sent_after doc i =
      let r = from_sent s changes doc i in
      let c = change_is s.log g r.change (from_filter p r.change (changes_since s.log g) r.told).0 in
      subst (λ (z : SyncDoc). g < z.at.generation) (sym r.is) c.after

  pub rises : Rising (sent s changes)
  rises = sent_rises s changes (filter_rises p (changes_since s.log g) (since_rise s.log g))
    where
      since_rise : (es : List Entry) (h : ℕ) → ChangesRise (changes_since es h)
      since_rise es h = filter_rises _ (numbered 1 es) (numbered_rise 1 es)

  -- a document that changed since then is sent with the revision that is read, if its change passes the test
  pub in_list : (d : Text) (r : Clock) (c : Change) → In c (changes_since s.log g) → c.doc ≡ d
      → c.generation ≡ last_of s d → p c ≡ true → (s.document d).current ≡ Some r
      → InDocs d r (last_of s d) (sent s changes)
  in_list d r c i doc at passes is =
      let now : (s.document c.doc).current ≡ Some r = ap (λ z. (s.document z).current) doc ∙ is in
      let m : Member = record { rev = r; content = content_at r (s.document c.doc).members } in (
        as_sent c m,
        in_sent s changes c m (In-filter p c (changes_since s.log g) i passes) (current_is (s.document c.doc) r now),
        doc,
        refl,
        at,
      )

-- ---- what a source lists

filter_all : {A : Type 0} (xs : List A) → filter (λ x. true) xs ≡ xs
filter_all [] = refl
filter_all (x ∷ xs) = ap (λ r. x ∷ r) (filter_all xs)

listed_by : (s : State) (from : ℕ) → AllDocuments s
    → Listed s from (length s.log) (sent s (filter (λ c. true) (changes_since s.log from)))
listed_by s from documents = record {
  within = le_itself (length s.log);
  whole = λ d r above low is.
      let c = change_of s.log from d above in in_list s from (λ c. true) d r c.0 c.1 c.2 c.3 refl is;
  places = sent_stands s from (λ c. true);
  covered = sent_covered s documents (filter (λ c. true) (changes_since s.log from));
  rising = rises s from (λ c. true);
}

pub listed : (s : State) (from : ℕ) → AllDocuments s
    → Listed s from (length s.log) (sent s (changes_since s.log from))
listed s from documents =
    subst (λ (cs : List Change). Listed s from (length s.log) (sent s cs)) (filter_all (changes_since s.log from))
    (listed_by s from documents)

-- ---- what a target returns, after the last line

module _ (a b : State) (v : Uid) (known : Place) (all : List SyncDoc) (held : List Held) (documents : AllDocuments b)
    (before : known.generation ≤ (position_kept a Known v).generation) (at : AtLines a b all [] held) where
  -- what the source is said to have, it has
  has_held : (c : Change) (d : Text) (r : Clock) → c.doc ≡ d → c.generation ≡ last_of b d → is_held held c ≡ true
      → (b.document d).current ≡ Some r → CoversRev (a.document d) r
  has_held c d r doc last is now =
      let h = found (λ (h : Held). same_id h.doc c.doc && nat_le c.generation h.generation) held is in
      let parts = and_parts (same_id h.0.doc c.doc) (nat_le c.generation h.0.generation) h.2 in
      let same : h.0.doc ≡ d = same_id_is h.0.doc c.doc parts.0 ∙ doc in
      let low : c.generation ≤ h.0.generation = leb-true c.generation h.0.generation parts.1 in
      let early : last_of b d ≤ h.0.generation = subst (λ (k : ℕ). k ≤ h.0.generation) last low in
      subst (λ (z : Text). CoversRev (a.document z) r) same
      (at.has h.0 h.1 r (subst (λ (z : Text). last_of b z ≤ h.0.generation) (sym same) early)
      (ap (λ z. (b.document z).current) same ∙ now))

  pub returned_all : Returned a b v (sent b (filter (λ c. not (is_held held c)) (changes_since b.log known.generation)))
      (end_of b.log)
  returned_all = record {
    fits = end_fits b.log;
    whole = λ d r above low is.
        let c = change_of b.log known.generation d (omega (arith, before, above)) in
        by_test d r c.0 c.1 c.2 c.3 is (is_held held c.0) refl;
    places = sent_stands b known.generation (λ c. not (is_held held c));
    not_older =
        sent_not_older b documents (filter (λ c. not (is_held held c)) (changes_since b.log known.generation));
    rising = rises b known.generation (λ c. not (is_held held c));
  }
    where
      by_test : (d : Text) (r : Clock) (c : Change) → In c (changes_since b.log known.generation) → c.doc ≡ d
          → c.generation ≡ last_of b d → (b.document d).current ≡ Some r → (t : Bool) → is_held held c ≡ t
          → InDocs d r (last_of b d)
          (sent b (filter (λ c. not (is_held held c)) (changes_since b.log known.generation)))
          ⊎ CoversRev (a.document d) r
      by_test d r c i doc last is true e = inr (has_held c d r doc last e is)
      by_test d r c i doc last is false e =
          inl (in_list b known.generation (λ c. not (is_held held c)) d r c i doc last (ap not e) is)
