-- A line that a target passes, and a document that a source takes, keep what holds between them.
use Rattle.std.specs.Prelude.{◌≡◌, ◌≢◌, ℕ, ◌+◌, ◌<◌, ◌≤◌, ◌⊎◌, true, false, if◌then◌else◌, List, [], ◌∷◌, ◌++◌}
use Rattle.std.specs.Prelude.{length, Option, Some, None, IfSome, is_some, refl}
use Rattle.std.proofs.Common.{sym, ◌∙◌, ap, subst, inl, inr, arith, le_trans}
use Rattle.std.proofs.lemmas.Bool.{cases_lt}
use Rattle.u1_base.specs.Ids.{same_id}
use Rattle.u1_base.specs.Places.{Place}
use Rattle.u1_base.proofs.SameIds.{same_id_is, is_same_id}
use Rattle.u1_base.proofs.Booleans.{not_both}
use Rattle.translog.specs.Source.{passes}
use Rattle.vector_rev.specs.Counts.{Uid}
use Rattle.vector_rev.specs.Clock.{Clock}
use Rattle.conflicts.specs.Lists.{In}
use Rattle.conflicts.specs.Decision.{received}
use Rattle.conflicts.specs.Document.{Document}
use Rattle.conflicts.specs.Laws.{TakesOf}
use Rattle.conflicts.specs.Receipts.{after_taken, ReceivesOf}
use Rattle.conflicts.specs.State.{State, Text, position_kept}
use Rattle.conflicts.specs.declared.accept.Accept.{Accept}
use Rattle.conflicts.specs.declared.moves.PosTable.TheVariants.{Known, Told}
use Rattle.conflicts.specs.declared.receipts.Outcome4.{Outcome4}
use Rattle.conflicts.specs.declared.receipts.Outcome4.TheVariants.{Inserted, Superseded, Converged, Conflicted}
use Rattle.conflicts.proofs.Accepted.{takes_over}
use Rattle.conflicts.proofs.LeftByReceipts as receipts
use Rattle.conflicts.proofs.Makings.{decides_takes}
use Rattle.conflicts.proofs.Members.{In-either}
use Rattle.sync_stream.specs.Serving.{Held, held_after, taken_of}
use Rattle.sync_stream.specs.declared.line.SyncDoc.{SyncDoc}
use Rattle.translog.specs.Log.{end_of}
use Rattle.translog.proofs.PlaceTests.{end_fits}
use Rattle.sync_phases.specs.Phases.{count_by, count_of}
use Rattle.sync_places.specs.inner.Last.{last_of}
use Rattle.sync_places.specs.inner.Facts.{CoversRev, NotOlder, AllDocuments, Later, KnownUpTo, ToldTo, ToldUpTo}
use Rattle.sync_places.specs.inner.Facts.{Listed, Returned, AtLines, Recorded}
use Rattle.sync_places.proofs.LastPlaces.{last_in-within}
use Rattle.sync_places.proofs.Laters.{fits_within, current_before}
use Rattle.sync_places.proofs.Lines.{passes_on, Leaves, covered_then, not_older_then}

pub one_text : (d e : Text) → (d ≡ e) ⊎ (d ≢ e)
one_text d e = elim (same_id d e) as (λ b. same_id d e ≡ b → (d ≡ e) ⊎ (d ≢ e)) [
  | true ↦ λ t. inl (same_id_is d e t)
  | false ↦ λ f. inr (λ is. not_both _ (is_same_id d e is) f)
] refl

same_clock_some : (x y : Clock) → Some x ≡ Some y → x ≡ y
same_clock_some x y e = cc

-- ---- the target passes a line

module _ (a s t : State) (u : Uid) (from upto : ℕ) (all docs : List SyncDoc) (held : List Held) (doc : SyncDoc)
    (listed : Listed a from upto all) (low : from ≤ (position_kept s Told u).generation) (documents : AllDocuments s)
    (pair : ToldUpTo a s (position_kept s Told u)) (at : AtLines a s all (doc ∷ docs) held)
    (ok : passes (position_kept s Told u) doc.at ≡ true)
    (l : Leaves s t doc (taken_of s doc false).accepted (record { table = Told; uid = u; at = doc.at })) where
  line_not_older : NotOlder (t.document doc.id) doc.member.rev
  line_not_older = not_older_then s t doc false (record { table = Told; uid = u; at = doc.at }) documents l

  told_by_line : (d : Text) (r : Clock) → 1 ≤ last_of a d → last_of a d ≤ doc.at.generation
      → (a.document d).current ≡ Some r → NotOlder (t.document d) r
  told_by_line d r some below is = elim (cases_lt (position_kept s Told u).generation (last_of a d)) [
    | inr before ↦ l.later.not_older d r (pair.upto.told d r some before is)
    | inl later ↦
        let i = listed.whole d r (omega (arith, low, later))
        (le_trans below ((listed.places doc (at.from_all doc (inl refl))).low)) is in
        subst (λ z. NotOlder (t.document z) r) i.2
        (subst (λ z. NotOlder (t.document i.0.id) z) i.3 (by_line i.0 (at.passed i.0 i.1)
        (subst (λ n. n ≤ doc.at.generation) (sym i.4) below)))
  ]
    where
      by_line : (e : SyncDoc) → In e (doc ∷ docs) ⊎ NotOlder (s.document e.id) e.member.rev
          → e.at.generation ≤ doc.at.generation → NotOlder (t.document e.id) e.member.rev
      by_line e (inl (inl is)) le =
          subst (λ (z : SyncDoc). NotOlder (t.document z.id) z.member.rev) (sym is) line_not_older
      by_line e (inl (inr i)) le =
          let more : doc.at.generation < e.at.generation = at.rising.0 e i in absurd (omega (arith, more, le))
      by_line e (inr n) le = l.later.not_older e.id e.member.rev n

  -- the told place has moved
  pub line_told : ToldUpTo a t doc.at
  line_told =
      let stands = listed.places doc (at.from_all doc (inl refl)) in
      record {
        fits = stands.fits;
        upto = record { within = fits_within a.log doc.at stands.fits; told = told_by_line };
      }

  new_held : (h : Held) → In h (held_after (taken_of s doc false).outcome doc.id t)
      → (h.doc ≡ doc.id) × (h.generation ≡ length t.log) × ((t.document doc.id).current ≡ Some doc.member.rev)
  new_held h i = by (taken_of s doc false).outcome refl i
    where
      kept : (o : Outcome4) → (taken_of s doc false).outcome ≡ o → (o ≡ Inserted) ⊎ (o ≡ Converged)
          → (t.document doc.id).current ≡ Some doc.member.rev
      kept o e which =
          ap (λ (z : Document). z.current) l.here
          ∙ (receipts.law (s.document doc.id) (documents doc.id) doc.member false s.uid).current
          (elim which [ inl z ↦ inl (e ∙ z) | inr z ↦ inr (e ∙ z) ])

      by : (o : Outcome4) → (taken_of s doc false).outcome ≡ o → In h (held_after o doc.id t)
          → (h.doc ≡ doc.id) × (h.generation ≡ length t.log) × ((t.document doc.id).current ≡ Some doc.member.rev)
      by Inserted e j = elim j [
        | inl is ↦ (ap (λ (z : Held). z.doc) is, ap (λ (z : Held). z.generation) is, kept Inserted e (inl refl))
        | inr z ↦ absurd z
      ]
      by Converged e j = elim j [
        | inl is ↦ (ap (λ (z : Held). z.doc) is, ap (λ (z : Held). z.generation) is, kept Converged e (inr refl))
        | inr z ↦ absurd z
      ]
      by Superseded e j = absurd j
      by Conflicted e j = absurd j

  -- and the lines after it are left
  pub line_passed : AtLines a t all docs (held ++ held_after (taken_of s doc false).outcome doc.id t)
  line_passed = record {
    passed = λ e i. elim (at.passed e i) [
      | inl j ↦ elim j [
        | inl is ↦ inr (subst (λ (z : SyncDoc). NotOlder (t.document z.id) z.member.rev) (sym is) line_not_older)
        | inr k ↦ inl k
      ]
      | inr n ↦ inr (l.later.not_older e.id e.member.rev n)
    ];
    from_all = λ e i. at.from_all e (inr i);
    rising = at.rising.1;
    early = λ h i. elim (In-either h held (held_after (taken_of s doc false).outcome doc.id t) i) [
      | inl j ↦ le_trans (at.early h j) l.later.log
      | inr j ↦ let n = new_held h j in omega (arith, n.1)
    ];
    has = λ h i r below is. elim (In-either h held (held_after (taken_of s doc false).outcome doc.id t) i) [
      | inl j ↦
          let same = current_before s t l.later h.doc h.generation (at.early h j) below in
          at.has h j r (subst (λ n. n ≤ h.generation) same.0 below) (sym (ap (λ (z : Document). z.current) same.1) ∙ is)
      | inr j ↦
          let n = new_held h j in
          let rev : doc.member.rev ≡ r =
          same_clock_some doc.member.rev r (sym n.2 ∙ ap (λ z. (t.document z).current) (sym n.0) ∙ is) in
          subst (λ z. CoversRev (a.document h.doc) z) rev
          (subst (λ z. CoversRev (a.document z) doc.member.rev) (sym n.0)
          (listed.covered doc (at.from_all doc (inl refl))))
    ];
  }

-- ---- the source takes a document

module _ (a t b : State) (v : Uid) (base taken : ℕ) (doc : SyncDoc) (docs : List SyncDoc) (top : Place)
    (documents : AllDocuments a) (pair : KnownUpTo a b (position_kept a Known v))
    (returned : Returned a b v (doc ∷ docs) top) (ok : passes (position_kept a Known v) doc.at ≡ true)
    (l : Leaves a t doc (taken_of a doc true).accepted (record { table = Known; uid = v; at = doc.at })) where
  up : (position_kept a Known v).generation ≤ doc.at.generation
  up = passes_on (position_kept a Known v) doc.at ok

  known_by_take : (d : Text) (r : Clock) → 1 ≤ last_of b d → last_of b d ≤ doc.at.generation
      → (b.document d).current ≡ Some r → CoversRev (t.document d) r
  known_by_take d r some below is = elim (cases_lt (position_kept a Known v).generation (last_of b d)) [
    | inr before ↦ l.later.covered d r (pair.known d r some before is)
    | inl later ↦ elim (returned.whole d r later
        (le_trans below (returned.places doc (inl refl)).low) is) [
          | inl i ↦ subst (λ z. CoversRev (t.document z) r) i.2
              (subst (λ z. CoversRev (t.document i.0.id) z) i.3
              (by_line i.0 i.1 (subst (λ n. n ≤ doc.at.generation) (sym i.4) below)))
          | inr m ↦ l.later.covered d r m
        ]
  ]
    where
      by_line : (e : SyncDoc) → In e (doc ∷ docs) → e.at.generation ≤ doc.at.generation
          → CoversRev (t.document e.id) e.member.rev
      by_line e (inl is) le =
          subst (λ (z : SyncDoc). CoversRev (t.document z.id) z.member.rev) (sym is)
          (covered_then a t doc (record { table = Known; uid = v; at = doc.at }) documents l)
      by_line e (inr i) le =
          let more : doc.at.generation < e.at.generation = returned.rising.0 e i in absurd (omega (arith, more, le))

  pub take_known : KnownUpTo t b doc.at
  take_known = record { fits = (returned.places doc (inl refl)).fits; known = known_by_take }

  pub take_returned : Returned t b v docs top
  take_returned = record {
    fits = returned.fits;
    whole = λ d r above low is.
        let beyond : doc.at.generation < last_of b d =
        subst (λ (p : Place). p.generation < last_of b d) l.kept above in
        elim (returned.whole d r (omega (arith, beyond, up)) low is) [
          | inl i ↦ elim i.1 [
            | inl first ↦
                let same : doc.at.generation ≡ last_of b d =
                ap (λ (z : SyncDoc). z.at.generation) (sym first) ∙ i.4 in
                absurd (omega (arith, same, beyond))
            | inr j ↦ inl (i.0, j, i.2, i.3, i.4)
          ]
          | inr m ↦ inr (l.later.covered d r m)
        ];
    places = λ e i. returned.places e (inr i);
    not_older = λ e i. returned.not_older e (inr i);
    rising = returned.rising.1;
  }

  -- what was taken: accepted as it came
  as_it_came : (x : Accept) → (taken_of a doc true).accepted ≡ Some x
      → ((taken_of a doc true).outcome ≡ Inserted) ⊎ ((taken_of a doc true).outcome ≡ Conflicted)
      → x ≡ received doc.member
  as_it_came x e which = elim which [
    | inl i ↦ same_accept x (received doc.member) (sym e ∙ r.inserted i)
    | inr c ↦ subst (λ (o : Option Accept). IfSome o (λ z. z ≡ received doc.member)) e (r.conflicted c)
  ]
    where
      r : ReceivesOf (a.document doc.id) doc.member true (taken_of a doc true)
      r = receipts.law (a.document doc.id) (documents doc.id) doc.member true a.uid

      same_accept : (x y : Accept) → Some x ≡ Some y → x ≡ y
      same_accept x y e = cc

  -- then it is the current one
  current_then : (x : Accept) → (taken_of a doc true).accepted ≡ Some x → x ≡ received doc.member
      → (t.document doc.id).current ≡ Some doc.member.rev
  current_then x e is =
      let takes : TakesOf a.uid (a.document doc.id) doc.member x =
      subst (λ (o : Option Accept). IfSome o (TakesOf a.uid (a.document doc.id) doc.member)) e
      (decides_takes (a.document doc.id) (documents doc.id) doc.member true a.uid) in
      ap (λ (z : Document). z.current) l.here
      ∙ ap (λ (o : Option Accept). (after_taken (a.document doc.id) o).current) e
      ∙ takes_over (a.document doc.id) x takes.fits.not_older (ap (λ (z : Accept). z.current) is)
      ∙ ap (λ (z : Accept). Some z.rev) is

  -- a document counts where it is accepted as it came, and not where nothing is accepted
  counted : (o : Outcome4) (x : Option Accept) → (o ≡ Inserted → x ≢ None)
      → ((count_by o x ≡ 0)) ⊎ ((count_by o x ≡ 1) × (x ≢ None) × ((o ≡ Inserted) ⊎ (o ≡ Conflicted)))
  counted Inserted x some = inr (refl, some refl, inl refl)
  counted Superseded x some = inl refl
  counted Converged x some = inl refl
  counted Conflicted None some = inl refl
  counted Conflicted (Some a) some = inr (refl, λ e. some_none e, inr refl)
    where
      some_none : {z : Accept} → Some z ≡ None → ⊥
      some_none e = cc

  inserted_some : (taken_of a doc true).outcome ≡ Inserted → (taken_of a doc true).accepted ≢ None
  inserted_some i none =
      some_none
      (sym ((receipts.law (a.document doc.id) (documents doc.id) doc.member true a.uid).inserted i) ∙ none)
    where
      some_none : {z : Accept} → Some z ≡ None → ⊥
      some_none e = cc

  pub take_recorded : Recorded a b base taken → Recorded t b base (taken + count_of (taken_of a doc true))
  take_recorded h = by (taken_of a doc true).accepted refl
      (counted (taken_of a doc true).outcome (taken_of a doc true).accepted inserted_some)
    where
      by : (o : Option Accept) → (taken_of a doc true).accepted ≡ o
          → (count_of (taken_of a doc true) ≡ 0) ⊎ ((count_of (taken_of a doc true) ≡ 1)
          × ((taken_of a doc true).accepted ≢ None)
          × (((taken_of a doc true).outcome ≡ Inserted) ⊎ ((taken_of a doc true).outcome ≡ Conflicted)))
          → Recorded t b base (taken + count_of (taken_of a doc true))
      by None e (inr c) = absurd (c.1 e)
      by None e (inl zero) =
          let len : length t.log ≡ length a.log =
          l.log ∙ ap (λ (o : Option Accept). length a.log + (if is_some o then 1 else 0)) e
          ∙ plus_zero (length a.log) in
          record {
            grown = omega (arith, len, zero, h.grown);
            replied = λ all d r above is.
                h.replied (omega (arith, all, len, zero)) d r
                (subst (λ n. base < n) (l.same e d).1 above)
                (sym (ap (λ (z : Document). z.current) (l.same e d).0) ∙ is);
          }
        where
          plus_zero : (n : ℕ) → n + 0 ≡ n
          plus_zero n = omega arith
      by (Some x) e (inl zero) =
          let len : length t.log ≡ length a.log + 1 =
          l.log ∙ ap (λ (o : Option Accept). length a.log + (if is_some o then 1 else 0)) e in
          record {
            grown = omega (arith, len, zero, h.grown);
            replied = λ all. absurd (omega (arith, all, len, zero, h.grown));
          }
      by (Some x) e (inr c) =
          let len : length t.log ≡ length a.log + 1 =
          l.log ∙ ap (λ (o : Option Accept). length a.log + (if is_some o then 1 else 0)) e in
          let one : count_of (taken_of a doc true) ≡ 1 = c.0 in
          record {
            grown = omega (arith, len, one, h.grown);
            replied = λ all d r above is. elim (one_text d doc.id) [
              | inl here ↦
                  let rev : doc.member.rev ≡ r =
                  same_clock_some doc.member.rev r
                  (sym (current_then x e (as_it_came x e c.2)) ∙ ap (λ z. (t.document z).current) (sym here) ∙ is) in
                  subst (λ z. NotOlder (b.document d) z) rev
                  (subst (λ z. NotOlder (b.document z) doc.member.rev) (sym here) (returned.not_older doc (inl refl)))
              | inr other ↦
                  let same = l.elsewhere d other in
                  h.replied (omega (arith, all, len, one)) d r
                  (subst (λ n. base < n) same.1 above)
                  (sym (ap (λ (z : Document). z.current) same.0) ∙ is)
            ];
          }

-- ---- the source settles and finishes

pub settle_known : (a t b : State) (v : Uid) (top : Place) → Later a t → KnownUpTo a b (position_kept a Known v)
    → Returned a b v [] top → KnownUpTo t b top
settle_known a t b v top l pair returned = record {
  fits = returned.fits;
  known = λ d r some below is. elim (cases_lt (position_kept a Known v).generation (last_of b d)) [
    | inr before ↦ l.covered d r (pair.known d r some before is)
    | inl later ↦ elim (returned.whole d r later below is) [
      | inl i ↦ absurd i.1
      | inr m ↦ l.covered d r m
    ]
  ];
}

pub all_told : (a b : State) (base taken : ℕ) → ToldTo a b base → Recorded a b base taken
    → length a.log ≡ base + taken → ToldUpTo a b (end_of a.log)
all_told a b base taken told recorded all = record {
  fits = end_fits a.log;
  upto = record {
    within = omega arith;
    told = λ d r some _ is. elim (cases_lt base (last_of a d)) [
      | inr before ↦ told.told d r some before is
      | inl later ↦ recorded.replied all d r later is
    ];
  };
}

-- what a target told of all lines, and the places before them
pub told_by_lines : (a b : State) (u : Uid) (from upto : ℕ) (all : List SyncDoc) → Listed a from upto all
    → from ≤ (position_kept b Told u).generation → ToldUpTo a b (position_kept b Told u)
    → ((doc : SyncDoc) → In doc all → NotOlder (b.document doc.id) doc.member.rev) → ToldTo a b upto
told_by_lines a b u from upto all listed low pair passed = record {
  within = listed.within;
  told = λ d r some below is. elim (cases_lt (position_kept b Told u).generation (last_of a d)) [
    | inr before ↦ pair.upto.told d r some before is
    | inl later ↦
        let i = listed.whole d r (omega (arith, low, later)) below is in
        subst (λ z. NotOlder (b.document z) r) i.2 (subst (λ z. NotOlder (b.document i.0.id) z) i.3 (passed i.0 i.1))
  ];
}

-- a session that just heard the reply
pub recorded_first : (a b : State) (base : ℕ) → base ≤ length a.log → Recorded a b base 0
recorded_first a b base within = record {
  grown = omega (arith, within);
  replied = λ all d r above is. let w = last_in-within d a.log in absurd (omega (arith, all, above, w));
}
