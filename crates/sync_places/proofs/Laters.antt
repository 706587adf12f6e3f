-- A step leaves a state that the one before it may become, and what was covered or not older stays so.
use Rattle.std.specs.Prelude.{◌≡◌, ℕ, ◌+◌, ◌<◌, ◌≤◌, ◌⊎◌, Bool, true, false, cond, not, ◌&&◌, List, [], ◌∷◌, ◌++◌}
use Rattle.std.specs.Prelude.{length}
use Rattle.std.specs.Prelude.{Option, Some, None, unwrap_or, refl}
use Rattle.std.proofs.Common.{sym, ◌∙◌, ap, subst, inl, inr, arith, append-nil, length-append}
use Rattle.std.proofs.lemmas.Bool.{and_parts, and_from}
use Rattle.u1_base.specs.Ids.{same_id}
use Rattle.u1_base.specs.Places.{Place, nowhere}
use Rattle.u1_base.proofs.SameIds.{same_id_is}
use Rattle.u1_base.proofs.Booleans.{none_true, not_both}
use Rattle.translog.specs.Log.{FitsLog}
use Rattle.translog.specs.declared.entry.Entry.{Entry}
use Rattle.translog.proofs.Growth.{FitsLog-append}
use Rattle.vector_rev.specs.Counts.{Uid}
use Rattle.vector_rev.specs.Clock.{Clock, covers, dominates}
use Rattle.vector_rev.proofs.ClockLaws.{covers-itself, covers-trans}
use Rattle.conflicts.specs.Lists.{last_or}
use Rattle.conflicts.specs.Document.{Document, document_after, document_after_all}
use Rattle.conflicts.specs.State.{State, Step, Text, Accepted, Gone, Moved, IndexCreated, IndexDeleted, accepts_in}
use Rattle.conflicts.specs.State.{after}
use Rattle.conflicts.specs.State.{entries_in, move_of, position_kept, positions_by, same_table}
use Rattle.conflicts.specs.declared.accept.Accept.{Accept}
use Rattle.conflicts.specs.declared.member.Member.{Member}
use Rattle.conflicts.specs.declared.moves.Move.{Move}
use Rattle.conflicts.specs.declared.moves.PosTable.{PosTable}
use Rattle.conflicts.specs.declared.moves.PosTable.TheVariants.{Known, Told}
use Rattle.conflicts.proofs.Documents.{stays_covered}
use Rattle.sync_places.specs.inner.Last.{last_in, last_of}
use Rattle.sync_places.specs.inner.Facts.{CoversRev, NotOlder, Later, MovesOn}
use Rattle.sync_places.proofs.LastPlaces.{last_in-push}

-- ---- members

-- a member that is not older than a revision is covered by one that is not older either
pub covered_not_older : (r : Clock) (m n : Member) → dominates r m.rev ≡ false → covers n.rev m.rev ≡ true
    → dominates r n.rev ≡ false
covered_not_older r m n older c = none_true (dominates r n.rev) (λ newer.
    let parts = and_parts (covers r n.rev) (not (covers n.rev r)) newer in
    not_both (dominates r m.rev)
    (and_from (covers r m.rev) (not (covers m.rev r)) (covers-trans r n.rev m.rev parts.0 c)
    (ap not (none_true (covers m.rev r) (λ back.
    not_both (covers n.rev r) (covers-trans n.rev m.rev r c back) (not_true' (covers n.rev r) parts.1))))) older)
  where
    not_true' : (b : Bool) → not b ≡ true → b ≡ false
    not_true' true e = sym e
    not_true' false e = refl

not_older-after : (d : Document) (a : Accept) (r : Clock) → NotOlder d r → NotOlder (document_after d a) r
not_older-after d a r h =
    let n = stays_covered d a h.0.rev h.0 h.1 (covers-itself h.0.rev) in
    (n.0, n.1, covered_not_older r h.0 n.0 h.2 n.2)

covered-after : (d : Document) (a : Accept) (r : Clock) → CoversRev d r → CoversRev (document_after d a) r
covered-after d a r h = stays_covered d a r h.0 h.1 h.2

-- over all that a step accepts of a document
over_all : (P : Document → Type 0) → ((d : Document) (a : Accept) → P d → P (document_after d a)) → (d : Document)
    (accepts : List Accept) → P d → P (document_after_all d accepts)
over_all P step d [] h = h
over_all P step d (a ∷ later) h = over_all P step (document_after d a) later (step d a h)

-- ---- a step

module _ (s : State) (x : Step) where
  longer : length s.log ≤ length (s.log ++ entries_in x)
  longer = omega (arith, length-append s.log (entries_in x))

  entry : (d e : Text) (trans : Text) (accepts : List Accept)
      → ((last_in (s.log ++ record { doc = e; trans = trans } ∷ []) d ≡ last_of s d)
      × (document_after_all (s.document d) (cond (same_id d e) accepts []) ≡ s.document d))
      ⊎ (length s.log < last_in (s.log ++ record { doc = e; trans = trans } ∷ []) d)
  entry d e trans accepts =
      let pushed = last_in-push s.log (record { doc = e; trans = trans }) d in
      elim (same_id d e) as (λ b. same_id d e ≡ b
      → ((last_in (s.log ++ record { doc = e; trans = trans } ∷ []) d ≡ last_of s d)
      × (document_after_all (s.document d) (cond b accepts []) ≡ s.document d))
      ⊎ (length s.log < last_in (s.log ++ record { doc = e; trans = trans } ∷ []) d)) [
        | true ↦ λ t.
            let at : last_in (s.log ++ record { doc = e; trans = trans } ∷ []) d ≡ 1 + length s.log =
            pushed ∙ ap (λ b. cond b (1 + length s.log) (last_of s d)) t in
            inr (omega (arith, at))
        | false ↦ λ f. inl (pushed ∙ ap (λ b. cond b (1 + length s.log) (last_of s d)) f, refl)
      ] refl

  documents : (d : Text) → ((last_of (after s x) d ≡ last_of s d) × ((after s x).document d ≡ s.document d))
      ⊎ (length s.log < last_of (after s x) d)
  documents d = by x
    where
      by : (y : Step) → ((last_of (after s y) d ≡ last_of s d) × ((after s y).document d ≡ s.document d))
          ⊎ (length s.log < last_of (after s y) d)
      by (Accepted e a trans m) = entry d e trans (a ∷ [])
      by (Gone e trans m) = elim (entry d e trans []) [
        | inl same ↦ inl (same.0, refl)
        | inr beyond ↦ inr beyond
      ]
      by (Moved m) = inl (ap (λ es. last_in es d) (append-nil s.log), refl)
      by (IndexCreated n es) = inl (ap (λ es. last_in es d) (append-nil s.log), refl)
      by (IndexDeleted n) = inl (ap (λ es. last_in es d) (append-nil s.log), refl)

  not_older : (d : Text) (r : Clock) → NotOlder (s.document d) r → NotOlder ((after s x).document d) r
  not_older d r h =
      over_all (λ z. NotOlder z r) (λ z a k. not_older-after z a r k) (s.document d) (accepts_in d x) h

  covered : (d : Text) (r : Clock) → CoversRev (s.document d) r → CoversRev ((after s x).document d) r
  covered d r h =
      over_all (λ z. CoversRev z r) (λ z a k. covered-after z a r k) (s.document d) (accepts_in d x) h

-- ---- places

pub same_table_is : (t k : PosTable) → same_table t k ≡ true → t ≡ k
same_table_is Known Known e = refl
same_table_is Known Told e = absurd (not_both false e refl)
same_table_is Told Known e = absurd (not_both false e refl)
same_table_is Told Told e = refl

pub same_table-itself : (t : PosTable) → same_table t t ≡ true
same_table-itself Known = refl
same_table-itself Told = refl

pub le_itself : (n : ℕ) → n ≤ n
le_itself n = omega arith

-- the place that is kept after a move, if there is one
abbrev pub kept_after : State → PosTable → Uid → Option Move → Place
kept_after s table u o = unwrap_or (last_or (s.position table u) (positions_by table u o)) nowhere

places_after : (s : State) (o : Option Move)
    → ((m : Move) → o ≡ Some m → (position_kept s m.table m.uid).generation ≤ m.at.generation) → (table : PosTable)
    (u : Uid) → (position_kept s table u).generation ≤ (kept_after s table u o).generation
places_after s None h table u = le_itself (position_kept s table u).generation
places_after s (Some m) h table u =
    elim (same_table table m.table && same_id u m.uid) as
    (λ b. (same_table table m.table && same_id u m.uid) ≡ b → (position_kept s table u).generation
    ≤ (unwrap_or (last_or (s.position table u) (cond b (Some m.at ∷ []) [])) nowhere).generation) [
      | true ↦ λ t.
          let parts = and_parts (same_table table m.table) (same_id u m.uid) t in
          subst (λ (z : PosTable). (position_kept s z u).generation ≤ m.at.generation)
          (sym (same_table_is table m.table parts.0))
          (subst (λ (z : Uid). (position_kept s m.table z).generation ≤ m.at.generation)
          (sym (same_id_is u m.uid parts.1)) (h m refl))
      | false ↦ λ _. le_itself (position_kept s table u).generation
    ] refl

-- ---- a state and one that it may become

pub later_after : (s : State) (x : Step) → MovesOn s x → Later s (after s x)
later_after s x moves = record {
  log = longer s x;
  fits = λ p h. FitsLog-append s.log (entries_in x) p h;
  documents = λ d. documents s x d;
  places = λ table u. places_after s (move_of x) moves table u;
  covered = λ d r h. covered s x d r h;
  not_older = λ d r h. not_older s x d r h;
}

pub later_itself : (s : State) → Later s s
later_itself s = record {
  log = le_itself (length s.log);
  fits = λ p h. h;
  documents = λ d. inl (refl, refl);
  places = λ table u. le_itself (position_kept s table u).generation;
  covered = λ d r h. h;
  not_older = λ d r h. h;
}

pub fits_within : (es : List Entry) (p : Place) → FitsLog es p → p.generation ≤ length es
fits_within es p (inl z) = omega (arith, z)
fits_within es p (inr f) = f.0

-- a document whose last entry is not beyond the log that the first state had
pub current_before : (s t : State) → Later s t → (d : Text) (g : ℕ) → g ≤ length s.log → last_of t d ≤ g
    → (last_of t d ≡ last_of s d) × (t.document d ≡ s.document d)
current_before s t l d g within low = elim (l.documents d) [
  | inl same ↦ same
  | inr beyond ↦ absurd (omega (arith, beyond, within, low))
]
