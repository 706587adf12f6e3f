-- What holds of two states holds of those that they may become.
use Rattle.std.specs.Prelude.{◌≡◌, ℕ, ◌+◌, ◌<◌, ◌≤◌, List, length}
use Rattle.std.proofs.Common.{sym, ◌∙◌, ap, subst, inl, inr, arith, le_trans}
use Rattle.u1_base.specs.Places.{Place}
use Rattle.vector_rev.specs.Counts.{Uid}
use Rattle.conflicts.specs.Document.{Document}
use Rattle.conflicts.specs.State.{State, position_kept}
use Rattle.conflicts.specs.declared.moves.PosTable.TheVariants.{Known}
use Rattle.sync_stream.specs.declared.line.SyncDoc.{SyncDoc}
use Rattle.sync_places.specs.inner.Last.{last_of}
use Rattle.sync_places.specs.inner.Facts.{Later, KnownUpTo, ToldTo, ToldUpTo, Listed, Returned, Recorded}
use Rattle.sync_places.proofs.LastPlaces.{last_in-within}
use Rattle.sync_places.proofs.Laters.{fits_within, current_before}

module _ (a b c d : State) (l : Later a c) (m : Later b d) where
  pub known-later : (p : Place) → KnownUpTo a b p → KnownUpTo c d p
  known-later p h = record {
    fits = m.fits p h.fits;
    known = λ x r some low is.
        let same = current_before b d m x p.generation (fits_within b.log p h.fits) low in
        l.covered x r
        (h.known x r (subst (λ (k : ℕ). 1 ≤ k) same.0 some) (subst (λ (k : ℕ). k ≤ p.generation) same.0 low)
        (sym (ap (λ (z : Document). z.current) same.1) ∙ is));
  }

  pub told_to-later : (n : ℕ) → ToldTo a b n → ToldTo c d n
  told_to-later n h = record {
    within = le_trans h.within l.log;
    told = λ x r some low is.
        let same = current_before a c l x n h.within low in
        m.not_older x r
        (h.told x r (subst (λ (k : ℕ). 1 ≤ k) same.0 some) (subst (λ (k : ℕ). k ≤ n) same.0 low)
        (sym (ap (λ (z : Document). z.current) same.1) ∙ is));
  }

  pub told_up-later : (p : Place) → ToldUpTo a b p → ToldUpTo c d p
  told_up-later p h = record { fits = l.fits p h.fits; upto = told_to-later p.generation h.upto }

  pub listed-later : (from upto : ℕ) (docs : List SyncDoc) → Listed a from upto docs → Listed c from upto docs
  listed-later from upto docs h = record {
    within = le_trans h.within l.log;
    whole = λ x r above low is.
        let same = current_before a c l x upto h.within low in
        let i = h.whole x r (subst (λ (k : ℕ). from < k) same.0 above) (subst (λ (k : ℕ). k ≤ upto) same.0 low)
        (sym (ap (λ (z : Document). z.current) same.1) ∙ is) in
        (i.0, i.1, i.2, i.3, i.4 ∙ sym same.0);
    places = λ doc i. record { fits = l.fits doc.at (h.places doc i).fits; low = (h.places doc i).low };
    covered = λ doc i. l.covered doc.id doc.member.rev (h.covered doc i);
    rising = h.rising;
  }

  pub returned-later : (v : Uid) (docs : List SyncDoc) (top : Place) → Returned a b v docs top
      → Returned c d v docs top
  returned-later v docs top h = record {
    fits = m.fits top h.fits;
    whole = λ x r above low is.
        let same = current_before b d m x top.generation (fits_within b.log top h.fits) low in
        let up : (position_kept a Known v).generation ≤ (position_kept c Known v).generation = l.places Known v in
        let high : (position_kept a Known v).generation < last_of d x = omega (arith, up, above) in
        elim (h.whole x r (subst (λ (k : ℕ). (position_kept a Known v).generation < k) same.0 high)
        (subst (λ (k : ℕ). k ≤ top.generation) same.0 low) (sym (ap (λ (z : Document). z.current) same.1) ∙ is)) [
          | inl i ↦ inl (i.0, i.1, i.2, i.3, i.4 ∙ sym same.0)
          | inr k ↦ inr (l.covered x r k)
        ];
    places = λ doc i. record { fits = m.fits doc.at (h.places doc i).fits; low = (h.places doc i).low };
    not_older = λ doc i. m.not_older doc.id doc.member.rev (h.not_older doc i);
    rising = h.rising;
  }

  pub recorded-later : (base taken : ℕ) → Recorded a b base taken → Recorded c d base taken
  recorded-later base taken h = record {
    grown = le_trans h.grown l.log;
    replied = λ all x r above is.
        let still : length a.log ≡ base + taken = omega (arith, all, h.grown, l.log) in
        elim (l.documents x) [
          | inl same ↦ m.not_older x r
              (h.replied still x r (subst (λ (k : ℕ). base < k) same.0 above)
              (sym (ap (λ (z : Document). z.current) same.1) ∙ is))
          | inr beyond ↦
              let within = last_in-within x c.log in absurd (omega (arith, beyond, within, all, still))
        ];
  }
