-- In the beginning each two replicas are paired; and where places are good and histories descend they are.
use Rattle.std.specs.Prelude.{◌≡◌, ◌≢◌, ◌≤◌, List, refl}
use Rattle.std.proofs.Common.{sym, ◌∙◌, ap, inl, arith}
use Rattle.vector_rev.specs.Counts.{Uid}
use Rattle.conflicts.specs.Lists.{In}
use Rattle.conflicts.specs.State.{Text, position_kept}
use Rattle.conflicts.specs.declared.member.Member.{Member}
use Rattle.conflicts.specs.declared.moves.PosTable.TheVariants.{Known, Told}
use Rattle.lineage.specs.Histories.{Descends, seen}
use Rattle.lineage.proofs.Descended.{accepted_member, ancestry}
use Rattle.conflicts.specs.inner.Paired.{Paired}
use Rattle.sync_places.proofs.LastPlaces.{last_before}
use Rattle.sync_world.specs.World.{World, WorldStep, after_all, histories, start, state}
use Rattle.sync_world.proofs.Traced.{after_all_is, start_is}
use Rattle.world_laws.proofs.PairFacts.{Pair}
use Rattle.world_laws.proofs.Becoming.{Placed}
use Rattle.world_laws.proofs.Placing.{after_all_at}

-- ---- the beginning

none_before : {A : Type 0} → 1 ≤ 0 → A
none_before h = absurd (omega (arith, h))

begins_pair : (name : Text) (u v : Uid) → Pair u v (state (start name) u) (state (start name) v)
begins_pair name u v = record {
  known = record { fits = inl refl; known = λ d r some. none_before some };
  told = record { fits = inl refl; upto = record { within = omega arith; told = λ d r some. none_before some } };
}

pub begins : (name : Text) → Placed (start name)
begins name = record {
  pairs = λ u v _. begins_pair name u v;
  sent = λ r i. absurd i;
  session = λ u. tt;
  serving = λ v. tt;
}

-- ---- the law

module _ (w : World) (p : Placed w) (descends : Descends (histories w)) (u v : Uid) (apart : u ≢ v) where
  pair : Pair u v (state w u) (state w v)
  pair = p.pairs u v apart

  pub one_content : (d : Text) (m n : Member) → In m ((state w u).document d).members
      → In n ((state w v).document d).members → m.rev ≡ n.rev → m.content ≡ n.content
  one_content d m n i j e =
      let x = accepted_member (seen d (histories w u)) m i in
      let y = accepted_member (seen d (histories w v)) n j in
      ap (λ (z : Member). z.content) x.2
      ∙ (ancestry (histories w) descends).content d u v x.0 y.0 x.1 y.1
      (sym (ap (λ (z : Member). z.rev) x.2) ∙ e ∙ ap (λ (z : Member). z.rev) y.2)
      ∙ sym (ap (λ (z : Member). z.content) y.2)

  pub are_paired : Paired (state w u) (state w v)
  are_paired = record {
    known_fits = pair.known.fits;
    known = λ d r same is.
        let at = last_before (state w v).log (position_kept (state w u) Known v).generation d same in
        pair.known.known d r at.0 at.1 is;
    told_fits = pair.told.fits;
    told = λ d r same is.
        let at = last_before (state w u).log (position_kept (state w v) Told u).generation d same in
        pair.told.upto.told d r at.0 at.1 is;
    contents = one_content;
  }

pub positions : (name : Text) (steps : List WorldStep) (u v : Uid) → u ≢ v
    → Paired (state (after_all (start name) steps) u) (state (after_all (start name) steps) v)
positions name steps u v apart =
    are_paired (after_all (start name) steps) (after_all_at (start name) (begins name) steps)
    (after_all_is (start name) (start_is name) steps).descends u v apart
