-- What a source does in each phase is good for every other replica.
use Rattle.std.specs.Prelude.{◌≡◌, ◌≢◌, ◌==◌, ℕ, ◌+◌, ◌&&◌, nat_le, true, false, List, [], ◌∷◌, ◌++◌}
use Rattle.std.specs.Prelude.{length, Option, Some, None, IfSome, unwrap_or, refl}
use Rattle.std.proofs.Common.{sym, ◌∙◌, ap, subst, eqb-true}
use Rattle.std.proofs.lemmas.Bool.{and_parts}
use Rattle.u1_base.specs.Ids.{same_id}
use Rattle.u1_base.specs.Places.{Place, nowhere}
use Rattle.u1_base.proofs.SameIds.{same_id_is}
use Rattle.translog.specs.Entries.{changes_since}
use Rattle.translog.specs.Log.{end_of}
use Rattle.translog.specs.Source.{passes}
use Rattle.vector_rev.specs.Counts.{Uid}
use Rattle.conflicts.specs.Lists.{last_or}
use Rattle.conflicts.specs.State.{State, Step, after, after_all, move_of, position_kept, positions_by, same_table}
use Rattle.conflicts.specs.declared.moves.Move.{Move}
use Rattle.conflicts.specs.declared.moves.PosTable.{PosTable}
use Rattle.conflicts.specs.declared.moves.PosTable.TheVariants.{Known, Told}
use Rattle.sync_http.specs.declared.info.Info.{Info}
use Rattle.sync_stream.specs.Requests.{ToKeep}
use Rattle.sync_stream.specs.Serving.{sent, steps_for, steps_to, taken_of}
use Rattle.sync_stream.specs.declared.line.SyncDoc.{SyncDoc}
use Rattle.sync_phases.specs.Phases.{count_of, has_all, known_to, posted_to}
use Rattle.sync_places.specs.inner.Facts.{AllDocuments, KnownUpTo, Later, Returned, ToldUpTo}
use Rattle.sync_places.proofs.Growing.{known-later, told_to-later, told_up-later, recorded-later}
use Rattle.sync_places.proofs.Laters.{later_after, later_itself, le_itself}
use Rattle.sync_places.proofs.Lines.{leaves, moved_to}
use Rattle.sync_places.proofs.Pairs.{all_told, settle_known, take_known, take_recorded, take_returned}
use Rattle.sync_places.proofs.Sending.{listed}
use Rattle.sync_world.specs.Source.{HasInfo, Taking, Settled, Turn, posts}
use Rattle.sync_world.specs.World.{World, Sent, posted}
use Rattle.world_laws.proofs.PairFacts.{Lists, PlacedOver, QuestionOk, RepliedOk, SessionAt, States}
use Rattle.world_laws.proofs.Kept.{sent_last}
use Rattle.world_laws.proofs.Becoming.{Becomes}

-- what a turn of u makes, where its session stands then, and what it asks, over the states before it of all others
pub record TurnAt (s : States) (sent : List Sent) (u : Uid) (turn : Turn) : Type 0 where
  pub becomes : Becomes s u (after_all (s u) turn.steps)
  pub session : SessionAt (after_all (s u) turn.steps) s (sent ++ posted u turn.sends) u turn.session
  pub sends : IfSome turn.sends (λ letter. (u ≢ letter.target)
      × QuestionOk u letter.target (after_all (s u) turn.steps) (s letter.target) letter.question)

module _ (s : States) (w : World) (p : PlacedOver s w) (u : Uid) where
  -- nothing is done
  pub stays : Becomes s u (s u)
  stays = record {
    later = later_itself (s u);
    known = λ v apart. (p.pairs u v apart).known;
    told = λ z apart. (p.pairs z u apart).told;
  }

  -- the known place of v moves, and no other one
  pub knows : (v : Uid) (t : State) (at : Place) → Later (s u) t → position_kept t Known v ≡ at
      → ((table : PosTable) (z : Uid) → (same_table table Known && same_id z v) ≡ false
      → position_kept t table z ≡ position_kept (s u) table z)
      → KnownUpTo t (s v) at → Becomes s u t
  knows v t at l kept others known = record {
    later = l;
    known = λ z apart.
        elim (same_id z v) as (λ b. same_id z v ≡ b → KnownUpTo t (s z) (position_kept t Known z)) [
          | true ↦ λ e.
              subst (λ (y : Uid). KnownUpTo t (s y) (position_kept t Known y)) (sym (same_id_is z v e))
              (subst (λ (q : Place). KnownUpTo t (s v) q) (sym kept) known)
          | false ↦ λ f.
              subst (λ (q : Place). KnownUpTo t (s z) q) (sym (others Known z f))
              (known-later (s u) (s z) t (s z) l (later_itself (s z)) (position_kept (s u) Known z)
              (p.pairs u z apart).known)
        ] refl;
    told = λ z apart.
        subst (λ (q : Place). ToldUpTo (s z) t q) (sym (others Told z refl))
        (told_up-later (s z) (s u) (s z) t (later_itself (s z)) l (position_kept (s u) Told z)
        (p.pairs z u apart).told);
  }

  -- a step without a move
  pub writes : (x : Step) → move_of x ≡ None → Becomes s u (after (s u) x)
  writes x none =
      let t : State = after (s u) x in
      let l : Later (s u) t = later_after (s u) x (λ m e. absurd (none_some (sym none ∙ e))) in
      let same : (table : PosTable) (z : Uid) → position_kept t table z ≡ position_kept (s u) table z =
      λ table z.
      ap (λ (o : Option Move). unwrap_or (last_or ((s u).position table z) (positions_by table z o)) nowhere)
      none in
      record {
        later = l;
        known = λ v apart.
            subst (λ (q : Place). KnownUpTo t (s v) q) (sym (same Known v))
            (known-later (s u) (s v) t (s v) l (later_itself (s v)) (position_kept (s u) Known v)
            (p.pairs u v apart).known);
        told = λ z apart.
            subst (λ (q : Place). ToldUpTo (s z) t q) (sym (same Told z))
            (told_up-later (s z) (s u) (s z) t (later_itself (s z)) l (position_kept (s u) Told z)
            (p.pairs z u apart).told);
      }
    where
      none_some : {m : Move} → None ≡ Some m → ⊥
      none_some e = cc

  -- ---- the phases

  module _ (documents : AllDocuments (s u)) where
    pub posts_at : (info : Info) → SessionAt (s u) s w.sent u (HasInfo info)
        → TurnAt s w.sent u (posts (s u) (length w.sent) info)
    posts_at info h =
        let from = info.source_at.generation in
        let docs : List SyncDoc = sent (s u) (changes_since (s u).log from) in
        let lists : Lists u (s u) (s info.target) (length (s u).log) docs = record {
          from = from;
          listed = listed (s u) from documents;
          told = h.1;
        } in
        record {
          becomes = stays;
          session = record {
            apart = h.0;
            known = position_kept (s u) Known info.target;
            docs = docs;
            named = sent_last w.sent (record {
              source = u;
              target = info.target;
              question = posted_to (s u) info.target info.source_at;
            });
            lists = lists;
          };
          sends = (
            h.0,
            record {
              upto = length (s u).log;
              lists = lists;
              before = le_itself (position_kept (s u) Known info.target).generation;
            },
          );
        }

    -- a document is taken
    pub taken_at : (seed : ℕ) (v : Uid) (base taken : ℕ) (doc : SyncDoc) (docs : List SyncDoc) (top : Place)
        → RepliedOk (s u) s u v base taken → Returned (s u) (s v) v (doc ∷ docs) top
        → passes (position_kept (s u) Known v) doc.at ≡ true
        → (sends : List Sent)
        → Becomes s u (after_all (s u) (steps_for (s u) seed true doc (known_to v doc.at)))
        × SessionAt (after_all (s u) (steps_for (s u) seed true doc (known_to v doc.at))) s sends u
        (Taking v base (taken + count_of (taken_of (s u) doc true)) docs top)
    taken_at seed v base taken doc docs top h returned ok sends =
        let a : State = s u in
        let t : State = after_all a (steps_for a seed true doc (known_to v doc.at)) in
        let pair = (p.pairs u v h.apart).known in
        let l = leaves a seed true doc (known_to v doc.at) ok in (
          knows v t doc.at l.later l.kept l.others
              (take_known a t (s v) v base taken doc docs top documents pair returned ok l),
          (
            record {
              apart = h.apart;
              told = told_to-later a (s v) t (s v) l.later (later_itself (s v)) base h.told;
              recorded =
                  take_recorded a t (s v) v base taken doc docs top documents pair returned ok l h.recorded;
            },
            take_returned a t (s v) v base taken doc docs top documents pair returned ok l,
          ),
        )

  -- the known place moves to the end of the target's log
  pub settled_at : (v : Uid) (base taken : ℕ) (top : Place) → RepliedOk (s u) s u v base taken
      → Returned (s u) (s v) v [] top → passes (position_kept (s u) Known v) top ≡ true → (sends : List Sent)
      → Becomes s u (after_all (s u) (steps_to (s u) (known_to v top)))
      × SessionAt (after_all (s u) (steps_to (s u) (known_to v top))) s sends u (Settled v base taken)
  settled_at v base taken top h returned ok sends =
      let a : State = s u in
      let t : State = after_all a (steps_to a (known_to v top)) in
      let m = moved_to a (known_to v top) ok in (
        knows v t top m.later m.kept m.others
            (settle_known a t (s v) v top m.later (p.pairs u v h.apart).known returned),
        record {
          apart = h.apart;
          told = told_to-later a (s v) t (s v) m.later (later_itself (s v)) base h.told;
          recorded = recorded-later a (s v) t (s v) m.later (later_itself (s v)) base taken h.recorded;
        },
      )

  -- only where the log grew by what was taken, the target is told
  pub finished_at : (v : Uid) (base taken : ℕ) → RepliedOk (s u) s u v base taken
      → has_all (s u) base taken ≡ true → QuestionOk u v (s u) (s v) (ToKeep (end_of (s u).log))
  finished_at v base taken h all =
      all_told (s u) (s v) base taken h.told h.recorded
      (eqb-true (length (s u).log) (base + taken)
      (and_parts (length (s u).log == base + taken) (nat_le 1 taken) all).0)
