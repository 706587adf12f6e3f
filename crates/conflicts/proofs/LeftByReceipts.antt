-- What a receipt leaves of the document: by what is accepted, and then line by line of the table.
use Rattle.std.specs.Prelude.{◌≡◌, ◌⊎◌, Bool, true, false, cond, not, ◌&&◌, ◌||◌, is_some, List, Option, Some, None}
use Rattle.std.specs.Prelude.{refl}
use Rattle.std.specs.List.{list_any}
use Rattle.std.specs.Option.{option_map}
use Rattle.std.proofs.Common.{sym, ◌∙◌, ap, inl, inr}
use Rattle.vector_rev.specs.Counts.{Uid}
use Rattle.vector_rev.specs.Clock.{Clock, covers, dominates}
use Rattle.vector_rev.specs.Compare.{same}
use Rattle.vector_rev.proofs.ClockLaws.{same_decides, covers-itself}
use Rattle.conflicts.specs.Lists.{In}
use Rattle.conflicts.specs.Document.{Document, member_of, has_rev, others, in_order, document_after}
use Rattle.conflicts.specs.Making.{made_clock}
use Rattle.conflicts.specs.Decision.{alike, merge_parents, may_merge, merge_of, received, accepts, nothing}
use Rattle.conflicts.specs.Decision.{decides_over, decides_at}
use Rattle.conflicts.specs.Laws.{CurrentIs, IsDocument, IsMade}
use Rattle.conflicts.specs.Receipts.{ReceivesOf, Receipts}
use Rattle.conflicts.specs.declared.member.Member.{Member}
use Rattle.conflicts.specs.declared.accept.Accept.{Accept}
use Rattle.conflicts.specs.declared.accept.Making.TheVariants.{Merge}
use Rattle.conflicts.specs.declared.receipts.Taken.{Taken}
use Rattle.conflicts.specs.declared.receipts.Outcome4.{Outcome4}
use Rattle.conflicts.specs.declared.receipts.Outcome4.TheVariants.{Inserted, Superseded, Converged, Conflicted}
use Rattle.u1_base.proofs.Booleans.{first, second, none_true, not_both, not_true}
use Rattle.conflicts.proofs.Members.{found, from_filter}
use Rattle.conflicts.proofs.Accepted.{is_member, takes_over, is_read}
use Rattle.conflicts.proofs.Makings.{none_newer, none_newer_above, is_made, merge_least, not_older as fresh_not_older}

-- ---- by what is accepted

-- these two answers do not say that the revision is the current one
superseded_else : (Superseded ≡ Inserted) ⊎ (Superseded ≡ Converged) → ⊥
superseded_else h = elim h [ inl e ↦ cc | inr e ↦ cc ]

conflicted_else : (Conflicted ≡ Inserted) ⊎ (Conflicted ≡ Converged) → ⊥
conflicted_else h = elim h [ inl e ↦ cc | inr e ↦ cc ]

module _ (x : Member) where
  -- some member covers the revision
  abbrev IsCovered : Document → Type 0
  IsCovered e = (m : Member) × In m e.members × (covers m.rev x.rev ≡ true)

  -- some member is not older than it
  abbrev IsMet : Document → Type 0
  IsMet e = (m : Member) × In m e.members × (dominates x.rev m.rev ≡ false)

  -- one that covers it is not older
  covered_met : (e : Document) → IsCovered e → IsMet e
  covered_met e m = (
    m.0,
    m.1,
    none_true (dominates x.rev m.0.rev)
        (λ newer. not_both (covers m.0.rev x.rev) m.2 (uncovered newer)),
  )
    where
      uncovered : dominates x.rev m.0.rev ≡ true → covers m.0.rev x.rev ≡ false
      uncovered newer = not_true (covers m.0.rev x.rev)
          (second (covers x.rev m.0.rev) (not (covers m.0.rev x.rev)) newer)

  module _ (d : Document) (save : Bool) where
    -- nothing is accepted
    left_alone : (o : Outcome4) → (save ≡ true → IsCovered d) → IsMet d
        → ((o ≡ Inserted) ⊎ (o ≡ Converged) → d.current ≡ Some x.rev) → (o ≡ Inserted → ⊥)
        → ReceivesOf d x save (nothing o)
    left_alone o over met now not_inserted = record {
      covered = over;
      not_older = met;
      current = now;
      content = λ _. tt;
      inserted = λ e. absurd (not_inserted e);
      conflicted = λ _. tt;
    }

    -- a member covers it already
    is_superseded : IsCovered d → ReceivesOf d x save (nothing Superseded)
    is_superseded over =
        left_alone Superseded (λ _. over) (covered_met d over) (λ h. absurd (superseded_else h))
        (λ e. superseded_else (inl e))

    -- nobody asked for it
    is_left : save ≡ false → IsMet d → ReceivesOf d x save (nothing Conflicted)
    is_left sent met =
        left_alone Conflicted (λ saved. absurd (not_both save saved sent)) met (λ h. absurd (conflicted_else h))
        (λ e. conflicted_else (inl e))

    -- it is the current one
    is_converged : IsCovered d → d.current ≡ Some x.rev → ReceivesOf d x save (nothing Converged)
    is_converged over now = left_alone Converged (λ _. over) (covered_met d over) (λ _. now) (λ e. cc)

    -- it is accepted as it came, whatever the answer
    as_it_came : (o : Outcome4) → list_any (λ m. dominates m.rev x.rev) d.members ≡ false
        → ReceivesOf d x save (accepts o x)
    as_it_came o none = record {
      covered = λ _. itself;
      not_older = covered_met (document_after d (received x)) itself;
      current = λ _. takes_over d (received x) none refl;
      content = λ _. is_read d (received x) none refl;
      inserted = λ _. refl;
      conflicted = λ _. refl;
    }
      where
        itself : IsCovered (document_after d (received x))
        itself = (member_of (received x), is_member d (received x) none, covers-itself x.rev)

    -- a revision is accepted that was made of it, and of others
    is_merged : (own : Uid) (a : Accept) → IsMade own d.members a → In x.rev a.parents → a.content ≡ x.content
        → (save ≡ true → a.current ≡ true) → ReceivesOf d x save (record { outcome = Superseded; accepted = Some a })
    is_merged own a made parent alike_it leads = record {
      covered = λ _. by_it;
      not_older = covered_met (document_after d a) by_it;
      current = λ h. absurd (superseded_else h);
      content = λ saved. is_read d a none (leads saved) ∙ alike_it;
      inserted = λ e. absurd (superseded_else (inl e));
      conflicted = λ e. absurd (cc);
    }
      where
        none : list_any (λ m. dominates m.rev a.rev) d.members ≡ false
        none = fresh_not_older own d.members a made

        by_it : IsCovered (document_after d a)
        by_it = (member_of a, is_member d a none, first (covers a.rev x.rev) _ (made.above x.rev parent))

-- ---- line by line

module _ (own : Uid) (d : Document) (w : IsDocument d) (c : Clock) (now : d.current ≡ Some c)
    (m : CurrentIs d.members (Some c)) (x : Member) (save : Bool) where
  abbrev ms : List Member
  ms = in_order c d.members

  abbrev rest : List Member
  rest = others c d.members

  abbrev Leaves : Taken → Type 0
  Leaves t = ReceivesOf d x save t

  -- a line and those after it
  either : (b : Bool) (t later : Taken) → (b ≡ true → Leaves t) → (b ≡ false → Leaves later) → Leaves (cond b t later)
  either true t later on off = on refl
  either false t later on off = off refl

  -- the current member covers what the current revision covers
  covered_by_current : covers c x.rev ≡ true → IsCovered x d
  covered_by_current over = (m.0, m.1, ap (λ (k : Clock). covers k x.rev) m.2 ∙ over)

  -- and is not older than what is not newer than that
  met_by_current : dominates x.rev c ≡ false → IsMet x d
  met_by_current not_newer = (m.0, m.1, ap (dominates x.rev) m.2 ∙ not_newer)

  -- the last lines: it is kept where it was asked for
  abbrev ending : Taken
  ending = cond save (accepts Conflicted x) (nothing Conflicted)

  ending_leaves : dominates x.rev c ≡ false → list_any (λ n. dominates n.rev x.rev) d.members ≡ false → Leaves ending
  ending_leaves not_newer none =
      either save (accepts Conflicted x) (nothing Conflicted) (λ _. as_it_came x d save Conflicted none)
      (λ sent. is_left x d save sent (met_by_current not_newer))

  -- a merge
  abbrev merge_with : Clock → Accept
  merge_with r = record {
    rev = r;
    content = x.content;
    making = Merge;
    parents = merge_parents x ms;
    current = save
        || has_rev (alike x ms) c || dominates r c;
  }

  abbrev merge_taken : Option Clock → Taken
  merge_taken o = record { outcome = Superseded; accepted = option_map merge_with o }

  merge_leaves : may_merge ms x own ≡ true → (o : Option Clock) → made_clock own (merge_parents x ms) ≡ o
      → is_some (option_map merge_with o) ≡ true → Leaves (merge_taken o)
  merge_leaves may None e some = absurd (not_both false some refl)
  merge_leaves may (Some r) e some =
      is_merged x d save own (merge_with r)
      (is_made own d.members (merge_with r) e (merge_least own d w c now m x may)) (inl refl) refl
      (λ saved. ap (λ b. b || has_rev (alike x ms) c || dominates r c) saved)

  abbrev merging : Taken
  merging =
      cond (may_merge ms x own && is_some (merge_of c ms x save own))
      (merge_taken (made_clock own (merge_parents x ms))) ending

  merging_leaves : dominates x.rev c ≡ false → list_any (λ n. dominates n.rev x.rev) d.members ≡ false → Leaves merging
  merging_leaves not_newer none =
      either (may_merge ms x own && is_some (merge_of c ms x save own))
      (merge_taken (made_clock own (merge_parents x ms))) ending
      (λ may. merge_leaves (first (may_merge ms x own) _ may) (made_clock own (merge_parents x ms)) refl
      (second (may_merge ms x own) _ may))
      (λ _. ending_leaves not_newer none)

  -- another member has the revision
  abbrev standing : Taken
  standing =
      cond (has_rev rest x.rev && save) (accepts Conflicted x) (cond (has_rev rest x.rev) (nothing Conflicted) merging)

  standing_leaves : dominates x.rev c ≡ false → list_any (λ n. dominates n.rev x.rev) d.members ≡ false
      → Leaves standing
  standing_leaves not_newer none =
      either (has_rev rest x.rev && save) (accepts Conflicted x)
      (cond (has_rev rest x.rev) (nothing Conflicted) merging)
      (λ _. as_it_came x d save Conflicted none)
      (λ not_saved. either (has_rev rest x.rev) (nothing Conflicted) merging
      (λ there. is_left x d save (ap (λ b. b && save) (sym there) ∙ not_saved) (met_by_current not_newer))
      (λ _. merging_leaves not_newer none))

  -- another member is newer
  abbrev beside : Taken
  beside = cond (list_any (λ n. dominates n.rev x.rev) rest) (nothing Superseded) standing

  covered_beside : list_any (λ n. dominates n.rev x.rev) rest ≡ true → IsCovered x d
  covered_beside newer =
      let f = found (λ n. dominates n.rev x.rev) rest newer in
      (f.0, (from_filter (λ n. not (same n.rev c)) f.0 d.members f.1).0, first (covers f.0.rev x.rev) _ f.2)

  beside_leaves : dominates c x.rev ≡ false → dominates x.rev c ≡ false → Leaves beside
  beside_leaves not_older not_newer =
      either (list_any (λ n. dominates n.rev x.rev) rest) (nothing Superseded) standing
      (λ newer. is_superseded x d save (covered_beside newer))
      (λ none. standing_leaves not_newer (none_newer own d w c now m x not_older none))

  -- the first lines: how it compares with the current one
  abbrev not_older : Taken
  not_older = cond (dominates x.rev c) (accepts Inserted x) beside

  abbrev not_equal : Taken
  not_equal = cond (dominates c x.rev) (nothing Superseded) not_older

  not_older_leaves : dominates c x.rev ≡ false → Leaves not_older
  not_older_leaves low =
      either (dominates x.rev c) (accepts Inserted x) beside
      (λ newer. as_it_came x d save Inserted (none_newer_above own d w c now m x newer))
      (λ not_newer. beside_leaves low not_newer)

  not_equal_leaves : Leaves not_equal
  not_equal_leaves =
      either (dominates c x.rev) (nothing Superseded) not_older
      (λ older. is_superseded x d save (covered_by_current (first (covers c x.rev) _ older)))
      not_older_leaves

  over_leaves : Leaves (decides_over c ms rest x save own)
  over_leaves = either (same x.rev c) (nothing Converged) not_equal (λ e. equal ((same_decides x.rev c).0 e))
      (λ _. not_equal_leaves)
    where
      equal : x.rev ≡ c → Leaves (nothing Converged)
      equal is =
          is_converged x d save (covered_by_current
          (ap (λ (k : Clock). covers k x.rev) (sym is) ∙ covers-itself x.rev)) (now ∙ ap Some (sym is))

-- with a current revision and without one
at_leaves : (own : Uid) (d : Document) → IsDocument d → (c : Option Clock) → d.current ≡ c → CurrentIs d.members c
    → (x : Member) (save : Bool) → ReceivesOf d x save (decides_at c d.members x save own)
at_leaves own d w None now empty x save =
    as_it_came x d save Inserted (ap (λ (ms : List Member). list_any (λ m. dominates m.rev x.rev) ms) empty)
at_leaves own d w (Some c) now m x save = over_leaves own d w c now m x save

pub law : Receipts
law d w x save own = at_leaves own d w d.current refl w.current x save
