-- What is noted after one note more.
use Rattle.std.proofs.Common.{◌≡◌, Bool, true, false, cond, List, [], ◌∷◌, ◌++◌, Option, Some, None, refl, sym, ap, ◌∙◌}
use Rattle.std.specs.Prelude.{not, ◌&&◌, ◌||◌, is_some}
use Rattle.std.specs.List.{list_any}
use Rattle.std.specs.Cmp.Lexicographic.{nat_list_cmp_total}
use Rattle.std.specs.FinMap.Entries.{find, put, find-put, find-where_key}
use Rattle.std.proofs.lemmas.List.Folds.{list_any-append}
use Rattle.u1_base.specs.Ids.{id_cmp, same_id}
use Rattle.u1_base.proofs.SameIds.{id_tied, same_id_is, same_id-comm}
use Rattle.vector_rev.specs.Counts.{Uid}
use Rattle.vector_rev.specs.Clock.{Clock}
use Rattle.vector_rev.specs.Compare.{same}
use Rattle.conflicts.specs.Lists.{is_empty}
use Rattle.conflicts.specs.State.{Text, Step, Accepted, Gone, State, positions_by}
use Rattle.conflicts.specs.Document.{has_rev}
use Rattle.conflicts.specs.declared.accept.Accept.{Accept}
use Rattle.conflicts.specs.declared.moves.Move.{Move}
use Rattle.conflicts.specs.declared.moves.PosTable.{PosTable}
use Rattle.conflicts.specs.declared.moves.PosTable.TheVariants.{Known, Told}
use Rattle.doc_table.specs.Listed.{without}
use Rattle.replica_state.specs.Held.{chosen}
use Rattle.compaction.specs.Compaction.{Later, accepts_rev, left, marked_by}
use Rattle.compaction.specs.inner.Noted.{has_clock, with_accepted, with_moved, with_steps}

pub same_later : (a b : Later) → ((d : Text) (r : Clock) → a.accepted d r ≡ b.accepted d r)
    → ((t : PosTable) (u : Uid) → a.moved t u ≡ b.moved t u) → ((n : Text) → a.created n ≡ b.created n) → a ≡ b
same_later a b p q r = λ i. record { accepted = λ d c. p d c i; moved = λ t u. q t u i; created = λ n. r n i }

-- ---- ids

pub id_noted : {X : Type 0} (q id copy : Text) (x : X) (old mid new : List (Text × X)) → new ≡ put id_cmp copy x mid
    → mid ≡ old → copy ≡ id → is_some (find id_cmp q new) ≡ (same_id q id || is_some (find id_cmp q old))
id_noted q id copy x old mid new is_new is_mid is_copy =
    ap (λ ps. is_some (find id_cmp q ps)) (is_new ∙ (λ i. put id_cmp (is_copy i) x (is_mid i)))
    ∙ ap (λ o. is_some o) (find-put id_cmp nat_list_cmp_total q id x old)
    ∙ elim (same_id q id) as (λ b. is_some (cond b (Some x) (find id_cmp q old)) ≡ (b || is_some (find id_cmp q old)))
    [ true ↦ refl | false ↦ refl ]

-- ---- revisions

find-without : {X : Type 0} (q id : Text) (ps : List (Text × X))
    → find id_cmp q (without id ps) ≡ cond (not (same_id id q)) (find id_cmp q ps) None
find-without q id ps =
    find-where_key id_cmp (λ other. not (same_id id other)) q
    (λ x tied. ap (λ (k : Text). not (same_id id k)) (sym (id_tied q x tied))) ps

or_last : (x y : Bool) → (x || (y || false)) ≡ (y || x)
or_last true true = refl
or_last true false = refl
or_last false true = refl
or_last false false = refl

rev_put : (doc : Text) (rev : Clock) (old taken new : List (Text × List Clock)) (found : Option (List Clock))
    (revs more : List Clock) → found ≡ find id_cmp doc old
    → ((q : Clock) → list_any (λ c. same c q) revs ≡ has_clock found q) → more ≡ revs ++ rev ∷ []
    → taken ≡ without doc old → new ≡ put id_cmp doc more taken → (e : Text) (q : Clock)
    → has_clock (find id_cmp e new) q ≡ (same_id e doc && same rev q || has_clock (find id_cmp e old) q)
rev_put doc rev old taken new found revs more is_found is_revs is_more is_taken is_new e q =
    ap (λ ps. has_clock (find id_cmp e ps) q) (is_new ∙ ap (put id_cmp doc more) is_taken)
    ∙ ap (λ o. has_clock o q) (find-put id_cmp nat_list_cmp_total e doc more (without doc old))
    ∙ elim (same_id e doc) as (λ b. same_id e doc ≡ b
    → has_clock (cond b (Some more) (find id_cmp e (without doc old))) q
    ≡ (b && same rev q || has_clock (find id_cmp e old) q)) [
      | true ↦ λ this.
          ap (λ cs. list_any (λ c. same c q) cs) is_more
          ∙ list_any-append (λ c. same c q) revs (rev ∷ [])
          ∙ or_last (list_any (λ c. same c q) revs) (same rev q)
          ∙ ap (λ b. same rev q || b)
          (is_revs q ∙ ap (λ o. has_clock o q) is_found
          ∙ ap (λ (k : Text). has_clock (find id_cmp k old) q) (sym (same_id_is e doc this)))
      | false ↦ λ other.
          ap (λ o. has_clock o q) (find-without e doc old)
          ∙ ap (λ b. has_clock (cond (not b) (find id_cmp e old) None) q) (same_id-comm doc e ∙ other)
    ] refl

-- of copies, and where room was made on the way
pub rev_noted : (doc copy : Text) (rev rev_copy : Clock) (old taken mid new : List (Text × List Clock))
    (found : Option (List Clock)) (revs more : List Clock) → copy ≡ doc → rev_copy ≡ rev → found ≡ find id_cmp copy old
    → ((q : Clock) → list_any (λ c. same c q) revs ≡ has_clock found q) → more ≡ revs ++ rev_copy ∷ []
    → taken ≡ without copy old → mid ≡ taken → new ≡ put id_cmp copy more mid → (e : Text) (q : Clock)
    → has_clock (find id_cmp e new) q ≡ (same_id e doc && same rev q || has_clock (find id_cmp e old) q)
rev_noted doc copy rev rev_copy old taken mid new found revs more is_copy is_rev is_found is_revs is_more is_taken
    is_mid is_new e q =
    rev_put copy rev_copy old taken new found revs more is_found is_revs is_more is_taken
    (is_new ∙ ap (put id_cmp copy more) is_mid) e q
    ∙ (λ i. same_id e (is_copy i) && same (is_rev i) q || has_clock (find id_cmp e old) q)

-- ---- moves

one_or_none : {A : Type 0} (b : Bool) (x : A) → not (is_empty (cond b (x ∷ []) [])) ≡ b
one_or_none true x = refl
one_or_none false x = refl

pub moved_in : {X : Type 0} (m : Move) (known told new : List (Uid × X)) (table : PosTable) → m.table ≡ table
    → ((q : Text) → is_some (find id_cmp q new)
    ≡ (same_id q m.uid || is_some (find id_cmp q (chosen table known told))))
    → (t : PosTable) (u : Uid) → is_some (find id_cmp u (chosen t (chosen table new known) (chosen table told new)))
    ≡ (not (is_empty (positions_by t u (Some m))) || is_some (find id_cmp u (chosen t known told)))
moved_in m known told new Known is noted Known u =
    noted u ∙ ap (λ b. b || is_some (find id_cmp u known))
    (sym (ap (λ t. not (is_empty (positions_by Known u (Some (record { table = t; uid = m.uid; at = m.at }))))) is
    ∙ one_or_none (same_id u m.uid) _))
moved_in m known told new Known is noted Told u =
    ap (λ b. b || is_some (find id_cmp u told))
    (sym (ap (λ t. not (is_empty (positions_by Told u (Some (record { table = t; uid = m.uid; at = m.at }))))) is))
moved_in m known told new Told is noted Known u =
    ap (λ b. b || is_some (find id_cmp u known))
    (sym (ap (λ t. not (is_empty (positions_by Known u (Some (record { table = t; uid = m.uid; at = m.at }))))) is))
moved_in m known told new Told is noted Told u =
    noted u ∙ ap (λ b. b || is_some (find id_cmp u told))
    (sym (ap (λ t. not (is_empty (positions_by Told u (Some (record { table = t; uid = m.uid; at = m.at }))))) is
    ∙ one_or_none (same_id u m.uid) _))

-- ---- what is left of an acceptance

module _ (s : State) (l k : Later) (d : Text) (a : Accept) (trans : Text) (moved : Option Move) where
  as_it_is : Bool → List Step
  as_it_is b = cond b (Accepted d (marked_by (s.document d).current a) trans moved ∷ []) (Gone d trans moved ∷ [])

  pub gone_noted : (b : Bool) → b ≡ (has_rev (s.document d).members a.rev && not (l.accepted d a.rev)) → b ≡ false
      → k ≡ with_moved moved l → k ≡ with_steps (left s l (Accepted d a trans moved)) l
  unfolding as_it_is
  gone_noted b is none noted = noted ∙ ap (λ c. with_steps (as_it_is c) l) (sym none ∙ is)

  one_acceptance : (e : Text) (q : Clock)
      → (same_id e d && same a.rev q) ≡ accepts_rev e q (Accepted d (marked_by (s.document d).current a) trans moved)
  one_acceptance e q =
      elim (same_id e d) as (λ b. (b && same a.rev q)
      ≡ list_any (λ (z : Accept). same z.rev q) (cond b (marked_by (s.document d).current a ∷ []) [])) [
        | true ↦ sym (or_nothing (same a.rev q))
        | false ↦ refl
      ]
    where
      or_nothing : (b : Bool) → (b || false) ≡ b
      or_nothing true = refl
      or_nothing false = refl

  pub accept_noted : (b : Bool) (m : Later) → b ≡ (has_rev (s.document d).members a.rev && not (l.accepted d a.rev))
      → b ≡ true → m ≡ with_moved moved l → k ≡ with_accepted d a.rev m
      → k ≡ with_steps (left s l (Accepted d a trans moved)) l
  unfolding as_it_is
  accept_noted b m is some moves noted =
      noted
      ∙ ap (with_accepted d a.rev) moves
      ∙ same_later (with_accepted d a.rev (with_moved moved l)) (with_steps (as_it_is true) l)
      (λ e q. ap (λ b. b || l.accepted e q) (one_acceptance e q)) (λ t u. refl) (λ n. refl)
      ∙ ap (λ c. with_steps (as_it_is c) l) (sym some ∙ is)
