-- A conflict is settled where all members are named.
use Rattle.std.specs.Prelude.{◌≡◌, ℕ, zero, suc, ◌+◌, ◌≤◌, Bool, true, false, not, ◌||◌, nat_lt, List, [], ◌∷◌, ◌++◌}
use Rattle.std.specs.Prelude.{filter, length, take, slice_get, Option, Some, None, Result, Ok, Err, IfOk, if◌then◌else◌}
use Rattle.std.specs.Prelude.{refl}
use Rattle.std.specs.List.{list_any}
use Rattle.std.specs.Option.{ok_or}
use Rattle.std.proofs.Common.{sym, ◌∙◌, ap, subst, add-one, arith, length-append, take_all}
use Rattle.std.proofs.lemmas.List.{map-append}
use Rattle.std.proofs.lemmas.Option.{same_Some}
use Rattle.std.proofs.lemmas.List.Filters.{length-filter_both}
use Rattle.std.proofs.lemmas.Bool.{and_parts}
use Rattle.content.specs.Tree.{Tree}
use Rattle.vector_rev.specs.Counts.{Uid}
use Rattle.vector_rev.specs.Clock.{Clock, covers, dominates}
use Rattle.vector_rev.specs.Compare.{same}
use Rattle.conflicts.specs.Document.{Document, document_after, in_order, is_conflicted, member_of}
use Rattle.conflicts.specs.Kept.{Kept, current, current_first, document}
use Rattle.conflicts.specs.Laws.{CurrentIs, IsDocument, MakesOf}
use Rattle.conflicts.specs.Lists.{In, is_empty}
use Rattle.conflicts.specs.Making.{greatest, leader, made_clock, named_in, resolution_of, resolved, resolved_at, revs}
use Rattle.conflicts.specs.State.{State, Text}
use Rattle.conflicts.specs.declared.accept.Accept.{Accept}
use Rattle.conflicts.specs.declared.accept.Making.TheVariants.{Resolve}
use Rattle.conflicts.specs.declared.member.Member.{Member}
use Rattle.conflicts.specs.declared.resolutions.ResolveFault.TheVariants as resolve_fault
use Rattle.conflicts.proofs.Accepted.{members_after}
use Rattle.conflicts.proofs.Apart.{same_itself}
use Rattle.conflicts.proofs.Makings.{resolved_makes}
use Rattle.conflicts.proofs.Members.{In-filter, In-left, In-map, In-right, filter_nothing, filter_whole, finds}
use Rattle.replica_core.specs.Commands.Documents.{members_by}
use Rattle.conflicts.specs.Writing.{IsAnswer, accept_made, step_in}
use Rattle.replica_core.specs.CallsFaults.{resolve_refusal}
use Rattle.replica_core.specs.Replica.{after_step}
use Rattle.examples.specs.Notes.{Reads, conflicting_in, settle_decides}
use Rattle.examples.proofs.Acceptances.{after_next, made_ok, unless}
use Rattle.examples.proofs.Notes.{IsWritten, made_reads}

-- ---- all are named

-- where all members are named, all of them are resolved
named_all : (ms : List Member) → named_in (revs ms) ms ≡ ms
named_all ms =
    filter_whole (λ m. list_any (λ c. same c m.rev) (revs ms)) ms
    (λ m i. finds (λ c. same c m.rev) m.rev (revs ms) (In-map (λ k. k.rev) m ms i) (same_itself m.rev))

in_their_order : (c : Clock) (ms : List Member) (m : Member) → In m ms → In m (in_order c ms)
in_their_order c ms m i = by (same m.rev c) refl
  where
    by : (b : Bool) → same m.rev c ≡ b → In m (in_order c ms)
    by true e = In-left m (filter (λ n. same n.rev c) ms) _ (In-filter (λ n. same n.rev c) m ms i e)
    by false e = In-right m (filter (λ n. same n.rev c) ms) _ (In-filter (λ n. not (same n.rev c)) m ms i (ap not e))

-- what a resolution of all members makes
pub record IsOfAll (t : Option Tree) (ms : List Member) (a : Accept) : Type 0 where
  pub written : IsWritten t a
  pub parents : (m : Member) → In m ms → In m.rev a.parents

resolves_all : (d : Document) (c : Clock) → CurrentIs d.members (Some c)
    → (t : Option Tree) (parents : List Clock) (own : Uid) → parents ≡ revs (in_order c d.members)
    → IfOk (ok_or (resolution_of own c parents t) resolve_fault.ClockFull) (IsOfAll t d.members)
resolves_all d c m t parents own are =
    made_ok (λ r. record {
      rev = r;
      content = t;
      making = Resolve;
      parents = parents;
      current =
          list_any (λ p. same p c) parents || dominates r c;
    }) (made_clock own parents) resolve_fault.ClockFull (IsOfAll t d.members)
    (λ r. record {
      written = record { marked = ap (λ (b : Bool). b || dominates r c) named; content = refl };
      parents = there;
    })
  where
    there : (n : Member) → In n d.members → In n.rev parents
    there n i = subst (In n.rev) (sym are)
        (In-map (λ (k : Member). k.rev) n (in_order c d.members) (in_their_order c d.members n i))

    named : list_any (λ p. same p c) parents ≡ true
    named = finds (λ p. same p c) m.0.rev parents (there m.0 m.1) (ap (λ (k : Clock). same k c) m.2 ∙ same_itself c)

not_false : (b : Bool) → not b ≡ false → b ≡ true
not_false true h = refl
not_false false h = sym h

settled_at : (d : Document) (o : Option Clock) → CurrentIs d.members o → (named : List Clock)
    → (is_conflicted d ≡ true → (c : Clock) → o ≡ Some c → named ≡ revs (in_order c d.members))
    → (t : Option Tree) (own : Uid) → IfOk (resolved_at o d named t own) (IsOfAll t d.members)
settled_at d None m named all t own = tt
settled_at d (Some c) m named all t own =
    let ms = in_order c d.members in
    unless (not (is_conflicted d)) resolve_fault.NotConflicted _ (IsOfAll t d.members) (λ conflicted.
    unless (is_empty (revs (named_in named ms))) resolve_fault.NothingNamed _ (IsOfAll t d.members) (λ _.
    unless (nat_lt (greatest own (revs (named_in named ms))) (greatest own (revs ms)))
    (resolve_fault.Unnamed (leader own c ms)) _ (IsOfAll t d.members) (λ _.
    resolves_all d c m t (revs (named_in named ms)) own
    (ap (λ (cs : List Clock). revs (named_in cs ms)) (all (not_false (is_conflicted d) conflicted) c refl)
    ∙ ap revs (named_all ms)))))

-- ---- one is left

covered : (a b : Clock) → dominates a b ≡ true → covers a b ≡ true
covered a b h = (and_parts (covers a b) (not (covers b a)) h).0

-- what is made of all members stands alone
alone : (d : Document) (a : Accept) (own : Uid) (t : Option Tree) → MakesOf own d a → IsOfAll t d.members a
    → (document_after d a).members ≡ member_of a ∷ []
alone d a own t makes of_all =
    members_after d a makes.fits.not_older
    ∙ ap (λ (ms : List Member). ms ++ member_of a ∷ [])
    (filter_nothing (λ m. not (covers a.rev m.rev)) d.members
    (λ m i. ap not (covered a.rev m.rev (makes.made.above m.rev (of_all.parents m i)))))

pub made_settles : {E F : Type 0} (refusal : E → F) (seed : ℕ) (s new : State) (id : Text) (t : Option Tree)
    (own : Uid) (rev : Clock) (made : Result Accept E)
    → IfOk made (MakesOf own (s.document id)) → IfOk made (IsOfAll t (s.document id).members)
    → IsAnswer (accept_made refusal seed s id made) rev
    → new ≡ after_step s (step_in (accept_made refusal seed s id made)) → is_conflicted (new.document id) ≡ false
made_settles refusal seed s new id t own rev (Err fault) makes of_all answer is = absurd answer
made_settles refusal seed s new id t own rev (Ok a) makes of_all answer is =
    ap (λ (x : State). is_conflicted (x.document id)) is
    ∙ ap is_conflicted (after_next seed s id a None)
    ∙ ap (λ (ms : List Member). nat_lt 1 (length ms)) (alone (s.document id) a own t makes of_all)

written_too : {E : Type 0} (t : Option Tree) (ms : List Member) (made : Result Accept E) → IfOk made (IsOfAll t ms)
    → IfOk made (IsWritten t)
written_too t ms (Ok a) h = h.written
written_too t ms (Err e) h = tt

-- ---- a resolution that names all

-- of a document in conflict all are named
all_named : (d : Document) → is_conflicted d ≡ true → (c : Clock) → d.current ≡ Some c
    → conflicting_in d ≡ revs (in_order c d.members)
all_named d conflicted c now =
    ap (λ (b : Bool). if b then revs (members_by d.current d.members) else []) conflicted
    ∙ ap (λ (o : Option Clock). revs (members_by o d.members)) now

module _ (seed : ℕ) (s new : State) (id : Text) (t : Tree) (answer : Clock) (is : IsDocument (s.document id))
    (decided : IsAnswer (settle_decides seed id t s) answer)
    (after : new ≡ after_step s (step_in (settle_decides seed id t s))) where
  of_all : IfOk (resolved (s.document id) (conflicting_in (s.document id)) (Some t) s.uid)
      (IsOfAll (Some t) (s.document id).members)
  of_all =
      settled_at (s.document id) (s.document id).current is.current (conflicting_in (s.document id))
      (all_named (s.document id)) (Some t) s.uid

  pub settle_reads : Reads new id answer t
  settle_reads =
      made_reads resolve_refusal seed s new id t s.uid answer
      (resolved (s.document id) (conflicting_in (s.document id)) (Some t) s.uid)
      (resolved_makes (s.document id) is (conflicting_in (s.document id)) (Some t) s.uid)
      (written_too (Some t) (s.document id).members
      (resolved (s.document id) (conflicting_in (s.document id)) (Some t) s.uid) of_all) decided after

  pub settle_ends : is_conflicted (new.document id) ≡ false
  settle_ends =
      made_settles resolve_refusal seed s new id (Some t) s.uid answer
      (resolved (s.document id) (conflicting_in (s.document id)) (Some t) s.uid)
      (resolved_makes (s.document id) is (conflicting_in (s.document id)) (Some t) s.uid) of_all decided after

-- ---- what is in conflict

pub in_conflict : (d : Document) (k : Kept) → document (Some k) ≡ d → is_conflicted d ≡ true
    → revs (current_first k) ≡ conflicting_in d
in_conflict d k is conflicted = rw conflicted (rw (← is) refl)

pub not_in_conflict : (d : Document) → is_conflicted d ≡ false → [] ≡ conflicting_in d
not_in_conflict d plain = rw plain refl

-- ---- the revisions of the members

pub length_current_first : (k : Kept) → length (current_first k) ≡ length k.members
length_current_first k =
    length-append (filter (λ (m : Member). same m.rev (current k).rev) k.members)
    (filter (λ (m : Member). not (same m.rev (current k).rev)) k.members)
    ∙ length-filter_both (λ (m : Member). same m.rev (current k).rev)
    (λ (m : Member). not (same m.rev (current k).rev)) (λ m. refl) k.members

taken_more : (ms : List Member) (place : ℕ) (m : Member) → Some m ≡ slice_get ms place
    → take (suc place) ms ≡ take place ms ++ m ∷ []
taken_more [] place m at = absurd (cc)
taken_more (n ∷ ms) zero m at = ap (λ (k : Member). k ∷ []) (same_Some n m (sym at))
taken_more (n ∷ ms) (suc place) m at = ap (λ (ks : List Member). n ∷ ks) (taken_more ms place m at)

-- the revisions of the first members, and of one more
pub one_more : (ms : List Member) (place : ℕ) (m : Member) (named : List Clock) → Some m ≡ slice_get ms place
    → named ≡ revs (take place ms) → named ++ m.rev ∷ [] ≡ revs (take (place + 1) ms)
one_more ms place m named at is =
    ap (λ (cs : List Clock). cs ++ m.rev ∷ []) is
    ∙ sym (map-append (λ (m : Member). m.rev) (take place ms) (m ∷ []))
    ∙ ap revs (sym (ap (λ (n : ℕ). take n ms) (add-one place) ∙ taken_more ms place m at))

-- and of all of them
pub all_members : (k : Kept) (place : ℕ) (named : List Clock) → length k.members ≤ place
    → named ≡ revs (take place (current_first k)) → named ≡ revs (current_first k)
all_members k place named past is =
    let all : length (current_first k) ≤ place = omega (arith, length_current_first k, past) in
    is ∙ ap revs (take_all place (current_first k) all)
