-- A document that is not in conflict does not come into conflict by what another replica sends unasked.
use Rattle.std.specs.Prelude.{◌≡◌, ◌≤◌, Bool, true, false, cond, not, ◌&&◌, ◌||◌, is_some, List, [], ◌∷◌, ◌++◌, length}
use Rattle.std.specs.Prelude.{filter, Option, Some, None, IfSome, refl}
use Rattle.std.specs.List.{list_any}
use Rattle.std.specs.Option.{option_map}
use Rattle.std.proofs.Common.{sym, ◌∙◌, ap, subst, inl, inr, arith}
use Rattle.u1_base.proofs.Booleans.{first, not_both, second}
use Rattle.vector_rev.specs.Clock.{Clock, covers, dominates}
use Rattle.vector_rev.specs.Compare.{same}
use Rattle.vector_rev.specs.Counts.{Uid}
use Rattle.conflicts.specs.Decision.{accepts, alike, decides, decides_at, decides_over, is_alike, may_merge, merge_of}
use Rattle.conflicts.specs.Decision.{merge_parents, nothing}
use Rattle.conflicts.specs.Document.{Document, document_after, has_rev, in_order, member_of, others}
use Rattle.conflicts.specs.Laws.{CurrentIs, IsDocument, IsMade, TakesOf}
use Rattle.conflicts.specs.Lists.{In, is_empty}
use Rattle.conflicts.specs.Making.{made_clock}
use Rattle.conflicts.specs.Receipts.{after_taken}
use Rattle.conflicts.specs.declared.accept.Accept.{Accept}
use Rattle.conflicts.specs.declared.accept.Making.TheVariants.{Merge}
use Rattle.conflicts.specs.declared.member.Member.{Member}
use Rattle.conflicts.specs.declared.receipts.Outcome4.TheVariants.{Inserted, Superseded, Converged, Conflicted}
use Rattle.conflicts.specs.declared.receipts.Taken.{Taken}
use Rattle.conflicts.proofs.Accepted.{members_after}
use Rattle.conflicts.proofs.Makings.{decides_takes, is_made, merge_least}
use Rattle.conflicts.proofs.Members.{In-either, In-map, from_filter}

-- ---- one member

abbrev pub Single : Document → Type 0
Single d = length d.members ≤ 1

pub one_member : (ms : List Member) → length ms ≤ 1 → (m n : Member) → In m ms → In n ms → m ≡ n
one_member [] few m n i j = absurd i
one_member (x ∷ []) few m n (inl e) (inl f) = e ∙ sym f
one_member (x ∷ []) few m n (inl e) (inr j) = absurd j
one_member (x ∷ []) few m n (inr i) j = absurd i
one_member (x ∷ y ∷ ms) few m n i j = absurd (two few)
  where
    two : length (x ∷ y ∷ ms) ≤ 1 → ⊥
    two h = omega (arith, h)

covered_all : (r : Clock) (ms : List Member) → ((m : Member) → In m ms → covers r m.rev ≡ true)
    → filter (λ m. not (covers r m.rev)) ms ≡ []
covered_all r [] h = refl
covered_all r (m ∷ ms) h =
    ap (λ b. cond (not b) (m ∷ filter (λ n. not (covers r n.rev)) ms) (filter (λ n. not (covers r n.rev)) ms))
    (h m (inl refl))
    ∙ covered_all r ms (λ n i. h n (inr i))

one_is : (m : Member) → length (m ∷ []) ≤ 1
one_is m = omega arith

-- an acceptance that covers all members is the only one then
over_all : (d : Document) (a : Accept) → list_any (λ m. dominates m.rev a.rev) d.members ≡ false
    → ((m : Member) → In m d.members → covers a.rev m.rev ≡ true) → Single (document_after d a)
over_all d a none over =
    subst (λ (ms : List Member). length ms ≤ 1)
    (sym (members_after d a none ∙ ap (λ ms. ms ++ member_of a ∷ []) (covered_all a.rev d.members over)))
    (one_is (member_of a))

some_member : (ms : List Member) → not (is_empty ms) ≡ true → (m : Member) × In m ms
some_member [] h = absurd (not_both false h refl)
some_member (m ∷ ms) h = (m, inl refl)

-- ---- line by line

abbrev Covers : Document → Taken → Type 0
Covers d t = IfSome t.accepted (λ a. (n : Member) → In n d.members → covers a.rev n.rev ≡ true)

module _ (own : Uid) (d : Document) (w : IsDocument d) (few : Single d) (c : Clock) (now : d.current ≡ Some c)
    (m : CurrentIs d.members (Some c)) (x : Member) where
  abbrev ms : List Member
  ms = in_order c d.members

  abbrev rest : List Member
  rest = others c d.members

  either : (b : Bool) (t later : Taken) → (b ≡ true → Covers d t) → (b ≡ false → Covers d later)
      → Covers d (cond b t later)
  either true t later on off = on refl
  either false t later on off = off refl

  never : {A : Type 0} → (b : Bool) → (b && false) ≡ true → A
  never b e = absurd (not_both false (second b false e) refl)

  from_order : (n : Member) → In n ms → In n d.members
  from_order n i = elim (In-either n (filter (λ k. same k.rev c) d.members) (others c d.members) i) [
    | inl j ↦ (from_filter (λ k. same k.rev c) n d.members j).0
    | inr j ↦ (from_filter (λ k. not (same k.rev c)) n d.members j).0
  ]

  abbrev merge_with : Clock → Accept
  merge_with r = record {
    rev = r;
    content = x.content;
    making = Merge;
    parents = merge_parents x ms;
    current = false
        || has_rev (alike x ms) c || dominates r c;
  }

  abbrev merge_taken : Option Clock → Taken
  merge_taken o = record { outcome = Superseded; accepted = option_map merge_with o }

  merge_covers : may_merge ms x own ≡ true → (o : Option Clock) → made_clock own (merge_parents x ms) ≡ o
      → Covers d (merge_taken o)
  merge_covers may None e = tt
  merge_covers may (Some r) e =
      let made : IsMade own d.members (merge_with r) =
      is_made own d.members (merge_with r) e (merge_least own d w c now m x may) in
      let y = some_member (alike x ms) (first (not (is_empty (alike x ms))) _ may) in
      let there : In y.0 d.members = from_order y.0 (from_filter (is_alike x) y.0 ms y.1).0 in
      let over : covers r y.0.rev ≡ true =
      first (covers r y.0.rev) _ (made.above y.0.rev (inr (In-map (λ k. k.rev) y.0 (alike x ms) y.1))) in
      λ n i. subst (λ (k : Member). covers r k.rev ≡ true) (one_member d.members few y.0 n there i) over

  abbrev merging : Taken
  merging =
      cond (may_merge ms x own && is_some (merge_of c ms x false own))
      (merge_taken (made_clock own (merge_parents x ms))) (nothing Conflicted)

  merging_covers : Covers d merging
  merging_covers =
      either (may_merge ms x own && is_some (merge_of c ms x false own))
      (merge_taken (made_clock own (merge_parents x ms))) (nothing Conflicted)
      (λ may. merge_covers (first (may_merge ms x own) _ may) (made_clock own (merge_parents x ms)) refl)
      (λ _. tt)

  abbrev standing : Taken
  standing =
      cond (has_rev rest x.rev && false) (accepts Conflicted x)
      (cond (has_rev rest x.rev) (nothing Conflicted) merging)

  standing_covers : Covers d standing
  standing_covers =
      either (has_rev rest x.rev && false) (accepts Conflicted x)
      (cond (has_rev rest x.rev) (nothing Conflicted) merging) (λ e. never (has_rev rest x.rev) e)
      (λ _. either (has_rev rest x.rev) (nothing Conflicted) merging (λ _. tt) (λ _. merging_covers))

  abbrev beside : Taken
  beside = cond (list_any (λ n. dominates n.rev x.rev) rest) (nothing Superseded) standing

  newer_covers : dominates x.rev c ≡ true → Covers d (accepts Inserted x)
  newer_covers newer n i =
      let over : covers x.rev c ≡ true = first (covers x.rev c) _ newer in
      subst (λ (k : Clock). covers x.rev k ≡ true)
      (sym m.2 ∙ ap (λ (k : Member). k.rev) (one_member d.members few m.0 n m.1 i)) over

  over_covers : Covers d (decides_over c ms rest x false own)
  over_covers =
      either (same x.rev c) (nothing Converged)
      (cond (dominates c x.rev) (nothing Superseded) (cond (dominates x.rev c) (accepts Inserted x) beside))
      (λ _. tt)
      (λ _. either (dominates c x.rev) (nothing Superseded) (cond (dominates x.rev c) (accepts Inserted x) beside)
      (λ _. tt)
      (λ _. either (dominates x.rev c) (accepts Inserted x) beside newer_covers
      (λ _. either (list_any (λ n. dominates n.rev x.rev) rest) (nothing Superseded) standing (λ _. tt)
      (λ _. standing_covers))))

at_covers : (own : Uid) (d : Document) → IsDocument d → Single d → (c : Option Clock) → d.current ≡ c
    → CurrentIs d.members c → (x : Member) → Covers d (decides_at c d.members x false own)
at_covers own d w few None now empty x = λ n i. absurd (subst (In n) empty i)
at_covers own d w few (Some c) now m x = over_covers own d w few c now m x

pub single_stays : (own : Uid) (d : Document) → IsDocument d → (x : Member) → Single d
    → Single (after_taken d (decides d x false own).accepted)
single_stays own d w x few =
    by (decides d x false own).accepted (decides_takes d w x false own)
    (at_covers own d w few d.current refl w.current x)
  where
    by : (o : Option Accept) → IfSome o (TakesOf own d x)
        → IfSome o (λ a. (n : Member) → In n d.members → covers a.rev n.rev ≡ true) → Single (after_taken d o)
    by None takes over = few
    by (Some a) takes over = over_all d a takes.fits.not_older over
