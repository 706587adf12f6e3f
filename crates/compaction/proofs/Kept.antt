-- The acceptances of a document that a compaction keeps leave the document.
use Rattle.std.specs.Prelude.{◌≡◌, Bool, true, false, cond, not, ◌&&◌, ◌||◌, ◌⊎◌, List, [], ◌∷◌, ◌++◌, filter, map}
use Rattle.std.specs.Prelude.{Option, Some, None, refl}
use Rattle.std.specs.List.{list_any}
use Rattle.std.proofs.Common.{sym, ◌∙◌, ap, ap₂, subst, inl, inr, append_assoc}
use Rattle.std.proofs.lemmas.Bool.{and_parts, and_from}
use Rattle.vector_rev.specs.Clock.{Clock, covers, dominates}
use Rattle.vector_rev.specs.Compare.{same}
use Rattle.vector_rev.proofs.ClockLaws.{same_decides, covers-itself, covers-both}
use Rattle.conflicts.specs.Lists.{In}
use Rattle.conflicts.specs.Pruning.{is_above, is_equal, last_ones, undominated}
use Rattle.conflicts.specs.Document.{member_of, covers_member, members_of, has_rev, current_from, current_of}
use Rattle.conflicts.specs.Document.{document_of}
use Rattle.conflicts.specs.Laws.{CurrentIs}
use Rattle.conflicts.specs.declared.member.Member.{Member}
use Rattle.conflicts.specs.declared.accept.Accept.{Accept}
use Rattle.u1_base.proofs.Booleans.{none_true, some_true, not_both, not_true}
use Rattle.conflicts.proofs.Members.{In-left, In-right, In-last, found, finds, none_passes, passes_none, In-filter}
use Rattle.conflicts.proofs.Members.{from_filter, filter_whole, In-map, from_map}
use Rattle.conflicts.proofs.Pruned.{from_undominated}
use Rattle.conflicts.proofs.Documents.{accepted_covered}
use Rattle.conflicts.proofs.WellFormed.{document_of-IsDocument}
use Rattle.conflicts.proofs.Applied.{has_rev-In}
use Rattle.compaction.specs.Compaction.{is_at, marked_by}

-- ---- what is undominated stays so

filter_agree_in : {A : Type 0} (p q : A → Bool) (xs : List A) → ((x : A) → In x xs → p x ≡ q x)
    → filter p xs ≡ filter q xs
filter_agree_in p q [] h = refl
filter_agree_in p q (x ∷ xs) h =
    ap₂ (λ (b : Bool) r. cond b (x ∷ r) r) (h x (inl refl)) (filter_agree_in p q xs (λ y i. h y (inr i)))

module _ {A : Type 0} (covers : A → A → Bool) where
  from_last_ones : (x : A) (xs : List A) → In x (last_ones covers xs) → In x xs
  from_last_ones x [] h = absurd h
  from_last_ones x (y ∷ ys) h =
      elim (list_any (λ z. is_equal covers z y) ys) as
      (λ b. In x (cond b (last_ones covers ys) (y ∷ last_ones covers ys)) → In x (y ∷ ys)) [
        | true ↦ λ k. inr (from_last_ones x ys k)
        | false ↦ λ k. elim k [ inl e ↦ inl e | inr k ↦ inr (from_last_ones x ys k) ]
      ] h

  last_ones-filter : (q : A → Bool) (xs : List A)
      → last_ones covers (filter q (last_ones covers xs)) ≡ filter q (last_ones covers xs)
  last_ones-filter q [] = refl
  last_ones-filter q (x ∷ xs) =
      let F = filter q (last_ones covers xs) in
      let ih : last_ones covers F ≡ F = last_ones-filter q xs in
      elim (list_any (λ z. is_equal covers z x) xs) as
      (λ b. list_any (λ z. is_equal covers z x) xs ≡ b
      → last_ones covers (filter q (cond b (last_ones covers xs) (x ∷ last_ones covers xs)))
      ≡ filter q (cond b (last_ones covers xs) (x ∷ last_ones covers xs))) [
        | true ↦ λ _. ih
        | false ↦ λ none.
            let alone : list_any (λ z. is_equal covers z x) F ≡ false =
            passes_none (λ z. is_equal covers z x) F
            (λ y i. none_passes (λ z. is_equal covers z x) y xs none
            (from_last_ones y xs (from_filter q y (last_ones covers xs) i).0)) in
            elim (q x) as (λ k. last_ones covers (cond k (x ∷ F) F) ≡ cond k (x ∷ F) F) [
              | true ↦ ap (λ b. cond b (last_ones covers F) (x ∷ last_ones covers F)) alone ∙ ap (λ r. x ∷ r) ih
              | false ↦ ih
            ]
      ] refl

  pub undominated-again : (xs : List A) → undominated covers (undominated covers xs) ≡ undominated covers xs
  undominated-again xs =
      let P = λ (x : A). not (list_any (λ y. is_above covers y x) xs) in
      let U = undominated covers xs in
      ap (filter (λ x. not (list_any (λ y. is_above covers y x) U))) (last_ones-filter P xs)
      ∙ filter_whole (λ x. not (list_any (λ y. is_above covers y x) U)) U (λ x i.
      ap not (passes_none (λ y. is_above covers y x) U
      (λ y j. none_passes (λ y. is_above covers y x) y xs (not_true _ (from_filter P x (last_ones covers xs) i).1)
      (from_undominated covers y xs j))))

-- ---- the acceptances that are kept, by the members and the current revision at the end

abbrev pub kept_of : List Member → Option Clock → List Accept → List Accept
kept_of ms c [] = []
kept_of ms c (a ∷ later) =
    cond (has_rev ms a.rev && not (list_any (λ b. same b.rev a.rev) later)) (marked_by c a ∷ kept_of ms c later)
    (kept_of ms c later)

equal_is_same : (x y : Clock) → (covers x y && covers y x) ≡ same x y
equal_is_same x y =
    elim (same x y) as (λ b. same x y ≡ b → (covers x y && covers y x) ≡ b) [
      | true ↦ λ e. let p : x ≡ y = (same_decides x y).0 e
          in and_from _ _ (subst (λ z. covers x z ≡ true) p (covers-itself x))
          (subst (λ z. covers z x ≡ true) p (covers-itself x))
      | false ↦ λ e. none_true _ (λ b. let p = and_parts (covers x y) (covers y x) b
          in not_both _ ((same_decides x y).1 (covers-both x y p.0 p.1)) e)
    ] refl

later_equal : (a : Accept) (later : List Accept)
    → list_any (λ y. is_equal covers_member y (member_of a)) (map member_of later)
    ≡ list_any (λ b. same b.rev a.rev) later
later_equal a [] = refl
later_equal a (b ∷ later) = ap₂ (λ x y. x || y) (equal_is_same b.rev a.rev) (later_equal a later)

kept_members : (ms : List Member) (c : Option Clock) (h : List Accept)
    → map member_of (kept_of ms c h) ≡ filter (λ m. has_rev ms m.rev) (last_ones covers_member (map member_of h))
kept_members ms c [] = refl
kept_members ms c (a ∷ later) =
    let q = λ (m : Member). has_rev ms m.rev in
    let L = last_ones covers_member (map member_of later) in
    let K = kept_of ms c later in
    let ih : map member_of K ≡ filter q L = kept_members ms c later in
    elim (list_any (λ b. same b.rev a.rev) later) as
    (λ l. map member_of (cond (has_rev ms a.rev && not l) (marked_by c a ∷ K) K)
    ≡ filter q (cond l L (member_of a ∷ L))) [
      | true ↦ elim (has_rev ms a.rev) as
          (λ h. map member_of (cond (h && not true) (marked_by c a ∷ K) K) ≡ filter q L) [ true ↦ ih | false ↦ ih ]
      | false ↦ elim (has_rev ms a.rev) as
          (λ h. map member_of (cond (h && not false) (marked_by c a ∷ K) K)
          ≡ cond h (member_of a ∷ filter q L) (filter q L)) [
            | true ↦ ap (λ r. member_of a ∷ r) ih
            | false ↦ ih
          ]
    ]
    ∙ ap (λ b. filter q (cond b L (member_of a ∷ L))) (sym (later_equal a later))

-- the members are those of the last acceptances that have the revision of a member
these_members : (h : List Accept)
    → filter (λ m. has_rev (members_of h) m.rev) (last_ones covers_member (map member_of h)) ≡ members_of h
these_members h =
    filter_agree_in (λ m. has_rev (members_of h) m.rev) P L agrees
  where
    W : List Member
    W = map member_of h

    L : List Member
    L = last_ones covers_member W

    P : Member → Bool
    P m = not (list_any (λ y. is_above covers_member y m) W)

    agrees : (x : Member) → In x L → has_rev (filter P L) x.rev ≡ P x
    agrees x i =
        elim (P x) as (λ b. P x ≡ b → has_rev (filter P L) x.rev ≡ b) [
          | true ↦ λ e. has_rev-In x (filter P L) (In-filter P x L i e)
          | false ↦ λ e. none_true _ (λ h.
              let f = found (λ m. same m.rev x.rev) (filter P L) h in
              let g = from_filter P f.0 L f.1 in
              not_both (P x) (subst (λ (r : Clock). not (list_any (λ y. covers y.rev r && not (covers r y.rev)) W)
              ≡ true) ((same_decides f.0.rev x.rev).0 f.2) g.1) e)
        ] refl

pub kept_are_members : (c : Option Clock) (h : List Accept) → map member_of (kept_of (members_of h) c h) ≡ members_of h
kept_are_members c h = kept_members (members_of h) c h ∙ these_members h

members_of-kept : (c : Option Clock) (h : List Accept) → members_of (kept_of (members_of h) c h) ≡ members_of h
members_of-kept c h = ap (undominated covers_member) (kept_are_members c h)
    ∙ undominated-again covers_member (map member_of h)

-- ---- the current one

abbrev pub Apart : List Accept → Type 0
Apart w = (p q : Accept) → In p w → In q w → dominates q.rev p.rev ≡ false

-- in a list without a dominated acceptance each one is a member at each place
all_members : (w front : List Accept) (p : Accept) → ((x : Accept) → In x front → In x w) → Apart w → In p front
    → has_rev (members_of front) p.rev ≡ true
all_members w front p within apart i =
    let m = accepted_covered front p i in
    let q = from_map member_of m.0 front (from_undominated covers_member m.0 (map member_of front) m.1) in
    let over : covers q.0.rev p.rev ≡ true = subst (λ (n : Member). covers n.rev p.rev ≡ true) q.2 m.2 in
    let back : covers p.rev q.0.rev ≡ true = some_true _
    (λ n. not_both (dominates q.0.rev p.rev) (and_from (covers q.0.rev p.rev) _ over (ap not n))
    (apart p q.0 (within p i) (within q.0 q.1))) in
    finds (λ n. same n.rev p.rev) m.0 (members_of front) m.1
    (ap (λ (n : Member). same n.rev p.rev) q.2 ∙ (same_decides q.0.rev p.rev).1 (covers-both q.0.rev p.rev over back))

abbrev pub HasRev : Clock → List Accept → Type 0
HasRev c h = (a : Accept) × In a h × (a.rev ≡ c)

module _ (c : Clock) where
  -- from a current revision on, the marked_by one becomes the current one and stays it
  to_marked : (front later : List Accept) (k : Clock) → Apart (front ++ later)
      → ((a : Accept) → In a (front ++ later) → a.current ≡ same a.rev c) → HasRev k front → (k ≡ c) ⊎ HasRev c later
      → current_from front (Some k) later ≡ Some c
  to_marked front [] k apart marks here (inl e) = ap (λ (z : Clock). Some z) e
  to_marked front [] k apart marks here (inr h) = absurd h.1
  to_marked front (a ∷ later) k apart marks here which =
      let shift : front ++ a ∷ later ≡ (front ++ a ∷ []) ++ later = sym (append_assoc front (a ∷ []) later) in
      let ms = members_of (front ++ a ∷ []) in
      let within : (x : Accept) → In x (front ++ a ∷ [])
      → In x (front ++ a ∷ later) = λ x i. subst (In x) (sym shift) (In-left x (front ++ a ∷ []) later i) in
      let new : has_rev ms a.rev ≡ true = all_members (front ++ a ∷ later) (front ++ a ∷ []) a within apart
      (In-last a front) in
      let old : has_rev ms k ≡ true = subst (λ (r : Clock). has_rev ms r ≡ true) here.2
      (all_members (front ++ a ∷ later) (front ++ a ∷ []) here.0 within apart (In-left here.0 front (a ∷ []) here.1)) in
      let mark : a.current ≡ same a.rev c = marks a (In-right a front (a ∷ later) (inl refl)) in
      let go : (z : Clock) → HasRev z (front ++ a ∷ []) → (z ≡ c) ⊎ HasRev c later
      → current_from (front ++ a ∷ []) (Some z) later ≡ Some c =
      λ z hz w. to_marked (front ++ a ∷ []) later z (subst Apart shift apart)
      (subst (λ (l : List Accept). (b : Accept) → In b l → b.current ≡ same b.rev c) shift marks) hz w in
      elim (same a.rev c) as (λ b. same a.rev c ≡ b
      → current_from (front ++ a ∷ [])
      (cond (has_rev ms a.rev && (a.current || not (has_rev ms k))) (Some a.rev) (Some k)) later ≡ Some c) [
        | true ↦ λ e.
            ap₂ (λ (x y : Bool). current_from (front ++ a ∷ [])
            (cond (x && (y || not (has_rev ms k))) (Some a.rev) (Some k)) later) new (mark ∙ e)
            ∙ go a.rev (a, In-last a front, refl) (inl ((same_decides a.rev c).0 e))
        | false ↦ λ e.
            ap (λ (x : Bool). current_from (front ++ a ∷ [])
            (cond (x && (a.current || not (has_rev ms k))) (Some a.rev) (Some k)) later) new
            ∙ ap₂ (λ (y z : Bool). current_from (front ++ a ∷ [])
            (cond (true && (y || not z)) (Some a.rev) (Some k)) later) (mark ∙ e) old
            ∙ go k (here.0, In-left here.0 front (a ∷ []) here.1, here.2) (elim which [
              | inl q ↦ inl q
              | inr h ↦ inr (elim h.1 as (λ _. HasRev c later) [
                | inl q ↦ absurd (not_both (same a.rev c)
                    ((same_decides a.rev c).1 (ap (λ (b : Accept). b.rev) (sym q) ∙ h.2)) e)
                | inr i ↦ (h.0, i, h.2)
              ])
            ])
      ] refl

  pub marked_is_current : (w : List Accept) → Apart w → ((a : Accept) → In a w → a.current ≡ same a.rev c) → HasRev c w
      → current_of w ≡ Some c
  marked_is_current [] apart marks has = absurd has.1
  marked_is_current (a ∷ later) apart marks has =
      let ms = members_of (a ∷ []) in
      ap (λ (b : Bool). current_from (a ∷ []) (cond b (Some a.rev) None) later)
      (all_members (a ∷ later) (a ∷ []) a (λ x i. In-left x (a ∷ []) later i) apart (inl refl))
      ∙ to_marked (a ∷ []) later a.rev apart marks (a, inl refl, refl)
      (elim has.1 as (λ _. (a.rev ≡ c) ⊎ HasRev c later) [
        | inl q ↦ inl (ap (λ (b : Accept). b.rev) (sym q) ∙ has.2)
        | inr i ↦ inr (has.0, i, has.2)
      ])

pub from_kept : (ms : List Member) (c : Option Clock) (h : List Accept) (a : Accept) → In a (kept_of ms c h)
    → a.current ≡ is_at c a.rev
from_kept ms c [] a i = absurd i
from_kept ms c (b ∷ later) a i =
    elim (has_rev ms b.rev && not (list_any (λ z. same z.rev b.rev) later)) as
    (λ k. In a (cond k (marked_by c b ∷ kept_of ms c later) (kept_of ms c later)) → a.current ≡ is_at c a.rev) [
      | true ↦ λ j. elim j [
        | inl e ↦ subst (λ (z : Accept). z.current ≡ is_at c z.rev) (sym e) refl
        | inr j ↦ from_kept ms c later a j
      ]
      | false ↦ λ j. from_kept ms c later a j
    ] i

map_nothing : {A B : Type 0} (f : A → B) (xs : List A) → map f xs ≡ [] → xs ≡ []
map_nothing f [] e = refl
map_nothing f (x ∷ xs) e = absurd (subst (In (f x)) e (inl refl))

current_of-kept : (h : List Accept) (c : Option Clock) → CurrentIs (members_of h) c
    → current_of (kept_of (members_of h) c h) ≡ c
current_of-kept h None none = ap current_of
    (map_nothing member_of (kept_of (members_of h) None h) (kept_are_members None h ∙ none))
current_of-kept h (Some c) m =
    marked_is_current c K apart (from_kept (members_of h) (Some c) h) has
  where
    K : List Accept
    K = kept_of (members_of h) (Some c) h

    member_in : (p : Accept) → In p K → In (member_of p) (members_of h)
    member_in p i = subst (In (member_of p)) (kept_are_members (Some c) h) (In-map member_of p K i)

    apart : Apart K
    apart p q i j =
        none_passes (λ n. dominates n.rev p.rev) (member_of q) (members_of h)
        ((document_of-IsDocument h).apart (member_of p) (member_in p i)) (member_in q j)

    has : HasRev c K
    has =
        let f = from_map member_of m.0 K (subst (In m.0) (sym (kept_are_members (Some c) h)) m.1) in
        (f.0, f.1, ap (λ (n : Member). n.rev) (sym f.2) ∙ m.2)

-- the acceptances that are kept leave the document
pub document_of-kept : (h : List Accept) → document_of (kept_of (members_of h) (current_of h) h) ≡ document_of h
document_of-kept h =
    let c = current_of h in
    λ i. record { members = members_of-kept c h i; current = current_of-kept h c (document_of-IsDocument h).current i }
