-- The image of a compaction is no longer: no entry's fields grow, and it names no other uid.
use Rattle.std.specs.Prelude.{◌≡◌, ◌≤◌, ℕ, ◌+◌, Bool, true, false, cond, not, ◌&&◌, List, [], ◌∷◌, ◌++◌, length}
use Rattle.std.specs.Prelude.{is_some, Option, refl}
use Rattle.std.specs.List.{flat_map, list_any}
use Rattle.std.proofs.Common.{sym, ◌∙◌, ap, inl, inr, subst, arith, length-append, append-nil}
use Rattle.u1_base.specs.Ids.{same_id}
use Rattle.vector_rev.specs.Counts.{Uid}
use Rattle.vector_rev.specs.Clock.{Clock}
use Rattle.journal.specs.Image.{Head, header_bytes, entry, entries}
use Rattle.journal.proofs.Entries.{length-entry}
use Rattle.conflicts.specs.Lists.{In}
use Rattle.conflicts.specs.Document.{has_rev}
use Rattle.conflicts.specs.State.{Text, Step, Accepted, Gone, Moved, IndexCreated, IndexDeleted, History, State}
use Rattle.conflicts.specs.State.{state_of}
use Rattle.conflicts.specs.declared.accept.Accept.{Accept}
use Rattle.conflicts.specs.declared.moves.Move.{Move}
use Rattle.conflicts.proofs.Members.{In-left, In-right, In-either}
use Rattle.record_fields.specs.Table.{Table, table_with, uids, number_of, with_uid, after}
use Rattle.record_fields.specs.declared.format.Format.TheVariants.{Second}
use Rattle.record_codec.specs.Bodies.{accept, maybe_moved, body_of, added_of}
use Rattle.compaction.specs.Compaction.{accepts_rev, moves, creates, marked_by, compacted, compaction}
use Rattle.compaction.specs.Images.{bodies_of, image_of}
use Rattle.compaction.proofs.BodySizes.{text_size, accept_size, move_size, step_size, names_in, length-body_of}
use Rattle.compaction.proofs.FieldSizes.{Agree, agree_after}
use Rattle.compaction.proofs.Texts.{uid_texts, seen_after, texts-append, texts_within}

-- ---- the uids of a compaction

-- the mark names none
names-marked : (d : Text) (c : Option Clock) (a : Accept) (trans : Text) (moved : Option Move)
    → names_in (Accepted d (marked_by c a) trans moved) ≡ names_in (Accepted d a trans moved)
unfolding accept
names-marked d c a trans moved = refl

under : (u : Uid) (A R S : List Uid) → (In u R → In u S) → In u (A ++ R) → In u (A ++ S)
under u A R S h i = elim (In-either u A R i) [ inl k ↦ In-left u A S k | inr k ↦ In-right u A S (h k) ]

uids_step : (s : State) (u : Uid) (x : Step) (later : History)
    → (In u (flat_map names_in (compacted s later)) → In u (flat_map names_in later))
    → In u (flat_map names_in (compacted s (x ∷ later))) → In u (flat_map names_in (x ∷ later))
uids_step s u (Accepted d a trans moved) later ih =
    elim (has_rev (s.document d).members a.rev && not (list_any (accepts_rev d a.rev) later)) as
    (λ k. In u (flat_map names_in
    (cond k (Accepted d (marked_by (s.document d).current a) trans moved ∷ []) (Gone d trans moved ∷ [])
    ++ compacted s later)) → In u (names_in (Accepted d a trans moved) ++ flat_map names_in later)) [
      | true ↦ λ i. under u (names_in (Accepted d a trans moved)) _ _ ih
          (subst (λ (l : List Uid). In u (l ++ flat_map names_in (compacted s later)))
          (names-marked d (s.document d).current a trans moved) i)
      | false ↦ λ i. elim (In-either u ((maybe_moved Second).named moved) (flat_map names_in (compacted s later)) i) [
        | inl k ↦ In-left u (names_in (Accepted d a trans moved)) _
            (In-right u ((accept Second).named a) ((maybe_moved Second).named moved) k)
        | inr k ↦ In-right u (names_in (Accepted d a trans moved)) _ (ih k)
      ]
    ]
uids_step s u (Gone d trans moved) later ih = under u (names_in (Gone d trans moved)) _ _ ih
uids_step s u (Moved m) later ih =
    elim (list_any (moves m.table m.uid) later) as
    (λ b. In u (flat_map names_in (cond b [] (Moved m ∷ []) ++ compacted s later))
    → In u (names_in (Moved m) ++ flat_map names_in later)) [
      | true ↦ λ i. In-right u (names_in (Moved m)) _ (ih i)
      | false ↦ under u (names_in (Moved m)) _ _ ih
    ]
uids_step s u (IndexCreated n es) later ih =
    elim (is_some (s.index n) && not (list_any (creates n) later)) as
    (λ b. In u (flat_map names_in (cond b (IndexCreated n es ∷ []) [] ++ compacted s later))
    → In u (names_in (IndexCreated n es) ++ flat_map names_in later)) [
      | true ↦ under u (names_in (IndexCreated n es)) _ _ ih
      | false ↦ λ i. In-right u (names_in (IndexCreated n es)) _ (ih i)
    ]
uids_step s u (IndexDeleted n) later ih = λ i. In-right u (names_in (IndexDeleted n)) _ (ih i)

uids_left : (s : State) (u : Uid) (xs : History) → In u (flat_map names_in (compacted s xs))
    → In u (flat_map names_in xs)
uids_left s u [] i = i
uids_left s u (x ∷ later) i = uids_step s u x later (uids_left s u later) i

-- ---- the entries, without the texts of uids

abbrev pub entry_sizes : History → ℕ
entry_sizes [] = 0
entry_sizes (x ∷ later) = 5 + step_size x + entry_sizes later

gone_less : (d a t m r l : ℕ) → r ≤ l → 5 + (1 + (d + (t + m))) + r ≤ 5 + (1 + (d + (a + (t + m)))) + l
gone_less d a t m r l h = omega arith

same_less : (b r l : ℕ) → r ≤ l → 5 + b + r ≤ 5 + b + l
same_less b r l h = omega arith

less : (b r l : ℕ) → r ≤ l → r ≤ 5 + b + l
less b r l h = omega arith

module _ (s : State) where
  entries_step : (x : Step) (later : History) → entry_sizes (compacted s later) ≤ entry_sizes later
      → entry_sizes (compacted s (x ∷ later)) ≤ entry_sizes (x ∷ later)
  entries_step (Accepted d a trans moved) later ih =
      elim (has_rev (s.document d).members a.rev && not (list_any (accepts_rev d a.rev) later)) as
      (λ k. entry_sizes (cond k (Accepted d (marked_by (s.document d).current a) trans moved ∷ [])
      (Gone d trans moved ∷ []) ++ compacted s later) ≤ entry_sizes (Accepted d a trans moved ∷ later)) [
        | true ↦ same_less (step_size (Accepted d a trans moved)) _ _ ih
        | false ↦ gone_less (text_size d) (accept_size a) (text_size trans) (move_size moved) _ _ ih
      ]
  entries_step (Gone d trans moved) later ih = same_less (step_size (Gone d trans moved)) _ _ ih
  entries_step (Moved m) later ih =
      elim (list_any (moves m.table m.uid) later) as
      (λ b. entry_sizes (cond b [] (Moved m ∷ []) ++ compacted s later) ≤ entry_sizes (Moved m ∷ later)) [
        | true ↦ less (step_size (Moved m)) _ _ ih
        | false ↦ same_less (step_size (Moved m)) _ _ ih
      ]
  entries_step (IndexCreated n es) later ih =
      elim (is_some (s.index n) && not (list_any (creates n) later)) as
      (λ b. entry_sizes (cond b (IndexCreated n es ∷ []) [] ++ compacted s later)
      ≤ entry_sizes (IndexCreated n es ∷ later)) [
        | true ↦ same_less (step_size (IndexCreated n es)) _ _ ih
        | false ↦ less (step_size (IndexCreated n es)) _ _ ih
      ]
  entries_step (IndexDeleted n) later ih = less (step_size (IndexDeleted n)) _ _ ih

  entries_shorter : (xs : History) → entry_sizes (compacted s xs) ≤ entry_sizes xs
  entries_shorter [] = omega arith
  entries_shorter (x ∷ later) = entries_step x later (entries_shorter later)

-- ---- the image

-- what had numbers keeps them
given-with_uid : (t : Table) (u : Text) → (with_uid t u).given ≡ t.given
given-with_uid t u = by (is_some (number_of (uids t) u))
  where
    by : (b : Bool) → (cond b t (record { given = t.given; added = t.added ++ u ∷ [] })).given ≡ t.given
    by true = refl
    by false = refl

given-after : (t : Table) (us : List Text) → (after t us).given ≡ t.given
given-after t [] = refl
given-after t (u ∷ us) = given-after (with_uid t u) us ∙ given-with_uid t u

agree_behind : (us seen : List Uid) (x : Step) → Agree (table_with us) seen
    → Agree (table_with (us ++ added_of us x)) (seen_after seen (names_in x))
unfolding added_of
agree_behind us seen x a w =
    let t = after (table_with us) (names_in x) in
    ap (list_any (same_id w)) (append-nil (us ++ t.added)
    ∙ ap (λ (given : List Uid). given ++ t.added) (sym (given-after (table_with us) (names_in x))))
    ∙ agree_after (table_with us) seen (names_in x) a w

one_entry : (e b s t r l u v : ℕ) → e ≡ 5 + b → b ≡ s + t → r ≡ l + u → v ≡ t + u → e + r ≡ (5 + s + l) + v
one_entry e b s t r l u v p q w z = omega arith

length-entries : (us seen : List Uid) (h : History) → Agree (table_with us) seen
    → length (entries (bodies_of us h)) ≡ entry_sizes h + uid_texts seen (flat_map names_in h)
length-entries us seen [] a = omega arith
length-entries us seen (x ∷ later) a =
    let more = us ++ added_of us x in
    length-append (entry (body_of us x)) (entries (bodies_of more later))
    ∙ one_entry _ _ (step_size x) _ _ (entry_sizes later) _ _ (length-entry (body_of us x)) (length-body_of us seen x a)
    (length-entries more (seen_after seen (names_in x)) later (agree_behind us seen x a))
    (texts-append (names_in x) (flat_map names_in later) seen)

whole : (n h e w : ℕ) → n ≡ h + e → e ≡ w → n + 1 ≡ h + w + 1
whole n h e w p q = omega arith

pub length-image_of : (head : Head) (h : History)
    → length (image_of head h) ≡ length (header_bytes 2 head)
    + (entry_sizes h + uid_texts (head.uid ∷ []) (flat_map names_in h)) + 1
length-image_of head h =
    let bodies = bodies_of (head.uid ∷ []) h in
    length-append (header_bytes 2 head ++ entries bodies) (0 ∷ [])
    ∙ whole _ _ _ _ (length-append (header_bytes 2 head) (entries bodies))
    (length-entries (head.uid ∷ []) (head.uid ∷ []) h (λ w. refl))

all_less : (h a b c d n m : ℕ) → n ≡ h + (a + c) + 1 → m ≡ h + (b + d) + 1 → a ≤ b → c ≤ d → n ≤ m
all_less h a b c d n m e f p q = omega arith

pub image_shorter : (head : Head) (h : History) → length (image_of head (compaction h)) ≤ length (image_of head h)
image_shorter head h =
    let s = state_of [] [] h in
    all_less _ _ _ _ _ _ _ (length-image_of head (compaction h)) (length-image_of head h) (entries_shorter s h)
    (texts_within (flat_map names_in (compaction h)) (flat_map names_in h) (head.uid ∷ []) (λ u i. uids_left s u h i))
