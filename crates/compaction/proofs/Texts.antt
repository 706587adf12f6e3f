-- The texts of uids: each stands once, where the uid is named for the first time.
use Rattle.std.specs.Prelude.{◌≡◌, ◌≤◌, ℕ, ◌+◌, Bool, true, false, cond, ◌||◌, List, [], ◌∷◌, ◌++◌, length, refl}
use Rattle.std.specs.List.{list_any}
use Rattle.std.proofs.Common.{sym, ◌∙◌, ap, ap₂, inl, inr, arith}
use Rattle.u1_base.specs.Ids.{same_id}
use Rattle.u1_base.proofs.Booleans.{none_true, not_both}
use Rattle.u1_base.proofs.SameIds.{same_id-itself, same_id_is}
use Rattle.vector_rev.specs.Counts.{Uid}
use Rattle.conflicts.specs.Lists.{In}

-- how many bytes the texts take of those that have no number when they are named, with two bytes of length each
abbrev pub uid_texts : List Uid → List Uid → ℕ
uid_texts seen [] = 0
uid_texts seen (u ∷ us) = cond (list_any (same_id u) seen) (uid_texts seen us) (2 + length u + uid_texts (u ∷ seen) us)

-- those that have numbers then
abbrev pub seen_after : List Uid → List Uid → List Uid
seen_after seen [] = seen
seen_after seen (u ∷ us) = cond (list_any (same_id u) seen) (seen_after seen us) (seen_after (u ∷ seen) us)

one_more : (n a b c : ℕ) → c ≡ a + b → n + c ≡ (n + a) + b
one_more n a b c e = omega arith

pub texts-append : (us vs seen : List Uid)
    → uid_texts seen (us ++ vs) ≡ uid_texts seen us + uid_texts (seen_after seen us) vs
texts-append [] vs seen = omega arith
texts-append (u ∷ us) vs seen =
    elim (list_any (same_id u) seen) as
    (λ b. cond b (uid_texts seen (us ++ vs)) (2 + length u + uid_texts (u ∷ seen) (us ++ vs))
    ≡ cond b (uid_texts seen us) (2 + length u + uid_texts (u ∷ seen) us)
    + uid_texts (cond b (seen_after seen us) (seen_after (u ∷ seen) us)) vs) [
      | true ↦ texts-append us vs seen
      | false ↦ one_more (2 + length u) _ _ _ (texts-append us vs (u ∷ seen))
    ]

-- ---- the texts of uids

pub texts_agree : (us seen other : List Uid) → ((u : Uid) → list_any (same_id u) seen ≡ list_any (same_id u) other)
    → uid_texts seen us ≡ uid_texts other us
texts_agree [] seen other h = refl
texts_agree (u ∷ us) seen other h =
    let skip = texts_agree us seen other h in
    let new = texts_agree us (u ∷ seen) (u ∷ other) (λ v. ap (λ b. same_id v u || b) (h v)) in
    λ i. cond (h u i) (skip i) (2 + length u + new i)

or_swap : (x y z : Bool) → (x || (y || z)) ≡ (y || (x || z))
or_swap true true z = refl
or_swap true false z = refl
or_swap false true z = refl
or_swap false false z = refl

other_way : (u v : Uid) → same_id v u ≡ false → same_id u v ≡ false
other_way u v e = none_true _ (λ q. not_both _ (ap (λ w. same_id w u) (sym (same_id_is u v q)) ∙ same_id-itself u) e)

swap_sum : (u v a b c : ℕ) → a ≡ 2 + u + b → b ≡ c → 2 + v + a ≡ 2 + u + (2 + v + c)
swap_sum u v a b c p q = omega arith

-- a uid that has no number yet costs its text once
taken_out : (us seen : List Uid) (u : Uid) → list_any (same_id u) seen ≡ false → In u us
    → uid_texts seen us ≡ 2 + length u + uid_texts (u ∷ seen) us
taken_out [] seen u new i = absurd i
taken_out (v ∷ us) seen u new i =
    elim (same_id v u) as (λ b. same_id v u ≡ b
    → uid_texts seen (v ∷ us) ≡ 2 + length u + cond (b || list_any (same_id v) seen) (uid_texts (u ∷ seen) us)
    (2 + length v + uid_texts (v ∷ u ∷ seen) us)) [
      | true ↦ λ e.
          let q : v ≡ u = same_id_is v u e in
          (λ j. uid_texts seen (q j ∷ us))
          ∙ ap (λ b. cond b (uid_texts seen us) (2 + length u + uid_texts (u ∷ seen) us)) new
      | false ↦ λ e.
          let later : In u us = elim i as
          (λ _. In u us) [
            | inl q ↦ absurd (not_both _ (ap (λ w. same_id w u) (sym q) ∙ same_id-itself u) e)
            | inr k ↦ k
          ] in
          elim (list_any (same_id v) seen) as
          (λ b. cond b (uid_texts seen us) (2 + length v + uid_texts (v ∷ seen) us) ≡ 2 + length u
          + cond b (uid_texts (u ∷ seen) us) (2 + length v + uid_texts (v ∷ u ∷ seen) us)) [
            | true ↦ taken_out us seen u new later
            | false ↦ swap_sum (length u) (length v) _ _ _
                (taken_out us (v ∷ seen) u (ap₂ (λ x y. x || y) (other_way u v e) new) later)
                (texts_agree us (u ∷ v ∷ seen) (v ∷ u ∷ seen)
                (λ w. or_swap (same_id w u) (same_id w v) (list_any (same_id w) seen)))
          ]
    ] refl

more_sum : (u a b c : ℕ) → c ≡ 2 + u + b → a ≤ b → 2 + u + a ≤ c
more_sum u a b c p q = omega arith

-- fewer uids have no more text
pub texts_within : (us vs seen : List Uid) → ((u : Uid) → In u us → In u vs) → uid_texts seen us ≤ uid_texts seen vs
texts_within [] vs seen within = omega arith
texts_within (u ∷ us) vs seen within =
    elim (list_any (same_id u) seen) as (λ b. list_any (same_id u) seen ≡ b
    → cond b (uid_texts seen us) (2 + length u + uid_texts (u ∷ seen) us) ≤ uid_texts seen vs) [
      | true ↦ λ _. texts_within us vs seen (λ v i. within v (inr i))
      | false ↦ λ e. more_sum (length u) _ _ _ (taken_out vs seen u e (within u (inl refl)))
          (texts_within us vs (u ∷ seen) (λ v i. within v (inr i)))
    ] refl
