-- What an edit, a merge and a resolution make where nothing refuses.
use Rattle.std.specs.Prelude.{◌≡◌, ℕ, Bool, true, false, cond, not, ◌||◌, ◌⊎◌, ◌<◌, ◌≤◌, nat_lt, List, [], ◌∷◌, length}
use Rattle.std.specs.Prelude.{Option, Some, None, Result, Ok, Err, refl}
use Rattle.std.specs.List.{list_any}
use Rattle.std.specs.Option.{option_map, ok_or}
use Rattle.std.proofs.Common.{sym, ◌∙◌, ap, ap₂, inl, inr, arith, lt-ltb, ltb-true}
use Rattle.content.specs.Tree.{Tree}
use Rattle.vector_rev.specs.Counts.{Uid}
use Rattle.vector_rev.specs.Clock.{Clock, dominates}
use Rattle.vector_rev.specs.Compare.{same}
use Rattle.conflicts.specs.Lists.{is_empty}
use Rattle.conflicts.specs.Document.{has_rev}
use Rattle.conflicts.specs.Kept.{Kept, current, current_first, document}
use Rattle.conflicts.specs.Making.{made_clock, greatest, revs, edit_of, named_in, leader, resolution_of, resolved_over}
use Rattle.conflicts.specs.Making.{resolved}
use Rattle.conflicts.specs.Decision.{is_alike, alike, merge_parents, merge_of, may_merge}
use Rattle.conflicts.specs.declared.member.Member.{Member}
use Rattle.conflicts.specs.declared.accept.Accept.{Accept}
use Rattle.conflicts.specs.declared.accept.Making.TheVariants.{Edit, Resolve, Merge}
use Rattle.conflicts.specs.declared.edits.EditFault.{EditFault}
use Rattle.conflicts.specs.declared.edits.EditFault.TheVariants as edit_fault
use Rattle.conflicts.specs.declared.resolutions.ResolveFault.{ResolveFault}
use Rattle.conflicts.specs.declared.resolutions.ResolveFault.TheVariants as resolve_fault
use Rattle.u1_base.proofs.Booleans.{none_true}
use Rattle.conflicts.proofs.Sets.{alike_current}

pub edit_last : (own : Uid) (c : Clock) (ps : List Clock) (t : Option Tree) (rev : Clock) (o : Option Clock)
    (r : Result Accept EditFault) → ps ≡ c ∷ [] → o ≡ Some rev → o ≡ made_clock own ps →
    (r ≡ Err edit_fault.Memory)
    ⊎ (r ≡ Ok (record { rev = rev; content = t; making = Edit; parents = ps; current = true }))
    → (r ≡ Err edit_fault.Memory) ⊎ (r ≡ ok_or (edit_of own (c ∷ []) t) edit_fault.ClockFull)
edit_last own c ps t rev o r e s m (inl h) = inl h
edit_last own c ps t rev o r e s m (inr h) =
    inr (h
    ∙ (λ i. Ok (record { rev = rev; content = t; making = Edit; parents = e i; current = true }))
    ∙ ap (λ (z : Option Clock). ok_or
    (option_map (λ (y : Clock). record { rev = y; content = t; making = Edit; parents = c ∷ []; current = true }) z)
    edit_fault.ClockFull) (sym s ∙ m ∙ ap (made_clock own) e))

-- the merged revision, where a clock is made
pub merge_made : (k : Kept) (x : Member) (save : Bool) (own : Uid) (ps : List Clock) (rev : Clock) (o : Option Clock)
    (leads lead : Bool) (t : Option Tree) → ps ≡ merge_parents x (current_first k) → o ≡ Some rev
    → o ≡ made_clock own ps → may_merge (current_first k) x own ≡ true →
    leads ≡ is_alike x (current k) → lead ≡ ((save || leads) || dominates rev (current k).rev) → t ≡ x.content →
    Some (record { rev = rev; content = t; making = Merge; parents = ps; current = lead })
    ≡ cond (may_merge (current_first k) x own) (merge_of (current k).rev (current_first k) x save own) None
merge_made k x save own ps rev o leads lead t e s m may el en et =
    (λ i. Some (record {
      rev = rev;
      content = et i;
      making = Merge;
      parents = e i;
      current =
          (en ∙ ap (λ b. (save || b) || dominates rev (current k).rev) (el ∙ sym (alike_current k x))) i;
    }))
    ∙ ap (option_map (λ (y : Clock). record {
      rev = y;
      content = x.content;
      making = Merge;
      parents =
          merge_parents x (current_first k);
      current = (save || has_rev (alike x (current_first k)) (current k).rev) || dominates y (current k).rev;
    })) (sym s ∙ m ∙ ap (made_clock own) e)
    ∙ ap (λ b. cond b (merge_of (current k).rev (current_first k) x save own) None) (sym may)

pub merge_full : (k : Kept) (x : Member) (save : Bool) (own : Uid) (ps : List Clock) (o : Option Clock)
    → ps ≡ merge_parents x (current_first k) → o ≡ None → o ≡ made_clock own ps
    → None ≡ cond (may_merge (current_first k) x own) (merge_of (current k).rev (current_first k) x save own) None
merge_full k x save own ps o e s m =
    nothing_either (may_merge (current_first k) x own)
    ∙ ap (λ (z : Option Clock). cond (may_merge (current_first k) x own)
    (option_map (λ (y : Clock). record {
      rev = y;
      content = x.content;
      making = Merge;
      parents =
          merge_parents x (current_first k);
      current = (save || has_rev (alike x (current_first k)) (current k).rev) || dominates y (current k).rev;
    }) z) None) (sym s ∙ m ∙ ap (made_clock own) e)
  where
    nothing_either : (b : Bool) → ◌≡◌ {A = Option Accept} None (cond b None None)
    nothing_either true = refl
    nothing_either false = refl

pub merge_not : (k : Kept) (x : Member) (save : Bool) (own : Uid) → may_merge (current_first k) x own ≡ false
    → None ≡ cond (may_merge (current_first k) x own) (merge_of (current k).rev (current_first k) x save own) None
merge_not k x save own not_made =
    ap (λ b. cond b (merge_of (current k).rev (current_first k) x save own) None) (sym not_made)

-- a resolution over the kept members
pub resolved_kept : (k : Kept) (named : List Clock) (t : Option Tree) (own : Uid) (r : Result Accept ResolveFault)
    → 1 < length k.members → (r ≡ Err resolve_fault.Memory)
    ⊎ (r ≡ resolved_over (current k).rev (current_first k) named t own) → (r ≡ Err resolve_fault.Memory)
    ⊎ (r ≡ resolved (document (Some k)) named t own)
resolved_kept k named t own r many (inl h) = inl h
resolved_kept k named t own r many (inr h) =
    inr (h ∙ ap (λ b. cond (not b) (Err resolve_fault.NotConflicted)
    (resolved_over (current k).rev (current_first k) named t own)) (sym (lt-ltb 1 (length k.members) many)))

pub resolution_last : (c : Clock) (ms : List Member) (named : List Clock) (t : Option Tree) (own : Uid)
    (ps : List Clock) (r : Result Accept ResolveFault) → ps ≡ revs (named_in named ms) → is_empty ps ≡ false
    → nat_lt (greatest own ps) (greatest own (revs ms)) ≡ false →
    (r ≡ Err resolve_fault.Memory) ⊎ (r ≡ ok_or (resolution_of own c ps t) resolve_fault.ClockFull)
    → (r ≡ Err resolve_fault.Memory) ⊎ (r ≡ resolved_over c ms named t own)
resolution_last c ms named t own ps r e some least (inl h) = inl h
resolution_last c ms named t own ps r e some least (inr h) =
    inr (h
    ∙ sym (λ i. cond (some i) (Err resolve_fault.NothingNamed)
    (cond (least i) (Err (resolve_fault.Unnamed (leader own c ms)))
    (ok_or (resolution_of own c ps t) resolve_fault.ClockFull)))
    ∙ ap (λ (qs : List Clock). cond (is_empty qs) (Err resolve_fault.NothingNamed)
    (cond (nat_lt (greatest own qs) (greatest own (revs ms))) (Err (resolve_fault.Unnamed (leader own c ms)))
    (ok_or (resolution_of own c qs t) resolve_fault.ClockFull))) e)

pub resolution_made : (own : Uid) (c : Clock) (ps : List Clock) (t u : Option Tree) (rev : Clock) (o : Option Clock)
    (lead named newer : Bool) → o ≡ Some rev → o ≡ made_clock own ps → named ≡ list_any (λ p. same p c) ps
    → newer ≡ dominates rev c → lead ≡ (named || newer) → u ≡ t →
    Ok (record { rev = rev; content = u; making = Resolve; parents = ps; current = lead })
    ≡ ok_or (resolution_of own c ps t) resolve_fault.ClockFull
resolution_made own c ps t u rev o lead named newer s m en ew el et =
    (λ i. Ok (record {
      rev = rev;
      content = et i;
      making = Resolve;
      parents = ps;
      current =
          (el ∙ ap₂ (λ a b. a || b) en ew) i;
    }))
    ∙ ap (λ (z : Option Clock). ok_or
    (option_map (λ (y : Clock). record {
      rev = y;
      content = t;
      making = Resolve;
      parents = ps;
      current =
          list_any (λ p. same p c) ps || dominates y c;
    }) z) resolve_fault.ClockFull) (sym s ∙ m)

pub resolution_from : (own : Uid) (c : Clock) (ps : List Clock) (t : Option Tree) (rev : Clock) (o : Option Clock)
    (lead named newer : Bool) (r : Result Accept ResolveFault) → o ≡ Some rev → o ≡ made_clock own ps
    → named ≡ list_any (λ p. same p c) ps → newer ≡ dominates rev c → lead ≡ (named || newer) →
    (r ≡ Err resolve_fault.Memory)
    ⊎ (r ≡ Ok (record { rev = rev; content = t; making = Resolve; parents = ps; current = lead }))
    → (r ≡ Err resolve_fault.Memory) ⊎ (r ≡ ok_or (resolution_of own c ps t) resolve_fault.ClockFull)
resolution_from own c ps t rev o lead named newer r s m en ew el (inl h) = inl h
resolution_from own c ps t rev o lead named newer r s m en ew el (inr h) =
    inr (h ∙ resolution_made own c ps t t rev o lead named newer s m en ew el refl)

pub not_none : (ps : List Clock) → 1 ≤ length ps → is_empty ps ≡ false
not_none [] h = absurd (omega arith)
not_none (p ∷ ps) h = refl

pub not_below : (x y a b : ℕ) → x ≡ a → y ≡ b → y ≤ x → nat_lt a b ≡ false
not_below x y a b e f h = none_true _ (λ t. let low : a < b = ltb-true a b t in absurd (omega arith))
