-- What is seen after one more document is noted.
use Rattle.std.proofs.Common.{◌≡◌, ℕ, ◌<◌, ◌≤◌, Bool, true, false, cond, List, [], ◌∷◌, ◌++◌, Some}
use Rattle.std.proofs.Common.{length, refl, sym, ap, subst, ◌∙◌, arith}
use Rattle.std.specs.Prelude.{◌&&◌, ◌||◌, filter, nat_le, not}
use Rattle.std.specs.Cmp.Lexicographic.{nat_list_cmp_total}
use Rattle.std.specs.FinMap.Entries.{find, put, find-put}
use Rattle.std.proofs.lemmas.List.Folds.{list_any-append}
use Rattle.u1_base.specs.Ids.{id_cmp, same_id}
use Rattle.u1_base.proofs.SameIds.{same_id_is, same_id-comm}
use Rattle.translog.specs.declared.entry.Change.{Change}
use Rattle.conflicts.specs.State.{State, Text}
use Rattle.conflicts.specs.declared.receipts.Outcome4.{Outcome4}
use Rattle.conflicts.specs.declared.receipts.Outcome4.TheVariants.{Inserted, Superseded, Converged, Conflicted}
use Rattle.sync_stream.specs.Serving.{Held, held_after, is_held}
use Rattle.sync_exchange.specs.Seen.{SeesAs, is_seen, reaches}
use Rattle.sync_exchange.specs.inner.Seen.{held_at}

or_false : (b : Bool) → (b || false) ≡ b
or_false true = refl
or_false false = refl

pub later_reaches : (n before generation : ℕ) → before < generation
    → nat_le n generation ≡ (nat_le n before || nat_le n generation)
later_reaches n before generation later =
    elim (nat_le n before) as (λ b. nat_le n before ≡ b → nat_le n generation ≡ (b || nat_le n generation)) [
      | true ↦ λ h. grind (arith, h, later)
      | false ↦ λ h. refl
    ] refl

pub earlier_reaches : (n before generation : ℕ) → generation ≤ before
    → nat_le n before ≡ (nat_le n before || nat_le n generation)
earlier_reaches n before generation earlier =
    elim (nat_le n before) as (λ b. nat_le n before ≡ b → b ≡ (b || nat_le n generation)) [
      | true ↦ λ h. refl
      | false ↦ λ h. grind (arith, h, earlier)
    ] refl

-- the document is noted with the later of the two generations
pub noted : (id : Text) (latest generation : ℕ) (old new : List (Text × ℕ)) (held : List Held)
    → ((n : ℕ) → reaches n (Some latest) ≡ (reaches n (find id_cmp id old) || nat_le n generation))
    → new ≡ put id_cmp id latest old → SeesAs old held
    → SeesAs new (held ++ record { doc = id; generation = generation } ∷ [])
noted id latest generation old new held is_latest is_new sees change =
    let n = change.generation in
    let here = nat_le n generation in
    ap (λ pairs. is_seen pairs change) is_new
    ∙ ap (reaches n) (find-put id_cmp nat_list_cmp_total change.doc id latest old)
    ∙ elim (same_id change.doc id) as (λ b. same_id change.doc id ≡ b
    → reaches n (cond b (Some latest) (find id_cmp change.doc old))
    ≡ (is_held held change || (same_id id change.doc && here || false))) [
      | true ↦ λ same.
          is_latest n
          ∙ ap (λ (k : Text). reaches n (find id_cmp k old) || here) (sym (same_id_is change.doc id same))
          ∙ ap (λ b. b || here) (sees change)
          ∙ ap (λ b. is_held held change || b)
          (sym (ap (λ b. b && here || false) (same_id-comm id change.doc ∙ same) ∙ or_false here))
      | false ↦ λ other.
          sees change
          ∙ sym (ap (λ b. is_held held change || (b && here || false)) (same_id-comm id change.doc ∙ other)
          ∙ or_false (is_held held change))
    ] refl
    ∙ sym (list_any-append (λ (h : Held). same_id h.doc change.doc && nat_le n h.generation) held
    (record { doc = id; generation = generation } ∷ []))

-- what is left of changes without those that are seen
pub left_out : (pairs : List (Text × ℕ)) (held : List Held) (changes : List Change) → SeesAs pairs held
    → filter (λ c. not (is_seen pairs c)) changes ≡ filter (λ c. not (is_held held c)) changes
left_out pairs held changes sees = λ i. filter (λ c. not (sees c i)) changes

held_then : (outcome : Outcome4) (id doc : Text) (generation : ℕ) (s : State) → id ≡ doc → generation ≡ length s.log
    → held_at outcome id generation ≡ held_after outcome doc s
held_then Inserted id doc generation s is_id is_end = λ i. record { doc = is_id i; generation = is_end i } ∷ []
held_then Converged id doc generation s is_id is_end = λ i. record { doc = is_id i; generation = is_end i } ∷ []
held_then Superseded id doc generation s is_id is_end = refl
held_then Conflicted id doc generation s is_id is_end = refl

-- what was noted over the state is what the source has then
pub noted_then : (outcome : Outcome4) (id doc : Text) (generation : ℕ) (s : State) (pairs old new : List (Text × ℕ))
    (held : List Held) → id ≡ doc → generation ≡ length s.log → old ≡ pairs
    → ((held : List Held) → SeesAs old held → SeesAs new (held ++ held_at outcome id generation))
    → SeesAs pairs held → SeesAs new (held ++ held_after outcome doc s)
noted_then outcome id doc generation s pairs old new held is_id is_end is_old notes sees =
    subst (λ (l : List Held). SeesAs new (held ++ l)) (held_then outcome id doc generation s is_id is_end)
    (notes held (subst (λ (ps : List (Text × ℕ)). SeesAs ps held) (sym is_old) sees))
