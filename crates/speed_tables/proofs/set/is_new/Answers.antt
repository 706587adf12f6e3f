-- The key is not the one that was looked at.
use Rattle.std.proofs.Common.{◌≡◌, ◌≢◌, ℕ, List, false, arith, sym, ◌∙◌, ap, subst, get_or, inl, inr}
use Rattle.std.proofs.lemmas.Bool.{cases_lt}
use Rattle.std.proofs.lemmas.List.{get_or_read}
use Rattle.std.specs.Ordering.{is_eq}
use Rattle.index_tables.specs.Order.{key_cmp}
use Rattle.index_tables.proofs.Laws.{other_key}
use Rattle.speed_tables.proofs.set.is_new.Goals as goal

pub loop-other-preserved : goal.loop-other-preserved
loop-other-preserved c k d lt =
    let at = c.loop-other.other-index in
    let told : is_eq (key_cmp c.other-item.result c.args.key.now) ≡ false =
    ap (λ (a : List (List ℕ)). is_eq (key_cmp a c.args.key.now)) (sym c.texts.ensures.value)
    ∙ sym (c.is_eq.ensures ∙ ap is_eq c.compare_keys.ensures) ∙ c.if-is_eq.false in
    elim (cases_lt k at) [
      | inl early ↦ c.loop-other.invariant k d early
      | inr late ↦
          let here : at ≡ k = omega arith in
          let item : c.other-item.result ≡ get_or c.args.keys.now at d =
          get_or_read c.args.keys.now at c.other-item.result (omega arith) c.other-item.is d in
          subst (λ (n : ℕ). get_or c.args.keys.now n d ≢ c.args.key.now) here
          (subst (λ (a : List (List ℕ)). a ≢ c.args.key.now) item (other_key c.other-item.result c.args.key.now told))
    ]
