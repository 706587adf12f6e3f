-- The rest of a chunk is a run of the list.
use Rattle.std.proofs.Common.{◌≡◌, ℕ, ◌+◌, ◌-◌, ◌<◌, List, length, get_or, take, drop, sym, subst, ◌∙◌, ap, arith}
use Rattle.std.proofs.lemmas.List.{get_or-drop, length-drop, take_rest}
use Rattle.std.proofs.lemmas.List.Concat.{get_or-flat_map}
use Rattle.std.proofs.lemmas.List.Folds.{length-flat_map-take}
use Rattle.std.specs.Global.{Vec}
use Rattle.std.specs.Vec.{vec_items}
use Rattle.chunk_list.specs.Chunks.{joined, IsRun}
use Rattle.chunk_list.specs.inner.Chunks.{IsAt}

module _ {T : Type 0} (chunks : List (Vec T)) (i p inside : ℕ) (w : IsAt chunks p i inside) (c : Vec T)
    (c_is : c ≡ get_or chunks i c) (lt : p < length (joined chunks))
    (xs : List T) (xs_is : xs ≡ vec_items c)
  where
    items : xs ≡ vec_items (get_or chunks i c)
    items = xs_is ∙ ap vec_items c_is

    some : inside < length xs
    some = omega (arith, w.before lt c, (get_or chunks i c).ok.0, ap length items)

    pub run_is : IsRun (joined chunks) p (take (length xs - inside) (drop inside xs))
    run_is = subst (IsRun (joined chunks) p) (sym (take_rest xs inside)) (record {
      within = λ k lt_run. omega (
        arith,
        length-drop inside xs,
        some,
        w.is,
        length-flat_map-take vec_items chunks i c w.within,
        ap length items,
      );
      same = λ k d lt_run.
          get_or-drop inside xs k d ∙ ap (λ (l : List T). get_or l (inside + k) d) items
          ∙ sym (get_or-flat_map vec_items chunks i (inside + k) c d w.within
          (omega (arith, length-drop inside xs, ap length items)))
          ∙ ap (λ (n : ℕ). get_or (joined chunks) n d) (omega (arith, w.is));
      some = λ less. omega (arith, length-drop inside xs, some);
    })
