-- An entry put in its place: what a search from behind has found is where `put` puts it.
use Rattle.std.proofs.Common.{◌≡◌, ℕ, zero, suc, ◌+◌, ◌-◌, ◌<◌, ◌≤◌, max, cond, T, [], ◌∷◌, length, get_or, set, drop}
use Rattle.std.proofs.Common.{refl, Some, unwrap_or, sym, ◌∙◌, ap, ap₂, subst, arith, Less, Equal, Greater}
use Rattle.std.specs.List.{HoldsAt, insert}
use Rattle.std.specs.Ordering.{is_lt, is_eq, ordering_reverse}
use Rattle.std.specs.Cmp.{tied_itself}
use Rattle.std.specs.Cmp.Lexicographic.{nat_list_cmp_total}
use Rattle.std.specs.FinMap.Entries.{find, put, is_sorted, is_sorted-put, below_all, by_order}
use Rattle.std.proofs.lemmas.List.{drop_all, get_or_default}
use Rattle.u1_base.specs.Ids.{IsId, id_cmp, same_id}
use Rattle.u1_base.specs.declared.ids.Form.TheVariants as form_of
use Rattle.vector_rev.specs.Counts.{Uid, Entries, count_in, join, raised}
use Rattle.vector_rev.proofs.Truths.{first, second}
use Rattle.u1_base.proofs.SameIds.{id_tied, same_id-itself}
use Rattle.vector_rev.specs.Clock.{Clock, count_of, is_clock}
use Rattle.vector_rev.specs.inner.Standing.{HasRoom, IsAbove, StandsAt, FitsAt}
use Rattle.vector_rev.proofs.CountsLaws.{less_is, count_below, count-join}
use Rattle.vector_rev.proofs.ClockLaws.{is_clock-raised}
use Rattle.vector_rev.proofs.Walks.{below_trans, from_place, is_entry-IsId}

-- an entry behind a uid that all are above
above_at : (u : Uid) (es : Entries) (q : ℕ) (d : Uid × ℕ) → T (below_all id_cmp u es) → q < length es
    → id_cmp u (get_or es q d).0 ≡ Less
above_at u [] q d h lt = absurd (omega arith)
above_at u (e ∷ es) zero d h lt = less_is _ (first _ _ h)
above_at u (e ∷ es) (suc q) d h lt = above_at u es q d (second (is_lt (id_cmp u e.0)) _ h) (omega arith)

pub greater : (u v : Uid) → id_cmp v u ≡ Less → id_cmp u v ≡ Greater
greater u v less = nat_list_cmp_total.antisymm u v ∙ ap ordering_reverse less

-- what is put behind the first entry
past : (k : Uid) (n : ℕ) (e : Uid × ℕ) (es : Entries) → id_cmp e.0 k ≡ Less
    → put id_cmp k n (e ∷ es) ≡ e ∷ put id_cmp k n es
past k n e es less = ap (λ r. by_order r ((k, n) ∷ e ∷ es) ((e.0, n) ∷ es) (e ∷ put id_cmp k n es)) (greater k e.0 less)

count_behind : (k : Uid) (e : Uid × ℕ) (es : Entries) → id_cmp e.0 k ≡ Less → count_in (e ∷ es) k ≡ count_in es k
count_behind k e es less = ap (λ b. unwrap_or (cond (is_eq b) (Some e.1) (find id_cmp k es)) 0) (greater k e.0 less)

-- the first entry is below a uid that stands behind it
first_below : (k : Uid) (e : Uid × ℕ) (es : Entries) (q : ℕ) → T (is_sorted id_cmp (e ∷ es)) → q < length es
    → HoldsAt (λ f. k ≡ f.0) es q → id_cmp e.0 k ≡ Less
first_below k e es q s lt same = subst (λ (u : Uid). id_cmp e.0 u ≡ Less) (sym (same e))
    (above_at e.0 es q e (first _ _ s) lt)

-- the uid stands at a place: the entry there is replaced
pub put_stands : (k : Uid) (n : ℕ) (es : Entries) (q : ℕ) → T (is_sorted id_cmp es) → q < length es
    → HoldsAt (λ e. k ≡ e.0) es q → put id_cmp k n es ≡ set es q (k, n)
put_stands k n [] q s lt same = absurd (omega arith)
put_stands k n (e ∷ es) zero s lt same =
    ap (λ r. by_order r ((k, n) ∷ e ∷ es) ((e.0, n) ∷ es) (e ∷ put id_cmp k n es))
    (ap (id_cmp k) (sym (same e)) ∙ tied_itself nat_list_cmp_total k)
    ∙ ap (λ (u : Uid). (u, n) ∷ es) (sym (same e))
put_stands k n (e ∷ es) (suc q) s lt same =
    past k n e es (first_below k e es q s (omega arith) (λ d. same d))
    ∙ ap (λ (fs : Entries). e ∷ fs)
    (put_stands k n es q (second (below_all id_cmp e.0 es) _ s) (omega arith) (λ d. same d))

pub count_stands : (k : Uid) (es : Entries) (q : ℕ) (d : Uid × ℕ) → T (is_sorted id_cmp es) → q < length es
    → HoldsAt (λ e. k ≡ e.0) es q → count_in es k ≡ (get_or es q d).1
count_stands k [] q d s lt same = absurd (omega arith)
count_stands k (e ∷ es) zero d s lt same =
    ap (λ b. unwrap_or (cond b (Some e.1) (find id_cmp k es)) 0) (ap (same_id k) (sym (same e)) ∙ same_id-itself k)
count_stands k (e ∷ es) (suc q) d s lt same =
    count_behind k e es (first_below k e es q s (omega arith) (λ f. same f))
    ∙ count_stands k es q d (second (below_all id_cmp e.0 es) _ s) (omega arith) (λ f. same f)

-- the entry before the place of a uid, in the list without the first entry
before_rest : (k : Uid) (e : Uid × ℕ) (es : Entries) (q : ℕ) → HoldsAt (λ f. id_cmp f.0 k ≡ Less) (e ∷ es) q → 0 < q
    → HoldsAt (λ f. id_cmp f.0 k ≡ Less) es (q - 1)
before_rest k e es zero less lt = absurd (omega arith)
before_rest k e es (suc q) less lt = subst (HoldsAt (λ (f : Uid × ℕ). id_cmp f.0 k ≡ Less) es) (omega arith)
    (λ d. less d)

first_is_before : (k : Uid) (e : Uid × ℕ) (es : Entries) (q : ℕ) → T (is_sorted id_cmp (e ∷ es)) → q ≤ length es
    → HoldsAt (λ f. id_cmp f.0 k ≡ Less) (e ∷ es) q → id_cmp e.0 k ≡ Less
first_is_before k e es zero s le less = less e
first_is_before k e es (suc q) s le less = nat_list_cmp_total.trans e.0 (get_or es q e).0 k
    (above_at e.0 es q e (first _ _ s) (omega arith)) (less e)

-- the uid is not there: its entry is inserted
pub put_fits : (k : Uid) (n : ℕ) (es : Entries) (q : ℕ) → T (is_sorted id_cmp es) → FitsAt k es q
    → (put id_cmp k n es ≡ insert es q (k, n)) × (count_in es k ≡ 0)
put_fits k n [] zero s f = (refl, refl)
put_fits k n [] (suc q) s f = absurd (omega (arith, f.above.within))
put_fits k n (e ∷ es) zero s f =
    let less : id_cmp k e.0 ≡ Less = f.above.after (omega arith) e in (
      ap (λ r. by_order r ((k, n) ∷ e ∷ es) ((e.0, n) ∷ es) (e ∷ put id_cmp k n es)) less,
      ap (λ r. unwrap_or (cond (is_eq r) (Some e.1) (find id_cmp k es)) 0) less
          ∙ count_below k es (below_trans k e.0 es less (first _ _ s)),
    )
put_fits k n (e ∷ es) (suc q) s f =
    let here : HoldsAt (λ g. id_cmp g.0 k ≡ Less) (e ∷ es) q =
    subst (HoldsAt (λ (g : Uid × ℕ). id_cmp g.0 k ≡ Less) (e ∷ es)) (omega arith) (f.before (omega arith)) in
    let low : q ≤ length es = omega (arith, f.above.within) in
    let less : id_cmp e.0 k ≡ Less = first_is_before k e es q s low here in
    let rest : (put id_cmp k n es ≡ insert es q (k, n)) × (count_in es k ≡ 0) =
    put_fits k n es q (second (below_all id_cmp e.0 es) _ s)
    (record {
      above = record { within = low; after = λ (lt : q < length es). λ d. f.above.after (omega arith) d };
      before = before_rest k e es q here;
    }) in
    (past k n e es less ∙ ap (λ (fs : Entries). e ∷ fs) rest.0, count_behind k e es less ∙ rest.1)

-- ---- what the code has found and done

-- what the code compared, where it stopped its search
pub stands_from : (u : Uid) (es : Entries) (q : ℕ) (e : Uid × ℕ) → q < length es → e ≡ get_or es q e
    → id_cmp u e.0 ≡ Equal → StandsAt u es q
stands_from u es q e lt at same = record {
  within = lt;
  same = λ d. id_tied u e.0 same ∙ ap (λ (f : Uid × ℕ). f.0) (at ∙ get_or_default es q e d lt);
}

pub fits_from : (u : Uid) (es : Entries) (q : ℕ) (e : Uid × ℕ) → 0 < q → IsAbove u es q → e ≡ get_or es (q - 1) e
    → id_cmp u e.0 ≡ Greater → FitsAt u es q
fits_from u es q e lt above at more = record {
  above = above;
  before = λ _ d. subst (λ (f : Uid × ℕ). id_cmp f.0 u ≡ Less)
      (at ∙ get_or_default es (q - 1) e d (omega (arith, above.within)))
      (nat_list_cmp_total.antisymm e.0 u ∙ ap ordering_reverse more);
}

-- the entry that stands there takes the greater counter
pub put_raised : (u : Uid) (n : ℕ) (es seen : Entries) (q : ℕ) (e f : Uid × ℕ) → T (is_sorted id_cmp es)
    → StandsAt u seen q → seen ≡ es → e ≡ get_or es q e → f ≡ (e.0, max n e.1)
    → set es q f ≡ put id_cmp u (max n (count_in es u)) es
put_raised u n es seen q e f s stands same at is =
    let here : StandsAt u es q = subst (λ (fs : Entries). StandsAt u fs q) same stands in
    let uid : e.0 ≡ u = ap (λ (g : Uid × ℕ). g.0) at ∙ sym (here.same e) in
    let counter : e.1 ≡ count_in es u = ap (λ (g : Uid × ℕ). g.1) at
    ∙ sym (count_stands u es q e s here.within here.same) in
    ap (set es q) (is ∙ (λ i. (uid i, max n (counter i))))
    ∙ sym (put_stands u (max n (count_in es u)) es q s here.within here.same)

-- an entry of the uid is inserted where it fits
pub put_inserted : (u k : Uid) (n : ℕ) (es seen after : Entries) (q : ℕ) (e : Uid × ℕ) → T (is_sorted id_cmp es)
    → FitsAt u seen q → seen ≡ es → k ≡ u → e ≡ (k, n) → after ≡ insert es q e
    → after ≡ put id_cmp u (max n (count_in es u)) es
put_inserted u k n es seen after q e s fits same uid is done =
    let here : FitsAt u es q = subst (λ (fs : Entries). FitsAt u fs q) same fits in
    let none : count_in es u ≡ 0 = (put_fits u n es q s here).1 in
    let counter : n ≡ max n (count_in es u) = omega (arith, none) in
    done ∙ ap (insert es q) (is ∙ (λ i. (uid i, counter i)))
    ∙ sym (put_fits u (max n (count_in es u)) es q s here).0

-- ---- the walk from the last entry to the first

sorted_drop : (i : ℕ) (es : Entries) → T (is_sorted id_cmp es) → T (is_sorted id_cmp (drop i es))
sorted_drop zero es s = s
sorted_drop (suc i) [] s = tt
sorted_drop (suc i) (e ∷ es) s = sorted_drop i es (second (below_all id_cmp e.0 es) _ s)

pub next_above : (es : Entries) (i : ℕ) (d f : Uid × ℕ) → T (is_sorted id_cmp es) → suc i < length es
    → id_cmp (get_or es i d).0 (get_or es (suc i) f).0 ≡ Less
next_above [] i d f s lt = absurd (omega arith)
next_above (e ∷ es) zero d f s lt = above_at e.0 es 0 f (first _ _ s) (omega arith)
next_above (e ∷ es) (suc i) d f s lt = next_above es i d f (second (below_all id_cmp e.0 es) _ s) (omega arith)

joined_sorted : (es ys : Entries) → T (is_sorted id_cmp ys) → T (is_sorted id_cmp (join es ys))
joined_sorted [] ys s = s
joined_sorted (e ∷ es) ys s = is_sorted-put id_cmp nat_list_cmp_total e.0 _ (join es ys) (joined_sorted es ys s)

-- what is known while the entries of xs from `left` on have been put into ys, the last one at `end`
pub record Walked (xs ys out : Entries) (end left : ℕ) : Type 0 where
  pub left_place : left ≤ length xs
  pub end_place : end ≤ length out
  pub joined : out ≡ join (drop left xs) ys
  pub last : end < length out → (left < length xs) × ((d : Uid × ℕ) → (get_or out end d).0 ≡ (get_or xs left d).0)

pub walk_start : (xs ys : Entries) (end left : ℕ) → end ≡ length ys → left ≡ length xs → Walked xs ys ys end left
walk_start xs ys end left e l = record {
  left_place = omega arith;
  end_place = omega arith;
  joined = ap (λ (es : Entries). join es ys) (sym (drop_all left xs (omega arith)));
  last = λ lt. absurd (omega arith);
}

pub walk_sorted : (xs ys out : Entries) (end left : ℕ) → T (is_sorted id_cmp ys) → Walked xs ys out end left
    → T (is_sorted id_cmp out)
walk_sorted xs ys out end left s k = subst (λ (es : Entries). T (is_sorted id_cmp es)) (sym k.joined)
    (joined_sorted (drop left xs) ys s)

-- the next uid is below all that was put
pub walk_above : (xs ys out : Entries) (end left i : ℕ) (x : Uid × ℕ) (u : Uid) → T (is_sorted id_cmp xs)
    → left ≡ i + 1 → x ≡ get_or xs i x → u ≡ x.0 → Walked xs ys out end left → IsAbove u out end
walk_above xs ys out end left i x u s one at same k = record {
  within = k.end_place;
  after = λ lt d.
      ap₂ id_cmp (same ∙ ap (λ (e : Uid × ℕ). e.0) at)
      ((k.last lt).1 d ∙ ap (λ m. (get_or xs m d).0) (one ∙ one_more i))
      ∙ next_above xs i x d s (omega (arith, one, (k.last lt).0));
}
  where
    one_more : (m : ℕ) → m + 1 ≡ suc m
    one_more m = omega arith

-- one entry more is put
pub walk_more : (xs ys out after : Entries) (end place left i : ℕ) (x : Uid × ℕ) (u : Uid) (n : ℕ)
    → T (is_sorted id_cmp xs) → left ≡ i + 1 → x ≡ get_or xs i x → u ≡ x.0 → n ≡ x.1
    → after ≡ put id_cmp u (max n (count_in out u)) out → StandsAt u after place → Walked xs ys out end left
    → Walked xs ys after place i
walk_more xs ys out after end place left i x u n s one at same counter done stands k =
    let below : i < length xs = omega (arith, one, k.left_place) in
    let more : Entries = drop (i + 1) xs in
    let dx : drop i xs ≡ x ∷ more = from_place xs i x below at in
    let rest : out ≡ join more ys = k.joined ∙ ap (λ m. join (drop m xs) ys) one in
    let none : count_in more x.0 ≡ 0 = count_below x.0 more
    (first _ _ (subst (λ (es : Entries). T (is_sorted id_cmp es)) dx (sorted_drop i xs s))) in
    let count : count_in (join more ys) x.0 ≡ count_in ys x.0 = count-join more ys x.0
    ∙ ap (λ m. max m (count_in ys x.0)) none ∙ zero_max (count_in ys x.0) in
    record {
      left_place = omega (arith, below);
      end_place = omega (arith, stands.within);
      joined =
          done ∙ (λ j. put id_cmp (same j) (max (counter j) (count_in (rest j) (same j))) (rest j))
          ∙ ap (λ m. put id_cmp x.0 (max x.1 m) (join more ys)) count
          ∙ ap (λ (es : Entries). join es ys) (sym dx);
      last = λ _. (
        below,
        λ d. sym (stands.same d) ∙ same
            ∙ ap (λ (e : Uid × ℕ). e.0) (at ∙ get_or_default xs i x d below),
      );
    }
  where
    zero_max : (m : ℕ) → max 0 m ≡ m
    zero_max m = omega arith

-- ---- the own counter

-- what stands in the list that the code raised
pub record IsRaisedList (x : Clock) (own : Uid) (es : Entries) : Type 0 where
  pub raised : es ≡ raised x.entries own
  pub well : T (is_clock es)

pub raised_list : (x : Clock) (own : Uid) (n : ℕ) (es : Entries) → HasRoom x own n → IsId form_of.Replica own
    → es ≡ put id_cmp own (max n (count_of x own)) x.entries → IsRaisedList x own es
raised_list x own n es room id e =
    let low : 1 ≤ n = omega (arith, room.raised) in
    let is : es ≡ raised x.entries own = e
    ∙ ap (λ m. put id_cmp own m x.entries) (one_more n (count_of x own) room.raised) in
    record {
      raised = is;
      well = is_clock-raised x own n es room
          (is_entry-IsId own n id low (omega (arith, room.small))) is;
    }
  where
    one_more : (k m : ℕ) → k ≡ m + 1 → max k m ≡ suc m
    one_more k m h = omega arith
