-- What a look at a chunk says of its first item.
use Rattle.std.proofs.Common.{◌≡◌, ◌+◌, ◌-◌, ◌<◌, ℕ, length, get_or, true, false, arith, subst, ap}
use Rattle.std.specs.Fn.{FnReturnsAt}
use Rattle.std.specs.Global.{Vec}
use Rattle.std.specs.List.{HoldsAt}
use Rattle.std.specs.Vec.{vec_len}
use Rattle.chunk_list.proofs.search.chunk_of.Goals as goal

pub returns-clause-last : goal.returns-clause-last
returns-clause-last g c =
    let p = c.place_in.ensures in
    let place : ℕ = c.place_in.result in
    let back : place ≡ place - 1 + 1 = omega (arith, p.low) in
    record {
      within = omega (arith, p.low, p.high);
      here = λ more d.
          let told = p.before (omega arith) d in
          let held = (c.requires.chunks.held (place - 1) d (omega (arith, p.high))).some more in
          let some : 0 < length told.shown.now.items =
          omega (arith, ap vec_len told.shows, held, told.shown.now.ok.0) in
          subst (λ (v : Vec g.row.T.Denot). HoldsAt (λ x. FnReturnsAt g.F.Fn c.args.passes.now x true) v.items 0)
          told.shows (told.says.met some);
      next = λ less d.
          let told = p.after (omega arith) d in
          let held = (c.requires.chunks.held place d (omega arith)).some (omega (arith, p.low)) in
          let some : 0 < length told.shown.now.items =
          omega (arith, ap vec_len told.shows, held, told.shown.now.ok.0) in
          subst (λ (n : ℕ). HoldsAt (λ x. FnReturnsAt g.F.Fn c.args.passes.now x false)
          (get_or c.args.chunks.now.items n d).items 0) back
          (subst (λ (v : Vec g.row.T.Denot). HoldsAt (λ x. FnReturnsAt g.F.Fn c.args.passes.now x false) v.items 0)
          told.shows (told.says.met some));
    }
