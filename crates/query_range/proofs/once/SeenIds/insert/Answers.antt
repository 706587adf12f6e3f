-- The id has its place alone, or shares it with another one and stands in the tree.
use Rattle.std.proofs.Common.{rules, ◌≡◌, ◌<◌, ◌%◌, ◌∙◌, length, refl, sym, ap, true, false, Some, None, get_or}
use Rattle.u1_base.specs.Ids.{same_id}
use Rattle.query_range.specs.SeenIds.{mark, owner}
use Rattle.query_range.proofs.Places.{behind_either, free_kept, known_kept, owner_is}
use Rattle.query_range.proofs.once.SeenIds.insert.Goals as goal

pub returns-then-is_eq-clause-kept : goal.returns-then-is_eq-clause-kept
returns-then-is_eq-clause-kept c =
    let places = c.args.self.now.places.items in
    let at_is : c.place_of-place.result ≡ mark c.args.id.now % length places = search rules in
    let lt : c.place_of-place.result < length places = search rules in
    let here : Some c.in-Some.other ≡ get_or places c.place_of-place.result (Some c.in-Some.other) = search rules in
    let itself : same_id c.in-Some.other.now c.args.id.now ≡ true = search rules in
    known_kept places c.args.self.now.others c.args.id c.in-Some.other
    (owner_is places c.args.self.now.others c.args.id c.place_of-place.result at_is lt (Some c.in-Some.other) here)
    itself

pub invariant_of-self-in-Some : goal.invariant_of-self-in-Some
invariant_of-self-in-Some c =
    let places = c.args.self.now.places.items in
    let at_is : c.place_of-place.result ≡ mark c.args.id.now % length places = search rules in
    let lt : c.place_of-place.result < length places = search rules in
    let here : Some c.in-Some.other ≡ get_or places c.place_of-place.result (Some c.in-Some.other) = search rules in
    let apart : same_id c.in-Some.other.now c.args.id.now ≡ false = search rules in
    record {
      some = c.args.self.now.some;
      behind =
          behind_either places c.args.self.now.others c.insert.new.self c.args.id c.in-Some.other
          (owner_is places c.args.self.now.others c.args.id c.place_of-place.result at_is lt
          (Some c.in-Some.other) here) apart
          c.args.self.now.behind c.insert.result c.insert.ensures.updates c.insert.ensures.err;
    }

pub returns-in-None-clause-kept : goal.returns-in-None-clause-kept
returns-in-None-clause-kept c =
    let places = c.args.self.now.places.items in
    let at_is : c.place_of-place.result ≡ mark c.args.id.now % length places = search rules in
    let lt : c.place_of-place.result < length places = search rules in
    let here : None ≡ get_or places c.place_of-place.result None = search rules in
    free_kept places c.args.self.now.others c.args.id c.place_of-place.result at_is lt c.args.self.now.behind
    (owner_is places c.args.self.now.others c.args.id c.place_of-place.result at_is lt None here)
