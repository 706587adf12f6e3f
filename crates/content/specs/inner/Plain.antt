-- Beside specs/Plain: words of private contracts and of proofs.
use Rattle.std.specs.Prelude.{ℕ, suc, List, Option, Some, None, option_map}
use Rattle.std.specs.Cmp.Lexicographic.{slice_cmp}
use Rattle.std.specs.Ordering.{nat_cmp, match_ordering}
use Rattle.content.specs.Tree.{Fields, no_fields, field}

-- where the name goes among fields whose names ascend, if it is not there yet
abbrev pub place_among : List ℕ → Fields → Option ℕ
place_among name no_fields = Some 0
place_among name (field other t fs) =
    match_ordering (slice_cmp nat_cmp name other) (Some 0) None (option_map suc (place_among name fs))
