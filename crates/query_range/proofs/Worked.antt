-- The definitions at worked values.
use Rattle.std.proofs.Common.{◌≡◌, true, false, List, [], ◌∷◌, Some, None, refl}
use Rattle.std.specs.Prelude.{codes}
use Rattle.index_tables.specs.Order.{Entry}
use Rattle.query_range.specs.Answers.{answer, is_between, keys_of}
use Rattle.query_range.specs.inner.Floor.{floor_of}
use Rattle.query_range.specs.Patterns.{meets, part_of}
use Rattle.query_range.specs.declared.pattern.Part.TheVariants.{Exact, Prefix, Any}

star_inside : part_of (codes "a*b") ≡ Exact (codes "a*b")
star_inside = refl

two_stars : part_of (codes "a**") ≡ Prefix (codes "a*")
two_stars = refl

star_alone : part_of (codes "*") ≡ Any
star_alone = refl

nothing : part_of [] ≡ Exact []
nothing = refl

itself : meets (Prefix (codes "ann") ∷ Any ∷ []) (codes "ann" ∷ codes "work" ∷ []) ≡ true
itself = refl

another : meets (Prefix (codes "ann") ∷ Any ∷ []) (codes "bob" ∷ codes "work" ∷ []) ≡ false
another = refl

other_width : meets (Any ∷ []) (codes "bob" ∷ codes "work" ∷ []) ≡ false
other_width = refl

floor_at_prefix : floor_of (Exact (codes "a") ∷ Prefix (codes "b") ∷ Any ∷ []) ≡ codes "a" ∷ codes "b" ∷ []
floor_at_prefix = refl

-- d1 has two keys, and stands at the lesser one
worked : List Entry
worked = (codes "b" ∷ [], codes "d2") ∷ (codes "b" ∷ [], codes "d1") ∷ (codes "d" ∷ [], codes "d3")
    ∷ (codes "d" ∷ [], codes "d1") ∷ []

all_of_them : answer (is_between None None) worked ≡ codes "d2" ∷ codes "d1" ∷ codes "d3" ∷ []
unfolding worked
all_of_them = refl

from_c : answer (is_between (Some (codes "c" ∷ [])) None) worked ≡ codes "d3" ∷ codes "d1" ∷ []
unfolding worked
from_c = refl

only_b : answer (is_between (Some (codes "b" ∷ [])) (Some (codes "b" ∷ []))) worked ≡ codes "d2" ∷ codes "d1" ∷ []
unfolding worked
only_b = refl

no_range : answer (is_between (Some (codes "c" ∷ [])) (Some (codes "a" ∷ []))) worked ≡ []
unfolding worked
no_range = refl

two_keys : keys_of worked ≡ (codes "b" ∷ []) ∷ (codes "d" ∷ []) ∷ []
unfolding worked
two_keys = refl
