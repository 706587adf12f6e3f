-- What becomes of a revision that another replica hands over: the first row of a table that applies.
use Rattle.std.specs.Prelude.{Bool, true, false, cond, not, ◌&&◌, ◌||◌, nat_le, is_some, List, [], ◌∷◌, filter, Option}
use Rattle.std.specs.Prelude.{Some, None}
use Rattle.std.specs.List.{list_any, list_all}
use Rattle.std.specs.Option.{option_map}
use Rattle.content.specs.Tree.{Tree}
use Rattle.content.specs.Values.{is_same}
use Rattle.vector_rev.specs.Counts.{Uid}
use Rattle.vector_rev.specs.Clock.{Clock, count_of, dominates}
use Rattle.vector_rev.specs.Compare.{same}
use Rattle.conflicts.specs.Lists.{is_empty}
use Rattle.conflicts.specs.Document.{Document, has_rev, others, in_order}
use Rattle.conflicts.specs.Making.{made_clock, greatest, revs}
use Rattle.conflicts.specs.declared.member.Member.{Member}
use Rattle.conflicts.specs.declared.accept.Accept.{Accept}
use Rattle.conflicts.specs.declared.accept.Making.TheVariants.{Merge, Received}
use Rattle.conflicts.specs.declared.receipts.Taken.{Taken}
use Rattle.conflicts.specs.declared.receipts.Outcome4.{Outcome4}
use Rattle.conflicts.specs.declared.receipts.Outcome4.TheVariants.{Inserted, Superseded, Converged, Conflicted}

-- two contents are equal where both are missing or both are the same tree
abbrev pub same_content : Option Tree → Option Tree → Bool
same_content None None = true
same_content None (Some u) = false
same_content (Some t) None = false
same_content (Some t) (Some u) = is_same t u

-- ---- the answers

abbrev pub nothing : Outcome4 → Taken
nothing outcome = record { outcome = outcome; accepted = None }

abbrev pub received : Member → Accept
received x = record { rev = x.rev; content = x.content; making = Received; parents = []; current = true }

abbrev pub accepts : Outcome4 → Member → Taken
accepts outcome x = record { outcome = outcome; accepted = Some (received x) }

-- ---- the merge

-- a member that the incoming revision x does not dominate, with the content of x
abbrev pub is_alike : Member → Member → Bool
is_alike x m = not (dominates x.rev m.rev) && same_content m.content x.content

-- and one with another content
abbrev pub is_unlike : Member → Member → Bool
is_unlike x m = not (dominates x.rev m.rev) && not (same_content m.content x.content)

abbrev pub alike : Member → List Member → List Member
alike x ms = filter (is_alike x) ms

abbrev pub unlike : Member → List Member → List Member
unlike x ms = filter (is_unlike x) ms

abbrev pub merge_parents : Member → List Member → List Clock
merge_parents x ms = x.rev ∷ revs (alike x ms)

-- the merged revision: of x and the members that are alike, with their content. It is current where it is saved so, or
-- where the current member is merged, or where it is newer than the current one
abbrev pub merge_of : Clock → List Member → Member → Bool → Uid → Option Accept
merge_of c ms x save own =
    option_map (λ r. record {
      rev = r;
      content = x.content;
      making = Merge;
      parents = merge_parents x ms;
      current =
          save || has_rev (alike x ms) c || dominates r c;
    }) (made_clock own (merge_parents x ms))

-- no member of another content has an own counter above the greatest one among the revisions that are merged
abbrev pub may_merge : List Member → Member → Uid → Bool
may_merge ms x own =
    not (is_empty (alike x ms)) && list_all (λ m. nat_le (count_of m.rev own) (greatest own (merge_parents x ms)))
    (unlike x ms)

-- ---- the table, for a document with the current revision c, all members ms with the current one first, and the others

abbrev pub Row : Type 0
Row = Bool × Taken

abbrev pub first_row : List Row → Taken → Taken
first_row [] last = last
first_row (r ∷ rs) last = cond r.0 r.1 (first_row rs last)

abbrev pub table : Clock → List Member → List Member → Member → Bool → Uid → List Row
table c ms rest x save own =
    (same x.rev c, nothing Converged)
    ∷ (dominates c x.rev, nothing Superseded)
    ∷ (dominates x.rev c, accepts Inserted x)
    ∷ (list_any (λ m. dominates m.rev x.rev) rest, nothing Superseded)
    ∷ (has_rev rest x.rev && save, accepts Conflicted x)
    ∷ (has_rev rest x.rev, nothing Conflicted)
    ∷ (
      may_merge ms x own && is_some (merge_of c ms x save own),
      record { outcome = Superseded; accepted = merge_of c ms x save own },
    )
    ∷ (save, accepts Conflicted x)
    ∷ []

abbrev pub decides_over : Clock → List Member → List Member → Member → Bool → Uid → Taken
decides_over c ms rest x save own = first_row (table c ms rest x save own) (nothing Conflicted)

abbrev pub decides_at : Option Clock → List Member → Member → Bool → Uid → Taken
decides_at None ms x save own = accepts Inserted x
decides_at (Some c) ms x save own = decides_over c (in_order c ms) (others c ms) x save own

-- what is answered and accepted of an incoming revision x; `save` is set where this replica asked for it
abbrev pub decides : Document → Member → Bool → Uid → Taken
decides d x save own = decides_at d.current d.members x save own
