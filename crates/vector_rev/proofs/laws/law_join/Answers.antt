-- The greater of two counters is at least each and at most what is at least each.
use Rattle.vector_rev.proofs.ClockLaws.{IsJoin-left, IsJoin-right, IsJoin-least, IsJoin-few}
use Rattle.vector_rev.proofs.laws.law_join.Goals as goal

pub returns : goal.returns
returns c x y z join = record {
  left = IsJoin-left x y z join;
  right = IsJoin-right x y z join;
  least = λ w. IsJoin-least x y z w join;
  few = IsJoin-few x y z join;
}
