-- The test of an acceptance tells whether it fits.
use Rattle.std.specs.Prelude.{◌≡◌, Bool, true, false, not, ◌&&◌, ◌||◌, ◌⊎◌, ◌↔◌, IsTrue, Some, refl}
use Rattle.std.specs.List.{list_any}
use Rattle.std.proofs.Common.{sym, ◌∙◌, ap, inl, inr}
use Rattle.std.proofs.lemmas.Bool.{and_parts, and_from}
use Rattle.vector_rev.specs.Clock.{covers, dominates}
use Rattle.conflicts.specs.Document.{FitsDocument, no_document}
use Rattle.conflicts.specs.Kept.{Kept, current, document}
use Rattle.conflicts.specs.declared.member.Member.{Member}
use Rattle.conflicts.specs.declared.accept.Accept.{Accept}
use Rattle.conflicts.proofs.Applied.{only_marked}
use Rattle.u1_base.proofs.Booleans.{not_true}

pub fits_none : (a : Accept) → IsTrue a.current ↔ FitsDocument no_document a
fits_none a = (λ h. record { not_older = refl; settled = inl h }, only_marked a)

either_of : (b k : Bool) → (b || not k) ≡ true → (b ≡ true) ⊎ (k ≡ false)
either_of true k h = inl refl
either_of false k h = inr (not_true k h)

from_either : (b k : Bool) → (b ≡ true) ⊎ (k ≡ false) → (b || not k) ≡ true
from_either b k (inl h) = ap (λ x. x || not k) h
from_either true k (inr h) = refl
from_either false k (inr h) = ap not h

pub fits_is : (k : Kept) (a : Accept) (h c : Bool) (m : Member) → h ≡ list_any (λ n. dominates n.rev a.rev) k.members
    → m ≡ current k → c ≡ covers a.rev m.rev → IsTrue (not h && (a.current || not c))
    ↔ FitsDocument (document (Some k)) a
fits_is k a h c m older is covered = (
  λ t.
      let p = and_parts (not h) (a.current || not c) t in
      record { not_older = sym older ∙ not_true h p.0; settled = to_settled (either_of a.current c p.1) },
  λ f. and_from (not h) (a.current || not c) (ap not (older ∙ f.not_older))
      (from_either a.current c (from_settled f.settled)),
)
  where
    at : c ≡ covers a.rev (current k).rev
    at = covered ∙ ap (λ (n : Member). covers a.rev n.rev) is

    to_settled : (a.current ≡ true) ⊎ (c ≡ false) → (a.current ≡ true) ⊎ (covers a.rev (current k).rev ≡ false)
    to_settled (inl h) = inl h
    to_settled (inr h) = inr (sym at ∙ h)

    from_settled : (a.current ≡ true) ⊎ (covers a.rev (current k).rev ≡ false) → (a.current ≡ true) ⊎ (c ≡ false)
    from_settled (inl h) = inl h
    from_settled (inr h) = inr (at ∙ h)
