-- A kept document is told by the document that it is.
use Rattle.std.proofs.Common.{◌≡◌, true≢false, List, ◌∙◌, sym, ap, refl, inl, inr, Option, Some, None}
use Rattle.std.proofs.lemmas.Bool.{cases_eq}
use Rattle.std.proofs.lemmas.Option.{none-some, same_Some}
use Rattle.std.specs.Prelude.{slice_get}
use Rattle.vector_rev.specs.Clock.{Clock}
use Rattle.vector_rev.specs.Compare.{same}
use Rattle.conflicts.specs.Document.{Document}
use Rattle.conflicts.specs.Kept.{Kept, current, document, same_kept}
use Rattle.conflicts.specs.declared.member.Member.{Member}
use Rattle.conflicts.proofs.Apart.{same_itself}
use Rattle.conflicts.proofs.Sets.{current_at, other_at}

module _ (j k : Kept) (e : document (Some j) ≡ document (Some k)) where
  same_members : j.members ≡ k.members
  same_members = ap (λ (d : Document). d.members) e

  same_clock : (current j).rev ≡ (current k).rev
  same_clock = same_Some (current j).rev (current k).rev (ap (λ (d : Document). d.current) e)

  -- at another place stands a member with another clock
  same_place : j.place ≡ k.place
  same_place = elim (cases_eq j.place k.place) [
    | inl at ↦ at
    | inr other ↦ absurd (true≢false
        (sym (ap (λ (c : Clock). same c (current k).rev) same_clock ∙ same_itself (current k).rev)
        ∙ other_at k j.place (current j)
        (ap (λ (ms : List Member). slice_get ms j.place) (sym same_members) ∙ current_at j) other))
  ]

  same_document : j ≡ k
  same_document = same_kept j k same_members same_place

-- what is kept at an id, if anything is
pub kept_told : (o p : Option Kept) → document o ≡ document p → o ≡ p
kept_told None None e = refl
kept_told None (Some k) e = absurd (none-some (current k).rev (ap (λ (d : Document). d.current) e))
kept_told (Some j) None e = absurd (none-some (current j).rev (sym (ap (λ (d : Document). d.current) e)))
kept_told (Some j) (Some k) e = ap (λ (x : Kept). Some x) (same_document j k e)
