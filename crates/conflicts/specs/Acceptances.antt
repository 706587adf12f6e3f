-- What an acceptance leaves that does not fit, and which revision is the current one where all fit.
use Rattle.std.specs.Prelude.{◌≡◌, true, false, cond, List, [], ◌∷◌, Option, Some, None}
use Rattle.std.specs.List.{list_any}
use Rattle.vector_rev.specs.Clock.{Clock, dominates}
use Rattle.conflicts.specs.Document.{Document, no_document, document_after, current_of, FitsDocument}
use Rattle.conflicts.specs.Laws.{IsDocument}
use Rattle.conflicts.specs.declared.accept.Accept.{Accept}

-- the same acceptance, marked current
abbrev pub marked : Accept → Accept
marked a = record { rev = a.rev; content = a.content; making = a.making; parents = a.parents; current = true }

pub record Unfitting : Type 0 where
  -- where a member is newer, an acceptance changes nothing
  pub dominated : (d : Document) (a : Accept) → IsDocument d →
      list_any (λ m. dominates m.rev a.rev) d.members ≡ true → document_after d a ≡ d
  -- where no member is newer and it does not fit all the same, it acts as if it were marked current
  pub unmarked : (d : Document) (a : Accept) → IsDocument d →
      list_any (λ m. dominates m.rev a.rev) d.members ≡ false → ¬ (FitsDocument d a) →
      document_after d a ≡ document_after d (marked a)
  -- and marked it fits
  pub marked_fits : (d : Document) (a : Accept) →
      list_any (λ m. dominates m.rev a.rev) d.members ≡ false → FitsDocument d (marked a)

-- each acceptance fits what those before it leave
abbrev pub AllFit : Document → List Accept → Type 0
AllFit d [] = Unit {0}
AllFit d (a ∷ later) = FitsDocument d a × AllFit (document_after d a) later

-- the last revision of the list that is marked current, or else c
abbrev pub last_marked : Option Clock → List Accept → Option Clock
last_marked c [] = c
last_marked c (a ∷ later) = last_marked (cond a.current (Some a.rev) c) later

abbrev pub LastMarkedIsCurrent : Type 0
LastMarkedIsCurrent = (h : List Accept) → AllFit no_document h → current_of h ≡ last_marked None h
