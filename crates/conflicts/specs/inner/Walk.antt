-- Beside specs/Walk: words of private contracts and of proofs.
use Rattle.std.specs.Prelude.{◌≡◌, ℕ, ◌+◌, max, true, false, List, [], ◌∷◌, ◌++◌}
use Rattle.std.specs.List.{list_any}
use Rattle.vector_rev.specs.Counts.{Uid}
use Rattle.vector_rev.specs.Clock.{covers, dominates}
use Rattle.conflicts.specs.Decision.{is_alike, alike, unlike, merge_parents}
use Rattle.conflicts.specs.Document.{has_rev, others}
use Rattle.conflicts.specs.Kept.{Kept, current, current_first}
use Rattle.conflicts.specs.Making.{greatest, revs}
use Rattle.conflicts.specs.declared.member.Member.{Member}
use Rattle.conflicts.specs.declared.merges.Merging.{Merging}
use Rattle.conflicts.specs.declared.merges.Met.{Met}
use Rattle.conflicts.specs.declared.merges.Met.TheVariants.{Newer, Same, Neither}
use Rattle.conflicts.specs.Walk.{seen}

-- the merge of x with those of the members ms that are alike; none of ms covers x
pub record IsMerging (k : Kept) (x : Member) (own : Uid) (ms : List Member) (m : Merging) : Type 0 where
  pub uncovered : list_any (λ n. covers n.rev x.rev) ms ≡ false
  pub parents : m.parents ≡ merge_parents x ms
  pub leads : m.leads ≡ is_alike x (current k)
  pub most : m.most ≡ greatest own (revs (unlike x ms))

-- the member n was looked at, which does not cover x
pub record LooksAt (x : Member) (own : Uid) (n : Member) (old new : Merging) : Type 0 where
  pub uncovered : covers n.rev x.rev ≡ false
  pub parents : new.parents ≡ old.parents ++ revs (alike x (n ∷ []))
  pub leads : new.leads ≡ old.leads
  pub most : new.most ≡ max (greatest own (revs (unlike x (n ∷ [])))) old.most

-- what a look at the member n finds
abbrev pub FoundAt : Member → Uid → Member → Merging → Merging → Met → Type 0
FoundAt x own n old new Newer = dominates n.rev x.rev ≡ true
FoundAt x own n old new Same = n.rev ≡ x.rev
FoundAt x own n old new Neither = LooksAt x own n old new

-- some other member is newer
abbrev pub SomeNewer : Kept → Member → Type 0
SomeNewer k x = list_any (λ m. dominates m.rev x.rev) (others (current k).rev k.members) ≡ true

-- none is newer, and another one has the revision
pub record SomeSame (k : Kept) (x : Member) : Type 0 where
  pub not_newer : list_any (λ m. dominates m.rev x.rev) (others (current k).rev k.members) ≡ false
  pub same : has_rev (others (current k).rev k.members) x.rev ≡ true

-- what a step of the walk finds at a place
abbrev pub StepsTo : Kept → Member → Uid → ℕ → Merging → Merging → Met → Type 0
StepsTo k x own place old new Newer = SomeNewer k x
StepsTo k x own place old new Same = SomeSame k x
StepsTo k x own place old new Neither =
    IsMerging k x own (seen k place) old → IsMerging k x own (seen k (place + 1)) new

-- and the whole walk
abbrev pub WalksTo : Kept → Member → Uid → Merging → Met → Type 0
WalksTo k x own m Newer = SomeNewer k x
WalksTo k x own m Same = SomeSame k x
WalksTo k x own m Neither = IsMerging k x own (current_first k) m
