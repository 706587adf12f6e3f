-- Private words: what one walk over the members finds of an incoming revision x that is apart from the current one.
use Rattle.std.specs.Prelude.{ℕ, List, ◌∷◌, take}
use Rattle.conflicts.specs.Document.{others}
use Rattle.conflicts.specs.Kept.{Kept, current}
use Rattle.conflicts.specs.declared.member.Member.{Member}

-- the current member, and the others among the first ones
abbrev pub seen : Kept → ℕ → List Member
seen k place = current k ∷ others (current k).rev (take place k.members)
