-- Private words: the acceptances that an edit and a resolution make, by their parts.
use Rattle.std.specs.Prelude.{Bool, true, List, Option}
use Rattle.content.specs.Tree.{Tree}
use Rattle.vector_rev.specs.Clock.{Clock}
use Rattle.conflicts.specs.declared.accept.Accept.{Accept}
use Rattle.conflicts.specs.declared.accept.Making.TheVariants.{Edit, Resolve}

-- an edit, or a deletion where there is no content, is current
abbrev pub made_edit : Clock → Option Tree → List Clock → Accept
made_edit rev content parents =
    record { rev = rev; content = content; making = Edit; parents = parents; current = true }

-- a resolution may be current
abbrev pub made_resolution : Clock → Option Tree → List Clock → Bool → Accept
made_resolution rev content parents current =
    record { rev = rev; content = content; making = Resolve; parents = parents; current = current }
