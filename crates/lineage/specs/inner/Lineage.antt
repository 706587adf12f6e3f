-- Beside specs/Lineage: words of private contracts and of proofs.
use Rattle.std.specs.Prelude.{◌≡◌, ◌⊎◌, cond, [], ◌∷◌, ◌++◌}
use Rattle.u1_base.specs.Ids.{same_id}
use Rattle.vector_rev.specs.Counts.{Uid}
use Rattle.vector_rev.specs.Clock.{Clock}
use Rattle.conflicts.specs.declared.accept.Accept.{Accept}
use Rattle.lineage.specs.Lineage.{Lines, Ancestor}

-- r is s, or an ancestor of it
abbrev pub Leads : Lines → Clock → Clock → Type 0
Leads of r s = (r ≡ s) ⊎ Ancestor of r s

abbrev pub grown : Lines → Uid → Accept → Lines
grown of u a v = cond (same_id v u) (of v ++ a ∷ []) (of v)
