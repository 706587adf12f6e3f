-- Beside specs/Says: words of private contracts and of proofs.
use Rattle.std.specs.Prelude.{◌≡◌, ◌-◌, Bool, true, false}
use Rattle.std.specs.Prelude.{Some, None}
use Rattle.u1_base.specs.Places.{Place}
use Rattle.sync_stream.specs.declared.line.SyncDoc.{SyncDoc}
use Rattle.sync_stream.specs.declared.line.Line.TheVariants.{Head, Doc, End}
use Rattle.sync_stream.specs.declared.line.Next.{Next}
use Rattle.sync_stream.specs.declared.line.Next.TheVariants.{Opening, Heading, After, Closed}
use Rattle.sync_stream.specs.declared.line.Passed.{Passed}

-- what a line can say at its place
abbrev pub IsShape : Next → Passed → Type 0
IsShape Opening passed = passed ≡ record { line = None; place = Heading }
IsShape Heading passed = (head : Place) × (comma : Bool)
    × (passed ≡ record { line = Some (Head head); place = After comma })
IsShape (After true) passed = (doc : SyncDoc) × (comma : Bool)
    × (passed ≡ record { line = Some (Doc doc); place = After comma })
IsShape (After false) passed = passed ≡ record { line = Some End; place = Closed }
IsShape Closed passed = ⊥
