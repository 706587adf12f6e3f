-- What is left of the object, read behind the members so far, is what was there, and these members say the fields.
use Rattle.std.proofs.Common.{◌≡◌, ℕ, ◌≤◌, length}
use Rattle.json.specs.Json.{members, value}
use Rattle.serde_json.specs.Data.{Members, no_members, object}
use Rattle.serde_json.specs.Read.{converted, of_members}
use Rattle.sync_stream.specs.inner.Fields.{sayings_of, told_of}
use Rattle.sync_stream.proofs.fields.member_fields.Given as goal

abbrev pub invariant-members : goal.invariant-members
invariant-members l =
    (found : Members) × (n : ℕ) × (length l.reader ≤ n)
    × (converted (λ ms. of_members ms no_members) (members (value 126) (length l.initial.reader) l.initial.reader)
    ≡ converted (λ ms. of_members ms found) (members (value 126) n l.reader))
    × (told_of l.fields ≡ sayings_of (object found))

abbrev pub decreases-members : goal.decreases-members
decreases-members l = length l.reader
