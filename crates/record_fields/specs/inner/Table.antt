-- Beside specs/Table: words of private contracts and of proofs.
use Rattle.std.specs.Prelude.{◌≤◌, ◌^◌}
use Rattle.std.specs.Prelude.{length}
use Rattle.record_fields.specs.Table.{Table, uids}

-- each number fits a reference
abbrev pub HasRoom : Table → Type 0
HasRoom t = length (uids t) ≤ 2 ^ 32
