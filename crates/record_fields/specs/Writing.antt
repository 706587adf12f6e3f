-- What a writer has written, one field after the other.
use Rattle.std.specs.Prelude.{ℕ, List, [], ◌++◌}
use Rattle.record_fields.specs.Table.{Text, Table, table_with, after}
use Rattle.record_fields.specs.Fields.{Field}

-- the bytes so far, and the uids that have numbers after them
pub record Written : Type 0 where
  pub table : Table
  pub bytes : List ℕ

-- nothing, where these uids have numbers
abbrev pub unwritten : List Text → Written
unwritten us = record { table = table_with us; bytes = [] }

-- with one field more
unfoldable pub with_field : {A : Type 0} → Field A → A → Written → Written
with_field f x w = record { table = after w.table (f.named x); bytes = w.bytes ++ f.spelled w.table x }
