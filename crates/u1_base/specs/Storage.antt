-- The text that a storage holds. Only private clauses speak of it.
use Rattle.std.specs.Prelude.{ℕ, List}
use Rattle.std.specs.Rc.{rc_str_bytes}
use Rattle.u1_base.specs.declared.text.Storage.{Storage}
use Rattle.u1_base.specs.declared.text.Storage.TheVariants.{Short, Medium, Large, Long}

-- the bytes of the text
abbrev pub bytes_of : Storage → List ℕ
bytes_of (Short text) = text
bytes_of (Medium text) = text.value
bytes_of (Large text) = text.value
bytes_of (Long text) = rc_str_bytes text
