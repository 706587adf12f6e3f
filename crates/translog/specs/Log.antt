-- A log as contracts see it, the place at its end, and how a place stands to it.
use Rattle.std.specs.Prelude.{◌≡◌, ℕ, ◌≤◌, ◌⊎◌, Bool, ◌==◌, ◌||◌, ◌&&◌, min, nat_le, nat_eq, List, length}
use Rattle.std.specs.Option.{option_eq}
use Rattle.std.specs.Cmp.Lexicographic.{pointwise}
use Rattle.u1_base.specs.Places.{Place}
use Rattle.translog.specs.declared.entry.Entry.{Entry}
use Rattle.translog.specs.Entries.{trans_at}

-- the entries, oldest first, and how many more there is room for
pub record Log : Type 0 where
  pub entries : List Entry
  pub room : ℕ

-- the place after all entries
abbrev pub end_of : List Entry → Place
end_of es = record { generation = length es; trans = trans_at es (length es) }

-- a place is the one after all entries
pub record IsEnd (es : List Entry) (p : Place) : Type 0 where
  pub generation : p.generation ≡ length es
  pub trans : p.trans ≡ trans_at es (length es)

-- the log check: a place fits a log if it is the start, or if the log has its transaction id at its generation
abbrev pub FitsLog : List Entry → Place → Type 0
FitsLog es p = (p.generation ≡ 0) ⊎ ((p.generation ≤ length es) × (trans_at es p.generation ≡ p.trans))

-- the log check as a test
abbrev pub fits_log : List Entry → Place → Bool
fits_log es p =
    p.generation == 0
    || nat_le p.generation (length es) && option_eq (pointwise nat_eq) (trans_at es p.generation) p.trans

-- the place of a log in answer to one that does not fit it: its end, where that one lies behind the end, else the place
-- at the same generation
abbrev pub mine_of : List Entry → Place → Place
mine_of es at =
    let g = min at.generation (length es) in record { generation = g; trans = trans_at es g }
