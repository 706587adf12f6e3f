-- A vector clock (Fidge, Mattern), as the revision of a document: how it compares with another by counters.
use Rattle.std.specs.Prelude.{◌≡◌, ◌≢◌, ℕ, ◌≤◌, Bool, true, false, not, ◌&&◌, T, nat_le, length, refl, Option, Some}
use Rattle.std.specs.Prelude.{None}
use Rattle.std.specs.List.{list_all}
use Rattle.std.specs.FinMap.Entries.{is_sorted}
use Rattle.std.proofs.lemmas.Float.{T_from_true}
use Rattle.u1_base.specs.Ids.{is_id, id_cmp}
use Rattle.u1_base.specs.declared.ids.Form.TheVariants.{Replica}
use Rattle.u1_base.specs.declared.limits.TheConstants.{GREATEST_COUNT, MOST_CLOCK_ENTRIES}
use Rattle.vector_rev.specs.Counts.{Uid, Entries, count_in}

-- a replica uid with a counter from 1 to 2^63-1
abbrev pub is_entry : Uid × ℕ → Bool
is_entry e = is_id Replica e.0 && nat_le 1 e.1 && nat_le e.1 GREATEST_COUNT

-- 1 to 64 entries
abbrev pub is_limited : Entries → Bool
is_limited es = list_all is_entry es && nat_le 1 (length es) && nat_le (length es) MOST_CLOCK_ENTRIES

-- the uids rise strictly, and the limits are kept
abbrev pub is_clock : Entries → Bool
is_clock es = is_sorted id_cmp es && is_limited es

-- a vector clock: its entries in the order of their uids, which pass the test
pub record Clock : Type 0 where
  pub entries : Entries
  pub well : T (is_clock entries)

-- the counter of a uid, 0 where it has no entry
abbrev pub count_of : Clock → Uid → ℕ
count_of x u = count_in x.entries u

-- the clock of entries that were tested
abbrev pub clock_if : (es : Entries) (b : Bool) → is_clock es ≡ b → Option Clock
clock_if es true kept = Some (record { entries = es; well = T_from_true _ kept })
clock_if es false kept = None

-- the clock of these entries, if they are those of one
abbrev pub clock_of : Entries → Option Clock
clock_of es = clock_if es (is_clock es) refl

-- ---- how two clocks compare

-- no counter of y is greater than that of x
abbrev pub Covers : Clock → Clock → Type 0
Covers x y = (u : Uid) → count_of y u ≤ count_of x u

-- x is newer than y: it covers y and is another clock
abbrev pub Dominates : Clock → Clock → Type 0
Dominates x y = Covers x y × (x ≢ y)

-- the tests of the two
abbrev pub covers_entries : Entries → Entries → Bool
covers_entries xs ys = list_all (λ e. nat_le e.1 (count_in xs e.0)) ys

abbrev pub covers : Clock → Clock → Bool
covers x y = covers_entries x.entries y.entries

abbrev pub dominates : Clock → Clock → Bool
dominates x y = covers x y && not (covers y x)
