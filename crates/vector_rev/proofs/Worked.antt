-- The definitions at worked clocks.
use Rattle.std.proofs.Common.{◌≡◌, ◌≢◌, ℕ, true, false, List, [], ◌∷◌, Some, None, refl, arith}
use Rattle.std.specs.Prelude.{codes}
use Rattle.std.specs.Fmt.{digits}
use Rattle.vector_rev.specs.Counts.{raised, join}
use Rattle.vector_rev.specs.Clock.{Clock, count_of}
use Rattle.vector_rev.specs.Compare.{order_of}
use Rattle.vector_rev.specs.Made.{occurring}
use Rattle.vector_rev.specs.ClockText.{clock_text, clock_in, is_entry_text, IsTextFault}
use Rattle.vector_rev.specs.declared.compare.Order.TheVariants as answer
use Rattle.vector_rev.specs.declared.read.ClockFault.TheVariants as fault

-- a:1
a1 : Clock
a1 = record { entries = (codes "a", 1) ∷ []; well = tt }

-- a:1|b:2
a1b2 : Clock
a1b2 = record { entries = (codes "a", 1) ∷ (codes "b", 2) ∷ []; well = tt }

a2 : Clock
a2 = record { entries = (codes "a", 2) ∷ []; well = tt }

b1 : Clock
b1 = record { entries = (codes "b", 1) ∷ []; well = tt }

reads_a1b2 : clock_in (codes "a:1|b:2") ≡ Some a1b2
unfolding a1b2
reads_a1b2 = refl

reads_none : clock_in (codes "b:2|a:1") ≡ None
reads_none = refl

text_a1b2 : clock_text a1b2 ≡ codes "a:1|b:2"
unfolding a1b2 digits
text_a1b2 = refl

count_a : count_of a1b2 (codes "b") ≡ 2
unfolding a1b2
count_a = refl

count_missing : count_of a1b2 (codes "c") ≡ 0
unfolding a1b2
count_missing = refl

newer : order_of a1b2 a1 ≡ answer.Newer
unfolding a1b2 a1
newer = refl

older : order_of a1 a1b2 ≡ answer.Older
unfolding a1b2 a1
older = refl

apart : order_of a2 b1 ≡ answer.Apart
unfolding a2 b1
apart = refl

equal : order_of a2 a2 ≡ answer.Equal
unfolding a2
equal = refl

-- a:2 joined with b:1 is a:2|b:1, and raised for b a:2|b:2
joined : join a2.entries b1.entries ≡ (codes "a", 2) ∷ (codes "b", 1) ∷ []
unfolding a2 b1
joined = refl

raised_joined : raised (join a2.entries b1.entries) (codes "b") ≡ (codes "a", 2) ∷ (codes "b", 2) ∷ []
unfolding a2 b1
raised_joined = refl

two_occur : occurring a1b2 a2 ≡ 2
unfolding a1b2 a2
two_occur = refl

good : is_entry_text (codes "a:1") ≡ true
good = refl

greatest : is_entry_text (codes "a:9223372036854775807") ≡ true
greatest = refl

too_great : is_entry_text (codes "a:9223372036854775808") ≡ false
too_great = refl

zero_counter : is_entry_text (codes "a:0") ≡ false
zero_counter = refl

leading_zero : is_entry_text (codes "a:01") ≡ false
leading_zero = refl

no_uid : is_entry_text (codes ":1") ≡ false
no_uid = refl

no_counter : is_entry_text (codes "a:") ≡ false
no_counter = refl

no_colon : is_entry_text (codes "a") ≡ false
no_colon = refl

two_colons : is_entry_text (codes "a:1:1") ≡ false
two_colons = refl

not_empty : (x : ℕ) (xs : List ℕ) → x ∷ xs ≢ []
not_empty x xs e = absurd (cc)

-- b:2|a:1
unsorted : IsTextFault (codes "b:2|a:1") (fault.NotSorted 1)
unsorted = (not_empty _ _, omega arith, refl, record { there = omega arith; before = refl; unsorted = refl })

-- a:1|a:1
twice : IsTextFault (codes "a:1|a:1") (fault.NotSorted 1)
twice = (not_empty _ _, omega arith, refl, record { there = omega arith; before = refl; unsorted = refl })

-- a:0
bad_first : IsTextFault (codes "a:0") (fault.BadEntry 0)
bad_first = (not_empty _ _, omega arith, refl)

-- a:1|b:01
bad_second : IsTextFault (codes "a:1|b:01") (fault.BadEntry 1)
bad_second = (not_empty _ _, omega arith, refl)

empty : IsTextFault [] fault.Empty
empty = refl
