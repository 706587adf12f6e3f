-- The definitions at worked logs.
use Rattle.std.proofs.Common.{◌≡◌, List, [], ◌∷◌, refl}
use Rattle.std.specs.Prelude.{codes, true, false, Some, None}
use Rattle.u1_base.specs.Places.{Place, nowhere}
use Rattle.translog.specs.declared.entry.Entry.{Entry}
use Rattle.translog.specs.Entries.{trans_at, changes_since, change_at}
use Rattle.translog.specs.Log.{end_of, fits_log}
use Rattle.translog.specs.Source.{passes}

d1-T1 : Entry
d1-T1 = record { doc = codes "d1"; trans = codes "T1" }

d2-T2 : Entry
d2-T2 = record { doc = codes "d2"; trans = codes "T2" }

d1-T3 : Entry
d1-T3 = record { doc = codes "d1"; trans = codes "T3" }

worked : List Entry
worked = d1-T1 ∷ d2-T2 ∷ d1-T3 ∷ []

-- d1 stands at its last entry, behind d2
all_changes : changes_since worked 0 ≡ change_at d2-T2 2 ∷ change_at d1-T3 3 ∷ []
unfolding worked d1-T1 d2-T2 d1-T3
all_changes = refl

later_changes : changes_since worked 2 ≡ change_at d1-T3 3 ∷ []
unfolding worked d1-T1 d2-T2 d1-T3
later_changes = refl

no_changes : changes_since worked 3 ≡ []
unfolding worked d1-T1 d2-T2 d1-T3
no_changes = refl

last_id : trans_at worked 3 ≡ Some (codes "T3")
unfolding worked d1-T1 d2-T2 d1-T3
last_id = refl

no_id : trans_at worked 0 ≡ None
no_id = refl

past_the_end : trans_at worked 4 ≡ None
unfolding worked d1-T1 d2-T2 d1-T3
past_the_end = refl

-- ---- places

at_2 : Place
at_2 = record { generation = 2; trans = Some (codes "T2") }

other_at_2 : Place
other_at_2 = record { generation = 2; trans = Some (codes "X") }

at_3 : Place
at_3 = record { generation = 3; trans = Some (codes "T3") }

end_of_worked : end_of worked ≡ at_3
unfolding worked d1-T1 d2-T2 d1-T3 at_3
end_of_worked = refl

end_of_nothing : end_of [] ≡ nowhere
end_of_nothing = refl

start_fits : fits_log [] nowhere ≡ true
start_fits = refl

middle_fits : fits_log worked at_2 ≡ true
unfolding worked d1-T1 d2-T2 d1-T3 at_2
middle_fits = refl

other_does_not_fit : fits_log worked other_at_2 ≡ false
unfolding worked d1-T1 d2-T2 d1-T3 other_at_2
other_does_not_fit = refl

past_does_not_fit : fits_log (d1-T1 ∷ d2-T2 ∷ []) at_3 ≡ false
unfolding d1-T1 d2-T2 at_3
past_does_not_fit = refl

later_passes : passes other_at_2 at_3 ≡ true
unfolding other_at_2 at_3
later_passes = refl

same_passes : passes at_2 at_2 ≡ true
unfolding at_2
same_passes = refl

other_is_refused : passes at_2 other_at_2 ≡ false
unfolding at_2 other_at_2
other_is_refused = refl

earlier_is_refused : passes at_3 at_2 ≡ false
unfolding at_3 at_2
earlier_is_refused = refl
