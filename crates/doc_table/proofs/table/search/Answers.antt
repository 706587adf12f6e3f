-- The search stopped at the first entry that is not below the id.
use Rattle.std.proofs.Common.{rules, ◌≡◌, sym, ap, ◌∙◌, Some}
use Rattle.std.specs.Option.{option_copied}
use Rattle.std.specs.Prelude.{slice_get}
use Rattle.doc_table.proofs.Places.{stands, fits_before, fits_last}
use Rattle.doc_table.proofs.table.search.Goals as goal

pub returns-then-is_of : goal.returns-then-is_of
returns-then-is_of g c =
    let here : Some c.in-Some.entry.now ≡ slice_get c.args.entries.now.items c.find_near.result.0.place =
    sym (ap option_copied c.in-Some.is) ∙ c.find_near.ensures.item in
    stands c.args.entries.now.items c.args.id.now c.find_near.result.0.place c.in-Some.entry.now here
    (sym c.is_of.ensures ∙ c.if-is_of.true)

pub returns-else-is_of : goal.returns-else-is_of
returns-else-is_of g c =
    fits_before c.args.entries.now.items c.args.id.now c.find_near.result.0.place c.find_near.ensures.within
    (λ some d. let h = c.find_near.ensures.before some d in search rules)
    (λ less d. let h = c.find_near.ensures.after less d in search rules)
    c.in-Some.entry.now (sym (ap option_copied c.in-Some.is) ∙ c.find_near.ensures.item)
    (sym c.is_of.ensures ∙ c.if-is_of.false)

pub returns-in-None : goal.returns-in-None
returns-in-None g c =
    fits_last c.args.entries.now.items c.args.id.now c.find_near.result.0.place c.find_near.ensures.within
    (λ some d. let h = c.find_near.ensures.before some d in search rules)
    (λ less d. let h = c.find_near.ensures.after less d in search rules)
    (sym (ap option_copied c.in-None.is) ∙ c.find_near.ensures.item)
