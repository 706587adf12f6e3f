-- A cut, and what takes it back.
use Rattle.std.proofs.Common.{◌≡◌, ℕ, List, ◌++◌, length, take, drop, ◌∙◌, ap, sym, subst, arith, length-drop}
use Rattle.std.proofs.lemmas.List.{take-append-drop, take_all}
use Rattle.disk_model.specs.Disk.{Cut}
use Rattle.disk_model.specs.Log.{now_of}
use Rattle.disk_model.specs.declared.calls.Call.TheVariants as call
use Rattle.disk_model.proofs.Images.{image_cut, cut_taken}
use Rattle.disk_model.proofs.Histories.{image-logged, now-logged, past-logged}
use Rattle.disk_model.proofs.calls.note_cut.Goals as goal

-- the cut that was noted, taken back
undone_is : (file new : List ℕ) (reach most : ℕ) (removed : List ℕ) → new ≡ take reach file
    → removed ≡ take most (drop reach file) → most ≡ length file
    → new ++ removed ≡ file
undone_is file new reach most removed e r m =
    ap (λ (l : List ℕ). l ++ removed) e
    ∙ ap (λ (l : List ℕ). take reach file ++ l)
    (r ∙ take_all most (drop reach file) (omega (arith, m, length-drop reach file)))
    ∙ take-append-drop reach file

pub returns-clause-sound : goal.returns-clause-sound
returns-clause-sound c i =
    let file = c.args.file.now.items in let new = c.truncate.new.self.items in let log = c.args.log.now.items in
    image-logged log c.push.new.self.items
    (call.Cut c.args.to c.in_ok-removed.removed) file new c.in_ok-push.ensures.items
    (undone_is file new c.args.reach c.len.result c.in_ok-removed.removed c.truncate.ensures.items
    c.in_ok-removed.ensures (c.len.ensures ∙ c.args.file.now.ok.0))
    (image_cut (now_of log file) c.args.to file new i
    (subst (Cut c.args.to file) (sym c.truncate.ensures.items) (cut_taken file c.args.to c.args.reach c.requires)))

pub returns-clause-now : goal.returns-clause-now
returns-clause-now c =
    let file = c.args.file.now.items in let new = c.truncate.new.self.items in
    now-logged c.args.log.now.items c.push.new.self.items
    (call.Cut c.args.to c.in_ok-removed.removed) file new c.in_ok-push.ensures.items
    (undone_is file new c.args.reach c.len.result c.in_ok-removed.removed c.truncate.ensures.items
    c.in_ok-removed.ensures (c.len.ensures ∙ c.args.file.now.ok.0))

pub returns-clause-past : goal.returns-clause-past
returns-clause-past c =
    let file = c.args.file.now.items in let new = c.truncate.new.self.items in
    past-logged c.args.log.now.items c.push.new.self.items
    (call.Cut c.args.to c.in_ok-removed.removed) file new c.in_ok-push.ensures.items
    (undone_is file new c.args.reach c.len.result c.in_ok-removed.removed c.truncate.ensures.items
    c.in_ok-removed.ensures (c.len.ensures ∙ c.args.file.now.ok.0))
