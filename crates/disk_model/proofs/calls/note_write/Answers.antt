-- A write, and what takes it back.
use Rattle.std.proofs.Common.{◌≡◌, ℕ, ◌≤◌, List, length, take, drop, ◌∙◌, ap, sym, subst}
use Rattle.disk_model.specs.Disk.{overwritten, Torn}
use Rattle.disk_model.specs.Log.{now_of}
use Rattle.disk_model.specs.declared.calls.Call.TheVariants.{Write}
use Rattle.disk_model.proofs.Images.{image_torn, torn_written, write_undone}
use Rattle.disk_model.proofs.Histories.{image-logged, now-logged, past-logged}
use Rattle.disk_model.proofs.calls.note_write.Goals as goal

-- the write that was noted, taken back
undone_is : (file new : List ℕ) (at : ℕ) (piece replaced : List ℕ) (former : ℕ) → at ≤ length file
    → new ≡ overwritten file at piece → replaced ≡ take (length piece) (drop at file) → former ≡ length file
    → take former (overwritten new at replaced) ≡ file
undone_is file new at piece replaced former h e r f =
    ap (λ (n : ℕ). take n (overwritten new at replaced)) f
    ∙ ap (λ (l : List ℕ). take (length file) (overwritten new at l)) r
    ∙ ap (λ (l : List ℕ). take (length file) (overwritten l at (take (length piece) (drop at file)))) e
    ∙ write_undone file at piece h

pub returns-in-Ok-clause-sound : goal.returns-in-Ok-clause-sound
returns-in-Ok-clause-sound c i =
    let file = c.args.file.now.items in let new = c.put.new.file.items in let log = c.args.log.now.items in
    image-logged log c.push.new.self.items
    (Write c.args.at c.args.size c.in_ok-replaced.replaced c.len.result) file new c.in_ok-push.ensures.items
    (undone_is file new c.args.at c.args.piece.now c.in_ok-replaced.replaced c.len.result c.requires.place
    c.in-Ok.ensures.ok c.in_ok-replaced.ensures (c.len.ensures ∙ c.args.file.now.ok.0))
    (image_torn (now_of log file) c.args.at c.args.size file new i
    (subst (Torn c.args.at c.args.size file) (sym c.in-Ok.ensures.ok)
    (torn_written file c.args.at c.args.piece.now c.args.size c.requires.part)))

pub returns-in-Ok-clause-now : goal.returns-in-Ok-clause-now
returns-in-Ok-clause-now c =
    let file = c.args.file.now.items in let new = c.put.new.file.items in
    now-logged c.args.log.now.items c.push.new.self.items
    (Write c.args.at c.args.size c.in_ok-replaced.replaced c.len.result) file new c.in_ok-push.ensures.items
    (undone_is file new c.args.at c.args.piece.now c.in_ok-replaced.replaced c.len.result c.requires.place
    c.in-Ok.ensures.ok c.in_ok-replaced.ensures (c.len.ensures ∙ c.args.file.now.ok.0))

pub returns-in-Ok-clause-past : goal.returns-in-Ok-clause-past
returns-in-Ok-clause-past c =
    let file = c.args.file.now.items in let new = c.put.new.file.items in
    past-logged c.args.log.now.items c.push.new.self.items
    (Write c.args.at c.args.size c.in_ok-replaced.replaced c.len.result) file new c.in_ok-push.ensures.items
    (undone_is file new c.args.at c.args.piece.now c.in_ok-replaced.replaced c.len.result c.requires.place
    c.in-Ok.ensures.ok c.in_ok-replaced.ensures (c.len.ensures ∙ c.args.file.now.ok.0))
