-- There is a moment before each call.
use Rattle.std.proofs.Common.{◌≡◌, ◌+◌, ℕ, ◌<◌, ⊎_elim, List, get_or, length, ◌∙◌, ap, subst, arith}
use Rattle.std.specs.Result.{IfOk}
use Rattle.std.proofs.lemmas.List.{get_or_default}
use Rattle.disk_model.specs.Disk.{settled}
use Rattle.disk_model.specs.Log.{before}
use Rattle.disk_model.proofs.Histories.{length-moments}
use Rattle.disk_model.specs.Losses.{begun}
use Rattle.disk_model.specs.MemDisk.{mem_left_after}
use Rattle.disk_model.specs.declared.calls.Call.{Call}
use Rattle.disk_model.specs.declared.calls.Call.TheVariants.{Look}
use Rattle.disk_model.proofs.memory.MemDisk.crash_image.Goals as goal

-- the moment that a call of this kind and number asks about
moment_is : (log : List Call) (k m : ℕ) (c : Call) → k < length log → c ≡ get_or log k c → m ≡ k + begun c
    → m ≡ k + begun (get_or log k Look)
moment_is log k m c h found e = e ∙ ap (λ (x : Call). k + begun x) (found ∙ get_or_default log k c Look h)

pub index-requires : goal.index-requires
index-requires c =
    let log = c.args.self.now.log.items in let bytes = c.args.self.now.bytes.items in
    omega (arith, c.requires, length-moments (settled (before log bytes)) log bytes, c.args.self.now.log.ok.0)

pub overflow_add-place : goal.overflow_add-place
overflow_add-place c =
    let log = c.args.self.now.log.items in let bytes = c.args.self.now.bytes.items in
    let h = c.args.self.now.log.small
    in omega (arith, c.requires, length-moments (settled (before log bytes)) log bytes, c.args.self.now.log.ok.0, h)

pub returns-in-Look-clause-by_choice : goal.returns-in-Look-clause-by_choice
returns-in-Look-clause-by_choice c =
    let log = c.args.self.now.log.items in let bytes = c.args.self.now.bytes.items in
    let inside : c.args.call < length log =
    omega (arith, c.requires, length-moments (settled (before log bytes)) log bytes) in
    let none : begun c.index.result.now ≡ 0 = ⊎_elim (λ e. ap begun e) (λ e. ap begun e) c.in-Look.is in
    let here : c.args.call ≡ c.args.call + begun c.index.result.now = omega (arith, none) in
    subst (λ (n : ℕ). IfOk c.image.result (λ image. image ≡ mem_left_after c.args.self.now n c.args.choice))
    (moment_is log c.args.call c.args.call c.index.result.now inside c.index.ensures here) c.image.ensures.by_choice

pub returns-in-Write-clause-by_choice : goal.returns-in-Write-clause-by_choice
returns-in-Write-clause-by_choice c =
    let log = c.args.self.now.log.items in let bytes = c.args.self.now.bytes.items in
    let inside : c.args.call < length log =
    omega (arith, c.requires, length-moments (settled (before log bytes)) log bytes) in
    let one : begun c.index.result.now ≡ 1 = ⊎_elim (λ w. ap begun w.4) (λ w. ap begun w.2) c.in-Write.is in
    let next : c.args.call + 1 ≡ c.args.call + begun c.index.result.now = omega (arith, one) in
    subst (λ (n : ℕ). IfOk c.image-in-Write.result (λ image. image ≡ mem_left_after c.args.self.now n c.args.choice))
    (moment_is log c.args.call (c.args.call + 1) c.index.result.now inside c.index.ensures next)
    c.image-in-Write.ensures.by_choice
