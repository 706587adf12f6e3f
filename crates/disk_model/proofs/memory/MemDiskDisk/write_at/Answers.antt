-- A write that is to fail puts a part of its bytes.
use Rattle.std.proofs.Common.{rules, ◌≡◌, ℕ, ◌+◌, ◌≤◌, List, [], ◌∷◌, ◌++◌, length, take, sym, ◌∙◌, ap, subst}
use Rattle.std.proofs.Common.{length-append, length-take, IsOk, Result, Ok, Err, OnOk, OnErr}
use Rattle.disk_model.specs.Disk.{Torn, overwritten}
use Rattle.disk_model.specs.Device.{Moment, moment, alone}
use Rattle.disk_model.specs.MemDisk.{mem_known}
use Rattle.disk_model.specs.declared.memory.MemDisk.{MemDisk}
use Rattle.disk_model.proofs.Images.{torn_same, torn_written}
use Rattle.disk_model.proofs.memory.MemDiskDisk.write_at.Goals as goal

-- a part of the bytes was put, or none where the call was not noted
torn_part : {T E : Type 0} (noted : Result T E) (old new : List ℕ) (at n : ℕ) (piece : List ℕ)
    → OnOk noted (new ≡ overwritten old at piece) → OnErr noted (new ≡ old) → length piece ≤ n → Torn at n old new
torn_part (Ok x) old new at n piece put same part = subst (Torn at n old) (sym put) (torn_written old at piece n part)
torn_part (Err e) old new at n piece put same part = subst (Torn at n old) (sym same) (torn_same at n old)

on_err : {T E : Type 0} (result : Result T E) (P : Type 0) → P → OnErr result P
on_err (Ok x) P p = tt
on_err (Err e) P p = p

-- a call that was noted has one moment more
one_more : {T E U F : Type 0} (result : Result T E) (noted : Result U F) (old new : List Moment) (m : Moment)
    → OnOk result (IsOk noted) → OnOk noted (new ≡ old ++ m ∷ []) → OnOk result (length new ≡ length old + 1)
one_more (Err e) noted old new m ok added = tt
one_more (Ok x) (Ok y) old new m ok added = ap length added ∙ length-append old (m ∷ [])
one_more (Ok x) (Err e) old new m ok added = absurd (cc ok)

pub returns-clause-torn : goal.returns-clause-torn
returns-clause-torn c =
    let old = c.args.self.now.bytes.items in let n = length c.args.bytes.now in
    on_err c.answer.result _
    (subst (Torn c.args.at n old) (sym (ap (λ (d : MemDisk). d.bytes.items) c.answer.ensures.same))
    (torn_part c.note_write-noted.result old c.note_write-noted.new.file.items c.args.at n
    (take c.if-fails.put c.args.bytes.now)
    (search rules) (search rules) (simp length-take (search rules))))

pub returns-clause-as_told : goal.returns-clause-as_told
returns-clause-as_told c =
    record {
      told = λ told. c.answer.ensures.told (c.begin-fails.ensures.told.1 told);
      only = search rules;
      noted =
          let old = mem_known c.args.self.now in
          one_more c.answer.result c.note_write-noted.result old.past (mem_known c.answer.new.self).past
          (moment old.now alone) c.answer.ensures.ok (search rules);
      quiet = search rules;
      counted = search rules;
      same = search rules;
    }
