-- The uid gets the next number.
use Rattle.std.proofs.Common.{◌≡◌, ℕ, List, ◌++◌, ◌∷◌, [], length, ap, ◌∙◌, arith}
use Rattle.std.specs.Int.{w32}
use Rattle.u1_base.specs.declared.ids.Form.TheVariants.{Replica}
use Rattle.record_fields.specs.Plain.{id, number}
use Rattle.record_fields.specs.Table.{uids}
use Rattle.record_fields.specs.Writing.{with_field}
use Rattle.record_fields.proofs.Tables.{length_both}
use Rattle.record_fields.proofs.Writings.{written, reference_new}
use Rattle.record_fields.proofs.writer.Writer.introduce.Goals as goal

pub returns : goal.returns
returns c =
    let w = c.args.self.now in
    let u = c.args.value.now in
    let v = written (record { given = c.self-2.inside.uids.now.uids; added = c.self-2.inside.added })
    c.self-2.inside.out in
    let next : c.in_ok-next.next ≡ length (uids w.table) = grind (arith, length_both) in
    let wrote : v ≡ with_field (id Replica) u (with_field (number w32) c.in_ok-next.next w) = c.self-2.view_is
    ∙ c.in_ok-id.ensures.wrote ∙ ap (with_field (id Replica) u) c.in_ok-number.ensures in
    let more : c.push.new.self ≡ c.self-2.inside.added ++ u ∷ [] = c.in_ok-push.ensures.ok
    ∙ ap (λ (x : List ℕ). c.self-2.inside.added ++ x ∷ []) c.in_ok-copy.ensures in
    reference_new w v u c.in_ok-next.next c.push.new.self c.requires next wrote more
