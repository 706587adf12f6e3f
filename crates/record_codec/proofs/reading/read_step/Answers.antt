-- The fields behind a kind are those of the step.
use Rattle.std.proofs.Common.{◌≡◌, Ok, subst, sym}
use Rattle.replica_state.specs.Steps.{step_of}
use Rattle.record_codec.specs.Bodies.{kind}
use Rattle.record_fields.specs.Reading.{Reads}
use Rattle.record_codec.specs.declared.kind.Kind.TheVariants as kind_of
use Rattle.record_codec.proofs.StepKinds.{step_by_kind}
use Rattle.record_codec.proofs.reading.read_step.Goals as goal

pub returns-in-Accept : goal.returns-in-Accept
returns-in-Accept c =
    let read = subst (λ k. kind.read c.args.reader.now ≡ Ok (k, c.read_kind.new.reader)) c.in-Accept.is
    c.in_ok-read_kind.ensures in
    subst (λ q. Reads step_of q c.accepted.result c.accepted.new.reader)
    (sym (step_by_kind c.args.format c.args.reader.now kind_of.Accept c.read_kind.new.reader read)) c.accepted.ensures

pub returns-in-Gone : goal.returns-in-Gone
returns-in-Gone c =
    let read = subst (λ k. kind.read c.args.reader.now ≡ Ok (k, c.read_kind.new.reader)) c.in-Gone.is
    c.in_ok-read_kind.ensures in
    subst (λ q. Reads step_of q c.gone.result c.gone.new.reader)
    (sym (step_by_kind c.args.format c.args.reader.now kind_of.Gone c.read_kind.new.reader read)) c.gone.ensures

pub returns-in-Position : goal.returns-in-Position
returns-in-Position c =
    let read = subst (λ k. kind.read c.args.reader.now ≡ Ok (k, c.read_kind.new.reader)) c.in-Position.is
    c.in_ok-read_kind.ensures in
    subst (λ q. Reads step_of q c.position.result c.position.new.reader)
    (sym (step_by_kind c.args.format c.args.reader.now kind_of.Position c.read_kind.new.reader read)) c.position.ensures

pub returns-in-IndexCreate : goal.returns-in-IndexCreate
returns-in-IndexCreate c =
    let read = subst (λ k. kind.read c.args.reader.now ≡ Ok (k, c.read_kind.new.reader)) c.in-IndexCreate.is
    c.in_ok-read_kind.ensures in
    subst (λ q. Reads step_of q c.index_created.result c.index_created.new.reader)
    (sym (step_by_kind c.args.format c.args.reader.now kind_of.IndexCreate c.read_kind.new.reader read))
    c.index_created.ensures

pub returns-in-IndexDelete : goal.returns-in-IndexDelete
returns-in-IndexDelete c =
    let read = subst (λ k. kind.read c.args.reader.now ≡ Ok (k, c.read_kind.new.reader)) c.in-IndexDelete.is
    c.in_ok-read_kind.ensures in
    subst (λ q. Reads step_of q c.index_deleted.result c.index_deleted.new.reader)
    (sym (step_by_kind c.args.format c.args.reader.now kind_of.IndexDelete c.read_kind.new.reader read))
    c.index_deleted.ensures
