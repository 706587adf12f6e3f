-- Nothing was done yet, or both writes were.
use Rattle.std.proofs.Common.{◌≡◌, ◌∷◌, [], ◌++◌, ◌+◌, ◌-◌, ◌⊎◌, inl, length, ◌∙◌, ap, arith, length-append}
use Rattle.disk_model.proofs.Runs.{weaker}
use Rattle.disk_model.proofs.Syncs.{begun}
use Rattle.journal.specs.inner.Adding.{IsAdding}
use Rattle.journal.specs.Image.{ReadsAs, body_field, up_to_gate}
use Rattle.journal.specs.Journal.{Extent}
use Rattle.journal.proofs.Entries.{up_to_gate-push, length-entry}
use Rattle.journal.proofs.Appends.{is_adding, was_added}
use Rattle.journal.proofs.appending.Journal.append.Goals as goal

pub returns-then-need-limit-clause-any_moment : goal.returns-then-need-limit-clause-any_moment
returns-then-need-limit-clause-any_moment g c t format head bodies h =
    let known = g.D.Disk.known in let old = known c.args.disk.now in
    begun old old.seen (λ image. ReadsAs format head bodies image
    ⊎ ReadsAs format head (bodies ++ c.args.body.now ∷ []) image) h.durable (inl h.reads)

pub returns-in_default-clause-any_moment : goal.returns-in_default-clause-any_moment
returns-in_default-clause-any_moment g c t format head bodies h =
    let known = g.D.Disk.known in let old = known c.args.disk.now in
    begun old old.seen (λ image. ReadsAs format head bodies image
    ⊎ ReadsAs format head (bodies ++ c.args.body.now ∷ []) image) h.durable (inl h.reads)

pub returns-in-Ok-add_behind-clause-ok : goal.returns-in-Ok-add_behind-clause-ok
returns-in-Ok-add_behind-clause-ok g c t format head bodies h =
    let known = g.D.Disk.known in let old = known c.args.disk.now in let new = known c.add_behind.new.disk
    in let body = c.args.body.now in
    let whole : c.self.inside.length ≡ length (up_to_gate format head bodies) + 1 =
    ap (λ (j : Extent). j.length) c.self.view_is ∙ h.extent.all in
    let gate : length (up_to_gate format head bodies) ≡ c.self.inside.length - 1 = omega (arith, whole) in
    record {
      reads = was_added format head bodies body old.seen new.seen c.as_slice.result.now
          (c.self.inside.length - 1) h.reads (c.requires.some, c.requires.short) gate
          (c.as_slice.ensures ∙ c.in-Ok.ensures) (c.in-Ok-add_behind.ensures.written t);
      extent = record {
        all = omega (
          arith,
          whole,
          ap length (up_to_gate-push format head bodies body),
          length-append (up_to_gate format head bodies) (1 ∷ body_field body),
          length-entry body,
          c.self.invariant.1,
        );
        limit = ap (λ (j : Extent). j.limit) c.self.view_is ∙ h.extent.limit;
      };
      durable = c.in-Ok-add_behind.ensures.durable t;
    }

pub returns-in-Ok-add_behind-clause-any_moment : goal.returns-in-Ok-add_behind-clause-any_moment
returns-in-Ok-add_behind-clause-any_moment g c t format head bodies h =
    let known = g.D.Disk.known in let old = known c.args.disk.now in let new = known c.add_behind.new.disk
    in let body = c.args.body.now in
    let whole : c.self.inside.length ≡ length (up_to_gate format head bodies) + 1 =
    ap (λ (j : Extent). j.length) c.self.view_is ∙ h.extent.all in
    let gate : length (up_to_gate format head bodies) ≡ c.self.inside.length - 1 = omega (arith, whole) in
    weaker old new (IsAdding (c.self.inside.length - 1) c.as_slice.result.now old.seen)
    (λ image. ReadsAs format head bodies image ⊎ ReadsAs format head (bodies ++ body ∷ []) image)
    (c.in-Ok-add_behind.ensures.any_moment t h.durable)
    (is_adding format head bodies body old.seen c.as_slice.result.now (c.self.inside.length - 1) h.reads
    (c.requires.some, c.requires.short) gate (c.as_slice.ensures ∙ c.in-Ok.ensures))

pub returns-clause-any_moment : goal.returns-clause-any_moment
returns-clause-any_moment g c t format head bodies h =
    let known = g.D.Disk.known in let old = known c.args.disk.now in let new = known c.add_behind.new.disk
    in let body = c.args.body.now in
    let whole : c.self.inside.length ≡ length (up_to_gate format head bodies) + 1 =
    ap (λ (j : Extent). j.length) c.self.view_is ∙ h.extent.all in
    let gate : length (up_to_gate format head bodies) ≡ c.self.inside.length - 1 = omega (arith, whole) in
    weaker old new (IsAdding (c.self.inside.length - 1) c.as_slice.result.now old.seen)
    (λ image. ReadsAs format head bodies image ⊎ ReadsAs format head (bodies ++ body ∷ []) image)
    (c.add_behind.ensures.any_moment t h.durable)
    (is_adding format head bodies body old.seen c.as_slice.result.now (c.self.inside.length - 1) h.reads
    (c.requires.some, c.requires.short) gate (c.as_slice.ensures ∙ c.in-Ok.ensures))
