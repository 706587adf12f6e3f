-- The closed gate, or the next entry.
use Rattle.std.proofs.Common.{ap, refl, subst, take}
use Rattle.journal.specs.Image.{body_field}
use Rattle.journal.specs.Damage.{Begins}
use Rattle.journal.specs.inner.Fields.{NoBody}
use Rattle.journal.proofs.Passed.{meets_end, meets_none, meets_body, below_gate}
use Rattle.journal.proofs.passing.Stored.entry_at.Goals as goal

pub returns-then-place-entries-clause-meets : goal.returns-then-place-entries-clause-meets
returns-then-place-entries-clause-meets c =
    let s = c.self.inside in
    meets_end s.format s.header s.start s.end s.bytes c.self.invariant c.args.self.now c.self.view_is c.args.place _
    (ap (take s.end) c.as_slice.ensures)
    c.if-place-entries.true

pub returns-in_default-clause-meets : goal.returns-in_default-clause-meets
returns-in_default-clause-meets c =
    let s = c.self.inside in
    meets_none s.format s.header s.start s.end s.bytes c.self.invariant c.args.self.now c.self.view_is c.args.place _
    (ap (take s.end) c.as_slice.ensures)
    c.if-place-entries.false (subst NoBody c.behind.ensures c.in_default.ensures)

pub returns-clause-meets : goal.returns-clause-meets
returns-clause-meets c =
    let s = c.self.inside in
    meets_body s.format s.header s.start s.end s.bytes c.self.invariant c.args.self.now c.self.view_is c.args.place _
    (ap (take s.end) c.as_slice.ensures)
    c.in-Some.body.now _ c.if-place-entries.false c.in-Some.ensures.0
    (subst (Begins (body_field c.in-Some.body.now)) c.behind.ensures c.in-Some.ensures.1) refl

pub returns-clause-within : goal.returns-clause-within
returns-clause-within c =
    let s = c.self.inside in
    record {
      body = refl;
      next = refl;
      low = below_gate s.format s.header s.start s.end s.bytes c.self.invariant c.args.self.now c.self.view_is
          c.args.place _ (ap (take s.end) c.as_slice.ensures)
          c.in-Some.body.now c.if-place-entries.false
          (subst (Begins (body_field c.in-Some.body.now)) c.behind.ensures c.in-Some.ensures.1);
    }
