-- One more field.
use Rattle.std.proofs.Common.{sym, ◌∙◌, subst, length, get_or, rules}
use Rattle.httparse.specs.declared.spans.HeaderSpan.{HeaderSpan}
use Rattle.httparse.specs.Spans.{IsHeaderWithin}
use Rattle.sync_http.specs.inner.Occurrence.{AreFound}
use Rattle.sync_http.proofs.Naming.{found_named, found_other, so_far}
use Rattle.sync_http.proofs.fields.find_named.Goals as goal
use Rattle.sync_http.proofs.fields.find_named.Goals.{then-is_named, else-is_named}

-- the span that a list without a header has
abbrev none : HeaderSpan
none = record { name = record { start = 0; end = 0 }; value = record { start = 0; end = 0 } }

pub loop-header-preserved : goal.loop-header-preserved
loop-header-preserved c = elim c.if-is_named.branch [
  | then-is_named w ↦
      let within : IsHeaderWithin (length c.args.bytes.now)
      (get_or c.args.headers.now c.loop-header.header-index none) = search rules in
      subst (AreFound c.args.bytes.now (so_far c.args.bytes.now c.args.name.now c.args.headers.now _))
      (sym (w.found-is ∙ w.one_more-found.ensures))
      (found_named c.args.bytes.now c.args.name.now c.args.headers.now c.loop-header.header-index _ c.loop-header.found
      c.loop-header-test.true within.1 (sym w.if-is_named.ensures) c.loop-header.invariant)
  | else-is_named w ↦
      subst (AreFound c.args.bytes.now (so_far c.args.bytes.now c.args.name.now c.args.headers.now _)) (sym w.found-is)
      (found_other c.args.bytes.now c.args.name.now c.args.headers.now c.loop-header.header-index _ c.loop-header.found
      c.loop-header-test.true (sym w.if-is_named.ensures) c.loop-header.invariant)
]
