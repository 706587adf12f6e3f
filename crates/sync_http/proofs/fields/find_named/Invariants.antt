use Rattle.std.proofs.Common.{map, take}
use Rattle.httparse.specs.Spans.{header_bytes}
use Rattle.sync_http.specs.Fields.{values_named}
use Rattle.sync_http.specs.inner.Occurrence.{AreFound}
use Rattle.sync_http.proofs.fields.find_named.Given as goal

abbrev pub invariant-loop-header : goal.invariant-loop-header
invariant-loop-header l = AreFound l.bytes
    (values_named l.name (map (header_bytes l.bytes) (take l.header-index l.headers))) l.found
