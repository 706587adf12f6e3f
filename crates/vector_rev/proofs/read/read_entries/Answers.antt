-- Each turn reads the next part of the text.
use Rattle.std.proofs.Common.{length, lit<}
use Rattle.std.proofs.lemmas.Iterator.Consumers.{YieldsList-turn, YieldsList-end}
use Rattle.std.proofs.lemmas.Iterator.Splits.{YieldsList-from_str_split}
use Rattle.std.proofs.lemmas.List.{length_push}
use Rattle.vector_rev.specs.ClockText.{parts_of}
use Rattle.vector_rev.proofs.Reading.{reads_some, reads_none, read_more, read_bad, read_all}
use Rattle.vector_rev.proofs.read.read_entries.Goals as goal

pub loop-part-preserved : goal.loop-part-preserved
loop-part-preserved c =
    let turn = YieldsList-turn (YieldsList-from_str_split 124 c.args.text.now (lit< tt) (cc) (cc) (cc))
    c.loop-part.yielded _ c.loop-part.yielded_by _ _ c.in-Some.part c.in-Some.is c.next.ensures.steps in
    let entry = reads_some c.in-Some.part.now c.in_ok-entry.field-0 c.in-Some-2.entry c.in-Some-2.is
    c.in_ok-entry.ensures in
    read_more (parts_of c.args.text.now)
    (length c.loop-part.yielded) _ c.loop-part.entries c.push.new.self c.in-Some.part.now c.in-Some-2.entry
    c.loop-part.invariant turn.0 turn.1 entry.0 entry.1 c.in_ok-push-in-Some-2.ensures.ok
    (length_push c.loop-part.yielded c.in-Some.part)

pub returns-in-None-2 : goal.returns-in-None-2
returns-in-None-2 c =
    let turn = YieldsList-turn (YieldsList-from_str_split 124 c.args.text.now (lit< tt) (cc) (cc) (cc))
    c.loop-part.yielded _ c.loop-part.yielded_by _ _ c.in-Some.part c.in-Some.is c.next.ensures.steps in
    read_bad (parts_of c.args.text.now) (length c.loop-part.yielded) c.len.result c.loop-part.entries c.in-Some.part.now
    c.loop-part.invariant turn.0 turn.1
    (reads_none c.in-Some.part.now c.in_ok-entry.field-0 c.in-None-2.is c.in_ok-entry.ensures) c.len.ensures

pub returns : goal.returns
returns c =
    let all = YieldsList-end (YieldsList-from_str_split 124 c.args.text.now (lit< tt) (cc) (cc) (cc))
    c.loop-part.yielded _ c.loop-part.yielded_by _ _ c.in-None.is c.next.ensures.steps in
    read_all (parts_of c.args.text.now) (length c.loop-part.yielded) c.loop-part.entries c.loop-part.invariant all.1
