-- A member that the revision is apart from is alike or not by its content.
use Rattle.conflicts.proofs.Walks.{look_apart}
use Rattle.conflicts.proofs.merges.look_beside.Goals as goal

pub returns : goal.returns
returns c =
    look_apart c.args.incoming.now c.args.own.now c.args.member.now _ _ c.same_contents-alike.result
    c.requires.not_newer c.requires.not_older
    c.same_contents-alike.ensures c.in_ok-note.ensures.parents c.in_ok-note.ensures.leads c.in_ok-note.ensures.most
