-- The bytes of the body, by their reader.
use Rattle.sync_http.specs.Bodies.{info_in}
use Rattle.sync_session.proofs.Replies.{no_body, read_body}
use Rattle.sync_session.proofs.asking.info_by.Goals as goal

pub returns-in-Ok-clause-asks : goal.returns-in-Ok-clause-asks
returns-in-Ok-clause-asks g c =
    let heard = c.in-Ok.ensures.heard in
    (heard.0, heard.1, read_body info_in heard.0 c.in-Ok.body c.info_of.result heard.2 c.info_of.ensures.comes)

pub returns-in-Err-clause-asks : goal.returns-in-Err-clause-asks
returns-in-Err-clause-asks g c =
    let heard = c.in-Err.ensures.heard in (heard.0, heard.1, no_body info_in heard.0 c.in-Err.fault heard.2)
