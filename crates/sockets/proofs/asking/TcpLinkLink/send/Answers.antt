-- All of the piece counts as sent.
use Rattle.std.proofs.Common.{rules, ◌≡◌, length, take}
use Rattle.std.proofs.lemmas.List.{take_all}
use Rattle.sockets.proofs.asking.TcpLinkLink.send.Goals as goal

pub returns-in-Err-clause-sends : goal.returns-in-Err-clause-sends
returns-in-Err-clause-sends g c =
    let all : take (length c.args.piece.now) c.args.piece.now ≡ c.args.piece.now = search (rules, take_all) in
    (length c.args.piece.now, search rules)
