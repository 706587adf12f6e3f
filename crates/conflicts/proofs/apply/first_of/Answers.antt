-- Nothing is kept, and the acceptance is marked.
use Rattle.std.specs.Prelude.{◌∷◌, ◌++◌, [], List}
use Rattle.std.proofs.Common.{ap}
use Rattle.conflicts.specs.Document.{member_of}
use Rattle.conflicts.specs.Kept.{all_apart}
use Rattle.conflicts.specs.declared.member.Member.{Member}
use Rattle.conflicts.proofs.Applied.{first_ok, only_marked}
use Rattle.u1_base.proofs.Booleans.{not_both}
use Rattle.conflicts.proofs.apply.first_of.Goals as goal

pub accepted-requires-clause-there : goal.accepted-requires-clause-there
accepted-requires-clause-there c = λ off. absurd
    (not_both c.args.accept.current (only_marked c.args.accept c.requires) off)

pub accepted-requires-clause-apart : goal.accepted-requires-clause-apart
accepted-requires-clause-apart c =
    ap (λ (ms : List Member). all_apart (ms ++ member_of c.args.accept ∷ [])) c.in_ok-kept.ensures.items

pub returns : goal.returns
returns c =
    first_ok c.accepted.result c.args.accept c.in_ok-kept.kept.items c.requires c.in_ok-kept.ensures.items
    c.accepted.ensures.members c.accepted.ensures.place
