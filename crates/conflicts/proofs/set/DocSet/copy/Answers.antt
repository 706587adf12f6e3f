-- A set of the same members with the same place is the same set.
use Rattle.std.proofs.Common.{◌≡◌, rules}
use Rattle.conflicts.specs.Kept.{same_kept}
use Rattle.conflicts.proofs.set.DocSet.copy.Goals as goal

pub returns : goal.returns
returns c =
    let members : c.push_copies.new.into.items ≡ c.args.self.now.members = search rules in
    same_kept _ c.args.self.now members (search rules)
