-- What stands before the rest is the number that is read.
use Rattle.std.proofs.Common.{◌≡◌, ◌∙◌, ap, sym, subst, arith}
use Rattle.std.proofs.lemmas.Int.{to_z-of_z}
use Rattle.std.specs.Int.{w64}
use Rattle.content.specs.inner.Fronts.{IsBefore}
use Rattle.content.specs.Tree.{whole}
use Rattle.content.specs.TreeOf.{tree_of}
use Rattle.content.proofs.MadeTrees.{number_made}
use Rattle.content.proofs.made.made_number.Goals as goal

pub returns-in-Some-clause-value : goal.returns-in-Some-clause-value
returns-in-Some-clause-value c =
    let bytes = c.args.bytes.now in
    let rest = c.args.rest.now in
    let number = c.in-Some.number in
    let before : IsBefore 0 bytes (whole number) rest =
    number_made bytes rest c.in-Ok.text.now number c.requires (grind arith) c.in-Some.ensures in
    let made : tree_of c.json_of.result ≡ whole number = c.json_of.ensures.tree
    ∙ ap whole (to_z-of_z w64 number before.0) in
    subst (λ t. IsBefore 0 bytes t rest) (sym made) before
