use Rattle.std.proofs.Common.{arith}
use Rattle.std.proofs.lemmas.Grind.{common_steps}
use Rattle.expr_parser.specs.FormOf.{form_of}
use Rattle.expr_parser.specs.Canonical.{canonical}
use Rattle.std.specs.Str.{bytes_eq}
use Rattle.std.proofs.Common.{◌≡◌, true}
use Rattle.record_fields.proofs.Texts.{canonical_expression}
use Rattle.record_fields.proofs.read.if_spelled.Goals as goal

pub returns-then-eq : goal.returns-then-eq
returns-then-eq c =
    let same : bytes_eq (canonical (form_of c.args.expr)) c.args.bytes.now ≡ true = grind (arith, common_steps) in
    (canonical_expression c.args.bytes.now (form_of c.args.expr) c.requires.read same, c.requires.expr)
