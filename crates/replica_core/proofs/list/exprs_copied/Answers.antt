-- The copies have the same forms, so they are expressions of the same texts.
use Rattle.std.proofs.Common.{◌∙◌, ap, arith, length, List, map, subst, sym}
use Rattle.std.proofs.lemmas.List.{length-map}
use Rattle.std.specs.List.{All}
use Rattle.expr_parser.specs.Canonical.{canonical}
use Rattle.expr_parser.specs.FormOf.{form_of}
use Rattle.expr_parser.specs.Forms.{Form}
use Rattle.expr_parser.specs.Reading.{IsExpr}
use Rattle.replica_core.proofs.list.exprs_copied.Goals as goal

pub of-requires-clause-read : goal.of-requires-clause-read
of-requires-clause-read c =
    subst (λ (fs : List Form). All IsExpr fs) (sym (c.in_ok-copies.ensures ∙ c.as_slice.ensures.forms))
    (c.law_index_texts.ensures.forms c.args.exprs.now.texts c.args.exprs.now.spelled).0

pub of-requires-clause-some : goal.of-requires-clause-some
of-requires-clause-some c =
    omega (
      arith,
      length-map c.in_ok-copies.copies form_of,
      ap (λ (fs : List Form). length fs) c.in_ok-copies.ensures,
      length-map c.as_slice.result.now form_of,
      c.as_slice.ensures.some,
    )

pub of-requires-clause-few : goal.of-requires-clause-few
of-requires-clause-few c =
    omega (
      arith,
      length-map c.in_ok-copies.copies form_of,
      ap (λ (fs : List Form). length fs) c.in_ok-copies.ensures,
      length-map c.as_slice.result.now form_of,
      c.as_slice.ensures.few,
    )

pub returns : goal.returns
returns c =
    c.of.ensures ∙ ap (λ (fs : List Form). map canonical fs) (c.in_ok-copies.ensures ∙ c.as_slice.ensures.forms)
    ∙ (c.law_index_texts.ensures.forms c.args.exprs.now.texts c.args.exprs.now.spelled).1
