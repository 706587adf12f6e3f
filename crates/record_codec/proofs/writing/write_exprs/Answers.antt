-- The expressions of an index are written as their texts.
use Rattle.std.proofs.Common.{◌≡◌, List, map, ap, ◌∙◌, sym, subst, OnOk}
use Rattle.expr_parser.specs.Canonical.{canonical}
use Rattle.expr_parser.specs.Forms.{Form}
use Rattle.expr_parser.specs.Reading.{AreExprs}
use Rattle.expr_parser.proofs.ReadBack.{exprs_of_texts}
use Rattle.record_fields.specs.Plain.{expressions}
use Rattle.record_fields.specs.Reading.{texts_of}
use Rattle.record_fields.specs.Writing.{with_field}
use Rattle.record_codec.proofs.writing.write_exprs.Goals as goal

pub expressions-requires : goal.expressions-requires
expressions-requires c =
    let x = c.args.value.now in
    let same : texts_of c.as_slice.result.now ≡ x.texts =
    ap (λ (fs : List Form). map canonical fs) c.as_slice.ensures.forms ∙ (exprs_of_texts x.texts x.spelled).1 in
    subst AreExprs (sym same) x.spelled

pub returns-clause-wrote : goal.returns-clause-wrote
returns-clause-wrote c =
    let x = c.args.value.now in
    let same : texts_of c.as_slice.result.now ≡ x.texts =
    ap (λ (fs : List Form). map canonical fs) c.as_slice.ensures.forms ∙ (exprs_of_texts x.texts x.spelled).1 in
    subst (λ ts. OnOk c.expressions.result (c.expressions.new.self ≡ with_field expressions ts c.args.writer.now)) same
    c.expressions.ensures

pub returns-clause-are : goal.returns-clause-are
returns-clause-are c = c.args.value.now.spelled
