use Rattle.std.proofs.Common.{rules, ◌≡◌, ◌∙◌, Ok, sym, ap, ap₂}
use Rattle.cli_words.specs.Operands.{document, revision, with_two}
use Rattle.cli_words.specs.Word.{word_at}
use Rattle.cli_words.specs.Words.{told}
use Rattle.cli_words.specs.declared.command.Command.TheVariants as to
use Rattle.cli_words.specs.declared.command.Edit.TheVariants as edit
use Rattle.cli_words.proofs.documents.delete.Goals as goal

pub returns : goal.returns
returns c =
    let id_is : document (word_at c.args.operands.now 0) ≡ Ok c.in_ok-id-2.id = search rules in
    let rev_is : revision (word_at c.args.operands.now 1) ≡ Ok c.in_ok-rev.rev =
    ap revision (sym c.operand-2.ensures) ∙ sym c.in_ok-revision.ensures ∙ c.in_ok-rev.was in
    ap₂ (λ id rev. told (with_two (λ i r. to.Edit (edit.Delete i r)) id rev)) id_is rev_is
