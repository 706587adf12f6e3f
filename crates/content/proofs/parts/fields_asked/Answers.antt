-- Just those are kept whose names are among these.
use Rattle.std.proofs.Common.{rules}
use Rattle.std.proofs.lemmas.Fn.{filter_same}
use Rattle.content.specs.Parts.{is_among}
use Rattle.content.proofs.parts.fields_asked.Goals as goal

pub returns : goal.returns
returns c = filter_same _ (λ f. is_among c.args.names.now f.name) _ (λ x b f' k. search rules) _ _ c.retain.ensures.filtered
