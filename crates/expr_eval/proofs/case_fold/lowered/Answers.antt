-- The lanes give the folding of ASCII, which is a text again.
use Rattle.std.proofs.Common.{◌≡◌, ◌∙◌, sym, ap}
use Rattle.std.proofs.lemmas.Bool.{false≢true}
use Rattle.std.specs.Str.{str_to_ascii_lowercase}
use Rattle.std.specs.Vec.{with_items}
use Rattle.expr_eval.proofs.Folded.{folded-ascii, lowered_is_utf8, lowered_items}
use Rattle.expr_eval.proofs.case_fold.lowered.Goals as goal

pub unreachable-requires : goal.unreachable-requires
unreachable-requires c =
    let bytes = c.in_ok-bytes.bytes in
    let wrote : (with_items bytes c.lower_ascii.new.bytes).items ≡ str_to_ascii_lowercase c.args.text.now =
    lowered_items bytes c.deref_mut.result.now c.lower_ascii.new.bytes c.args.text.now c.deref_mut.ensures.value
    c.deref_mut.ensures.len
    (c.in_ok-bytes.ensures.items ∙ c.as_bytes.ensures.value) c.lower_ascii.ensures in
    false≢true (c.in-Err.ensures.succeeds (lowered_is_utf8 c.args.text.now _ c.requires wrote))

pub returns : goal.returns
returns c =
    let bytes = c.in_ok-bytes.bytes in
    let wrote : (with_items bytes c.lower_ascii.new.bytes).items ≡ str_to_ascii_lowercase c.args.text.now =
    lowered_items bytes c.deref_mut.result.now c.lower_ascii.new.bytes c.args.text.now c.deref_mut.ensures.value
    c.deref_mut.ensures.len
    (c.in_ok-bytes.ensures.items ∙ c.as_bytes.ensures.value) c.lower_ascii.ensures in
    c.in_ok-from_string-in-Ok.ensures
    ∙ (ap (λ v. v.items) c.in-Ok.ensures.ok ∙ (wrote ∙ sym (folded-ascii c.args.text.now c.requires)))
