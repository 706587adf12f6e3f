use Rattle.std.proofs.Common.{rules, ◌≡◌, ◌≤◌, ℕ, List, length, map, Some, None}
use Rattle.std.specs.Borrow.{Bor}
use Rattle.clap.specs.Lexer.{usize_max}
use Rattle.cli_words.specs.inner.Form.{asked, option_text}
use Rattle.cli_words.proofs.Forms.{fits_answered}
use Rattle.cli_words.proofs.fits.fits.Goals as goal

abbrev texts_of : List (Bor (List ℕ)) → List (List ℕ)
texts_of words = map (λ s. s.now) words

pub returns-in_ok-words-in-Some : goal.returns-in_ok-words-in-Some
returns-in_ok-words-in-Some c =
    let is : Some c.as_str.result.now ≡ option_text c.args.given.now = search rules in
    let few : length c.args.operands.now ≤ usize_max = search rules in
    let are : texts_of c.as_slice.result.now ≡ asked (Some c.as_str.result.now) c.args.operands.now = search rules in
    fits_answered c.args.synopsis c.args.given.now c.args.operands.now (Some c.as_str.result.now)
    (texts_of c.as_slice.result.now) _ are is
    c.requires.allowed c.requires.ordered few c.passes.ensures

pub returns-in_ok-words-in-None : goal.returns-in_ok-words-in-None
returns-in_ok-words-in-None c =
    let is : None ≡ option_text c.args.given.now = search rules in
    let few : length c.args.operands.now ≤ usize_max = search rules in
    let are : texts_of c.as_slice-in-None.result.now ≡ asked None c.args.operands.now = search rules in
    fits_answered c.args.synopsis c.args.given.now c.args.operands.now None
    (texts_of c.as_slice-in-None.result.now) _ are is
    c.requires.allowed c.requires.ordered few c.passes-in-None.ensures
