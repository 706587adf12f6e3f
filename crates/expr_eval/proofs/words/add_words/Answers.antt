-- A word comes off the front, until nothing but white space is left.
use Rattle.std.proofs.Common.{ℕ, List, ◌++◌, sym, ap, ◌∙◌, append-nil}
use Rattle.expr_eval.specs.inner.Lent.{lent}
use Rattle.expr_eval.specs.Words.{words_in}
use Rattle.expr_eval.proofs.WordsTaken.{TakesWord, takes_word, no_word, one_word_more}
use Rattle.expr_eval.proofs.words.add_words.Goals as goal

pub loop-word-preserved : goal.loop-word-preserved
loop-word-preserved c =
    let s = c.in-Some.ensures.steps in
    let l = c.loop-word in
    let left = c.next.new.self.rest.now in
    let t : TakesWord l.word-iterator.rest.now c.in-Some.word.now left =
    takes_word l.word-iterator.rest.now c.in-Some.word.now left s.5.0 s.0 l.invariant.utf8 s.1 s.2 s.3 s.4 s.5.1 in
    record {
      utf8 = t.utf8;
      words = ap (λ v. lent v ++ words_in left) c.in_ok-push.ensures.items
          ∙ one_word_more l.words.items c.in-Some.word (words_in l.word-iterator.rest.now) (words_in left)
          (lent c.args.words.now.items ++ words_in c.args.text.now) l.invariant.words t.words;
    }

pub returns : goal.returns
returns c =
    let l = c.loop-word in
    let s = c.in-None.ensures.steps in
    sym (append-nil (lent l.words.items))
    ∙ (ap (λ (w : List (List ℕ)). lent l.words.items ++ w)
    (sym (no_word l.word-iterator.rest.now l.invariant.utf8 s.1)) ∙ l.invariant.words)
