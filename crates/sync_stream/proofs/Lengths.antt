-- Bodies beside the length that their head says.
use Rattle.std.proofs.Common.{◌≢◌, ◌+◌, ◌<◌, ℕ, Bool, true, false, true≢false, List, ◌++◌, length, take}
use Rattle.std.proofs.Common.{Option, nat_le, refl, sym, ◌∙◌, ap, subst, arith}
use Rattle.std.proofs.lemmas.Bool.{le-leb, le-ltb, lt-leb, lt-ltb}
use Rattle.std.proofs.lemmas.List.{length-append, take_all, take_at}
use Rattle.sync_stream.specs.Came.{Cut, Ending, EndsSo, Faulty, SaysBody, Whole}
use Rattle.sync_stream.specs.Came.EndsSo.{at_cut, at_end, at_fault}
use Rattle.sync_stream.specs.Laws.{SmallByLength}
use Rattle.sync_stream.specs.Messages.{SaysStream, Stream, most_small}
use Rattle.sync_stream.specs.Stream.{counted}
use Rattle.sync_stream.specs.declared.line.HeadKind.{HeadKind}
use Rattle.sync_stream.specs.declared.line.Line.{Line}

pub small_by_length : {A : Type 0} {reads : List ℕ → Option A} → SmallByLength A reads
small_by_length = record {
  over = λ n bytes long. rw (lt-ltb most_small n long) refl;
  short = λ n bytes few less. rw (le-ltb most_small n few, lt-ltb (length bytes) n less) refl;
  read = λ body more few. rw (
    le-ltb most_small (length body) few,
    le-ltb (length (body ++ more)) (length body) (omega (arith, length-append body more)),
    take_at body more (length body) refl,
  ) refl;
}

-- ---- streams

abbrev whole : Ending → Bool
whole Whole = true
whole (Faulty fault) = false
whole (Cut n) = false

-- not all of the body came
not_whole : (kind : HeadKind) (bytes : List ℕ) (said : List Line) (ending : Ending)
    → SaysBody kind bytes false said ending → ending ≢ Whole
not_whole kind bytes said ending s e = by s.ends
  where
    by : EndsSo kind (counted (length s.lines + 1)) s.place s.rest false ending → ⊥
    by (at_fault fault there is) = true≢false (ap whole (sym e ∙ is))
    by (at_end all quiet is) = true≢false (sym all)
    by (at_cut all quiet is) = true≢false (ap whole (sym e ∙ is))

pub whole_is_long : (kind : HeadKind) (n : ℕ) (bytes : List ℕ) (stream : Stream) → length bytes < n
    → SaysStream kind bytes n stream → stream.ending ≢ Whole
whole_is_long kind n bytes stream less s =
    not_whole kind (take n bytes) s.said stream.ending
    (subst (λ (all : Bool). SaysBody kind (take n bytes) all s.said stream.ending) (lt-leb n (length bytes) less)
    s.says)

pub read_behind : (kind : HeadKind) (body more : List ℕ) (stream : Stream)
    → SaysStream kind (body ++ more) (length body) stream → SaysStream kind body (length body) stream
read_behind kind body more stream s = record {
  said = s.said;
  says = subst (λ (all : Bool). SaysBody kind (take (length body) body) all s.said stream.ending)
      (le-leb (length body) (length (body ++ more)) (omega (arith, length-append body more))
      ∙ sym (le-leb (length body) (length body) (omega arith)))
      (subst (λ (xs : List ℕ). SaysBody kind xs (nat_le (length body) (length (body ++ more))) s.said stream.ending)
      (take_at body more (length body) refl ∙ sym (take_all (length body) body (omega arith))) s.says);
  head = s.head;
  docs = s.docs;
}
