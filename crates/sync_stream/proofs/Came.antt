-- What a reader stands for is what the bytes say that came, and bytes say one thing.
use Rattle.std.proofs.Common.{◌≡◌, ℕ, ◌+◌, Bool, true, false, List, [], ◌∷◌, ◌++◌, length, flat_map, Option, refl, sym}
use Rattle.std.proofs.Common.{ap, ◌∙◌, subst, inl, inr, append_assoc}
use Rattle.std.specs.List.{AllByRecursion}
use Rattle.std.proofs.lemmas.List.{append-nil}
use Rattle.sync_stream.specs.Lines.{ended, IsUnbroken}
use Rattle.sync_stream.specs.Stream.{IsFaultyAt, IsGood, Passes, counted, end_fault}
use Rattle.sync_stream.specs.Stream.IsFaultyAt.{whole_line, long_rest, after_end}
use Rattle.sync_stream.specs.HeldText.{HasNoMore, HeldText, StandsFor}
use Rattle.sync_stream.specs.Came.{Cut, Ending, EndsSo, Faulty, IsQuiet, SaysBody, ending_of}
use Rattle.sync_stream.specs.Came.EndsSo.{at_cut, at_end, at_fault}
use Rattle.sync_stream.specs.declared.line.HeadKind.{HeadKind}
use Rattle.sync_stream.specs.declared.line.Line.{Line}
use Rattle.sync_stream.specs.declared.line.Next.{Next}
use Rattle.sync_stream.specs.declared.line.Next.TheVariants.{Opening}
use Rattle.sync_stream.specs.declared.line.Passed.{Passed}
use Rattle.sync_stream.specs.declared.fault.LineFault.{LineFault}
use Rattle.sync_stream.proofs.FirstFault.{all_more_front, both_open, broken, not_both, one_fault, same_parts}
use Rattle.sync_stream.proofs.Unique.{passes_on}

-- ---- readers

-- the source ended, and the reader has no more to give: the body is cut at its next line
pub says_cut : (reader : HeldText) (text : List ℕ) (given : List Line) → StandsFor reader text given → HasNoMore reader
    → SaysBody reader.kind text false given (Cut reader.number)
says_cut reader text given s quiet =
    record {
      lines = s.lines;
      place = reader.place;
      rest = reader.rest;
      begins = s.begins;
      ends = at_cut refl (inr (quiet.open_, quiet.no_line, quiet.fits)) (ap Cut s.number);
    }

-- a fault was found, whatever was still to come
pub says_faulty : (reader : HeldText) (text : List ℕ) (given : List Line) (all : Bool) (fault : LineFault)
    → StandsFor reader text given
    → IsFaultyAt reader.kind reader.number reader.place reader.rest fault
    → SaysBody reader.kind text all given (Faulty fault)
says_faulty reader text given all fault s faulty =
    record {
      lines = s.lines;
      place = reader.place;
      rest = reader.rest;
      begins = s.begins;
      ends = at_fault fault (subst (λ n. IsFaultyAt reader.kind n reader.place reader.rest fault) s.number faulty) refl;
    }

-- the body is over
pub says_end : (reader : HeldText) (text : List ℕ) (given : List Line) (ending : Option LineFault)
    → StandsFor reader text given → IsQuiet reader.place reader.rest
    → end_fault reader.kind reader.number reader.place reader.rest ≡ ending
    → SaysBody reader.kind text true given (ending_of ending)
says_end reader text given ending s quiet is =
    record {
      lines = s.lines;
      place = reader.place;
      rest = reader.rest;
      begins = s.begins;
      ends = at_end refl quiet
          (ap ending_of (sym is ∙ ap (λ n. end_fault reader.kind n reader.place reader.rest) s.number));
    }

-- ---- one thing

-- a quiet rest is not faulty
not_faulty : (kind : HeadKind) (n : ℕ) (place : Next) (rest : List ℕ) (f : LineFault) → IsQuiet place rest
    → IsFaultyAt kind n place rest f → ⊥
not_faulty kind n place rest f (inl q) (whole_line l x o is u fault) = both_open o q.0
not_faulty kind n place rest f (inl q) (long_rest o u long fault) = both_open o q.0
not_faulty kind n place rest f (inl q) (after_end p some fault) = some q.1
not_faulty kind n place rest f (inr q) (whole_line l x o is u fault) = broken l x (subst IsUnbroken is q.1)
not_faulty kind n place rest f (inr q) (long_rest o u long fault) = both_open q.2 long
not_faulty kind n place rest f (inr q) (after_end p some fault) = both_open q.0 p

same_ending : (kind : HeadKind) (n : ℕ) (place : Next) (rest : List ℕ) (all : Bool) (e f : Ending)
    → EndsSo kind n place rest all e → EndsSo kind n place rest all f → e ≡ f
same_ending kind n place rest all e f (at_fault g faulty is) (at_fault h faulty' is') = is
    ∙ ap Faulty (one_fault kind n place rest g h faulty faulty') ∙ sym is'
same_ending kind n place rest all e f (at_fault g faulty is) (at_end came quiet is') =
    absurd (not_faulty kind n place rest g quiet faulty)
same_ending kind n place rest all e f (at_fault g faulty is) (at_cut came quiet is') =
    absurd (not_faulty kind n place rest g quiet faulty)
same_ending kind n place rest all e f (at_end came quiet is) (at_fault h faulty is') =
    absurd (not_faulty kind n place rest h quiet faulty)
same_ending kind n place rest all e f (at_end came quiet is) (at_end came' quiet' is') = is ∙ sym is'
same_ending kind n place rest all e f (at_end came quiet is) (at_cut came' quiet' is') = absurd (both_open came' came)
same_ending kind n place rest all e f (at_cut came quiet is) (at_fault h faulty is') =
    absurd (not_faulty kind n place rest h quiet faulty)
same_ending kind n place rest all e f (at_cut came quiet is) (at_end came' quiet' is') = absurd (both_open came came')
same_ending kind n place rest all e f (at_cut came quiet is) (at_cut came' quiet' is') = is ∙ sym is'

no_line : (l x rest : List ℕ) → rest ≡ [] → rest ≡ ended l ++ x → ⊥
no_line [] x rest none is = no_cons (sym none ∙ is)
  where
    no_cons : {y : ℕ} {ys : List ℕ} → [] ≡ y ∷ ys → ⊥
    no_cons e = cc
no_line (a ∷ l) x rest none is = no_cons (sym none ∙ is)
  where
    no_cons : {y : ℕ} {ys : List ℕ} → [] ≡ y ∷ ys → ⊥
    no_cons e = cc

not_quiet : (place : Next) (l x rest : List ℕ) → rest ≡ ended l ++ x → IsQuiet place rest → ⊥
not_quiet place l x rest is (inl q) = no_line l x rest q.1 is
not_quiet place l x rest is (inr q) = broken l x (subst IsUnbroken is q.1)

-- where a body ends no good line is left
pub no_further : (kind : HeadKind) (n : ℕ) (place : Next) (l x rest : List ℕ) (passed : Passed) (all : Bool)
    (e : Ending)
    → IsGood kind place l passed → IsUnbroken l → rest ≡ ended l ++ x
    → EndsSo kind n place rest all e → ⊥
no_further kind n place l x rest passed all e good u is (at_fault f faulty ending) =
    not_both kind n place l x rest passed f good u is faulty
no_further kind n place l x rest passed all e good u is (at_end came quiet ending) = not_quiet place l x rest is quiet
no_further kind n place l x rest passed all e good u is (at_cut came quiet ending) = not_quiet place l x rest is quiet

-- one saying goes on in another's rest: then it says no more, and ends so too
on_in : (kind : HeadKind) (bytes : List ℕ) (all : Bool) (said more : List Line) (e f : Ending)
    (h : SaysBody kind bytes all said e) (k : SaysBody kind bytes all more f) (lines : List (List ℕ))
    → k.lines ≡ h.lines ++ lines → h.rest ≡ flat_map ended lines ++ k.rest → (said ≡ more) × (e ≡ f)
on_in kind bytes all said more e f h k [] lines rest =
    let same : k.lines ≡ h.lines = lines ∙ append-nil h.lines in
    let on = passes_on kind Opening h.place k.place h.lines [] said more h.begins.passes
    (subst (λ x. Passes kind Opening x more k.place) lines k.begins.passes) in (
      sym (on.1 ∙ ap (λ s. said ++ s) on.2.0 ∙ append-nil said),
      same_ending kind (counted (length h.lines + 1)) h.place h.rest all e f h.ends
          (subst (λ x. EndsSo kind (counted (length x + 1)) h.place h.rest all f) same
          (subst (λ p. EndsSo kind (counted (length k.lines + 1)) p h.rest all f) on.2.1
          (subst (λ r. EndsSo kind (counted (length k.lines + 1)) k.place r all f) (sym rest) k.ends))),
    )
on_in kind bytes all said more e f h k (l ∷ later) lines rest =
    let on = passes_on kind Opening h.place k.place h.lines (l ∷ later) said more h.begins.passes
    (subst (λ x. Passes kind Opening x more k.place) lines k.begins.passes) in
    absurd (no_further kind (counted (length h.lines + 1)) h.place l
    (flat_map ended later ++ k.rest) h.rest on.2.0 all e on.2.2
    (all_more_front h.lines l later (subst (AllByRecursion IsUnbroken) lines k.begins.splits.each))
    (rest ∙ append_assoc (ended l) (flat_map ended later) k.rest) h.ends)

pub one_saying : (kind : HeadKind) (bytes : List ℕ) (all : Bool) (said more : List Line) (e f : Ending)
    → SaysBody kind bytes all said e → SaysBody kind bytes all more f → (said ≡ more) × (e ≡ f)
one_saying kind bytes all said more e f h k =
    elim (same_parts h.lines k.lines h.rest k.rest h.begins.splits.each k.begins.splits.each
    (sym h.begins.splits.whole ∙ k.begins.splits.whole)) [
      | inl on ↦ on_in kind bytes all said more e f h k on.0 on.1 on.2
      | inr on ↦ (let back = on_in kind bytes all more said f e k h on.0 on.1 on.2 in (sym back.0, sym back.1))
    ]
