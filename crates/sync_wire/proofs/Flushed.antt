-- What was written stays where it is only handed on.
use Rattle.std.proofs.Common.{ℕ, List, length, take, Option, Some, None, ◌∙◌, refl, sym, subst, arith}
use Rattle.std.specs.Io.KnownBytes.{Appends, Keeps}
use Rattle.std.proofs.lemmas.List.{take_all}
use Rattle.link.specs.Streams.{AppendsFront}

pub keeps_same : (o : Option (List ℕ)) → Keeps o o
keeps_same None = tt
keeps_same (Some xs) = refl

pub kept_all : (first mid last : Option (List ℕ)) (text : List ℕ) → Appends first mid text → Keeps mid last
    → Appends first last text
kept_all None mid last text put kept = tt
kept_all (Some xs) None last text put kept = absurd put
kept_all (Some xs) (Some ys) None text put kept = absurd kept
kept_all (Some xs) (Some ys) (Some zs) text put kept = kept ∙ put

pub kept_front : (first mid last : Option (List ℕ)) (text : List ℕ) → Appends first mid text → Keeps mid last
    → AppendsFront first last text
kept_front first mid last text put kept = (length text, whole first mid last put kept)
  where
    whole : (first mid last : Option (List ℕ)) → Appends first mid text → Keeps mid last
        → Appends first last (take (length text) text)
    whole first mid last put kept =
        subst (λ (t : List ℕ). Appends first last t) (sym (take_all (length text) text (omega arith)))
        (kept_all first mid last text put kept)
