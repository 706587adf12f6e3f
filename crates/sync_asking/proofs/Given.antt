-- Bytes that were given, and then more of them.
use Rattle.std.proofs.Common.{◌≡◌, ℕ, ◌<◌, List, [], ◌++◌, drop, length, Option, Some, None, Result, Ok, Err, IfErr, IfSome}
use Rattle.std.proofs.Common.{IsErrAnd, refl, sym, ap, ap₂, subst, ◌∙◌, append_assoc, append-nil, drop-drop, length-append}
use Rattle.std.specs.Option.{option_map}
use Rattle.std.specs.Io.KnownBytes.{Consumes}
use Rattle.link.specs.Streams.{IsFront}
use Rattle.sync_link.specs.Links.{Ask, LinkKnown, and_given, given_more}
use Rattle.sync_asking.specs.Carried.{IsGiven}

pub err_to : {A E : Type 0} (r : Result A E) (W : E → Type 0) {Q : E → Type 0} → IsErrAnd r Q → ((e : E) → Q e → W e)
    → IfErr r W
err_to (Ok x) W h f = tt
err_to (Err e) W h f = f e h

given_twice : (ask : Option Ask) (first more : List ℕ)
    → and_given more (and_given first ask) ≡ and_given (first ++ more) ask
given_twice None first more = refl
given_twice (Some a) first more =
    ap (λ given. Some (record { to = a.to; sent = a.sent; given = given })) (append_assoc a.given first more)

front_twice : (coming left : Option (List ℕ)) (first more : List ℕ) → Consumes coming left first
    → IfSome left (IsFront more) → IfSome coming (IsFront (first ++ more))
front_twice None left first more gone front = tt
front_twice (Some xs) None first more gone front = absurd gone
front_twice (Some xs) (Some ys) first more gone front = (
  front.0,
  gone ∙ ap (λ zs. first ++ zs) front.1 ∙ sym (append_assoc first more front.0),
)

pub given_then : (k mid after : LinkKnown) (first more : List ℕ) → mid ≡ given_more first k
    → Consumes k.coming mid.coming first → IsGiven mid after more → IsGiven k after (first ++ more)
given_then k mid after first more is gone given = record {
  earlier = given.earlier ∙ ap (λ m. m.earlier) is;
  ask = given.ask ∙ ap (λ m. and_given more m.ask) is ∙ given_twice k.ask first more;
  seed = given.seed ∙ ap (λ m. m.seed) is;
  peer = given.peer ∙ ap (λ m. m.peer) is;
  front = front_twice k.coming mid.coming first more gone given.front;
}

-- where a failure gave nothing more, fewer bytes were heard than were to come
pub below : (before heard first more : List ℕ) (end : ℕ) → heard ≡ before ++ first → length heard < end → more ≡ []
    → length (before ++ (first ++ more)) < end
below before heard first more end is less none =
    subst (λ m. length (before ++ (first ++ m)) < end) (sym none)
    (subst (λ f. length (before ++ f) < end) (sym (append-nil first)) (subst (λ h. length h < end) is less))

front_of : (coming left : Option (List ℕ)) (first : List ℕ) → Consumes coming left first
    → IfSome coming (IsFront first)
front_of None left first gone = tt
front_of (Some xs) None first gone = absurd gone
front_of (Some xs) (Some ys) first gone = (ys, gone)

pub given_is : (k mid : LinkKnown) (first : List ℕ) → mid ≡ given_more first k → Consumes k.coming mid.coming first
    → IsGiven k mid first
given_is k mid first is gone = record {
  earlier = ap (λ m. m.earlier) is;
  ask = ap (λ m. m.ask) is;
  seed = ap (λ m. m.seed) is;
  peer = ap (λ m. m.peer) is;
  front = front_of k.coming mid.coming first gone;
}

pub err_so : {A E : Type 0} (r : Result A E) (W : E → Type 0) {Q : E → Type 0} → IfErr r Q → ((e : E) → Q e → W e)
    → IfErr r W
err_so (Ok x) W h f = tt
err_so (Err e) W h f = f e h

-- ---- what is given in two parts

dropped_twice : (coming : Option (List ℕ)) (first more : List ℕ)
    → option_map (λ xs. drop (length more) xs) (option_map (λ xs. drop (length first) xs) coming)
    ≡ option_map (λ xs. drop (length (first ++ more)) xs) coming
dropped_twice None first more = refl
dropped_twice (Some xs) first more =
    ap Some (drop-drop (length more) (length first) xs ∙ ap (λ (n : ℕ). drop n xs) (sym (length-append first more)))

pub more_twice : (k mid after : LinkKnown) (first more : List ℕ) → mid ≡ given_more first k
    → after ≡ given_more more mid → after ≡ given_more (first ++ more) k
more_twice k mid after first more is then =
    then ∙ ap (λ (m : LinkKnown). given_more more m) is
    ∙ ap₂ (λ (a : Option Ask) (c : Option (List ℕ)). record k { ask = a; coming = c }) (given_twice k.ask first more)
    (dropped_twice k.coming first more)

pub consumed_twice : (coming left last : Option (List ℕ)) (first more : List ℕ) → Consumes coming left first
    → Consumes left last more → Consumes coming last (first ++ more)
consumed_twice None left last first more gone then = tt
consumed_twice (Some xs) None last first more gone then = absurd gone
consumed_twice (Some xs) (Some ys) None first more gone then = absurd then
consumed_twice (Some xs) (Some ys) (Some zs) first more gone then =
    gone ∙ ap (λ zs. first ++ zs) then ∙ sym (append_assoc first more zs)
