-- Bodies with one more behind them.
use Rattle.std.proofs.Common.{◌≡◌, ℕ, suc, ◌+◌, ◌<◌, List, [], ◌∷◌, ◌++◌, length, get_or, map, take, Ok, refl, sym, ap}
use Rattle.std.proofs.Common.{subst, ◌∙◌, arith}
use Rattle.std.proofs.Math.Seq.{take-suc}
use Rattle.std.proofs.lemmas.List.{map-append}
use Rattle.journal.specs.Image.{AreBodies, IsBody}
use Rattle.conflicts.specs.State.{Text, Step, History}
use Rattle.record_codec.specs.Bodies.{body_of, added_of, step_in}
use Rattle.compaction.specs.Images.{bodies_of, uids_after, ReadBack, IsOneMore, AreSpelled}

pub bodies_of-push : (us : List Text) (h : History) (x : Step)
    → bodies_of us (h ++ x ∷ []) ≡ bodies_of us h ++ body_of (uids_after us h) x ∷ []
bodies_of-push us [] x = refl
bodies_of-push us (y ∷ h) x = ap (λ (l : List (List ℕ)). body_of us y ∷ l) (bodies_of-push (us ++ added_of us y) h x)

pub uids_after-push : (us : List Text) (h : History) (x : Step)
    → uids_after us (h ++ x ∷ []) ≡ uids_after us h ++ added_of (uids_after us h) x
uids_after-push us [] x = refl
uids_after-push us (y ∷ h) x = uids_after-push (us ++ added_of us y) h x

pub ReadBack-push : (us : List Text) (h : History) (x : Step) → ReadBack us h
    → step_in (uids_after us h) (body_of (uids_after us h) x)
    ≡ Ok (record { step = x; added = added_of (uids_after us h) x }) → ReadBack us (h ++ x ∷ [])
ReadBack-push us [] x all one = (one, tt)
ReadBack-push us (y ∷ h) x all one = (all.0, ReadBack-push (us ++ added_of us y) h x all.1 one)

pub AreBodies-push : (bodies : List (List ℕ)) (body : List ℕ) → AreBodies bodies → IsBody body
    → AreBodies (bodies ++ body ∷ [])
AreBodies-push [] body all one = (one, tt)
AreBodies-push (b ∷ bodies) body all one = (all.0, AreBodies-push bodies body all.1 one)

pub nothing_spelled : (own : Text) (bodies : List (List ℕ)) (uids : List Text) → bodies ≡ [] → uids ≡ own ∷ []
    → AreSpelled own [] bodies uids
nothing_spelled own bodies uids none one = record {
  bodies_are = none;
  uids_are = one;
  fit = subst AreBodies (sym none) tt;
  reads = tt;
}

-- one step more
pub one_spelled : (own : Text) (h : History) (x : Step) (bodies more : List (List ℕ)) (uids numbered : List Text)
    → AreSpelled own h bodies uids → IsOneMore uids x bodies more numbered → AreSpelled own (h ++ x ∷ []) more numbered
one_spelled own h x bodies more uids numbered are one = record {
  bodies_are =
      one.body
      ∙ (λ i. are.bodies_are i ++ body_of (are.uids_are i) x ∷ [])
      ∙ sym (bodies_of-push (own ∷ []) h x);
  uids_are = one.uids ∙ ap (λ (us : List Text). us ++ added_of us x) are.uids_are
      ∙ sym (uids_after-push (own ∷ []) h x);
  fit = subst AreBodies (sym one.body) (AreBodies-push bodies (body_of uids x) are.fit one.fits);
  reads = ReadBack-push (own ∷ []) h x are.reads
      (subst (λ (us : List Text). step_in us (body_of us x) ≡ Ok (record { step = x; added = added_of us x }))
      are.uids_are one.reads);
}

-- the front of a list with the item behind it
pub one_taken : {A B : Type 0} (f : A → B) (xs : List A) (i : ℕ) (x : A) → i < length xs → x ≡ get_or xs i x
    → map f (take (i + 1) xs) ≡ map f (take i xs) ++ f x ∷ []
one_taken f xs i x low is =
    let next : i + 1 ≡ suc i = omega arith in
    ap (λ k. map f (take k xs)) next
    ∙ ap (map f) (take-suc xs i x low ∙ ap (λ y. take i xs ++ y ∷ []) (sym is))
    ∙ map-append f (take i xs) (x ∷ [])
