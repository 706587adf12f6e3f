-- What reading a head comes to, by the bytes that were read before and the last piece.
use Rattle.std.proofs.Common.{◌≡◌, ◌⊎◌, inl, ℕ, ◌+◌, ◌≤◌, List, [], ◌∷◌, ◌++◌, length, Option, Some, None, Ok, Err, Result}
use Rattle.std.proofs.Common.{IfErr, refl, sym, ap, subst, ◌∙◌, append_assoc, append-nil, arith}
use Rattle.std.specs.Prelude.{IfOk}
use Rattle.std.specs.Io.KnownBytes.{Consumes, IsAtEnd, Keeps}
use Rattle.std.proofs.lemmas.List.{length-append}
use Rattle.std.proofs.KnownBytes.{Consumes-nil, Consumes-trans}
use Rattle.link.specs.Pieces.{AddsNext}
use Rattle.link.specs.declared.input.InputFault.{InputFault}
use Rattle.link.specs.declared.input.InputFault.TheVariants.{Source, Memory}
use Rattle.sync_http.specs.Hearing.{HearsRequest}
use Rattle.sync_http.specs.declared.fault.WireFault.{WireFault}
use Rattle.sync_http.specs.declared.fault.WireFault.TheVariants as wire
use Rattle.sync_http.specs.declared.heads.Heard.TheVariants.{NotYet}
use Rattle.sync_http.specs.declared.heads.Heard.TheVariants as Heard
use Rattle.sync_http.specs.declared.heads.RequestHead.{RequestHead}
use Rattle.sync_wire.specs.Opened.{IsOpened, LosesHead, LosesPiece, ReadsUpTo}
use Rattle.sync_wire.specs.inner.Opened.{stops_at}
use Rattle.sync_wire.specs.declared.head.Opening.TheVariants.{Early, Head}
use Rattle.sync_wire.proofs.Lengths.{head_within}

nil_of : (xs : List ℕ) → length xs ≡ 0 → xs ≡ []
nil_of [] e = refl
nil_of (x ∷ xs) e = absurd (omega (arith, e))

memory_source : Memory ≡ Source → ⊥
memory_source e = cc

keeps_then : (first old new : Option (List ℕ)) (bytes : List ℕ) → Consumes first old bytes → Keeps old new
    → Consumes first new bytes
keeps_then None old new bytes gone kept = tt
keeps_then (Some xs) None new bytes gone kept = absurd gone
keeps_then (Some xs) (Some ys) None bytes gone kept = absurd kept
keeps_then (Some xs) (Some ys) (Some zs) bytes gone kept = gone ∙ ap (λ (t : List ℕ). bytes ++ t) (sym kept)

module _ (first old new : Option (List ℕ)) (bytes : List ℕ) (gone : Consumes first old bytes) where
  pub whole_head : (head : RequestHead) (n : ℕ) → HearsRequest bytes (Ok (Heard.Head head n))
      → IsOpened first old (Head head n bytes)
  whole_head head n hears = (gone, hears, head_within bytes (Ok head) n hears)

  -- nothing more came
  pub early_end : (grown : List ℕ) (n : ℕ) → n ≡ 0 → HearsRequest bytes (Ok NotYet) → AddsNext old new bytes grown n
      → IsOpened first new Early
  early_end grown n none hears next =
      let empty : next.given ≡ [] = nil_of next.given (next.many ∙ none) in (
        bytes,
        subst (λ (t : List ℕ). Consumes first new t) (append-nil bytes)
            (subst (λ (g : List ℕ). Consumes first new (bytes ++ g)) empty
            (Consumes-trans first old new bytes next.given gone next.consumed)),
        hears,
        next.ended none,
      )

  pub next_came : (grown : List ℕ) (n : ℕ) → AddsNext old new bytes grown n → Consumes first new grown
  next_came grown n next =
      subst (λ (t : List ℕ). Consumes first new t) (sym next.added)
      (Consumes-trans first old new bytes next.given gone next.consumed)

  -- a read failed, or memory ran out
  pub read_fails : (fault : InputFault) (r : Result ℕ InputFault) → r ≡ Err fault → HearsRequest bytes (Ok NotYet)
      → (r ≡ Err Source → Keeps old new) → (lost : List ℕ) × Consumes old new lost → LosesHead first new fault
  read_fails Source r is hears kept lost = (bytes, keeps_then first old new bytes gone (kept is), hears)
  read_fails Memory r is hears kept lost = (bytes ++ lost.0, Consumes-trans first old new bytes lost.0 gone lost.1)

  pub faulty_ok : (fault : WireFault) → HearsRequest bytes (Err fault) → IfOk (stops_at fault) (IsOpened first old)
  faulty_ok wire.TooLarge hears = (bytes, gone, hears, λ e. cc)
  faulty_ok wire.BadHead hears = (bytes, gone, hears, λ e. cc)
  faulty_ok wire.BadPath hears = (bytes, gone, hears, λ e. cc)
  faulty_ok wire.BadMethod hears = (bytes, gone, hears, λ e. cc)
  faulty_ok wire.Chunked hears = (bytes, gone, hears, λ e. cc)
  faulty_ok wire.NoLength hears = (bytes, gone, hears, λ e. cc)
  faulty_ok wire.Memory hears = tt

  pub faulty_err : (fault : WireFault) → IfErr (stops_at fault) (LosesHead first old)
  faulty_err wire.TooLarge = tt
  faulty_err wire.BadHead = tt
  faulty_err wire.BadPath = tt
  faulty_err wire.BadMethod = tt
  faulty_err wire.Chunked = tt
  faulty_err wire.NoLength = tt
  faulty_err wire.Memory = (bytes, gone)

-- ---- up to an end

-- since the first call these bytes were read and added
abbrev pub HasRead : Option (List ℕ) → Option (List ℕ) → List ℕ → List ℕ → Type 0
HasRead first old start bytes = (read : List ℕ) × (bytes ≡ start ++ read) × Consumes first old read

pub read_none : (first : Option (List ℕ)) (start : List ℕ) → HasRead first first start start
read_none first start = ([], sym (append-nil start), Consumes-nil first)

module _ (first old new : Option (List ℕ)) (start bytes : List ℕ) (has : HasRead first old start bytes) where
  pub read_more : (grown : List ℕ) (n : ℕ) → AddsNext old new bytes grown n → HasRead first new start grown
  read_more grown n next = (
    has.0 ++ next.given,
    next.added ∙ ap (λ (t : List ℕ). t ++ next.given) has.1 ∙ append_assoc start has.0 next.given,
    Consumes-trans first old new has.0 next.given has.2 next.consumed,
  )

  -- it did not read behind the end
  pub read_within : (end : ℕ) (grown : List ℕ) (n : ℕ) → AddsNext old new bytes grown n → length bytes + n ≤ end
      → (length grown ≤ end) ⊎ (grown ≡ start)
  read_within end grown n next fits =
      let all = ap length next.added ∙ length-append bytes next.given in
      let many = next.many in
      inl (omega (arith, all, many, fits))

  pub read_all : (end : ℕ) → (end ≤ length bytes) ⊎ IsAtEnd old → ReadsUpTo end first old start bytes
  read_all end all = record { read = has.0; gone = has.2; added = has.1; all = all }

  pub piece_lost : (fault : InputFault) (r : Result ℕ InputFault) (grown : List ℕ) → r ≡ Err fault → grown ≡ bytes
      → (r ≡ Err Source → Keeps old new) → (lost : List ℕ) × Consumes old new lost
      → LosesPiece first new start grown fault
  piece_lost Source r grown is same kept lost = record {
    read = has.0;
    lost = [];
    gone = subst (λ (t : List ℕ). Consumes first new t) (sym (append-nil has.0))
        (keeps_then first old new has.0 has.2 (kept is));
    added = same ∙ has.1;
    exact = λ e. refl;
  }
  piece_lost Memory r grown is same kept lost = record {
    read = has.0;
    lost = lost.0;
    gone = Consumes-trans first old new has.0 lost.0 has.2 lost.1;
    added = same ∙ has.1;
    exact = λ e. absurd (memory_source e);
  }
