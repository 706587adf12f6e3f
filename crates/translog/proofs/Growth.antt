-- What a log says of its places does not change as it grows.
use Rattle.std.proofs.Common.{◌≡◌, ℕ, zero, suc, ◌<◌, ◌≤◌, List, [], ◌∷◌, ◌++◌, length, refl, ◌∙◌, ap, arith, inl, inr}
use Rattle.std.proofs.Common.{length-append}
use Rattle.std.specs.List.{slice_get}
use Rattle.std.specs.Option.{option_map}
use Rattle.u1_base.specs.Places.{Place}
use Rattle.translog.specs.declared.entry.Entry.{Entry}
use Rattle.translog.specs.Entries.{trans_at}
use Rattle.translog.specs.Log.{FitsLog}

slice_get-append : (es more : List Entry) (k : ℕ) → k < length es → slice_get (es ++ more) k ≡ slice_get es k
slice_get-append [] more k low = absurd (omega arith)
slice_get-append (e ∷ es) more zero low = refl
slice_get-append (e ∷ es) more (suc k) low = slice_get-append es more k (omega arith)

-- a generation of the log keeps its transaction id
pub trans_at-append : (es more : List Entry) (g : ℕ) → g ≤ length es → trans_at (es ++ more) g ≡ trans_at es g
trans_at-append es more zero low = refl
trans_at-append es more (suc k) low = ap (option_map (λ (e : Entry). e.trans))
    (slice_get-append es more k (omega arith))

pub FitsLog-append : (es more : List Entry) (p : Place) → FitsLog es p → FitsLog (es ++ more) p
FitsLog-append es more p (inl start) = inl start
FitsLog-append es more p (inr at) =
    inr (omega (arith, at.0, length-append es more), trans_at-append es more p.generation at.0 ∙ at.1)
