-- What callers of the search use: one first place, spans that join, bytes that come later, and bytes that are dropped.
use Rattle.std.proofs.Common.{◌≡◌, ℕ, ◌+◌, ◌<◌, ◌≤◌, List, ◌++◌, length, get_or, drop, arith, inl, inr, sym, ◌∙◌, ap}
use Rattle.std.proofs.Common.{length-drop}
use Rattle.std.proofs.lemmas.Bool.{cases_lt}
use Rattle.std.proofs.Math.ListN.{get_or-append}
use Rattle.std.proofs.lemmas.List.{get_or-drop}
use Rattle.key_lanes.specs.Breaks.{IsBreak, NoBreak, IsFirstBreak}

-- where the search says that there is none, no place at all from there on has one
pub NoBreak-anywhere : (bytes : List ℕ) (from place : ℕ) → NoBreak bytes from (length bytes) → from ≤ place
    → ¬ (IsBreak bytes place)
NoBreak-anywhere bytes from place none at_or_after is = none place at_or_after (omega (arith, is.0)) is

-- there is one first place
pub IsFirstBreak-unique : (bytes : List ℕ) (from m n : ℕ) → IsFirstBreak bytes from m
    → IsFirstBreak bytes from n → m ≡ n
IsFirstBreak-unique bytes from m n first second = elim (cases_lt m n) [
  | inl less ↦ absurd (second.2 m first.0 less first.1)
  | inr not_less ↦ elim (cases_lt n m) [
    | inl more ↦ absurd (first.2 n second.0 more second.1)
    | inr not_more ↦ omega arith
  ]
]

-- what was searched in two spans was searched as one
pub NoBreak-joined : (bytes : List ℕ) (low middle high : ℕ) → NoBreak bytes low middle → NoBreak bytes middle high
    → NoBreak bytes low high
NoBreak-joined bytes low middle high front back k from to =
    elim (cases_lt k middle) [ inl early ↦ front k from early | inr late ↦ back k late to ]

-- bytes that come later make no break before the last byte
pub NoBreak-append : (bytes more : List ℕ) (low high : ℕ) → high < length bytes → NoBreak bytes low high
    → NoBreak (bytes ++ more) low high
NoBreak-append bytes more low high inside none k from to is =
    none k from to (
      omega arith,
      sym (get_or-append bytes more 0 k (omega arith)) ∙ is.1,
      sym (get_or-append bytes more 0 (k + 1) (omega arith)) ∙ is.2,
    )

-- a break behind bytes that are dropped
pub IsBreak-drop : (bytes : List ℕ) (start place : ℕ) → IsBreak (drop start bytes) place → IsBreak bytes (start + place)
IsBreak-drop bytes start place is =
    let next : start + (place + 1) ≡ start + place + 1 = omega arith in (
      omega (arith, is.0, length-drop start bytes),
      sym (get_or-drop start bytes place 0) ∙ is.1,
      ap (λ k. get_or bytes k 0) (sym next) ∙ sym (get_or-drop start bytes (place + 1) 0) ∙ is.2,
    )

pub drop-IsBreak : (bytes : List ℕ) (start place : ℕ) → IsBreak bytes (start + place) → IsBreak (drop start bytes) place
drop-IsBreak bytes start place is =
    let next : start + (place + 1) ≡ start + place + 1 = omega arith in (
      omega (arith, is.0, length-drop start bytes),
      get_or-drop start bytes place 0 ∙ is.1,
      get_or-drop start bytes (place + 1) 0 ∙ ap (λ k. get_or bytes k 0) next ∙ is.2,
    )
