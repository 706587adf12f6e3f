-- A text that reads as a content arrived whole.
use Rattle.std.specs.Prelude.{◌≡◌, ℕ, ◌<◌, ◌≤◌, min, Bool, true, false, cond, nat_lt, List, length, take, Some, None}
use Rattle.std.specs.Prelude.{Result, Ok, Err, IfOk, IfErr, ◌≢◌, ◌⊎◌, refl}
use Rattle.std.proofs.Common.{sym, ◌∙◌, ap, arith, inl, inr, length-take, lt-ltb, ltb-false, take_all}
use Rattle.std.proofs.lemmas.Bool.{cases_lt}
use Rattle.content.proofs.Reading.{refused}
use Rattle.content.specs.Contents.{most_bytes}
use Rattle.content.specs.Faults.{fault_of, fault_of_reading, value_of}
use Rattle.content.specs.Reading.{content_in}
use Rattle.content.specs.Tree.{Tree}
use Rattle.content.specs.declared.fault.ContentFault.TheVariants.{TooBig}

-- a text without a fault is not too long
short : (bytes : List ℕ) → fault_of bytes ≡ None → length bytes ≤ most_bytes
short bytes good = ltb-false most_bytes (length bytes) (by (nat_lt most_bytes (length bytes)) good)
  where
    by : (b : Bool) → cond b (Some (TooBig (length bytes))) (fault_of_reading (value_of bytes)) ≡ None → b ≡ false
    by true e = absurd (cc)
    by false e = refl

-- the first bytes of a text, of which there are fewer than were asked for, are all of it
all_of : (most : ℕ) (json : List ℕ) → length (take most json) < most → take most json ≡ json
all_of most json fewer = take_all most json (below (length-take most json))
  where
    below : length (take most json) ≡ min most (length json) → length json ≤ most
    below e = omega (arith, e, fewer)

pub arrived : {E : Type 0} (most : ℕ) (json bytes : List ℕ) (r : Result Tree E) → most_bytes < most
    → take most json ≡ bytes
    → IfOk r (λ _. fault_of bytes ≡ None) → IfOk r (λ content. content_in bytes ≡ Some content)
    → IfOk r (λ content. content_in json ≡ Some content)
arrived most json bytes (Err fault) room are good read = tt
arrived most json bytes (Ok content) room are good read =
    let few : length bytes ≤ most_bytes = short bytes good in
    let fewer : length (take most json) < most = omega (arith, ap length are, few, room) in
    ap content_in (sym (all_of most json fewer) ∙ are) ∙ read

-- a text that is too long is no content
too_long : (bytes : List ℕ) → most_bytes < length bytes → content_in bytes ≡ None
too_long bytes long = refused bytes (TooBig (length bytes))
    (by (nat_lt most_bytes (length bytes)) (lt-ltb most_bytes (length bytes) long))
  where
    by : (b : Bool) → b ≡ true → cond b (Some (TooBig (length bytes))) (fault_of_reading (value_of bytes))
        ≡ Some (TooBig (length bytes))
    by true e = refl
    by false e = absurd (cc)

-- what was cut off is too long
pub refused_whole : (most : ℕ) (json bytes : List ℕ) → most_bytes < most → take most json ≡ bytes
    → content_in bytes ≡ None → content_in json ≡ None
refused_whole most json bytes room are none = by (cases_lt (length (take most json)) most)
  where
    by : (length (take most json) < most) ⊎ (most ≤ length (take most json)) → content_in json ≡ None
    by (inl fewer) = ap content_in (sym (all_of most json fewer) ∙ are) ∙ none
    by (inr many) = too_long json (omega (arith, length-take most json, many, room))

pub refused_parts : {A E : Type 0} (memory : E) (most : ℕ) (json bytes : List ℕ) (r : Result A E) → most_bytes < most
    → take most json ≡ bytes
    → IfErr r (λ fault. fault ≢ memory → content_in bytes ≡ None)
    → IfErr r (λ fault. fault ≢ memory → content_in json ≡ None)
refused_parts memory most json bytes (Ok content) room are none = tt
refused_parts memory most json bytes (Err fault) room are none =
    λ other. refused_whole most json bytes room are (none other)
