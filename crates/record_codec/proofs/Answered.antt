-- What encoding and decoding answer says the step.
use Rattle.std.proofs.Common.{◌≡◌, ◌≢◌, ℕ, Bool, true, false, cond, eqb, ◌+◌, ◌^◌, ◌≤◌, List, [], ◌++◌, length, Result}
use Rattle.std.proofs.Common.{Ok, Err, IfOk, refl, sym, ap, subst, ◌∙◌, arith, length-append}
use Rattle.std.proofs.lemmas.Bool.{eqb-true}
use Rattle.conflicts.specs.State.{Step, Accepted, Gone, Moved, IndexCreated, IndexDeleted}
use Rattle.replica_state.specs.declared.step.Step.{Step as Held}
use Rattle.replica_state.specs.Steps.{step_of}
use Rattle.record_fields.specs.Table.{Text, AreNumbered}
use Rattle.record_fields.specs.Fields.{Rest, whole, ◌>>=◌}
use Rattle.record_codec.specs.Bodies.{step, at_end, body_of, added_of, step_in, first_body_of, step_alone, recorded_in}
use Rattle.record_codec.specs.Bodies.{first_step_in}
use Rattle.record_codec.specs.Decoding.{recorded, Decodes, DecodesAlone}
use Rattle.record_codec.specs.inner.Decoding.{read_whole}
use Rattle.record_codec.specs.Laws.{AreBytes, Says}
use Rattle.record_codec.specs.Steps.{IsStep}
use Rattle.record_codec.specs.declared.decoding.Decoded.{Decoded}
use Rattle.record_codec.specs.declared.decoding.RecordFault.{RecordFault}
use Rattle.record_codec.specs.declared.decoding.RecordFault.TheVariants.{Bad, Memory}
use Rattle.record_fields.specs.declared.format.Format.{Format}
use Rattle.record_fields.specs.declared.format.Format.TheVariants.{First}
use Rattle.record_codec.proofs.BodyLaws.{body_back, body_only, first_only}

-- the body that was written is read as the step
pub reads_back : (us : List Text) (x : Step) (bytes : List ℕ) (added : List Text) → IsStep x → bytes ≡ body_of us x
    → added ≡ added_of us x → length us + length added ≤ 2 ^ 32
    → step_in us bytes ≡ Ok (record { step = x; added = added })
reads_back us x bytes added is body names few =
    let room : length (us ++ added_of us x) ≤ 2 ^ 32 =
    subst (λ (vs : List Text). length (us ++ vs) ≤ 2 ^ 32) names (omega (arith, length-append us added, few)) in
    ap (step_in us) body ∙ body_back us x is room ∙ ap (λ vs. Ok (record { step = x; added = vs })) (sym names)

pub says_step : (us : List Text) (x : Step) (bytes : List ℕ) (added : List Text) → AreNumbered us → AreBytes bytes
    → IsStep x → bytes ≡ body_of us x → added ≡ added_of us x → length us + length added ≤ 2 ^ 32
    → Says us bytes (record { step = x; added = added })
says_step us x bytes added are fits is body names few =
    body_only us bytes (record { step = x; added = added }) are fits (reads_back us x bytes added is body names few)

-- and a body that was read says the step
pub decoded_says : (us : List Text) (bytes : List ℕ) (r : Result Decoded RecordFault) → AreNumbered us → AreBytes bytes
    → Decodes (step_in us bytes) r → IfOk r (λ d. Says us bytes (recorded d))
decoded_says us bytes (Ok d) are fits read = body_only us bytes (recorded d) are fits read
decoded_says us bytes (Err fault) are fits read = tt

pub first_says : (bytes : List ℕ) (r : Result Held RecordFault) → AreBytes bytes → DecodesAlone (first_step_in bytes) r
    → IfOk r (λ s. IsStep (step_of s) × (bytes ≡ first_body_of (step_of s)))
first_says bytes (Ok s) fits read = first_only bytes (step_of s) fits read
first_says bytes (Err fault) fits read = tt

-- the step alone, where the whole was read
pub alone_ok : (us : List Text) (bytes : List ℕ) (d : Decoded) (s : Held) → us ≡ []
    → Decodes (recorded_in First us bytes) (Ok d) → s ≡ d.step → DecodesAlone (first_step_in bytes) (Ok s)
unfolding first_step_in
alone_ok us bytes d s none read same =
    ap (λ vs. step_alone (recorded_in First vs bytes)) (sym none) ∙ ap step_alone read
    ∙ ap (λ x. Ok (step_of x)) (sym same)

pub alone_err : (us : List Text) (bytes : List ℕ) (fault : RecordFault) → us ≡ []
    → Decodes (recorded_in First us bytes) (Err fault) → DecodesAlone (first_step_in bytes) (Err fault)
unfolding first_step_in
alone_err us bytes (Bad place) none read = ap (λ vs. step_alone (recorded_in First vs bytes)) (sym none)
    ∙ ap step_alone read
alone_err us bytes Memory none read = tt

-- a body has at least the byte of its kind
pub body_some : (us : List Text) (x : Step) → 1 ≤ length (body_of us x)
unfolding body_of
body_some us (Accepted d a trans m) = omega arith
body_some us (Gone d trans m) = omega arith
body_some us (Moved m) = omega arith
body_some us (IndexCreated n es) = omega arith
body_some us (IndexDeleted n) = omega arith

-- bytes are left behind the last field
pub left_over : (format : Format) (us : List Text) (body : List ℕ) (x : Step) (r behind : Rest) (left : ℕ)
    → r ≡ whole us body → (step format).read r ≡ Ok (x, behind) → left ≡ length behind.bytes → left ≢ 0
    → read_whole format us body ≡ Err left
left_over format us body x r behind left start read same some =
    ap (λ q. (step format).read q >>= at_end) (sym start) ∙ ap (λ q. q >>= at_end) read
    ∙ by (eqb (length behind.bytes) 0) refl
  where
    by : (b : Bool) → eqb (length behind.bytes) 0 ≡ b → at_end (x, behind) ≡ Err left
    by true is = absurd (some (same ∙ eqb-true (length behind.bytes) 0 is))
    by false is = ap (λ b. cond b (Ok (record { step = x; added = behind.table.added })) (Err (length behind.bytes)))
        is ∙ ap (λ n. Err n) (sym same)
