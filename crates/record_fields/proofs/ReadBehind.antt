-- Reading one field behind another, once the first was read; and a content by its flag.
use Rattle.std.proofs.Common.{◌≡◌, Bool, true, false, Some, None, Ok, Err, refl, ap, ◌∙◌, subst}
use Rattle.content.specs.Tree.{Tree}
use Rattle.record_fields.specs.Fields.{Rest, Read, Field, ◌>>=◌, ◌then◌}
use Rattle.record_fields.specs.Plain.{flag, held, content, content_of}
use Rattle.record_fields.specs.Reading.{Stops}
use Rattle.record_fields.specs.declared.stop.Stop.{Stop}
use Rattle.record_fields.specs.declared.stop.Stop.TheVariants as stop

-- what was read, as another value
abbrev pub told : {A B : Type 0} → (A → B) → Read A → Read B
told to q = q >>= λ x. Ok (to x.0, x.1)

-- the field that stands behind a value
abbrev pub behind : {A : Type 0} {B : A → Type 0} → ((a : A) → Field (B a)) → A → Rest → Read ((x : A) × B x)
behind g a r = (g a).read r >>= λ b. Ok ((a, b.0), b.1)

pub then_by : {A : Type 0} {B : A → Type 0} (f : Field A) (g : (a : A) → Field (B a)) (r : Rest) (a : A) (r1 : Rest)
    → f.read r ≡ Ok (a, r1) → (f then g).read r ≡ behind g a r1
then_by f g r a r1 first = ap (λ q. q >>= λ x. (g x.0).read x.1 >>= λ y. Ok ((x.0, y.0), y.1)) first

pub told_behind : {A C : Type 0} {B : A → Type 0} (to : (x : A) × B x → C) (g : (a : A) → Field (B a)) (a : A)
    (r : Rest) → told to (behind g a r) ≡ told (λ b. to (a, b)) ((g a).read r)
told_behind {B = B} to g a r = by ((g a).read r)
  where
    by : (q : Read (B a)) → told to (q >>= λ b. Ok ((a, b.0), b.1)) ≡ told (λ b. to (a, b)) q
    by (Ok b) = refl
    by (Err left) = refl

-- ---- contents

content_by : (r r1 : Rest) (b : Bool) → flag.read r ≡ Ok (b, r1)
    → content.read r ≡ told (content_of b) ((held b).read r1)
content_by r r1 b read = ap (told (λ p. content_of p.0 p.1)) (then_by flag held r b r1 read)
    ∙ told_behind (λ p. content_of p.0 p.1) held b r1

flagged : (r r1 : Rest) (b c : Bool) → flag.read r ≡ Ok (b, r1) → b ≡ c → flag.read r ≡ Ok (c, r1)
flagged r r1 b c read is = subst (λ d. flag.read r ≡ Ok (d, r1)) is read

pub content_none : (r r1 : Rest) (b : Bool) → flag.read r ≡ Ok (b, r1) → b ≡ false → content.read r ≡ Ok (None, r1)
content_none r r1 b read is = content_by r r1 false (flagged r r1 b false read is)

pub content_some : (r r1 r2 : Rest) (b : Bool) (t : Tree) → flag.read r ≡ Ok (b, r1) → b ≡ true
    → (held true).read r1 ≡ Ok (t, r2) → content.read r ≡ Ok (Some t, r2)
content_some r r1 r2 b t read is there = content_by r r1 true (flagged r r1 b true read is)
    ∙ ap (told (content_of true)) there

pub content_stops : (r r1 : Rest) (b : Bool) (e : Stop) → flag.read r ≡ Ok (b, r1) → b ≡ true
    → Stops ((held true).read r1) e → Stops (content.read r) e
content_stops r r1 b stop.Memory read is stops = tt
content_stops r r1 b (stop.Bad left) read is stops = content_by r r1 true (flagged r r1 b true read is)
    ∙ ap (told (content_of true)) stops
