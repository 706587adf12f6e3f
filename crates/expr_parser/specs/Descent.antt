-- Words of private clauses: how the descent goes through a text, as steps of the machine.
use Rattle.std.specs.Prelude.{◌≡◌, ℕ, Bool, true, false, cond, List, [], ◌∷◌, Result, Ok, Err, encode_utf8_all}
use Rattle.std.specs.Borrow.{Bor}
use Rattle.std.specs.Str.{IsUtf8}
use Rattle.expr_parser.specs.declared.descent.Stop.{Stop}
use Rattle.expr_parser.specs.declared.descent.Stop.TheVariants.{Here, Memory}
use Rattle.expr_parser.specs.Grammar.{is_part}
use Rattle.expr_parser.specs.Machine.{Open, State, begin, run}

-- the front of a text whose characters pass the test, and what follows it
abbrev pub lead_of : (ℕ → Bool) → List ℕ → List ℕ
lead_of test [] = []
lead_of test (c ∷ cs) = cond (test c) (c ∷ lead_of test cs) []

abbrev pub rest_of : (ℕ → Bool) → List ℕ → List ℕ
rest_of test [] = []
rest_of test (c ∷ cs) = cond (test c) (rest_of test cs) (c ∷ cs)

-- a text does not begin with a character that passes the test
abbrev pub Fails : (ℕ → Bool) → List ℕ → Type 0
Fails test [] = Unit {0}
Fails test (c ∷ cs) = test c ≡ false

-- a part of a reading: whatever brackets are open, it goes from one state to another, or stops as it does
abbrev pub Goes : {T : Type 0} → (Open → State) → (T → Open → State) → List ℕ → List ℕ → Result T Stop → Type 0
Goes from to old new (Ok x) = (K : Open) → run (from K) old ≡ run (to x K) new
Goes from to old new (Err Here) = (K : Open) → run (from K) old ≡ Err new
Goes from to old new (Err Memory) = Unit {0}

-- a text begins with a character of a part
abbrev pub StartsPart : List ℕ → Type 0
StartsPart [] = ⊥
StartsPart (c ∷ cs) = is_part c ≡ true

-- the characters of a part were passed, of which there is one at least
abbrev pub ReadsPart : List ℕ → List ℕ → Result (Bor (List ℕ)) Stop → Type 0
ReadsPart old new (Ok part) =
    (part.now ≡ encode_utf8_all (lead_of is_part old)) × (new ≡ rest_of is_part old) × StartsPart old × IsUtf8 part.now
ReadsPart old new (Err Here) = (new ≡ old) × Fails is_part old
ReadsPart old new (Err Memory) = ⊥
