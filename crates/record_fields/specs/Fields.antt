-- The fields of a body: how a value is spelled and read, and how fields are put together.
use Rattle.std.specs.Prelude.{ℕ, zero, suc, List, [], ◌∷◌, ◌++◌, length, Option, Some, None, Result, Ok, Err}
use Rattle.std.specs.List.{flat_map}
use Rattle.record_fields.specs.Table.{Text, Table, table_with, after}

-- bytes that are left to read, and the uids that have numbers before them
pub record Rest : Type 0 where
  pub table : Table
  pub bytes : List ℕ

-- a whole body, where these uids have numbers
abbrev pub whole : List Text → List ℕ → Rest
whole us body = record { table = table_with us; bytes = body }

-- a value and what is left after it; or how many bytes are left where a field has no reading
abbrev pub Read : Type 0 → Type 0
Read A = Result (A × Rest) ℕ

infixl 10 ◌>>=◌
abbrev pub ◌>>=◌ : {A B : Type 0} → Result A ℕ → (A → Result B ℕ) → Result B ℕ
(Ok x) >>= f = f x
(Err left) >>= f = Err left

-- a kind of field
pub record Field (A : Type 0) : Type 0 where
  -- the uids that the value names, in order
  pub named : A → List Text
  -- its bytes, by the numbers that uids have before it
  pub spelled : Table → A → List ℕ
  -- what stands at the front
  pub read : Rest → Read A

-- there is no field here
abbrev pub no_field : {A : Type 0} → Rest → Read A
no_field r = Err (length r.bytes)

-- ---- one field after another

-- two fields, of which the second depends on what the first says
infixr 5 ◌then◌
abbrev pub ◌then◌ : {A : Type 0} {B : A → Type 0} → Field A → ((a : A) → Field (B a)) → Field ((a : A) × B a)
f then g = record {
  named = λ x. f.named x.0 ++ (g x.0).named x.1;
  spelled = λ t x. f.spelled t x.0 ++ (g x.0).spelled (after t (f.named x.0)) x.1;
  read = λ r. f.read r >>= λ a. (g a.0).read a.1 >>= λ b. Ok ((a.0, b.0), b.1);
}

-- ---- the same bytes for another value

-- values that are told by those of another field
abbrev pub mapped : {A B : Type 0} → Field A → (A → B) → (B → A) → Field B
mapped f to from = record {
  named = λ b. f.named (from b);
  spelled = λ t b. f.spelled t (from b);
  read = λ r. f.read r >>= λ x. Ok (to x.0, x.1);
}

abbrev pub found : {B : Type 0} → Rest → Option B → Rest → Read B
found r None behind = no_field r
found r (Some b) behind = Ok (b, behind)

abbrev pub tested : {A B : Type 0} → (A → Option B) → Rest → Read A → Read B
tested test r (Ok x) = found r (test x.0) x.1
tested test r (Err left) = no_field r

-- one field, which has a reading where its parts have and the value passes a test
abbrev pub checked : {A B : Type 0} → Field A → (A → Option B) → (B → A) → Field B
checked f test from = record {
  named = λ b. f.named (from b);
  spelled = λ t b. f.spelled t (from b);
  read = λ r. tested test r (f.read r);
}

-- ---- many fields of one kind

abbrev pub each_spelled : {A : Type 0} → Field A → Table → List A → List ℕ
each_spelled f t [] = []
each_spelled f t (x ∷ xs) = f.spelled t x ++ each_spelled f (after t (f.named x)) xs

unfoldable pub each_read : {A : Type 0} → Field A → ℕ → Rest → Read (List A)
each_read f zero r = Ok ([], r)
each_read f (suc n) r = f.read r >>= λ x. each_read f n x.1 >>= λ xs. Ok (x.0 ∷ xs.0, xs.1)

-- so many values
abbrev pub each : {A : Type 0} → Field A → ℕ → Field (List A)
each f n = record {
  named = flat_map f.named;
  spelled = each_spelled f;
  read = each_read f n;
}

-- a count, and so many values
abbrev pub counted : {A : Type 0} → Field ℕ → Field A → Field (List A)
counted count f = mapped (count then each f) (λ p. p.1) (λ xs. (length xs, xs))
