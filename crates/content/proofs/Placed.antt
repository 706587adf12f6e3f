-- Tokens without a fault are printed no longer than the lexemes that they were read from.
use Rattle.std.proofs.Common.{◌≡◌, ℕ, ◌+◌, ◌≤◌, Bool, true, false, cond, List, [], ◌∷◌, ◌++◌, length, refl, ap, arith}
use Rattle.std.proofs.Common.{length-append}
use Rattle.std.specs.Prelude.{⊤}
use Rattle.json.specs.Token.{Token, begin_object, end_object, begin_array, end_array, key, string, number, boolean}
use Rattle.json.specs.Token.{null, bad}
use Rattle.json.specs.Lex.{Lexeme, token, comma, colon, Place, fresh, after_value, after_comma, after_key, begins_colon}
use Rattle.json.specs.Lex.{may_begin, may_close, if_allowed, place_token, punctuate}
use Rattle.json.specs.Print.{quoted, token_text, begins, ends, separator, print_from}

-- how long the lexemes are as text
abbrev pub lexemes_size : List Lexeme → ℕ
lexemes_size [] = 0
lexemes_size (token t ∷ ls) = length (token_text t) + lexemes_size ls
lexemes_size (comma ∷ ls) = 1 + lexemes_size ls
lexemes_size (colon ∷ ls) = 1 + lexemes_size ls

-- none of the tokens is a fault
abbrev pub HasNoBad : List Token → Type 0
HasNoBad [] = ⊤
HasNoBad (begin_object ∷ ts) = HasNoBad ts
HasNoBad (end_object ∷ ts) = HasNoBad ts
HasNoBad (begin_array ∷ ts) = HasNoBad ts
HasNoBad (end_array ∷ ts) = HasNoBad ts
HasNoBad (key s ∷ ts) = HasNoBad ts
HasNoBad (string s ∷ ts) = HasNoBad ts
HasNoBad (number s ∷ ts) = HasNoBad ts
HasNoBad (boolean b ∷ ts) = HasNoBad ts
HasNoBad (null ∷ ts) = HasNoBad ts
HasNoBad (bad ∷ ts) = ⊥

-- whether a value has just ended
abbrev pub ended : Place → Bool
ended fresh = false
ended after_value = true
ended after_comma = true
ended after_key = false

-- a comma that was read and not yet printed
abbrev comma_ahead : Place → ℕ
comma_ahead fresh = 0
comma_ahead after_value = 0
comma_ahead after_comma = 1
comma_ahead after_key = 0

-- a colon that was printed and not yet read
abbrev colon_behind : Place → ℕ
colon_behind fresh = 0
colon_behind after_value = 0
colon_behind after_comma = 0
colon_behind after_key = 1

-- from the place on, the tokens are printed no longer than n bytes
abbrev Prints : Place → List Token → ℕ → Type 0
Prints p ts n = length (print_from (ended p) ts) + colon_behind p ≤ n + comma_ahead p

length-print_token : (b : Bool) (t : Token) (ts : List Token)
    → length (print_from b (t ∷ ts)) ≡ length (separator b t) + length (token_text t) + length (print_from (ends t) ts)
unfolding print_from
length-print_token b t ts =
    omega (
      arith,
      length-append (separator b t) (token_text t ++ print_from (ends t) ts),
      length-append (token_text t) (print_from (ends t) ts),
    )

one_at_most : (b : Bool) → length {A = ℕ} (cond b (44 ∷ []) []) ≤ 1
one_at_most true = omega arith
one_at_most false = omega arith

none_before : (b : Bool) (t : Token) → begins t ≡ false → separator b t ≡ []
none_before true t e = rw e refl
none_before false t e = refl

-- one token more, of at most m bytes, at which a value or a key begins
begins_one : (p : Place) (t : Token) (next : Place) (k : Place → List Token) (m n : ℕ)
    → length (token_text t) ≤ m + colon_behind next → ends t ≡ ended next → comma_ahead next ≡ 0
    → HasNoBad (if_allowed (may_begin p) t k next)
    → Prints next (k next) n → Prints p (if_allowed (may_begin p) t k next) (m + n)
begins_one fresh t next k m n text same none clean h =
    omega (arith, length-print_token false t (k next), ap (λ b. length (print_from b (k next))) same)
begins_one after_value t next k m n text same none clean h = absurd clean
begins_one after_comma t next k m n text same none clean h =
    omega (
      arith,
      length-print_token true t (k next),
      one_at_most (begins t),
      ap (λ b. length (print_from b (k next))) same,
    )
begins_one after_key t next k m n text same none clean h = absurd clean

-- one token more, a closing bracket
closes_one : (p : Place) (t : Token) (k : Place → List Token) (n : ℕ) → begins t ≡ false → ends t ≡ true
    → HasNoBad (if_allowed (may_close p) t k after_value)
    → Prints after_value (k after_value) n
    → Prints p (if_allowed (may_close p) t k after_value) (length (token_text t) + n)
closes_one fresh t k n closes same clean h =
    omega (
      arith,
      length-print_token false t (k after_value),
      ap length (none_before false t closes),
      ap (λ b. length (print_from b (k after_value))) same,
    )
closes_one after_value t k n closes same clean h =
    omega (
      arith,
      length-print_token true t (k after_value),
      ap length (none_before true t closes),
      ap (λ b. length (print_from b (k after_value))) same,
    )
closes_one after_comma t k n closes same clean h = absurd clean
closes_one after_key t k n closes same clean h = absurd clean

-- what follows an allowed token has no fault either
abbrev Follows : (Place → List Token) → ℕ → Type 0
Follows k n = (next : Place) → HasNoBad (k next) → Prints next (k next) n

rest_begins : (p : Place) (t : Token) (next : Place) (k : Place → List Token)
    → (HasNoBad (t ∷ k next) → HasNoBad (k next)) → HasNoBad (if_allowed (may_begin p) t k next) → HasNoBad (k next)
rest_begins fresh t next k tail clean = tail clean
rest_begins after_value t next k tail clean = absurd clean
rest_begins after_comma t next k tail clean = tail clean
rest_begins after_key t next k tail clean = absurd clean

rest_closes : (p : Place) (t : Token) (k : Place → List Token)
    → (HasNoBad (t ∷ k after_value) → HasNoBad (k after_value)) → HasNoBad (if_allowed (may_close p) t k after_value)
    → HasNoBad (k after_value)
rest_closes fresh t k tail clean = tail clean
rest_closes after_value t k tail clean = tail clean
rest_closes after_comma t k tail clean = absurd clean
rest_closes after_key t k tail clean = absurd clean

begun : (p : Place) (t : Token) (next : Place) (k : Place → List Token) (m n : ℕ)
    → length (token_text t) ≤ m + colon_behind next → ends t ≡ ended next → comma_ahead next ≡ 0
    → (HasNoBad (t ∷ k next) → HasNoBad (k next)) → Follows k n
    → HasNoBad (if_allowed (may_begin p) t k next) → Prints p (if_allowed (may_begin p) t k next) (m + n)
begun p t next k m n text same none tail follows clean =
    begins_one p t next k m n text same none clean (follows next (rest_begins p t next k tail clean))

closed : (p : Place) (t : Token) (k : Place → List Token) (n : ℕ) → begins t ≡ false → ends t ≡ true
    → (HasNoBad (t ∷ k after_value) → HasNoBad (k after_value)) → Follows k n
    → HasNoBad (if_allowed (may_close p) t k after_value)
    → Prints p (if_allowed (may_close p) t k after_value) (length (token_text t) + n)
closed p t k n closes same tail follows clean =
    closes_one p t k n closes same clean (follows after_value (rest_closes p t k tail clean))

placed : (p : Place) (t : Token) (before_colon : Bool) (k : Place → List Token) (n : ℕ) → Follows k n
    → HasNoBad (place_token p t before_colon k) → Prints p (place_token p t before_colon k) (length (token_text t) + n)
placed p begin_object b k n follows clean = begun p begin_object fresh k 1 n (omega arith) refl refl
    (λ c. c) follows clean
placed p end_object b k n follows clean = closed p end_object k n refl refl (λ c. c) follows clean
placed p begin_array b k n follows clean = begun p begin_array fresh k 1 n (omega arith) refl refl
    (λ c. c) follows clean
placed p end_array b k n follows clean = closed p end_array k n refl refl (λ c. c) follows clean
placed p (key s) b k n follows clean = absurd clean
placed p (string s) true k n follows clean =
    begun p (key s) after_key k (length (quoted s)) n (omega (arith, length-append (quoted s) (58 ∷ []))) refl refl
    (λ c. c) follows clean
placed p (string s) false k n follows clean =
    begun p (string s) after_value k (length (quoted s)) n (omega arith) refl refl (λ c. c) follows clean
placed p (number s) b k n follows clean = begun p (number s) after_value k (length s) n (omega arith) refl refl
    (λ c. c) follows clean
placed p (boolean v) b k n follows clean = begun p (boolean v) after_value k (length (token_text (boolean v))) n
    (omega arith) refl refl (λ c. c) follows clean
placed p null b k n follows clean = begun p null after_value k 4 n (omega arith) refl refl (λ c. c) follows clean
placed p bad b k n follows clean = absurd clean

pub punctuate-fits : (p : Place) (ls : List Lexeme) → HasNoBad (punctuate p ls)
    → Prints p (punctuate p ls) (lexemes_size ls)
unfolding punctuate print_from
punctuate-fits fresh [] clean = omega arith
punctuate-fits after_value [] clean = omega arith
punctuate-fits after_comma [] clean = absurd clean
punctuate-fits after_key [] clean = absurd clean
punctuate-fits fresh (token t ∷ ls) clean = placed fresh t (begins_colon ls) (λ next. punctuate next ls)
    (lexemes_size ls) (λ next c. punctuate-fits next ls c) clean
punctuate-fits after_value (token t ∷ ls) clean =
    placed after_value t (begins_colon ls) (λ next. punctuate next ls) (lexemes_size ls)
    (λ next c. punctuate-fits next ls c) clean
punctuate-fits after_comma (token t ∷ ls) clean =
    placed after_comma t (begins_colon ls) (λ next. punctuate next ls) (lexemes_size ls)
    (λ next c. punctuate-fits next ls c) clean
punctuate-fits after_key (token t ∷ ls) clean =
    placed after_key t (begins_colon ls) (λ next. punctuate next ls) (lexemes_size ls)
    (λ next c. punctuate-fits next ls c) clean
punctuate-fits fresh (comma ∷ ls) clean = absurd clean
punctuate-fits after_value (comma ∷ ls) clean = omega (arith, punctuate-fits after_comma ls clean)
punctuate-fits after_comma (comma ∷ ls) clean = absurd clean
punctuate-fits after_key (comma ∷ ls) clean = absurd clean
punctuate-fits fresh (colon ∷ ls) clean = absurd clean
punctuate-fits after_value (colon ∷ ls) clean = absurd clean
punctuate-fits after_comma (colon ∷ ls) clean = absurd clean
punctuate-fits after_key (colon ∷ ls) clean = omega (arith, punctuate-fits fresh ls clean)
