-- The expression of a text as a function: a machine that takes one character at a time. Its law, that it gives a form
-- exactly where the text spells this form, is `spelled-read` and `read-spelled` of the proofs.
use Rattle.std.specs.Prelude.{ℕ, ◌+◌, ◌-◌, ◌*◌, Bool, ◌&&◌, ◌==◌, nat_le, if◌then◌else◌, List, [], ◌∷◌, ◌++◌, codes}
use Rattle.std.specs.Prelude.{Option, Some, None, Result, Ok, Err, encode_utf8}
use Rattle.std.specs.Str.{bytes_eq}
use Rattle.std.specs.Option.{option_map}
use Rattle.expr_parser.specs.declared.reader.TheConstants.{LEAST_WIDTH, GREATEST_WIDTH}
use Rattle.expr_parser.specs.declared.transform.Transform.{Transform}
use Rattle.expr_parser.specs.declared.transform.Transform.TheVariants.{Lower, SplitWords, Number, Truth, Combine}
use Rattle.expr_parser.specs.Forms.{Form, field, lower, split_words, number, truth, combine, forms_of}
use Rattle.expr_parser.specs.Grammar.{is_white, is_part}

-- the transform that has this word
abbrev pub named : List ℕ → Option Transform
named word =
    if bytes_eq word (codes "lower") then Some Lower
    else (if bytes_eq word (codes "split_words") then Some SplitWords
    else (if bytes_eq word (codes "number") then Some Number
    else (if bytes_eq word (codes "bool") then Some Truth
    else (if bytes_eq word (codes "combine") then Some Combine else None))))

-- the brackets that are open, the innermost first: of a transform that has no argument yet, or of a `combine`
-- with these arguments and a comma
pub data Open : Type 0 where
  none : Open
  within : Transform → Open → Open
  combined : List Form → Open → Open

-- where the reader is: what was read of the innermost expression
pub data State : Type 0 where
  -- nothing but white space
  begin : Open → State
  -- a field: its finished parts, and what was read of the last one
  word : Open → List (List ℕ) → List ℕ → State
  -- a field up to a dot
  dot : Open → List (List ℕ) → State
  -- a field, and white space after it
  behind : Open → List (List ℕ) → List ℕ → State
  -- an expression
  done : Open → Form → State
  -- the arguments of a `combine`
  more : Open → List Form → State
  -- the argument of `number` and the comma; then digits; then white space after these
  width : Open → Form → State
  digits : Open → Form → ℕ → State
  spaced : Open → Form → ℕ → State
  -- an expression but for its closing bracket; no step leads here, but where one of these states is
  -- and neither white space nor a comma follows, the reading goes on as from here
  ready : Open → Form → State

-- a comma or a bracket after an argument of `combine`
abbrev pub listed : Open → List Form → ℕ → Option State
listed K fs c =
    if c == 44 then Some (begin (combined fs K)) else (if c == 41 then Some (done K (combine (forms_of fs))) else None)

-- a comma or a bracket after an expression
abbrev pub closed : Open → Form → ℕ → Option State
closed none f c = None
closed (within Lower K) f c = if c == 41 then Some (done K (lower f)) else None
closed (within SplitWords K) f c = if c == 41 then Some (done K (split_words f)) else None
closed (within Truth K) f c = if c == 41 then Some (done K (truth f)) else None
closed (within Number K) f c = if c == 44 then Some (width K f) else None
closed (within Combine K) f c = listed K (f ∷ []) c
closed (combined fs K) f c = listed K (fs ++ f ∷ []) c

-- a bracket after a word
abbrev pub called : Open → List (List ℕ) → List ℕ → Option State
called K [] part = option_map (λ t. begin (within t K)) (named part)
called K (first ∷ parts) part = None

-- what may stand after a field
abbrev pub ended : Open → List (List ℕ) → List ℕ → ℕ → Option State
ended K parts part c =
    if is_white c then Some (behind K parts part)
    else (if c == 40 then called K parts part else closed K (field (parts ++ part ∷ [])) c)

-- what may stand after a width
abbrev pub closing : Open → Form → ℕ → ℕ → Option State
closing K f n c = if is_white c then Some (spaced K f n) else (if c == 41 then Some (done K (number f n)) else None)

-- a digit goes on after a number, so that it is from 1 to 128
unfoldable pub goes_on : ℕ → ℕ → Bool
goes_on n c =
    let longer = n * 10 + (c - 48) in
    nat_le 48 c && nat_le c 57 && nat_le LEAST_WIDTH longer && nat_le longer GREATEST_WIDTH

-- one character on, or none where it cannot stand there
abbrev pub step : State → ℕ → Option State
step (begin K) c =
    if is_part c then Some (word K [] (encode_utf8 c)) else (if is_white c then Some (begin K) else None)
step (word K parts part) c =
    if is_part c then Some (word K parts (part ++ encode_utf8 c))
    else (if c == 46 then Some (dot K (parts ++ part ∷ [])) else ended K parts part c)
step (dot K parts) c = if is_part c then Some (word K parts (encode_utf8 c)) else None
step (behind K parts part) c = ended K parts part c
step (done K f) c = if is_white c then Some (done K f) else closed K f c
step (more K fs) c = if is_white c then Some (more K fs) else listed K fs c
step (width K f) c =
    if is_white c then Some (width K f)
    else (if goes_on 0 c then Some (digits K f (0 * 10 + (c - 48))) else None)
step (digits K f n) c =
    if goes_on n c then Some (digits K f (n * 10 + (c - 48))) else closing K f n c
step (spaced K f n) c = closing K f n c
step (ready K f) c = if c == 41 then Some (done K f) else None

-- an expression at the end of the text, where no bracket is open
abbrev pub finished : Open → Form → Option Form
finished none f = Some f
finished (within t K) f = None
finished (combined fs K) f = None

abbrev pub result_of : State → Option Form
result_of (begin K) = None
result_of (word K parts part) = finished K (field (parts ++ part ∷ []))
result_of (dot K parts) = None
result_of (behind K parts part) = finished K (field (parts ++ part ∷ []))
result_of (done K f) = finished K f
result_of (more K fs) = None
result_of (width K f) = None
result_of (digits K f n) = None
result_of (spaced K f n) = None
result_of (ready K f) = None

abbrev pub at_end : Option Form → Result Form (List ℕ)
at_end None = Err []
at_end (Some f) = Ok f

abbrev pub onward : Option State → (State → Result Form (List ℕ)) → List ℕ → Result Form (List ℕ)
onward None go left = Err left
onward (Some s) go left = go s

-- the form of the whole text, or what is left where no expression goes on
abbrev pub run : State → List ℕ → Result Form (List ℕ)
run s [] = at_end (result_of s)
run s (c ∷ cs) = onward (step s c) (λ t. run t cs) (c ∷ cs)
