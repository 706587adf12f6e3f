-- A value that was read is written no longer than the JSON tree that it was read from.
use Rattle.std.proofs.Common.{◌≡◌, ℕ, ◌+◌, ◌≤◌, max, Bool, true, false, List, [], ◌∷◌, ◌++◌, length, Option, Some, None}
use Rattle.std.proofs.Common.{option_map, option_and_then, Ordering, Less, Equal, Greater, nat_cmp, refl, sym, ap, ◌∙◌}
use Rattle.std.proofs.Common.{subst, arith, length-append, append_assoc, append-nil}
use Rattle.std.specs.Prelude.{⊤}
use Rattle.std.specs.Cmp.Lexicographic.{slice_cmp}
use Rattle.std.specs.Ordering.{match_ordering}
use Rattle.json.specs.Token.{Token}
use Rattle.json.specs.Print.{quoted, token_text, begins, ends, separator, print, print_from}
use Rattle.json.specs.Json as json
use Rattle.json.specs.Tree.{json_tokens, items_tokens, members_tokens}
use Rattle.serde_json.specs.Data.{Num, Data, number, array, object, Items, no_items, item, Members, no_members, member}
use Rattle.serde_json.specs.Data.{put}
use Rattle.serde_json.specs.Read.{number_of, of_json, of_items, of_members}
use Rattle.serde_json.specs.Written.{number_text, compact_text, items_text, members_text}
use Rattle.content.proofs.NumberLength.{number_short}

-- ---- how long a tree is as text; each item and each member counts with a comma or the closing bracket

abbrev mutual
  pub size : json.Json → ℕ
  size json.null = 4
  size (json.boolean b) = length (token_text (Token.boolean b))
  size (json.number s) = length s
  size (json.string s) = length (quoted s)
  size (json.array js) = 1 + max 1 (items_size js)
  size (json.object ms) = 1 + max 1 (members_size ms)

  pub items_size : json.Items → ℕ
  items_size json.no_items = 0
  items_size (json.item j js) = size j + 1 + items_size js

  pub members_size : json.Members → ℕ
  members_size json.no_members = 0
  members_size (json.member k j ms) = length (quoted k) + 2 + size j + members_size ms

-- ---- and a value

abbrev items_sum : Items → ℕ
items_sum no_items = 0
items_sum (item d ds) = length (compact_text d) + 1 + items_sum ds

abbrev members_sum : Members → ℕ
members_sum no_members = 0
members_sum (member k d ms) = length (quoted k) + 2 + length (compact_text d) + members_sum ms

length-items_text : (ds : Items) → length (items_text true ds) ≡ 1 + items_sum ds
length-items_text no_items = refl
length-items_text (item d ds) = omega (arith, length-append (compact_text d) (items_text true ds), length-items_text ds)

length-items : (ds : Items) → length (items_text false ds) ≡ max 1 (items_sum ds)
length-items no_items = refl
length-items (item d ds) = omega (arith, length-append (compact_text d) (items_text true ds), length-items_text ds)

length-member : (k : List ℕ) (d : Data) (rest : List ℕ)
    → length (quoted k ++ 58 ∷ (compact_text d ++ rest)) ≡ length (quoted k) + 1 + length (compact_text d) + length rest
length-member k d rest =
    omega (arith, length-append (quoted k) (58 ∷ (compact_text d ++ rest)), length-append (compact_text d) rest)

length-members_text : (ms : Members) → length (members_text true ms) ≡ 1 + members_sum ms
length-members_text no_members = refl
length-members_text (member k d ms) = omega (arith, length-member k d (members_text true ms), length-members_text ms)

length-members : (ms : Members) → length (members_text false ms) ≡ max 1 (members_sum ms)
length-members no_members = refl
length-members (member k d ms) = omega (arith, length-member k d (members_text true ms), length-members_text ms)

-- ---- a member that is put in adds its own size at most

members_sum-match : (o : Ordering) (a b c : Members) (n : ℕ) → members_sum a ≤ n → members_sum b ≤ n
    → members_sum c ≤ n → members_sum (match_ordering o a b c) ≤ n
members_sum-match Less a b c n p q r = p
members_sum-match Equal a b c n p q r = q
members_sum-match Greater a b c n p q r = r

members_sum-put : (k : List ℕ) (d : Data) (ms : Members)
    → members_sum (put k d ms) ≤ length (quoted k) + 2 + length (compact_text d) + members_sum ms
members_sum-put k d no_members = omega arith
members_sum-put k d (member l e ms) =
    members_sum-match (slice_cmp nat_cmp k l) (member k d (member l e ms)) (member l d ms) (member l e (put k d ms)) _
    (omega arith) (omega arith) (omega (arith, members_sum-put k d ms))

-- ---- what is read is no larger

abbrev AtMost : {A : Type 0} → (A → ℕ) → ℕ → Option A → Type 0
AtMost f n None = ⊤
AtMost f n (Some a) = f a ≤ n

AtMost-map : {A B : Type 0} (f : A → ℕ) (g : B → ℕ) (m n : ℕ) (h : A → B) → ((a : A) → f a ≤ m → g (h a) ≤ n)
    → (o : Option A) → AtMost f m o → AtMost g n (option_map h o)
AtMost-map f g m n h k None x = tt
AtMost-map f g m n h k (Some a) x = k a x

AtMost-and_then : {A B : Type 0} (f : A → ℕ) (g : B → ℕ) (m n : ℕ) (h : A → Option B)
    → ((a : A) → f a ≤ m → AtMost g n (h a)) → (o : Option A) → AtMost f m o → AtMost g n (option_and_then h o)
AtMost-and_then f g m n h k None x = tt
AtMost-and_then f g m n h k (Some a) x = k a x

abbrev text_size : Data → ℕ
text_size d = length (compact_text d)

number_within : (s : List ℕ) (o : Option Num) → number_of s ≡ o → AtMost (λ x. length (number_text x)) (length s) o
number_within s None e = tt
number_within s (Some x) e = number_short s x e

mutual
  size-of_json : (j : json.Json) → AtMost text_size (size j) (of_json j)
  size-of_json json.null = omega arith
  size-of_json (json.boolean b) = omega arith
  size-of_json (json.number s) = AtMost-map (λ x. length (number_text x)) text_size (length s) (length s) number
      (λ x h. h) (number_of s) (number_within s (number_of s) refl)
  size-of_json (json.string s) = omega arith
  size-of_json (json.array js) =
      AtMost-map items_sum text_size (items_size js) (1 + max 1 (items_size js)) array
      (λ ds h. omega (arith, length-items ds)) (of_items js) (size-of_items js)
  size-of_json (json.object ms) =
      AtMost-map members_sum text_size (members_size ms) (1 + max 1 (members_size ms)) object
      (λ os h. omega (arith, length-members os)) (of_members ms no_members)
      (size-of_members ms no_members _ (omega arith))

  size-of_items : (js : json.Items) → AtMost items_sum (items_size js) (of_items js)
  size-of_items json.no_items = omega arith
  size-of_items (json.item j js) =
      AtMost-and_then text_size items_sum (size j) (size j + 1 + items_size js) (λ d. option_map (item d) (of_items js))
      (λ d h. AtMost-map items_sum items_sum (items_size js) (size j + 1 + items_size js) (item d)
      (λ ds k. omega arith) (of_items js) (size-of_items js)) (of_json j) (size-of_json j)

  size-of_members : (ms : json.Members) (found : Members) (n : ℕ) → members_sum found + members_size ms ≤ n
      → AtMost members_sum n (of_members ms found)
  size-of_members json.no_members found n h = omega arith
  size-of_members (json.member k j ms) found n h =
      AtMost-and_then text_size members_sum (size j) n (λ d. of_members ms (put k d found))
      (λ d x. size-of_members ms (put k d found) n (omega (arith, members_sum-put k d found))) (of_json j)
      (size-of_json j)

pub compact_text-short : (j : json.Json) (d : Data) → of_json j ≡ Some d → length (compact_text d) ≤ size j
compact_text-short j d e = subst (AtMost text_size (size j)) e (size-of_json j)

-- ---- the tokens of a tree are printed at its size

abbrev items_length : Bool → json.Items → ℕ
items_length true js = 1 + items_size js
items_length false js = max 1 (items_size js)

abbrev members_length : Bool → json.Members → ℕ
members_length true ms = 1 + members_size ms
members_length false ms = max 1 (members_size ms)

abbrev comma_length : Bool → ℕ
comma_length true = 1
comma_length false = 0

items_step : (later : Bool) (j : json.Json) (js : json.Items) (n : ℕ)
    → comma_length later + size j + (items_length true js + n) ≡ items_length later (json.item j js) + n
items_step true j js n = omega arith
items_step false j js n = omega arith

members_step : (later : Bool) (k : List ℕ) (j : json.Json) (ms : json.Members) (n : ℕ)
    → comma_length later + (length (quoted k) + 1) + (size j + (members_length true ms + n))
    ≡ members_length later (json.member k j ms) + n
members_step true k j ms n = omega arith
members_step false k j ms n = omega arith

length-separator : (later : Bool) (t : Token) → begins t ≡ true → length (separator later t) ≡ comma_length later
length-separator true t e = rw e refl
length-separator false t e = refl

length-print_token : (later : Bool) (t : Token) (ts : List Token) → begins t ≡ true
    → length (print_from later (t ∷ ts)) ≡ comma_length later + length (token_text t) + length (print_from (ends t) ts)
unfolding print_from
length-print_token later t ts e =
    omega (
      arith,
      length-append (separator later t) (token_text t ++ print_from (ends t) ts),
      length-append (token_text t) (print_from (ends t) ts),
      length-separator later t e,
    )

length-print_end : (later : Bool) (t : Token) (ts : List Token) → begins t ≡ false
    → length (print_from later (t ∷ ts)) ≡ length (token_text t) + length (print_from (ends t) ts)
unfolding print_from
length-print_end true t ts e = rw e (length-append (token_text t) (print_from (ends t) ts))
length-print_end false t ts e = length-append (token_text t) (print_from (ends t) ts)

mutual
  length-print_value : (later : Bool) (j : json.Json) (ts : List Token)
      → length (print_from later (json_tokens j ++ ts)) ≡ comma_length later + size j + length (print_from true ts)
  length-print_value later json.null ts = length-print_token later Token.null ts refl
  length-print_value later (json.boolean b) ts = length-print_token later (Token.boolean b) ts refl
  length-print_value later (json.number s) ts = length-print_token later (Token.number s) ts refl
  length-print_value later (json.string s) ts = length-print_token later (Token.string s) ts refl
  length-print_value later (json.array js) ts =
      omega (
        arith,
        length-print_token later Token.begin_array (items_tokens js ++ ts) refl,
        length-print_items false js ts,
      )
  length-print_value later (json.object ms) ts =
      omega (
        arith,
        length-print_token later Token.begin_object (members_tokens ms ++ ts) refl,
        length-print_members false ms ts,
      )

  length-print_items : (later : Bool) (js : json.Items) (ts : List Token)
      → length (print_from later (items_tokens js ++ ts)) ≡ items_length later js + length (print_from true ts)
  length-print_items true json.no_items ts = length-print_end true Token.end_array ts refl
  length-print_items false json.no_items ts = length-print_end false Token.end_array ts refl
  length-print_items later (json.item j js) ts =
      ap (λ l. length (print_from later l)) (append_assoc (json_tokens j) (items_tokens js) ts)
      ∙ omega (
        arith,
        length-print_value later j (items_tokens js ++ ts),
        length-print_items true js ts,
        items_step later j js (length (print_from true ts)),
      )

  length-print_members : (later : Bool) (ms : json.Members) (ts : List Token)
      → length (print_from later (members_tokens ms ++ ts)) ≡ members_length later ms + length (print_from true ts)
  length-print_members true json.no_members ts = length-print_end true Token.end_object ts refl
  length-print_members false json.no_members ts = length-print_end false Token.end_object ts refl
  length-print_members later (json.member k j ms) ts =
      let rest = members_tokens ms ++ ts in
      ap (λ l. length (print_from later (Token.key k ∷ l))) (append_assoc (json_tokens j) (members_tokens ms) ts)
      ∙ omega (
        arith,
        length-print_token later (Token.key k) (json_tokens j ++ rest) refl,
        length-append (quoted k) (58 ∷ []),
        length-print_value false j rest,
        length-print_members true ms ts,
        members_step later k j ms (length (print_from true ts)),
      )

pub length-print : (j : json.Json) → length (print (json_tokens j)) ≡ size j
unfolding print_from
length-print j = ap (λ l. length (print l)) (sym (append-nil (json_tokens j))) ∙ length-print_value false j []
    ∙ omega arith
