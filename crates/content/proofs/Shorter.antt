-- The canonical text of what was read is no longer than the text that was read.
use Rattle.std.proofs.Common.{◌≡◌, ℕ, ◌≤◌, List, [], ◌∷◌, ◌++◌, length, Option, Some, None, option_and_then, refl, sym}
use Rattle.std.proofs.Common.{ap, ◌∙◌, subst, arith, append-nil, append_assoc}
use Rattle.json.specs.Token.{Token}
use Rattle.json.specs.Lex.{tokens, lex, between, fresh}
use Rattle.json.specs.Json as json
use Rattle.json.specs.Print.{print}
use Rattle.json.specs.Tree.{json_tokens, items_tokens, members_tokens}
use Rattle.json.proofs.Unique.Spelling.{value-json_tokens_back}
use Rattle.serde_json.specs.Data.{Data}
use Rattle.serde_json.specs.Read.{of_json, max_depth, read}
use Rattle.serde_json.specs.Written.{compact_text}
use Rattle.content.proofs.Lexed.{lex-fits}
use Rattle.content.proofs.Placed.{HasNoBad, punctuate-fits}
use Rattle.content.proofs.Sizes.{size, compact_text-short, length-print}

mutual
  no_bad : (j : json.Json) (ts : List Token) → HasNoBad ts → HasNoBad (json_tokens j ++ ts)
  no_bad json.null ts h = h
  no_bad (json.boolean b) ts h = h
  no_bad (json.number s) ts h = h
  no_bad (json.string s) ts h = h
  no_bad (json.array js) ts h = no_bad_items js ts h
  no_bad (json.object ms) ts h = no_bad_members ms ts h

  no_bad_items : (js : json.Items) (ts : List Token) → HasNoBad ts → HasNoBad (items_tokens js ++ ts)
  no_bad_items json.no_items ts h = h
  no_bad_items (json.item j js) ts h =
      subst HasNoBad (sym (append_assoc (json_tokens j) (items_tokens js) ts))
      (no_bad j (items_tokens js ++ ts) (no_bad_items js ts h))

  no_bad_members : (ms : json.Members) (ts : List Token) → HasNoBad ts → HasNoBad (members_tokens ms ++ ts)
  no_bad_members json.no_members ts h = h
  no_bad_members (json.member k j ms) ts h =
      subst HasNoBad (sym (append_assoc (json_tokens j) (members_tokens ms) ts))
      (no_bad j (members_tokens ms ++ ts) (no_bad_members ms ts h))

-- the value that stands alone in the text
pub alone : (o : Option (json.Json × List Token)) (d : Data)
    → option_and_then of_json (option_and_then (λ p. json.if_last p.0 p.1) o) ≡ Some d
    → (j : json.Json) × (o ≡ Some (j, [])) × (of_json j ≡ Some d)
alone None d e = absurd (cc)
alone (Some (j, [])) d e = (j, refl, e)
alone (Some (j, t ∷ ts)) d e = absurd (cc)

size-text : (text : List ℕ) (j : json.Json) → tokens text ≡ json_tokens j → size j ≤ length text
size-text text j e =
    let clean : HasNoBad (tokens text) = subst HasNoBad (sym e)
    (subst HasNoBad (append-nil (json_tokens j)) (no_bad j [] tt)) in
    let printed : length (print (tokens text)) ≡ size j = ap (λ ts. length (print ts)) e ∙ length-print j in
    let fits = punctuate-fits fresh (lex between text) clean in
    omega (arith, fits, lex-fits text)

pub compact-shorter : (text : List ℕ) (d : Data) → read text ≡ Some d → length (compact_text d) ≤ length text
compact-shorter text d e =
    let found = alone (json.value max_depth (tokens text)) d e in
    let j = found.0 in
    let spelled : tokens text ≡ json_tokens j = value-json_tokens_back max_depth (tokens text) [] j found.1
    ∙ append-nil (json_tokens j) in
    omega (arith, compact_text-short j d found.2, size-text text j spelled)
