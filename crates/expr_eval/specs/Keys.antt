-- The keys of a content tree for a list of expressions.
use Rattle.std.specs.Prelude.{ℕ, nat_le, List, [], ◌∷◌, length, map, filter, flat_map, take}
use Rattle.u1_base.specs.declared.limits.TheConstants.{MOST_DOCUMENT_KEYS, MOST_KEY_TEXT_BYTES}
use Rattle.content.specs.Tree.{Tree}
use Rattle.expr_parser.specs.Forms.{Form}
use Rattle.expr_eval.specs.Values.{texts_of}
use Rattle.expr_eval.specs.Words.{distinct}

-- the longest text that becomes a part of a key, in bytes
abbrev pub longest : ℕ
longest = MOST_KEY_TEXT_BYTES

-- the most keys of one content
abbrev pub most : ℕ
most = MOST_DOCUMENT_KEYS

-- the texts that may be a part of a key, each once
abbrev pub key_texts : List (List ℕ) → List (List ℕ)
key_texts texts = distinct (filter (λ text. nat_le (length text) longest) texts)

-- all lists with one text of each list, the last list changing fastest
abbrev pub tuples : List (List (List ℕ)) → List (List (List ℕ))
tuples [] = [] ∷ []
tuples (texts ∷ lists) = flat_map (λ text. map (λ tuple. text ∷ tuple) (tuples lists)) texts

-- the keys: the first of these lists, over the texts of the expressions, and no more than one content may have
abbrev pub keys_of : List Form → Tree → List (List (List ℕ))
keys_of forms tree = take most (tuples (map (λ f. key_texts (texts_of f tree)) forms))
