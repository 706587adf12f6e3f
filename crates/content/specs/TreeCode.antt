-- Private: how the prover stores a tree, namely as the steps that build it over a stack of trees.
use Rattle.std.specs.Prelude.{◌≡◌, ℕ, ◌==◌, pos, negsuc, List, [], ◌∷◌, true, false, cond, refl}
use Rattle.std.specs.Coded.{Coded, code_by, coded×, coded_ℕ, coded_list}
use Rattle.std.proofs.Common.{◌∙◌}
use Rattle.content.specs.Tree.{Tree, null, boolean, whole, text, list, object, Items, no_items, item, Fields, no_fields}
use Rattle.content.specs.Tree.{field}

-- a step: its kind, and the numbers or bytes that it holds
abbrev Step : Type 0
Step = ℕ × List ℕ

-- the steps of a tree, before others
abbrev mutual
  spell : Tree → List Step → List Step
  spell null rest = (0, []) ∷ rest
  spell (boolean true) rest = (1, []) ∷ rest
  spell (boolean false) rest = (2, []) ∷ rest
  spell (whole (pos n)) rest = (3, n ∷ []) ∷ rest
  spell (whole (negsuc n)) rest = (4, n ∷ []) ∷ rest
  spell (text s) rest = (5, s) ∷ rest
  spell (list ts) rest = spell_items ts rest
  spell (object fs) rest = spell_fields fs rest

  spell_items : Items → List Step → List Step
  spell_items no_items rest = (6, []) ∷ rest
  spell_items (item t ts) rest = spell_items ts (spell t ((7, []) ∷ rest))

  spell_fields : Fields → List Step → List Step
  spell_fields no_fields rest = (8, []) ∷ rest
  spell_fields (field name t fs) rest = spell_fields fs (spell t ((9, name) ∷ rest))

abbrev first : List ℕ → ℕ
first [] = 0
first (n ∷ ns) = n

abbrev items_in : Tree → Items
items_in null = no_items
items_in (boolean b) = no_items
items_in (whole z) = no_items
items_in (text s) = no_items
items_in (list ts) = ts
items_in (object fs) = no_items

abbrev fields_in : Tree → Fields
fields_in null = no_fields
fields_in (boolean b) = no_fields
fields_in (whole z) = no_fields
fields_in (text s) = no_fields
fields_in (list ts) = no_fields
fields_in (object fs) = fs

-- puts the first tree of the stack before the items of the list, or the fields of the object, below it
abbrev add_item : List Tree → List Tree
add_item [] = []
add_item (t ∷ []) = []
add_item (t ∷ u ∷ stack) = list (item t (items_in u)) ∷ stack

abbrev add_field : List ℕ → List Tree → List Tree
add_field name [] = []
add_field name (t ∷ []) = []
add_field name (t ∷ u ∷ stack) = object (field name t (fields_in u)) ∷ stack

abbrev act : ℕ → List ℕ → List Tree → List Tree
act kind held stack =
    cond (kind == 0) (null ∷ stack) (cond (kind == 1) (boolean true ∷ stack) (cond (kind == 2) (boolean false ∷ stack)
    (cond (kind == 3) (whole (pos (first held)) ∷ stack) (cond (kind == 4) (whole (negsuc (first held)) ∷ stack)
    (cond (kind == 5) (text held ∷ stack) (cond (kind == 6) (list no_items ∷ stack) (cond (kind == 7) (add_item stack)
    (cond (kind == 8) (object no_fields ∷ stack) (add_field held stack)))))))))

abbrev run : List Step → List Tree → List Tree
run [] stack = stack
run (s ∷ steps) stack = run steps (act s.0 s.1 stack)

abbrev top : List Tree → Tree
top [] = null
top (t ∷ stack) = t

mutual
  run-spell : (t : Tree) (rest : List Step) (stack : List Tree) → run (spell t rest) stack ≡ run rest (t ∷ stack)
  run-spell null rest stack = refl
  run-spell (boolean true) rest stack = refl
  run-spell (boolean false) rest stack = refl
  run-spell (whole (pos n)) rest stack = refl
  run-spell (whole (negsuc n)) rest stack = refl
  run-spell (text s) rest stack = refl
  run-spell (list ts) rest stack = run-spell_items ts rest stack
  run-spell (object fs) rest stack = run-spell_fields fs rest stack

  run-spell_items : (ts : Items) (rest : List Step) (stack : List Tree)
      → run (spell_items ts rest) stack ≡ run rest (list ts ∷ stack)
  run-spell_items no_items rest stack = refl
  run-spell_items (item t ts) rest stack =
      run-spell_items ts (spell t ((7, []) ∷ rest)) stack ∙ run-spell t ((7, []) ∷ rest) (list ts ∷ stack)

  run-spell_fields : (fs : Fields) (rest : List Step) (stack : List Tree)
      → run (spell_fields fs rest) stack ≡ run rest (object fs ∷ stack)
  run-spell_fields no_fields rest stack = refl
  run-spell_fields (field name t fs) rest stack =
      run-spell_fields fs (spell t ((9, name) ∷ rest)) stack ∙ run-spell t ((9, name) ∷ rest) (object fs ∷ stack)

pub spelled : (t : Tree) → top (run (spell t []) []) ≡ t
spelled t = (λ i. top (run-spell t [] [] i))

abbrev pub tree_code : Coded Tree
tree_code =
    code_by (List Step) (coded_list (coded× coded_ℕ (coded_list coded_ℕ))) (λ t. spell t [])
    (λ steps. top (run steps [])) spelled
