-- Positions in messages: two members of a JSON object, a generation and the id of the transaction that made it.
use Rattle.std.specs.Prelude.{◌≡◌, ◌↔◌, ℕ, ◌≤◌, ◌==◌, nat_le, Bool, true, false, if◌then◌else◌, List, [], Option}
use Rattle.std.specs.Prelude.{Some, IsNone, IfSome, option_map, unwrap_or}
use Rattle.serde_json.specs.Data.{Data, null, boolean, number, string, array, object}
use Rattle.serde_json.specs.Find.{get, as_str, as_number, as_u64}
use Rattle.u1_base.specs.Ids.{IsId, id_in}
use Rattle.u1_base.specs.Places.{Place, nowhere}
use Rattle.u1_base.specs.declared.limits.TheConstants.{GREATEST_COUNT}
use Rattle.u1_base.specs.declared.ids.Form.{Form}
use Rattle.u1_base.specs.declared.ids.Form.TheVariants.{Transaction}
use Rattle.sync_http.specs.Chained.{◌>>=◌, only_if}

-- a place that a log can have: its generation is not too great, and only generation 0 has no transaction
pub record IsPosition (p : Place) : Type 0 where
  pub counted : p.generation ≤ GREATEST_COUNT
  pub named : (IsNone p.trans) ↔ (p.generation ≡ 0)
  pub id : IfSome p.trans (IsId Transaction)

-- ---- reading

-- a whole number from 0 to the greatest count
abbrev pub generation_in : Data → Option ℕ
generation_in d = do
  n ← as_number d
  g ← as_u64 n
  only_if (nat_le g GREATEST_COUNT) g

-- a string that is an id of this form
abbrev pub text_id_in : Form → Data → Option (List ℕ)
text_id_in form d = do
  s ← as_str d
  id_in form s

-- a string or null
abbrev pub is_text_or_null : Data → Bool
is_text_or_null null = true
is_text_or_null (boolean b) = false
is_text_or_null (number n) = false
is_text_or_null (string s) = true
is_text_or_null (array ds) = false
is_text_or_null (object ms) = false

-- the place of a generation above 0, made by this transaction
abbrev pub made_by : ℕ → List ℕ → Place
made_by g id = record { generation = g; trans = Some id }

-- the place of a generation and of what stands for its transaction: at generation 0 any string or null, above it a
-- transaction id
abbrev pub place_at : ℕ → Data → Option Place
place_at g d = if g == 0 then only_if (is_text_or_null d) nowhere else option_map (made_by g) (text_id_in Transaction d)

-- the place that two members of an object say, by the names of the members
unfoldable pub position_in : List ℕ → List ℕ → Data → Option Place
position_in generation_name trans_name d = do
  g ← get generation_name d
  generation ← generation_in g
  t ← get trans_name d
  place_at generation t

-- ---- writing

-- the text that is written for the transaction: empty where there is none
abbrev pub trans_text : Place → List ℕ
trans_text p = unwrap_or p.trans []
