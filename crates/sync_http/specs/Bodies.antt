-- The small bodies: what a target knows, and the position that a source tells. Each is one JSON object, whose members
-- come in any order; members of other names are ignored, and of a repeated name the last one counts.
use Rattle.std.specs.Prelude.{ℕ, pos, List, codes, is_some, Option, Some}
use Rattle.serde_json.specs.Data.{Data}
use Rattle.serde_json.specs.Find.{as_object, get}
use Rattle.content.specs.Tree.{Tree, whole, text, field, no_fields, object}
use Rattle.content.specs.Canonical.{canonical}
use Rattle.content.specs.Faults.{value_of}
use Rattle.u1_base.specs.Ids.{IsId}
use Rattle.u1_base.specs.Places.{Place}
use Rattle.u1_base.specs.declared.ids.Form.TheVariants.{Replica}
use Rattle.sync_http.specs.Chained.{◌>>=◌, only_if}
use Rattle.sync_http.specs.Positions.{IsPosition, position_in, text_id_in, trans_text}
use Rattle.sync_http.specs.declared.info.Info.{Info}

-- ---- the position that a source tells

unfoldable pub told_of : Data → Option Place
told_of d = position_in (codes "generation") (codes "transaction_id") d

-- the position that a body tells, if it tells one
unfoldable pub told_in : List ℕ → Option Place
told_in body = do
  d ← value_of body
  told_of d

-- the one object that is written for it
unfoldable pub told_tree : Place → Tree
told_tree p =
    object (field (codes "generation") (whole (pos p.generation))
    (field (codes "transaction_id") (text (trans_text p)) no_fields))

unfoldable pub told_text : Place → List ℕ
told_text p = canonical (told_tree p)

-- ---- the reply to it

-- an object says that the told position is kept, whatever its members are
abbrev pub kept_in : List ℕ → Option (Unit {0})
kept_in body = do
  d ← value_of body
  only_if (is_some (as_object d)) tt

-- ---- what a target knows

-- an info that a target can give
pub record IsInfo (info : Info) : Type 0 where
  pub target : IsId Replica info.target
  pub target_at : IsPosition info.target_at
  pub source : IsId Replica info.source
  pub source_at : IsPosition info.source_at

-- the replica uid that a member says
unfoldable pub uid_in : List ℕ → Data → Option (List ℕ)
uid_in name d = do
  u ← get name d
  text_id_in Replica u

-- the uid and the position of one side, in three members
unfoldable pub side_in : List ℕ → List ℕ → List ℕ → Data → Option (List ℕ × Place)
side_in uid_name generation_name trans_name d = do
  uid ← uid_in uid_name d
  at ← position_in generation_name trans_name d
  Some (uid, at)

unfoldable pub info_of : Data → Option Info
info_of d = do
  target ← side_in (codes "target_replica_uid") (codes "target_replica_generation")
      (codes "target_replica_transaction_id") d
  source ← side_in (codes "source_replica_uid") (codes "source_replica_generation") (codes "source_transaction_id") d
  Some (record { target = target.0; target_at = target.1; source = source.0; source_at = source.1 })

-- the info that a body says, if it says one
unfoldable pub info_in : List ℕ → Option Info
info_in body = do
  d ← value_of body
  info_of d

unfoldable pub info_tree : Info → Tree
info_tree info =
    object (field (codes "source_replica_generation") (whole (pos info.source_at.generation))
    (field (codes "source_replica_uid") (text info.source)
    (field (codes "source_transaction_id") (text (trans_text info.source_at))
    (field (codes "target_replica_generation") (whole (pos info.target_at.generation))
    (field (codes "target_replica_transaction_id") (text (trans_text info.target_at))
    (field (codes "target_replica_uid") (text info.target) no_fields))))))

unfoldable pub info_text : Info → List ℕ
info_text info = canonical (info_tree info)
