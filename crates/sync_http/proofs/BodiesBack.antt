-- A body that was written is read as what it was written for.
use Rattle.std.proofs.Common.{◌≡◌, codes, Some, refl, ap, ◌∙◌, arith}
use Rattle.json.proofs.Printed.Utf8.{IsUtf8-are_ascii}
use Rattle.content.specs.Canonical.{data_of}
use Rattle.content.specs.Contents.{IsFormed}
use Rattle.u1_base.specs.Places.{Place}
use Rattle.u1_base.specs.declared.ids.Form.TheVariants.{Replica}
use Rattle.u1_base.proofs.IdFacts.{in_id}
use Rattle.sync_http.specs.Chained.{◌>>=◌}
use Rattle.sync_http.specs.Positions.{IsPosition}
use Rattle.sync_http.specs.Bodies.{IsInfo, told_of, told_in, told_tree, told_text, side_in, uid_in, info_of, info_in}
use Rattle.sync_http.specs.Bodies.{info_tree, info_text}
use Rattle.sync_http.specs.declared.info.Info.{Info}
use Rattle.sync_http.proofs.PositionsBack.{IsUtf8-id, IsUtf8-trans_text, FitsSigned-generation, value_of-tree}
use Rattle.sync_http.proofs.PositionsBack.{position_back}

-- ---- a told position

told_formed : (p : Place) → IsPosition p → IsFormed (told_tree p)
unfolding told_tree
told_formed p h = (
  IsUtf8-are_ascii (codes "generation") refl,
  (refl, tt),
  FitsSigned-generation p h,
  (IsUtf8-are_ascii (codes "transaction_id") refl, tt, IsUtf8-trans_text p h, tt),
)

told_of-tree : (p : Place) → IsPosition p → told_of (data_of (told_tree p)) ≡ Some p
unfolding told_of told_tree
told_of-tree p h = position_back (codes "generation") (codes "transaction_id") (data_of (told_tree p)) p h refl refl

pub told_back : (p : Place) → IsPosition p → told_in (told_text p) ≡ Some p
unfolding told_in told_text told_tree
told_back p h =
    ap (λ d. d >>= told_of) (value_of-tree (told_tree p) (told_formed p h) (omega arith)) ∙ told_of-tree p h

-- ---- what a target says

info_formed : (info : Info) → IsInfo info → IsFormed (info_tree info)
unfolding info_tree
info_formed info h = (
  IsUtf8-are_ascii (codes "source_replica_generation") refl,
  (refl, (refl, (refl, (refl, (refl, tt))))),
  FitsSigned-generation info.source_at h.source_at,
  (
    IsUtf8-are_ascii (codes "source_replica_uid") refl,
    (refl, (refl, (refl, (refl, tt)))),
    IsUtf8-id Replica info.source h.source,
    (
      IsUtf8-are_ascii (codes "source_transaction_id") refl,
      (refl, (refl, (refl, tt))),
      IsUtf8-trans_text info.source_at h.source_at,
      (
        IsUtf8-are_ascii (codes "target_replica_generation") refl,
        (refl, (refl, tt)),
        FitsSigned-generation info.target_at h.target_at,
        (
          IsUtf8-are_ascii (codes "target_replica_transaction_id") refl,
          (refl, tt),
          IsUtf8-trans_text info.target_at h.target_at,
          (IsUtf8-are_ascii (codes "target_replica_uid") refl, tt, IsUtf8-id Replica info.target h.target, tt),
        ),
      ),
    ),
  ),
)

info_of-tree : (info : Info) → IsInfo info → info_of (data_of (info_tree info)) ≡ Some info
unfolding info_of info_tree side_in uid_in
info_of-tree info h =
    let d = data_of (info_tree info) in
    let target_at = position_back (codes "target_replica_generation")
    (codes "target_replica_transaction_id") d info.target_at h.target_at refl refl in
    let source_at = position_back (codes "source_replica_generation")
    (codes "source_transaction_id") d info.source_at h.source_at refl refl in
    rw (in_id Replica info.target h.target, target_at, in_id Replica info.source h.source, source_at) refl

pub info_back : (info : Info) → IsInfo info → info_in (info_text info) ≡ Some info
unfolding info_in info_text info_tree
info_back info h =
    ap (λ d. d >>= info_of) (value_of-tree (info_tree info) (info_formed info h) (omega arith)) ∙ info_of-tree info h
