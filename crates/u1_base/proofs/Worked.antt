-- The definitions of ids, computed on worked texts.
use Rattle.std.specs.Prelude.{◌≡◌, [], codes, true, false, Some, None, refl}
use Rattle.u1_base.specs.Ids.{id_in, is_id, same_id}
use Rattle.u1_base.specs.declared.ids.Form.TheVariants.{Document, Replica, Transaction, Name}

percent_in_a_document_id : id_in Document (codes "a.b_c-d%") ≡ Some (codes "a.b_c-d%")
percent_in_a_document_id = refl

blank : id_in Document (codes "a b") ≡ None
blank = refl

empty : is_id Name [] ≡ false
empty = refl

dot_in_a_uid : is_id Replica (codes "a.b") ≡ false
dot_in_a_uid = refl

dot_in_a_name : is_id Name (codes "a.b") ≡ true
dot_in_a_name = refl

underscore_in_a_transaction_id : is_id Transaction (codes "T_1") ≡ false
underscore_in_a_transaction_id = refl

alike : same_id (codes "d1") (codes "d1") ≡ true
alike = refl

longer : same_id (codes "d1") (codes "d10") ≡ false
longer = refl
