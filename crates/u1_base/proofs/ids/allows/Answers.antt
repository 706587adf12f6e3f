-- The table is held against each alphabet at each of the 256 bytes, by computing.
use Rattle.std.proofs.Common.{ℕ, Bool, get_or, nat_le, refl, arith}
use Rattle.std.proofs.lemmas.Bool.{agree_below_at}
use Rattle.u1_base.specs.declared.ids.Form.TheVariants.{Document, Replica, Transaction, Name}
use Rattle.u1_base.specs.declared.ids.TheConstants.{FIRST_ALPHABETS}
use Rattle.u1_base.specs.Ids.{is_allowed}
use Rattle.u1_base.proofs.ids.allows.Goals as goal

-- whether the first alphabet that has the byte is at most this one
abbrev up_to : ℕ → ℕ → Bool
up_to last b = nat_le (get_or FIRST_ALPHABETS b 0) last

pub returns-in-Transaction : goal.returns-in-Transaction
returns-in-Transaction c =
    rw c.in-Transaction.is (rw c.first_alphabet.ensures
    (agree_below_at (up_to 49) (is_allowed Transaction) 256 c.args.byte refl (omega arith)))

pub returns-in-Replica : goal.returns-in-Replica
returns-in-Replica c =
    rw c.in-Replica.is (rw c.first_alphabet-in-Replica.ensures
    (agree_below_at (up_to 50) (is_allowed Replica) 256 c.args.byte refl (omega arith)))

pub returns-in-Name : goal.returns-in-Name
returns-in-Name c =
    rw c.in-Name.is (rw c.first_alphabet-in-Name.ensures
    (agree_below_at (up_to 51) (is_allowed Name) 256 c.args.byte refl (omega arith)))

pub returns-in-Document : goal.returns-in-Document
returns-in-Document c =
    rw c.in-Document.is (rw c.first_alphabet-in-Document.ensures
    (agree_below_at (up_to 52) (is_allowed Document) 256 c.args.byte refl (omega arith)))
