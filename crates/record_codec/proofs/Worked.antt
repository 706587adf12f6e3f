-- Bodies that were worked by hand.
use Rattle.std.proofs.Common.{◌≡◌, ℕ, true, List, [], ◌∷◌, None, Ok, Err, refl}
use Rattle.std.specs.Prelude.{codes}
use Rattle.std.specs.Fmt.{digits}
use Rattle.conflicts.specs.declared.accept.Making.TheVariants as making_of
use Rattle.conflicts.specs.declared.moves.PosTable.TheVariants as table_of
use Rattle.conflicts.specs.State.{Step, Accepted, Moved}
use Rattle.record_fields.specs.Table.{Text}
use Rattle.record_codec.specs.Bodies.{accept, moved, maybe_moved, body_of, added_of, recorded_in, step_in}
use Rattle.record_codec.specs.Bodies.{first_body_of}

-- only a has a number
own : List Text
own = codes "a" ∷ []

-- a and b have numbers
both : List Text
both = codes "a" ∷ codes "b" ∷ []

-- the told position of b, before the first entry
start : Step
start = Moved (record { table = table_of.Told; uid = codes "b"; at = record { generation = 0; trans = None } })

-- b gets the number 1, and its text follows
introduced : List ℕ
introduced = 3 ∷ 2 ∷ 0 ∷ 0 ∷ 0 ∷ 1 ∷ 0 ∷ 1 ∷ 98 ∷ 0 ∷ 0 ∷ 0 ∷ 0 ∷ 0 ∷ 0 ∷ 0 ∷ 0 ∷ 0 ∷ 0 ∷ []

introduces : body_of own start ≡ introduced
unfolding body_of moved own start introduced
introduces = refl

adds : added_of own start ≡ codes "b" ∷ []
unfolding added_of moved own start
adds = refl

-- b has the number 1
names : body_of both start ≡ 3 ∷ 2 ∷ 0 ∷ 0 ∷ 0 ∷ 1 ∷ 0 ∷ 0 ∷ 0 ∷ 0 ∷ 0 ∷ 0 ∷ 0 ∷ 0 ∷ 0 ∷ 0 ∷ []
unfolding body_of moved both start
names = refl

-- in format 1 the text stands alone
spells : first_body_of start ≡ 3 ∷ 2 ∷ 0 ∷ 1 ∷ 98 ∷ 0 ∷ 0 ∷ 0 ∷ 0 ∷ 0 ∷ 0 ∷ 0 ∷ 0 ∷ 0 ∷ 0 ∷ []
unfolding first_body_of moved start
spells = refl

reads : step_in own introduced ≡ Ok (record { step = start; added = codes "b" ∷ [] })
unfolding recorded_in moved own start introduced
reads = refl

-- a number past the next free one, and a text that has a number: the reference has no reading
past : step_in own (3 ∷ 2 ∷ 0 ∷ 0 ∷ 0 ∷ 2 ∷ 0 ∷ 1 ∷ 98 ∷ []) ≡ Err 2
unfolding recorded_in moved own
past = refl

again : step_in both (3 ∷ 2 ∷ 0 ∷ 0 ∷ 0 ∷ 2 ∷ 0 ∷ 1 ∷ 98 ∷ []) ≡ Err 2
unfolding recorded_in moved both
again = refl

-- a byte behind the last field
behind : step_in own (5 ∷ 0 ∷ 1 ∷ 105 ∷ 0 ∷ []) ≡ Err 4
unfolding recorded_in own
behind = refl

-- the document d is deleted at a:1, under the transaction id T
deleted : Step
deleted =
    Accepted (codes "d") (record {
      rev = record { entries = (codes "a", 1) ∷ []; well = tt };
      content = None;
      making =
          making_of.Edit;
      parents = [];
      current = true;
    }) (codes "T") None

numbers : body_of own deleted ≡ 1 ∷ 0 ∷ 1 ∷ 100 ∷ 1 ∷ 0 ∷ 0 ∷ 0 ∷ 0 ∷ 0 ∷ 0 ∷ 0 ∷ 0 ∷ 0 ∷ 0 ∷ 0 ∷ 1 ∷ 0 ∷ 0 ∷ 0 ∷ 0 ∷ 0
    ∷ 1 ∷ 0 ∷ 0 ∷ 1 ∷ 84 ∷ 0 ∷ []
unfolding body_of accept maybe_moved own deleted
numbers = refl

-- in format 1 the clock is a:1
texts : first_body_of deleted ≡ 1 ∷ 0 ∷ 1 ∷ 100 ∷ 0 ∷ 3 ∷ 97 ∷ 58 ∷ 49 ∷ 0 ∷ 0 ∷ 0 ∷ 0 ∷ 0 ∷ 1 ∷ 0 ∷ 0 ∷ 1 ∷ 84 ∷ 0 ∷ []
unfolding first_body_of accept maybe_moved deleted digits
texts = refl
