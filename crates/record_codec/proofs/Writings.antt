-- What is written field by field is the body of the step.
use Rattle.std.proofs.Common.{◌≡◌, List, Option, Some, None, refl, ap, ◌∙◌}
use Rattle.u1_base.specs.declared.ids.Form.TheVariants.{Document, Transaction, Name}
use Rattle.conflicts.specs.declared.accept.Accept.{Accept}
use Rattle.conflicts.specs.declared.moves.Move.{Move}
use Rattle.conflicts.specs.State.{Step, Accepted, Gone, Moved, IndexCreated, IndexDeleted}
use Rattle.record_fields.specs.Table.{Text}
use Rattle.record_fields.specs.Fields.{◌then◌}
use Rattle.record_fields.specs.Plain.{byte, id, flag, content, expressions}
use Rattle.record_fields.specs.Named.{reference, clock, clocks, place, peer}
use Rattle.record_fields.specs.Writing.{Written, unwritten, with_field}
use Rattle.record_fields.specs.declared.format.Format.TheVariants.{Second}
use Rattle.record_fields.proofs.Writings.{alike, then_is}
use Rattle.record_codec.specs.Bodies.{making, accept, accept_parts, table, moved, maybe_moved, kind, kind_byte, Parts}
use Rattle.record_codec.specs.Bodies.{parts, step, step_parts, body_of, added_of}
use Rattle.record_codec.specs.declared.kind.Kind.{Kind}
use Rattle.record_codec.specs.declared.kind.Kind.TheVariants as kind_of

pub moved_is : (m : Move) (w : Written)
    → with_field (moved Second) m w ≡ with_field place m.at (with_field reference m.uid (with_field table m.table w))
unfolding moved
moved_is m w =
    alike (moved Second) m (table then λ _. peer Second) (m.table, (m.uid, m.at)) w refl refl
    ∙ then_is table (λ _. peer Second) m.table (m.uid, m.at) w
    ∙ then_is reference (λ _. place) m.uid m.at (with_field table m.table w)

pub maybe_moved_none : (w : Written) → with_field (maybe_moved Second) None w ≡ with_field byte 0 w
unfolding maybe_moved
maybe_moved_none w = alike (maybe_moved Second) None byte 0 w refl refl

pub maybe_moved_some : (m : Move) (w : Written)
    → with_field (maybe_moved Second) (Some m) w ≡ with_field (moved Second) m w
unfolding maybe_moved moved
maybe_moved_some m w = alike (maybe_moved Second) (Some m) (moved Second) m w refl refl

pub ruleset maybe_moves = (maybe_moved_some, maybe_moved_none)

pub accept_is : (a : Accept) (w : Written)
    → with_field (accept Second) a w ≡ with_field content a.content
    (with_field flag a.current
    (with_field (clocks Second) a.parents (with_field making a.making (with_field (clock Second) a.rev w))))
unfolding accept
accept_is a w =
    alike (accept Second) a (clock Second then λ _. making then λ _. clocks Second then λ _. flag then λ _. content)
    (accept_parts a) w refl refl
    ∙ then_is (clock Second) (λ _. making then λ _. clocks Second then λ _. flag then λ _. content) a.rev
    (a.making, (a.parents, (a.current, a.content))) w
    ∙ then_is making (λ _. clocks Second then λ _. flag then λ _. content) a.making (a.parents, (a.current, a.content))
    (with_field (clock Second) a.rev w)
    ∙ then_is (clocks Second) (λ _. flag then λ _. content) a.parents (a.current, a.content)
    (with_field making a.making (with_field (clock Second) a.rev w))
    ∙ then_is flag (λ _. content) a.current a.content
    (with_field (clocks Second) a.parents (with_field making a.making (with_field (clock Second) a.rev w)))

-- the fields behind a kind
parts_is : (k : Kind) (p : Parts k) (w : Written)
    → with_field (kind then parts Second) (k, p) w ≡ with_field (parts Second k) p (with_field byte (kind_byte k) w)
parts_is k p w = then_is kind (parts Second) k p w
    ∙ ap (with_field (parts Second k) p) (alike kind k byte (kind_byte k) w refl refl)

ended_is : (trans : Text) (o : Option Move) (w : Written)
    → with_field (id Transaction then λ _. maybe_moved Second) (trans, o) w
    ≡ with_field (maybe_moved Second) o (with_field (id Transaction) trans w)
ended_is trans o w = then_is (id Transaction) (λ _. maybe_moved Second) trans o w

pub accepted_is : (d : Text) (a : Accept) (trans : Text) (m : Option Move) (w : Written)
    → with_field (step Second) (Accepted d a trans m) w
    ≡ with_field (maybe_moved Second) m
    (with_field (id Transaction) trans
    (with_field (accept Second) a (with_field (id Document) d (with_field byte 1 w))))
accepted_is d a trans m w =
    let b = with_field byte 1 w in
    let v = with_field (id Document) d b in
    alike (step Second) (Accepted d a trans m) (kind then parts Second) (step_parts (Accepted d a trans m)) w refl refl
    ∙ parts_is kind_of.Accept (d, (a, (trans, m))) w
    ∙ then_is (id Document) (λ _. accept Second then λ _. id Transaction then λ _. maybe_moved Second) d
    (a, (trans, m)) b
    ∙ then_is (accept Second) (λ _. id Transaction then λ _. maybe_moved Second) a (trans, m) v
    ∙ ended_is trans m (with_field (accept Second) a v)

pub gone_is : (d trans : Text) (m : Option Move) (w : Written)
    → with_field (step Second) (Gone d trans m) w
    ≡ with_field (maybe_moved Second) m
    (with_field (id Transaction) trans (with_field (id Document) d (with_field byte 2 w)))
gone_is d trans m w =
    let b = with_field byte 2 w in
    alike (step Second) (Gone d trans m) (kind then parts Second) (step_parts (Gone d trans m)) w refl refl
    ∙ parts_is kind_of.Gone (d, (trans, m)) w
    ∙ then_is (id Document) (λ _. id Transaction then λ _. maybe_moved Second) d (trans, m) b
    ∙ ended_is trans m (with_field (id Document) d b)

pub position_is : (m : Move) (w : Written)
    → with_field (step Second) (Moved m) w ≡ with_field (moved Second) m (with_field byte 3 w)
position_is m w =
    alike (step Second) (Moved m) (kind then parts Second) (step_parts (Moved m)) w refl refl
    ∙ parts_is kind_of.Position m w

pub created_is : (n : Text) (es : List Text) (w : Written)
    → with_field (step Second) (IndexCreated n es) w
    ≡ with_field expressions es (with_field (id Name) n (with_field byte 4 w))
created_is n es w =
    alike (step Second) (IndexCreated n es) (kind then parts Second) (step_parts (IndexCreated n es)) w refl refl
    ∙ parts_is kind_of.IndexCreate (n, es) w
    ∙ then_is (id Name) (λ _. expressions) n es (with_field byte 4 w)

pub deleted_is : (n : Text) (w : Written)
    → with_field (step Second) (IndexDeleted n) w ≡ with_field (id Name) n (with_field byte 5 w)
deleted_is n w =
    alike (step Second) (IndexDeleted n) (kind then parts Second) (step_parts (IndexDeleted n)) w refl refl
    ∙ parts_is kind_of.IndexDelete n w

pub ruleset steps = (accepted_is, gone_is, position_is, created_is, deleted_is)

-- the body of a step is what is written of it
pub body_is : (us : List Text) (x : Step) (v w : Written) → v ≡ unwritten us → w ≡ with_field (step Second) x v
    → (w.bytes ≡ body_of us x) × (w.table.added ≡ added_of us x)
unfolding with_field body_of added_of
body_is us x v w start e =
    let all = e ∙ ap (with_field (step Second) x) start in
    (ap (λ u. u.bytes) all, ap (λ u. u.table.added) all)
