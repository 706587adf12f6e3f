-- To the next chunk, or to the one before.
use Rattle.std.proofs.Common.{◌≡◌, ◌+◌, ◌∙◌, arith, ap, inl, inr, sym, subst, get_or, get_or-set_other}
use Rattle.std.proofs.lemmas.List.{get_or_read}
use Rattle.std.specs.Global.{Vec}
use Rattle.std.specs.Vec.{vec_len}
use Rattle.chunk_list.proofs.Given.{given}
use Rattle.chunk_list.proofs.chunks.give.Goals as goal

pub returns-then-from-to-clause-given : goal.returns-then-from-to-clause-given
returns-then-from-to-clause-given g c =
    let chunks = c.args.chunks.now.items in
    let a = c.replace-giver.result in
    let b = c.index_mut-taker.result.now in
    let v = c.move_up.ensures in
    let next : c.args.to ≡ c.args.from + 1 = elim c.requires.beside [ inl up ↦ up | inr down ↦ absurd (omega arith) ] in
    let a_is : a ≡ get_or chunks c.args.from a =
    subst (λ (x : Vec g.row.T.Denot). x ≡ get_or chunks c.args.from x)
    (sym c.replace-giver.ensures.value) c.index_mut.ensures.value in
    let b_is : b ≡ get_or chunks c.args.to b = c.index_mut-taker.ensures.value
    ∙ get_or-set_other chunks c.args.from c.args.to c.replace-giver.new.dest b (λ e. omega arith) in
    let held = ap vec_len (get_or_read chunks c.args.from a c.requires.from a_is a) in
    given chunks c.args.from c.args.to c.args.count c.replace-giver.new.dest c.move_up.new.lower c.move_up.new.upper a b
    c.requires.from c.requires.to c.requires.wide a_is b_is
    (omega (arith, v.len, c.len.ensures, held, c.requires.enough a))
    (omega (arith, v.both, v.len, c.len.ensures, held, c.requires.enough a)) v.lower_capacity v.upper_capacity
    (inl (next, v.items))

pub returns-else-from-to-clause-given : goal.returns-else-from-to-clause-given
returns-else-from-to-clause-given g c =
    let chunks = c.args.chunks.now.items in
    let a = c.replace-giver.result in
    let b = c.index_mut-taker.result.now in
    let v = c.move_down.ensures in
    let next : c.args.from ≡ c.args.to + 1 = elim c.requires.beside [ inl up ↦ absurd (omega arith) | inr down ↦ down ]
    in
    let a_is : a ≡ get_or chunks c.args.from a =
    subst (λ (x : Vec g.row.T.Denot). x ≡ get_or chunks c.args.from x)
    (sym c.replace-giver.ensures.value) c.index_mut.ensures.value in
    let b_is : b ≡ get_or chunks c.args.to b = c.index_mut-taker.ensures.value
    ∙ get_or-set_other chunks c.args.from c.args.to c.replace-giver.new.dest b (λ e. omega arith) in
    given chunks c.args.from c.args.to c.args.count c.replace-giver.new.dest c.move_down.new.upper
    c.move_down.new.lower a b c.requires.from c.requires.to c.requires.wide a_is b_is
    (omega (arith, v.both, v.len, c.len-else-from-to.ensures))
    (omega (arith, v.len, c.len-else-from-to.ensures)) v.upper_capacity v.lower_capacity (inr (next, v.items))
