-- Each turn takes one member, and the brace ends them.
use Rattle.std.proofs.Common.{◌≡◌, ◌-◌, length, Some, None, MatchOption, refl, sym, ap₂, ◌∙◌, subst, arith}
use Rattle.json.specs.Json.{read_key}
use Rattle.serde_json.specs.Data.{no_members, put}
use Rattle.sync_stream.specs.inner.Fields.{IsPlainMember, with_saying}
use Rattle.sync_stream.proofs.Sayings.{member_turn, members_over, sayings_of_put}
use Rattle.sync_stream.proofs.fields.member_fields.Goals as goal

pub members-init : goal.members-init
members-init c = (no_members, length c.args.reader.now, omega arith, refl, c.none-fields.ensures)

pub members-preserved : goal.members-preserved
members-preserved c =
    let l = c.members in
    let old = l.invariant.0 in
    let n = l.invariant.1 in
    let m = c.in-Some.member in
    let r = c.next_member.new.reader in
    let plain : IsPlainMember l.reader m r =
    subst (λ o. MatchOption o (read_key l.reader ≡ Some (None, r)) (λ member. IsPlainMember l.reader member r))
    c.in-Some.is c.in_ok-member.ensures in
    let turn = member_turn n l.reader r m old l.invariant.2 plain in (
      put m.name.now turn.0 old,
      n - 1,
      turn.1,
      l.invariant.3 ∙ turn.3,
      c.take.ensures ∙ ap₂ (with_saying m.name.now) (sym turn.2) l.invariant.4
          ∙ sym (sayings_of_put m.name.now turn.0 old),
    )

pub returns : goal.returns
returns c =
    let l = c.members in
    let old = l.invariant.0 in
    let r = c.next_member.new.reader in
    let over : read_key l.reader ≡ Some (None, r) =
    subst (λ o. MatchOption o (read_key l.reader ≡ Some (None, r)) (λ member. IsPlainMember l.reader member r))
    c.in_default.is c.in_ok-member.ensures in
    (old, l.invariant.3 ∙ members_over 126 l.invariant.1 l.reader r old l.invariant.2 over, l.invariant.4)
