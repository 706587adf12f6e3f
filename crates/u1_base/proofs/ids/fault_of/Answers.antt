-- A text that is not empty, not too long and without a byte outside the alphabet is an id; another is none.
use Rattle.std.proofs.Common.{◌≡◌, ◌≤◌, length, Some, arith, sym, ◌∙◌}
use Rattle.std.specs.Prelude.{not, position}
use Rattle.std.proofs.lemmas.Bool.Decides.{nat_tests}
use Rattle.u1_base.specs.declared.ids.IdFault.TheVariants.{BadByte}
use Rattle.u1_base.specs.Ids.{is_allowed, longest}
use Rattle.u1_base.proofs.Alphabets.{list_all-position}
use Rattle.u1_base.proofs.IdFacts.{IsFault-none, id_from}
use Rattle.u1_base.proofs.ids.fault_of.Goals as goal

pub returns-in-None : goal.returns-in-None
returns-in-None c =
    id_from c.args.form c.args.bytes.now
    (grind (arith, nat_tests, c.if-is_empty.false, c.is_empty.ensures))
    (rw (← c.longest_of.ensures) c.if-bytes-longest_of.false)
    (list_all-position (is_allowed c.args.form) c.args.bytes.now (sym c.first_bad_byte.ensures ∙ c.in-None.is))

pub returns-in-Some : goal.returns-in-Some
returns-in-Some c =
    let is : (1 ≤ length c.args.bytes.now) × (length c.args.bytes.now ≤ longest c.args.form)
    × (position (λ b. not (is_allowed c.args.form b)) c.args.bytes.now ≡ Some c.in-Some.place) = (
      grind (arith, nat_tests, c.if-is_empty.false, c.is_empty.ensures),
      rw (← c.longest_of.ensures) c.if-bytes-longest_of.false,
      sym c.first_bad_byte.ensures ∙ c.in-Some.is,
    ) in
    (is, IsFault-none c.args.form c.args.bytes.now (BadByte c.in-Some.place) (λ e. cc) is)
