use Rattle.std.specs.Prelude.{[], map, refl}
use Rattle.std.specs.List.{flat_map}
use Rattle.std.proofs.Common.{sym, ap, subst, ◌∙◌}
use Rattle.conflicts.specs.Document.{member_of}
use Rattle.conflicts.specs.Lists.{In}
use Rattle.conflicts.specs.State.{accepts_in, state_of, after_all}
use Rattle.conflicts.proofs.States.{goes_on}
use Rattle.replica_reads.proofs.SameStates.{same_lists}
use Rattle.compaction.specs.Compaction.{compaction}
use Rattle.compaction.proofs.Kept.{from_kept, kept_are_members}
use Rattle.compaction.proofs.Parts.{accepts_left, index_created}
use Rattle.compaction.proofs.Again.{state_of-compaction, compaction-again, compacted-shorter, same_compacted}
use Rattle.compaction.proofs.Repeated.{compacted-trimmed}
use Rattle.compaction.proofs.Sizes.{image_shorter}
use Rattle.compaction.proofs.laws.law_compaction.Goals as goal

pub returns : goal.returns
returns c = record {
  state = state_of-compaction;
  goes_on = λ name uid h later.
      goes_on.steps name uid (compaction h) later
      ∙ ap (λ s. after_all s later) (state_of-compaction name uid h)
      ∙ sym (goes_on.steps name uid h later);
  lists = λ name uid h x y e f. same_lists x y (e ∙ state_of-compaction name uid h ∙ sym f);
  members = λ name uid d h.
      let s = state_of [] [] h in
      ap (map member_of) (accepts_left s d h) ∙ kept_are_members (s.document d).current (flat_map (accepts_in d) h);
  marks = λ name uid d h a i.
      let s = state_of [] [] h in
      from_kept (s.document d).members (s.document d).current (flat_map (accepts_in d) h) a
      (subst (In a) (accepts_left s d h) i);
  indexes = λ name uid n h. index_created (state_of [] [] h) n h refl;
  again = compaction-again;
  bytes = image_shorter;
  shorter = λ h. compacted-shorter (state_of [] [] h) h;
  trims = λ name uid h. compacted-trimmed (state_of name uid h) h ∙ same_compacted name uid h h;
  by_state = λ name uid h. same_compacted name uid h h;
}
