-- Commands on an index: it is not there, it gives no answer, or its answer is printed.
use Rattle.std.proofs.Common.{◌≡◌, ℕ, false, List, Option, Some, None, Result, Ok, Err, refl, sym, ap, ◌∙◌, inl, inr}
use Rattle.conflicts.specs.State.{Text}
use Rattle.link.specs.Streams.{Output}
use Rattle.replica_state.specs.Held.{Held, Lists, meaning, meaning_of}
use Rattle.replica_core.specs.Commands.Documents.{document_lines}
use Rattle.replica_core.specs.Commands.Effects.{Effect, Refusal, prints}
use Rattle.replica_core.specs.Commands.Indexes.{answer_effect, of_index}
use Rattle.replica_core.specs.Replica.{Found as Left, Known, Stands as LeftStands, Stored, stored_in}
use Rattle.index_tables.specs.Order.{Key}
use Rattle.replica_reads.specs.Indexes.{Gives, ranged}
use Rattle.replica_reads.specs.declared.fault.QueryFault.{QueryFault}
use Rattle.replica_reads.specs.declared.fault.QueryFault.TheVariants as query
use Rattle.command_lines.specs.Outcomes.{query_end}
use Rattle.command_lines.specs.declared.outcome.Outcome.{Outcome}
use Rattle.command_lines.specs.declared.outcome.Outcome.TheVariants.{Refused}
use Rattle.command_lines.specs.declared.outcome.Refusal.TheVariants as refusal
use Rattle.store_commands.specs.Carries.{Carries}
use Rattle.store_commands.specs.Deeds.{Answer, ended, over_replica}
use Rattle.store_commands.proofs.Exits.{refused, starved}

-- what is done with the expressions of an index that is there
pub over_found : (o : Option (List Text)) (exprs : List Text) (effect : List Text → Result Effect Refusal)
    → o ≡ Some exprs
    → over_replica (of_index o effect) ≡ over_replica (effect exprs)
over_found o exprs effect is = ap (λ (x : Option (List Text)). over_replica (of_index x effect)) is

-- the ends of a range, as they were lent
pub ranged_so : (l : Lists) (exprs : List Text) (start end lent_start lent_end : Option Key) → lent_start ≡ start
    → lent_end ≡ end
    → over_replica (answer_effect l (ranged exprs l.docs start end))
    ≡ over_replica (answer_effect l (ranged exprs l.docs lent_start lent_end))
ranged_so l exprs start end lent_start lent_end s e = rw (s, e) refl

-- the documents of the state that was lent, by the ids that were lent
pub answered_so : (s t : Held) (ids lent : List Text) (a : Answer) → t ≡ s → lent ≡ ids
    → a ≡ over_replica (prints (document_lines (meaning s) false ids))
    → a ≡ over_replica (prints (document_lines (meaning t) false lent))
answered_so s t ids lent a same those is = is ∙ rw (same, those) refl

module _ {R : Type 0} (known : R → Known) (is_open : R → Type 0) (crash : R → ℕ → Left Stored → Type 0)
    (settled : (r : R) (o : Left Stored) → is_open r → crash r (known r).moment o → o ≡ LeftStands (stored_in (known r)))
    (r : R) (ready : is_open r) where
  pub unknown : (o : Option (List Text)) (effect : List Text → Result Effect Refusal) (out : Output) → o ≡ None
      → Carries known is_open crash (over_replica (of_index o effect)) r r out out (Err (Refused refusal.IndexUnknown))
  unknown o effect out is =
      refused known is_open crash settled (over_replica (of_index o effect)) refusal.IndexUnknown r out ready
      (ap (λ (x : Option (List Text)). over_replica (of_index x effect)) is)

  -- the answer is a fault
  failed : (a : Answer) (fault : QueryFault) (out : Output) → a ≡ ended (query_end fault)
      → Carries known is_open crash a r r out out (Err (query_end fault))
  failed a query.WrongWidth out is = refused known is_open crash settled a refusal.WrongWidth r out ready is
  failed a (query.BadGlob place) out is = refused known is_open crash settled a (refusal.BadGlob place) r out ready is
  failed a query.Memory out is = starved known is_open crash settled a r out ready

  pub no_answer : (a : Answer) (l : Lists) (answer : Result (List Text) QueryFault) (fault : QueryFault)
      (out : Output)
      → a ≡ over_replica (answer_effect l answer) → Gives answer (Err fault)
      → Carries known is_open crash a r r out out (Err (query_end fault))
  no_answer a l answer fault out is (inl memory) =
      let same : fault ≡ query.Memory = cc in rw same (starved known is_open crash settled a r out ready)
  no_answer a l answer fault out is (inr same) =
      failed a fault out (is ∙ ap (λ (x : Result (List Text) QueryFault). over_replica (answer_effect l x)) (sym same))

  -- the index is there, and gives an answer: what is printed are the lines of these documents
  pub answered : (a : Answer) (l : Lists) (answer : Result (List Text) QueryFault) (ids : List Text)
      → a ≡ over_replica (answer_effect l answer) → Gives answer (Ok ids)
      → a ≡ over_replica (prints (document_lines (meaning_of l) false ids))
  answered a l answer ids is (inl memory) = absurd (cc)
  answered a l answer ids is (inr same) = is
      ∙ ap (λ (x : Result (List Text) QueryFault). over_replica (answer_effect l x)) (sym same)
