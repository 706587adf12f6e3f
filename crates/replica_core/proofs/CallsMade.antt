-- What is made of a document, as what a call decides.
use Rattle.std.proofs.Common.{◌≡◌, ◌⊎◌, inl, inr, ℕ, Some, None, Result, Ok, Err, refl, sym, ap, subst}
use Rattle.conflicts.specs.State.{State, Text}
use Rattle.conflicts.specs.declared.accept.Accept.{Accept}
use Rattle.conflicts.specs.declared.edits.EditFault.{EditFault}
use Rattle.conflicts.specs.declared.edits.EditFault.TheVariants as edit
use Rattle.conflicts.specs.declared.resolutions.ResolveFault.{ResolveFault}
use Rattle.conflicts.specs.declared.resolutions.ResolveFault.TheVariants as resolve
use Rattle.vector_rev.specs.Clock.{Clock}
use Rattle.conflicts.specs.Writing.{Answers, Decided, IsRefusal, accept_made, accept_next}
use Rattle.replica_core.specs.CallsFaults.{put_failed, put_failure, put_refusal, resolve_failed, resolve_failure}
use Rattle.replica_core.specs.CallsFaults.{resolve_refusal}
use Rattle.replica_core.specs.declared.calls.documents.PutFault.{PutFault}
use Rattle.replica_core.specs.declared.calls.resolutions.ResolveDocFault.{ResolveDocFault}
use Rattle.replica_core.specs.declared.fault.CommitFault.{CommitFault}
use Rattle.replica_core.specs.declared.fault.CommitFault.TheVariants as commit
use Rattle.replica_core.specs.CallsChecks.{IsUndone}

-- each failure of a commit stays what it is
pub put_fails : (f : CommitFault) → put_failure (put_failed f) ≡ Some f
put_fails (commit.Full need limit) = refl
put_fails commit.Disk = refl
put_fails commit.Memory = refl

pub resolve_fails : (f : CommitFault) → resolve_failure (resolve_failed f) ≡ Some f
resolve_fails (commit.Full need limit) = refl
resolve_fails commit.Disk = refl
resolve_fails commit.Memory = refl

module _ {E F : Type 0} (refusal : E → F) (seed : ℕ) (s : State) (doc : Text) (made : Result Accept E)
    (memory : E) where
  -- what is made is decided
  pub made_is : (a : Accept) → ◌⊎◌ (◌≡◌ {A = Result Accept E} (Ok a) (Err memory)) (Ok a ≡ made) →
      accept_made refusal seed s doc made ≡ Answers a.rev (Some (accept_next seed s doc a None))
  made_is a (inl e) = absurd (cc (e))
  made_is a (inr e) = ap (accept_made refusal seed s doc) (sym e)

  -- and so is a refusal
  pub refused_is : (fault : E) → ◌⊎◌ (◌≡◌ {A = Result Accept E} (Err fault) (Err memory)) (Err fault ≡ made)
      → IsRefusal (accept_made refusal seed s doc made) (refusal fault) ⊎ (fault ≡ memory)
  refused_is fault (inl e) = inr (cc (e))
  refused_is fault (inr e) =
      inl (subst (λ (m : Result Accept E). IsRefusal (accept_made refusal seed s doc m) (refusal fault)) e refl)

pub put_undone : (d : Decided Clock PutFault) (fault : EditFault) → IsRefusal d (put_refusal fault)
    ⊎ (fault ≡ edit.Memory) → IsUndone put_failure d (put_refusal fault)
put_undone d fault (inr e) = inl (ap (λ (f : EditFault). put_failure (put_refusal f)) e)
put_undone d edit.NoDocument (inl is) = inr (refl, is)
put_undone d edit.Conflicted (inl is) = inr (refl, is)
put_undone d (edit.RevisionConflict current) (inl is) = inr (refl, is)
put_undone d edit.AlreadyDeleted (inl is) = inr (refl, is)
put_undone d edit.ClockFull (inl is) = inr (refl, is)
put_undone d edit.Memory (inl is) = inl refl

pub resolve_undone : (d : Decided Clock ResolveDocFault) (fault : ResolveFault) → IsRefusal d (resolve_refusal fault)
    ⊎ (fault ≡ resolve.Memory) → IsUndone resolve_failure d (resolve_refusal fault)
resolve_undone d fault (inr e) = inl (ap (λ (f : ResolveFault). resolve_failure (resolve_refusal f)) e)
resolve_undone d resolve.NoDocument (inl is) = inr (refl, is)
resolve_undone d resolve.NotConflicted (inl is) = inr (refl, is)
resolve_undone d resolve.NothingNamed (inl is) = inr (refl, is)
resolve_undone d (resolve.Unnamed leader) (inl is) = inr (refl, is)
resolve_undone d resolve.ClockFull (inl is) = inr (refl, is)
resolve_undone d resolve.Memory (inl is) = inl refl
