-- Indexes that are created and deleted, as what a call decides.
use Rattle.std.proofs.Common.{◌≡◌, ◌↔◌, ℕ, Bool, true, false, IsTrue, List, map, Option, Some, None, Result, Ok, Err}
use Rattle.std.proofs.Common.{inr, refl, sym, ◌∙◌, ap, subst}
use Rattle.std.proofs.lemmas.Slice.Eq.{bytes_eq-Decides, slice_eq-Decides}
use Rattle.std.specs.Prelude.{if◌then◌else◌, is_some}
use Rattle.std.specs.Option.{option_copied, option_map}
use Rattle.expr_parser.specs.Canonical.{canonical}
use Rattle.expr_parser.specs.Forms.{Form}
use Rattle.expr_parser.specs.Reading.{IndexTextsReadBack, forms_in}
use Rattle.std.specs.Borrow.{Bor}
use Rattle.replica_state.specs.Exprs.{IndexTexts}
use Rattle.replica_state.specs.Held.{Held, meaning}
use Rattle.replica_state.specs.Lent.{IsLent}
use Rattle.replica_state.specs.declared.index.Index.{Index}
use Rattle.conflicts.specs.State.{Text}
use Rattle.replica_core.specs.Replica.{Found, Known, Stored}
use Rattle.conflicts.specs.Writing.{Answers, Decided, IsRefusal, Refuses, create_over, delete_over, same_exprs}
use Rattle.replica_core.specs.Calls.{IsDone}
use Rattle.replica_core.proofs.CallsEnds.{Settled, answered, undone}
use Rattle.replica_core.specs.CallsDecide.{delete_index_decides}
use Rattle.replica_core.specs.CallsFaults.{index_failed, index_failure}
use Rattle.replica_core.specs.declared.calls.indexes.IndexFault.{IndexFault}
use Rattle.replica_core.specs.declared.calls.indexes.IndexFault.TheVariants.{IndexTaken, IndexUnknown}
use Rattle.replica_core.specs.declared.fault.CommitFault.{CommitFault}
use Rattle.replica_core.specs.declared.fault.CommitFault.TheVariants as commit

pub index_fails : (f : CommitFault) → index_failure (index_failed f) ≡ Some f
index_fails (commit.Full need limit) = refl
index_fails commit.Disk = refl
index_fails commit.Memory = refl

-- an index of the name is there
pub alike_is : (name : Text) (exprs : List Text) (o : Option (List Text)) (b : Bool)
    → Some b ≡ option_map (λ kept. same_exprs kept exprs) o →
    create_over IndexTaken name exprs o ≡ (if b then Answers tt None else Refuses IndexTaken)
alike_is name exprs None b e = absurd (cc (e))
alike_is name exprs (Some kept) b e = ap (λ (o : Option Bool). chosen o) (sym e)
  where
    chosen : Option Bool → Decided (Unit {0}) IndexFault
    chosen None = Refuses IndexTaken
    chosen (Some b) = if b then Answers tt None else Refuses IndexTaken

module _ {R : Type 0} (known : R → Known) (is_open : R → Type 0) (crash : R → ℕ → Found Stored → Type 0) where
  -- and is accepted where it has the same expressions
  pub alike_done : (r : R) (d : Decided (Unit {0}) IndexFault) (b : Bool) (result : Result (Unit {0}) IndexFault)
      → is_open r → Settled known is_open crash r →
      d ≡ (if b then Answers tt None else Refuses IndexTaken) → result ≡ (if b then Ok tt else Err IndexTaken)
      → IsDone known is_open crash index_failure d r r result
  alike_done r d true result ready settled e is =
      subst (λ (x : Result (Unit {0}) IndexFault). IsDone known is_open crash index_failure d r r x) (sym is)
      (answered known is_open crash index_failure r d tt ready settled e)
  alike_done r d false result ready settled e is =
      subst (λ (x : Result (Unit {0}) IndexFault). IsDone known is_open crash index_failure d r r x) (sym is)
      (undone known is_open crash index_failure r d IndexTaken ready settled
      (inr (refl, subst (λ (d : Decided (Unit {0}) IndexFault). IsRefusal d IndexTaken) (sym e) refl)))

-- none is lent, so there is none, and its deletion is refused
pub unknown_is : (s : Held) (n : Text) (r : Option (Bor Index)) → IsLent s n (option_copied r) → is_some r ≡ false
    → IsRefusal (delete_index_decides n (meaning s)) IndexUnknown
unknown_is s n None h e =
    subst (λ (o : Option (List Text)). IsRefusal (delete_over IndexUnknown n o) IndexUnknown) (sym h) refl
unknown_is s n (Some index) h e = absurd (cc (e))

-- there is none
pub absent_is : {A : Type 0} (f : A → Bool) (o : Option A) → None ≡ option_map f o → o ≡ None
absent_is f None e = refl
absent_is f (Some x) e = absurd (cc (e))

-- the test tells whether the texts are the same
pub exprs_tell : (b : Bool) (kept exprs : List Text) → IsTrue b ↔ (kept ≡ exprs) → b ≡ same_exprs kept exprs
exprs_tell true kept exprs h =
    sym ((slice_eq-Decides bytes_eq-Decides kept exprs (same_exprs kept exprs) refl).1 (h.0 refl))
exprs_tell false kept exprs h = other (same_exprs kept exprs) refl
  where
    other : (c : Bool) → same_exprs kept exprs ≡ c → false ≡ c
    other true e = h.1 ((slice_eq-Decides bytes_eq-Decides kept exprs (same_exprs kept exprs) refl).0 e)
    other false e = refl

-- expressions are told by their forms, and those by their texts
pub texts_tell : (law : IndexTextsReadBack) (kept exprs : IndexTexts) (xs ys : List Form) (b : Bool)
    → xs ≡ forms_in kept.texts → ys ≡ forms_in exprs.texts → IsTrue b ↔ (xs ≡ ys)
    → b ≡ same_exprs kept.texts exprs.texts
texts_tell law kept exprs xs ys b k e h = exprs_tell b kept.texts exprs.texts (
  λ yes. sym (law.forms kept.texts kept.spelled).1 ∙ ap (λ (fs : List Form). map canonical fs) (sym k ∙ h.0 yes ∙ e)
      ∙ (law.forms exprs.texts exprs.spelled).1,
  λ same. h.1 (k ∙ ap (λ (ts : List (List ℕ)). forms_in ts) same ∙ sym e),
)
