-- Entries that are spelled behind one gate.
use Rattle.std.proofs.Common.{◌≡◌, ℕ, ◌+◌, ◌-◌, ◌≤◌, List, [], ◌∷◌, ◌++◌, length, set, sym, ◌∙◌, ap, arith}
use Rattle.std.proofs.Common.{length-append}
use Rattle.std.proofs.lemmas.List.{append_assoc, set_at}
use Rattle.disk_model.specs.Device.{Device, File, IsSettled, file_of}
use Rattle.disk_model.specs.Disk.{overwritten}
use Rattle.disk_model.specs.Moments.{LeavesOnly}
use Rattle.disk_model.proofs.Runs.{weaker}
use Rattle.journal.specs.inner.Adding.{IsAdding}
use Rattle.journal.specs.Image.{Head, IsBody, ReadsWithOrWithoutAll, body_field, entries, entry, up_to_gate}
use Rattle.journal.specs.Journal.{Extent, Holds}
use Rattle.journal.specs.Entries.{AreSpelled, LeavesAllOrNone, extended}
use Rattle.journal.proofs.Appends.{all_added, all_or_none}
use Rattle.journal.proofs.Entries.{AreBodies-push, entries-push, up_to_gate-append}

-- the body behind those that are spelled, and the gate before it open
pub one_spelled : (bodies : List (List ℕ)) (body old mid new : List ℕ) → AreSpelled bodies old → IsBody body
    → mid ≡ old ++ (body_field body ++ 0 ∷ []) → (length old ≡ 0 → new ≡ mid)
    → (1 ≤ length old → new ≡ set mid (length old - 1) 1) → AreSpelled (bodies ++ body ∷ []) new
one_spelled [] body old mid new s is added none some = record {
  fit = (is, tt);
  is = none (ap length s.is) ∙ added ∙ ap (λ (l : List ℕ). l ++ (body_field body ++ 0 ∷ [])) s.is;
}
one_spelled (b ∷ bodies) body old mid new s is added none some =
    let f = body_field b ++ entries bodies in let piece = body_field body ++ 0 ∷ [] in
    let old_is : old ≡ f ++ 0 ∷ [] = s.is ∙ sym (append_assoc (body_field b) (entries bodies) (0 ∷ [])) in
    let long : length old ≡ length f + 1 = ap length old_is ∙ length-append f (0 ∷ []) in
    let mid_is : mid ≡ f ++ 0 ∷ piece =
    added ∙ ap (λ (l : List ℕ). l ++ piece) old_is ∙ append_assoc f (0 ∷ []) piece in
    let new_is : new ≡ f ++ 1 ∷ piece =
    some (omega (arith, long)) ∙ ap (λ (l : List ℕ). set l (length old - 1) 1) mid_is
    ∙ set_at f 0 piece 1 (length old - 1) (omega (arith, long)) in
    record {
      fit = AreBodies-push (b ∷ bodies) body s.fit is;
      is = new_is ∙ append_assoc (body_field b) (entries bodies) (1 ∷ piece)
          ∙ ap (λ (l : List ℕ). body_field b ++ l)
          (sym (append_assoc (entries bodies) (entry body) (0 ∷ []))
          ∙ ap (λ (l : List ℕ). l ++ 0 ∷ []) (sym (entries-push bodies body)));
    }

-- with their first gate, and a closed one behind them
pub are_entries : (more : List (List ℕ)) (piece : List ℕ) → AreSpelled more piece → 1 ≤ length piece
    → 1 ∷ piece ≡ entries more ++ 0 ∷ []
are_entries [] piece s some = absurd (omega (arith, some, ap length s.is))
are_entries (b ∷ bodies) piece s some =
    ap (λ (l : List ℕ). 1 ∷ l) s.is ∙ sym (append_assoc (entry b) (entries bodies) (0 ∷ []))

-- the image is held with all of them
pub holds_all : (old new : Extent) (format : ℕ) (head : Head) (bodies more : List (List ℕ)) (before after : File)
    (behind piece : List ℕ) (gate : ℕ) → behind ≡ piece → gate ≡ old.length - 1 → new ≡ extended old piece
    → Holds old format head bodies before → AreSpelled more piece → 1 ≤ length piece
    → after.seen ≡ overwritten (overwritten before.seen (gate + 1) behind) gate (1 ∷ []) → IsSettled after
    → Holds new format head (bodies ++ more) after
holds_all old new format head bodies more before after behind piece gate is there longer h s some written durable =
    let are = are_entries more piece s some in
    record {
      reads = all_added format head bodies more before.seen after.seen piece gate h.reads s.fit are
          (omega (arith, there, h.extent.all))
          (written ∙ ap (λ (l : List ℕ). overwritten (overwritten before.seen (gate + 1) l) gate (1 ∷ [])) is);
      extent = record {
        all = omega (
          arith,
          ap (λ (j : Extent). j.length) longer,
          h.extent.all,
          ap length (up_to_gate-append format head bodies more),
          length-append (up_to_gate format head bodies) (entries more),
          ap length are,
          length-append (entries more) (0 ∷ []),
        );
        limit = ap (λ (j : Extent). j.limit) longer ∙ h.extent.limit;
      };
      durable = durable;
    }

-- a crash on the way leaves all of them or none
pub leaves_all : (old new : Device) (journal : Extent) (behind piece : List ℕ) (gate : ℕ) → behind ≡ piece
    → gate ≡ journal.length - 1 → 1 ≤ length piece
    → (IsSettled (file_of old) → LeavesOnly old new (IsAdding gate behind old.seen))
    → LeavesAllOrNone piece journal old new
leaves_all old new journal behind piece gate is there some leaves more s format head bodies h =
    weaker old new (IsAdding gate behind old.seen) (ReadsWithOrWithoutAll more format head bodies) (leaves h.durable)
    (all_or_none format head bodies more old.seen behind gate h.reads s.fit
    (ap (λ (l : List ℕ). 1 ∷ l) is ∙ are_entries more piece s some) (omega (arith, there, h.extent.all)))
