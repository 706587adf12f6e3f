-- The fields that name uids are lawful.
use Rattle.std.proofs.Common.{◌≡◌, ℕ, ◌+◌, ◌^◌, ◌<◌, ◌≤◌, Bool, true, false, cond, eqb, List, [], ◌∷◌, ◌++◌, length}
use Rattle.std.proofs.Common.{Option, Some, None, Result, Ok, Err, refl, sym, ap, subst, ◌∙◌, append_assoc, arith}
use Rattle.std.specs.Prelude.{is_some, nat_le, ◌&&◌}
use Rattle.std.specs.Int.{w16, w32, w64, to_be_bytes}
use Rattle.std.specs.List.{AllByRecursion, list_all, slice_get}
use Rattle.std.proofs.lemmas.Bool.{eqb-true, leb-true, and_parts}
use Rattle.std.proofs.lemmas.Option.{slice_get_past, slice_get_within}
use Rattle.u1_base.specs.Ids.{IsId, is_id}
use Rattle.u1_base.specs.declared.ids.Form.TheVariants.{Replica}
use Rattle.u1_base.specs.declared.limits.TheConstants.{GREATEST_COUNT}
use Rattle.vector_rev.specs.Counts.{Uid, Entries}
use Rattle.vector_rev.specs.Clock.{Clock, clock_of, is_entry}
use Rattle.vector_rev.specs.ClockText.{clock_text, clock_in}
use Rattle.vector_rev.proofs.Truths.{T_true}
use Rattle.vector_rev.proofs.ClockLaws.{entries_of, few_entries}
use Rattle.vector_rev.proofs.RoundTrip.{clock_of-entries, entries-clock_of, reads_back, reads_only}
use Rattle.record_fields.specs.Table.{Table, uids, number_of, with_uid}
use Rattle.record_fields.specs.inner.Table.{HasRoom}
use Rattle.record_fields.specs.Fields.{Rest, Read, ◌then◌}
use Rattle.record_fields.specs.Plain.{byte, number, id, generation, IsTransAt, trans_at}
use Rattle.record_fields.specs.Named.{reference_bytes, introduced, referred, reference_at, reference, uid, entry}
use Rattle.record_fields.specs.Named.{entries, clock, clocks, place, IsPlace, peer}
use Rattle.record_fields.specs.declared.format.Format.{Format}
use Rattle.record_fields.specs.declared.format.Format.TheVariants.{First, Second}
use Rattle.record_fields.proofs.Tables.{IsTable, number_of-get, number_of-distinct, with_known, with_uid-longer}
use Rattle.record_fields.proofs.Tables.{length-new, IsTable-with_new, id_at}
use Rattle.record_fields.proofs.Lawful.{IsBytes, rest, Took, IsLawful, ok_is, then_lawful, mapped_lawful}
use Rattle.record_fields.proofs.Lawful.{checked_lawful, counted_lawful}
use Rattle.record_fields.proofs.ClockTexts.{length-clock_text}
use Rattle.record_fields.proofs.PlainLaws.{wide16, wide32, wide64, byte_lawful, number_lawful, id_lawful}
use Rattle.record_fields.proofs.PlainLaws.{text_of_lawful, generation_lawful, trans_lawful}

-- ---- references

number32 : IsLawful (number w32) (λ n. n < 2 ^ 32)
number32 = number_lawful w32 (2 ^ 32) wide32

-- a uid that has a number is read by it
reference_known : (t : Table) (u : Uid) (n : ℕ) (more : List ℕ) → HasRoom (with_uid t u)
    → number_of (uids t) u ≡ Some n → reference.read (rest t (reference_bytes t u (Some n) ++ more))
    ≡ Ok (u, rest (with_uid t u) more)
reference_known t u n more room known =
    let at : slice_get (uids t) n ≡ Some u = number_of-get (uids t) u n known in
    let within = slice_get_within (uids t) n u at in
    let fits : n < 2 ^ 32 = omega (arith, within, room, with_uid-longer t u) in
    let left = length (to_be_bytes w32 n ++ more) in
    ap (reference_at left) (number32.back t n more fits (omega (arith, room, with_uid-longer t u)))
    ∙ ap (λ o. referred left o n (rest t more)) at
    ∙ ap (λ t2. Ok (u, rest t2 more)) (sym (with_known t u n known))

-- one that has none is read by its text behind the next free number
reference_new : (t : Table) (u : Uid) (more : List ℕ) → IsId Replica u → HasRoom (with_uid t u)
    → number_of (uids t) u ≡ None → reference.read (rest t (reference_bytes t u None ++ more))
    ≡ Ok (u, rest (with_uid t u) more)
reference_new t u more is room unknown =
    let n = length (uids t) in
    let longer : length (uids (with_uid t u)) ≡ n + 1 = length-new t u unknown in
    let fits : n < 2 ^ 32 = omega (arith, longer, room) in
    let here : HasRoom t = omega (arith, fits) in
    let front = to_be_bytes w32 n in
    let text = (id Replica).spelled t u in
    let left = length (front ++ (text ++ more)) in
    ap (λ s. reference.read (rest t s)) (append_assoc front text more)
    ∙ ap (reference_at left) (number32.back t n (text ++ more) fits here)
    ∙ ap (λ o. referred left o n (rest t (text ++ more))) (slice_get_past (uids t) n (omega arith))
    ∙ ap (λ b. cond b (introduced left ((id Replica).read (rest t (text ++ more)))) (Err left)) (eqb-refl n)
    ∙ ap (introduced left) ((id_lawful Replica).back t u more is here)
    ∙ ap (λ o. cond (is_some o) (Err left) (Ok (u, rest (with_uid t u) more))) unknown
  where
    eqb-refl : (n : ℕ) → eqb n n ≡ true
    eqb-refl n = grind arith

reference_back : (t : Table) (u : Uid) (more : List ℕ) → IsId Replica u → HasRoom (with_uid t u)
    → reference.read (rest t (reference.spelled t u ++ more)) ≡ Ok (u, rest (with_uid t u) more)
reference_back t u more is room =
    elim (number_of (uids t) u) as (λ o. number_of (uids t) u ≡ o
    → reference.read (rest t (reference_bytes t u o ++ more)) ≡ Ok (u, rest (with_uid t u) more)) [
      | None ↦ λ unknown. reference_new t u more is room unknown
      | Some n ↦ λ known. reference_known t u n more room known
    ] refl

abbrev TookUid : Rest → Uid → Rest → Type 0
TookUid r u behind = Took reference (IsId Replica) r u behind

-- a number that a uid has
took_known : (r : Rest) (n : ℕ) (v : Uid) (b : Rest) → IsTable r.table → Took (number w32) (λ n. n < 2 ^ 32) r n b
    → slice_get (uids b.table) n ≡ Some v → TookUid r v b
took_known r n v b sound took at =
    let there : slice_get (uids r.table) n ≡ Some v = ap (λ t. slice_get (uids t) n) (sym took.table) ∙ at in
    let known : number_of (uids r.table) v ≡ Some n = number_of-distinct (uids r.table) v n sound.distinct there in
    record {
      is = id_at (uids r.table) v n sound.ids there;
      bytes = took.bytes ∙ ap (λ o. reference_bytes r.table v o ++ b.bytes) (sym known);
      table = took.table ∙ sym (with_known r.table v n known);
      sound = took.sound;
      fits = took.fits;
    }

-- the text of a uid that gets the next free number
took_new : (r : Rest) (n : ℕ) (b : Rest) (v : Uid) (c : Rest) → IsTable r.table
    → Took (number w32) (λ n. n < 2 ^ 32) r n b → n ≡ length (uids b.table) → Took (id Replica) (IsId Replica) b v c
    → is_some (number_of (uids c.table) v) ≡ false → TookUid r v (rest (with_uid c.table v) c.bytes)
took_new r n b v c sound took free text none =
    let next : n ≡ length (uids r.table) = free ∙ ap (λ t. length (uids t)) took.table in
    let same : c.table ≡ r.table = text.table ∙ took.table in
    let unnamed : is_some (number_of (uids r.table) v) ≡ false = ap (λ t. is_some (number_of (uids t) v)) (sym same)
    ∙ none in
    let unknown : number_of (uids r.table) v ≡ None = none_is (number_of (uids r.table) v) unnamed in
    let front : r.bytes ≡ to_be_bytes w32 (length (uids r.table)) ++ ((id Replica).spelled r.table v ++ c.bytes) =
    took.bytes ∙ ap (λ k. to_be_bytes w32 k ++ b.bytes) next
    ∙ ap (λ s. to_be_bytes w32 (length (uids r.table)) ++ s) text.bytes in
    record {
      is = text.is;
      bytes =
          front
          ∙ sym (append_assoc (to_be_bytes w32 (length (uids r.table))) ((id Replica).spelled r.table v) c.bytes)
          ∙ ap (λ o. reference_bytes r.table v o ++ c.bytes) (sym unknown);
      table = ap (λ t. with_uid t v) same;
      sound = IsTable-with_new c.table v text.sound text.is none
          (omega (arith, ap (λ t. length (uids t)) same, next, took.is));
      fits = text.fits;
    }
  where
    none_is : (o : Option ℕ) → is_some o ≡ false → o ≡ None
    none_is None e = refl
    none_is (Some n) e = absurd (cc e)

unless_ok : {A : Type 0} (b : Bool) (left : ℕ) (x y : A) → cond b (Err left) (Ok x) ≡ Ok y → (b ≡ false) × (x ≡ y)
unless_ok true left x y e = absurd (cc e)
unless_ok false left x y e = (refl, ok_is x y e)

introduced_only : (r : Rest) (n : ℕ) (b : Rest) (q : Read Uid) (u : Uid) (behind : Rest) → IsTable r.table
    → Took (number w32) (λ n. n < 2 ^ 32) r n b → n ≡ length (uids b.table) → (id Replica).read b ≡ q
    → introduced (length r.bytes) q ≡ Ok (u, behind) → TookUid r u behind
introduced_only r n b (Err left) u behind sound took next read e = absurd (cc e)
introduced_only r n b (Ok v) u behind sound took next read e =
    let made : Uid × Rest = (v.0, rest (with_uid v.1.table v.0) v.1.bytes) in
    let h = unless_ok (is_some (number_of (uids v.1.table) v.0)) (length r.bytes) made (u, behind) e in
    let text = (id_lawful Replica).only b v.0 v.1 took.sound took.fits read in
    subst (λ (y : Uid × Rest). TookUid r y.0 y.1) h.1 (took_new r n b v.0 v.1 sound took next text h.0)

if_ok : {A : Type 0} (b : Bool) (x : Result A ℕ) (left : ℕ) (y : A) → cond b x (Err left) ≡ Ok y → (b ≡ true)
    × (x ≡ Ok y)
if_ok true x left y e = (refl, e)
if_ok false x left y e = absurd (cc e)

referred_only : (r : Rest) (o : Option Uid) (n : ℕ) (b : Rest) (u : Uid) (behind : Rest) → IsTable r.table
    → Took (number w32) (λ n. n < 2 ^ 32) r n b → slice_get (uids b.table) n ≡ o
    → referred (length r.bytes) o n b ≡ Ok (u, behind) → TookUid r u behind
referred_only r (Some v) n b u behind sound took at e =
    let made : Uid × Rest = (v, b) in
    subst (λ (y : Uid × Rest). TookUid r y.0 y.1) (ok_is made (u, behind) e) (took_known r n v b sound took at)
referred_only r None n b u behind sound took at e =
    let h = if_ok (eqb n (length (uids b.table))) (introduced (length r.bytes) ((id Replica).read b)) (length r.bytes)
    (u, behind) e in
    introduced_only r n b ((id Replica).read b) u behind sound took (eqb-true n (length (uids b.table)) h.0) refl h.1

reference_only : (r : Rest) (q : Read ℕ) (u : Uid) (behind : Rest) → IsTable r.table → IsBytes r.bytes
    → (number w32).read r ≡ q → reference_at (length r.bytes) q ≡ Ok (u, behind) → TookUid r u behind
reference_only r (Err left) u behind sound fits read e = absurd (cc e)
reference_only r (Ok n) u behind sound fits read e =
    referred_only r (slice_get (uids n.1.table) n.0) n.0 n.1 u behind sound
    (number32.only r n.0 n.1 sound fits read) refl e

pub reference_lawful : IsLawful reference (IsId Replica)
reference_lawful = record {
  back = λ t u more is room. reference_back t u more is room;
  only = λ r u behind sound fits e. reference_only r ((number w32).read r) u behind sound fits refl e;
}

pub uid_lawful : (format : Format) → IsLawful (uid format) (IsId Replica)
uid_lawful First = id_lawful Replica
uid_lawful Second = reference_lawful

-- ---- clocks

abbrev IsEntry : Uid × ℕ → Type 0
IsEntry e = IsId Replica e.0 × (e.1 < 2 ^ 64)

entry_lawful : IsLawful entry IsEntry
entry_lawful = then_lawful reference (λ _. number w64) (IsId Replica) (λ _ n. n < 2 ^ 64) reference_lawful
    (λ u is. number_lawful w64 (2 ^ 64) wide64)

abbrev AreEntries : Entries → Type 0
AreEntries es = (length es < 256) × AllByRecursion IsEntry es

entries_lawful : IsLawful entries AreEntries
entries_lawful = counted_lawful byte entry (λ n. n < 256) IsEntry byte_lawful entry_lawful

are_entries : (es : Entries) → list_all is_entry es ≡ true → AllByRecursion IsEntry es
are_entries [] h = tt
are_entries (e ∷ es) h =
    let both = and_parts (is_entry e) (list_all is_entry es) h in
    let outer = and_parts (is_id Replica e.0 && nat_le 1 e.1) (nat_le e.1 GREATEST_COUNT) both.0 in
    let inner = and_parts (is_id Replica e.0) (nat_le 1 e.1) outer.0 in
    let small = leb-true e.1 GREATEST_COUNT outer.1 in
    ((inner.0, omega (arith, small)), are_entries es both.1)

entries_back : (c : Clock) → AreEntries c.entries
entries_back c = (omega (arith, few_entries c), are_entries c.entries (T_true _ (entries_of c)))

numbered_clock_lawful : IsLawful (clock Second) (λ _. Unit {0})
numbered_clock_lawful =
    checked_lawful entries clock_of (λ c. c.entries) AreEntries (λ _. Unit {0}) entries_lawful
    (λ c is. (entries_back c, clock_of-entries c c.entries refl))
    (λ es c is e. (tt, sym (entries-clock_of c es e)))

pub clock_lawful : (format : Format) → IsLawful (clock format) (λ _. Unit {0})
clock_lawful First =
    text_of_lawful w16 (2 ^ 16) clock_in clock_text (λ _. Unit {0}) wide16
    (λ c is. (length-clock_text c, reads_back c)) (λ s c e. (tt, sym (reads_only s c e)))
clock_lawful Second = numbered_clock_lawful

pub clocks_lawful : (format : Format)
    → IsLawful (clocks format) (λ cs. (length cs < 2 ^ 32) × AllByRecursion (λ _. Unit {0}) cs)
clocks_lawful format = counted_lawful (number w32) (clock format) (λ n. n < 2 ^ 32) (λ _. Unit {0})
    (number_lawful w32 (2 ^ 32) wide32) (clock_lawful format)

-- ---- places of peers

pub place_lawful : IsLawful place IsPlace
place_lawful =
    mapped_lawful (generation then trans_at) (λ p. record { generation = p.0; trans = p.1 })
    (λ p. (p.generation, p.trans)) (λ p. (p.0 ≤ GREATEST_COUNT) × IsTransAt p.0 p.1) IsPlace
    (then_lawful generation trans_at (λ n. n ≤ GREATEST_COUNT) IsTransAt generation_lawful (λ g is. trans_lawful g))
    (λ p is. (is, refl)) (λ p is. (is, refl))

pub peer_lawful : (format : Format) → IsLawful (peer format) (λ p. IsId Replica p.0 × IsPlace p.1)
peer_lawful format = then_lawful (uid format) (λ _. place) (IsId Replica) (λ _. IsPlace) (uid_lawful format)
    (λ u is. place_lawful)
