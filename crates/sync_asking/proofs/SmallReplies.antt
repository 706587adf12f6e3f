-- What a reply with a small body comes to, by the bytes that were heard.
use Rattle.std.proofs.Common.{◌≡◌, ◌≢◌, false, ◌⊎◌, ℕ, ◌+◌, ◌<◌, ◌≤◌, List, [], ◌∷◌, ◌++◌, length, take, drop, Some, Ok, Err}
use Rattle.std.proofs.Common.{inl, inr, refl, sym, ap, ◌∙◌, subst, arith, length-append, length-drop}
use Rattle.std.proofs.lemmas.Bool.{le-ltb, lt-ltb}
use Rattle.httparse.specs.Grammar.{ResponseHead, print_blank, print_end, print_reason, print_response}
use Rattle.httparse.specs.Grammar.{print_section, print_version}
use Rattle.httparse.proofs.GrammarLemmas.{print_response-append}
use Rattle.u1_base.specs.declared.limits.TheConstants.{MOST_HEAD_BYTES, MOST_POSITION_BODY_BYTES}
use Rattle.sync_http.specs.Hearing.{HearsReply, SaysReply}
use Rattle.sync_http.specs.Laws.{CanReply}
use Rattle.sync_http.specs.declared.heads.Heard.TheVariants.{NotYet}
use Rattle.sync_http.specs.declared.heads.ReplyHead.{ReplyHead}
use Rattle.sync_http.proofs.HeadsBack.{reply_back}
use Rattle.sync_http.proofs.MoreBytes.{reply_on}
use Rattle.sync_link.specs.declared.asking.AskFault.{AskFault}
use Rattle.sync_link.specs.declared.asking.AskFault.TheVariants as ask
use Rattle.sync_stream.specs.Messages.{HeardReply, NoReply, BadReply, Status, Hears, ReadsReply, Small, Says, Short, Over}
use Rattle.sync_stream.specs.Messages.{most_small, small_of}
use Rattle.sync_phases.specs.Phases.{heard_ends, small_ends}
use Rattle.sync_phases.specs.Phase.{and_then}
use Rattle.sync_phases.specs.declared.fault.SyncFault.{SyncFault}
use Rattle.sync_phases.specs.declared.fault.SyncFault.TheVariants.{Link, Peer, Broken, LogCheck, Full, Disk, Memory}
use Rattle.sync_asking.specs.Heard.{HasNoHead, HearsSmall, SaysBytes, ask_ends}
use Rattle.sync_asking.specs.declared.heads.Found.{Found}
use Rattle.sync_asking.specs.inner.Heard.{HasBody}

-- ---- any reply

-- bytes without a head are a reply that comes to this, unless memory ran out
pub no_head : {A : Type 0} (says : List ℕ → ℕ → A → Type 0) (given : List ℕ) (fault : SyncFault)
    → HasNoHead given fault
    → (fault ≡ Memory) ⊎ ((heard : HeardReply A) × ReadsReply says given heard × (heard_ends heard ≡ Err fault))
no_head says given Link has = inr (NoReply, has, refl)
no_head says given (Peer status) has = absurd has
no_head says given (Broken n) has =
    inr (BadReply has.1, (has.2, has.3), ap (λ m. Err (Broken m)) (sym has.0))
no_head says given (LogCheck mine theirs) has = absurd has
no_head says given (Full need limit) has = absurd has
no_head says given Disk has = absurd has
no_head says given Memory has = inl refl

-- one with another status than 200
pub other_status : {A : Type 0} (says : List ℕ → ℕ → A → Type 0) (given : List ℕ) (found : Found)
    → SaysReply given (Ok found.head) found.length → found.head.status ≢ 200
    → ReadsReply says given (Status found.head.status)
other_status says given found reply other = (found.head.body, found.length, reply, other)

-- one with this status, by what the bytes after its head say
pub hears : {A : Type 0} (says : List ℕ → ℕ → A → Type 0) (given : List ℕ) (found : Found) (x : A)
    → SaysReply given (Ok found.head) found.length → found.head.status ≡ 200
    → says (drop found.length given) found.head.body x → ReadsReply says given (Hears x)
hears says given found x reply status is = (
  found.head.body,
  found.length,
  subst (λ (s : ℕ). SaysReply given (Ok (record { status = s; body = found.head.body })) found.length) status reply,
  is,
)

-- where nothing came, a head may still come
begins_at_least : (h : ResponseHead) (rest : List ℕ) → [] ≡ print_response h ++ rest → ⊥
begins_at_least h rest e =
    let later = h.digits ++ (print_reason h.reason ++ (print_end h.line_end ++ (print_section h.fields h.last ++ rest))) in
    let parts = ap length (e ∙ print_response-append h rest) in
    let first = length-append (print_blank h.blank) (print_version h.minor ++ 32 ∷ later) in
    let second = length-append (print_version h.minor) (32 ∷ later) in
    absurd (omega (arith, parts, first, second))

pub nothing_heard : HearsReply [] (Ok NotYet)
nothing_heard =
    let head : ReplyHead = record { status = 200; body = 0 } in
    let can : CanReply head = record { status = (omega arith, omega arith); phrase = refl; body = omega arith } in
    let says = reply_back head false [] can in (
      omega arith,
      record {
        none = λ h rest reads. begins_at_least h rest reads.1;
        may = (print_response says.head ++ [], says.head, (says.reads.0, refl));
      },
    )

-- ---- one with a small body

pub small_no_head : (given : List ℕ) (fault : SyncFault) → HasNoHead given fault → HearsSmall given (Err fault)
small_no_head given fault has = by (no_head SaysBytes given fault has)
  where
    by : (fault ≡ Memory)
        ⊎ ((heard : HeardReply (Small (List ℕ))) × ReadsReply SaysBytes given heard × (heard_ends heard ≡ Err fault))
        → HearsSmall given (Err fault)
    by (inl e) = inl (ap Err e)
    by (inr k) = inr (k.0, k.1, sym (ap (λ r. and_then r small_ends) k.2))

pub small_status : (given : List ℕ) (found : Found) → SaysReply given (Ok found.head) found.length
    → found.head.status ≢ 200 → HearsSmall given (Err (Peer found.head.status))
small_status given found reply other =
    inr (Status found.head.status, other_status SaysBytes given found reply other, refl)

pub small_over : (given : List ℕ) (found : Found) → SaysReply given (Ok found.head) found.length
    → found.head.status ≡ 200 → most_small < found.head.body → HearsSmall given (Err (Broken 0))
small_over given found reply status long =
    inr (
      Hears Over,
      hears SaysBytes given found Over reply status
          (sym (rw (lt-ltb most_small found.head.body long) refl)),
      refl,
    )

-- the link failed within the body
pub small_short : (first more : List ℕ) (found : Found) (fault : AskFault)
    → SaysReply first (Ok found.head) found.length → found.head.status ≡ 200 → found.length ≤ length first
    → found.head.body ≤ most_small → (fault ≡ ask.Failed → length (first ++ more) < found.length + found.head.body)
    → HearsSmall (first ++ more) (Err (ask_ends fault))
small_short first more found ask.Failed reply status within few less =
    let rest = drop found.length (first ++ more) in
    let short : length rest < found.head.body =
    omega (arith, less refl, within, length-drop found.length (first ++ more), length-append first more) in
    inr (
      Hears Short,
      hears SaysBytes (first ++ more) found Short (reply_on first more (Ok found.head) found.length reply) status
          (sym (rw (le-ltb most_small found.head.body few, lt-ltb (length rest) found.head.body short) refl)),
      refl,
    )
small_short first more found ask.Memory reply status within few less = inl refl

-- the whole body came
pub small_whole : (given : List ℕ) (found : Found) → HasBody given found
    → HearsSmall given (Ok (take found.head.body (drop found.length given)))
small_whole given found has =
    let n = found.head.body in
    let rest = drop found.length given in
    let long : n ≤ length rest = omega (arith, has.whole, length-drop found.length given) in
    let is : small_of Some n rest ≡ Says (take n rest) =
    rw (le-ltb most_small n has.small, le-ltb (length rest) n long) refl in
    inr (Hears (Says (take n rest)), hears SaysBytes given found (Says (take n rest)) has.says has.status (sym is), refl)

pub has_body : (first more bytes : List ℕ) (found : Found) → bytes ≡ first ++ more
    → SaysReply first (Ok found.head) found.length → found.head.status ≡ 200 → found.length ≤ MOST_HEAD_BYTES
    → found.head.body ≤ MOST_POSITION_BODY_BYTES → found.length + found.head.body ≤ length bytes → HasBody bytes found
has_body first more bytes found is says status within small whole = record {
  says = subst (λ (b : List ℕ). SaysReply b (Ok found.head) found.length) (sym is)
      (reply_on first more (Ok found.head) found.length says);
  status = status;
  within = within;
  small = small;
  whole = whole;
}

-- the request was not sent whole: nothing came
pub small_unasked : (fault : AskFault) → HearsSmall [] (Err (ask_ends fault))
small_unasked ask.Failed = inr (NoReply, nothing_heard, refl)
small_unasked ask.Memory = inl refl
