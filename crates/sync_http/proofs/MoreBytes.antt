-- A whole head with more bytes behind it.
use Rattle.std.proofs.Common.{◌≡◌, ◌⊎◌, ℕ, ◌-◌, List, [], ◌++◌, length, take, Result, Ok, Err, refl, sym, ap}
use Rattle.std.proofs.Common.{ap₂, ◌∙◌, subst, arith, inl, inr, append-nil}
use Rattle.std.proofs.lemmas.Bool.{cases_lt}
use Rattle.std.proofs.lemmas.List.{take-append-le}
use Rattle.httparse.specs.Grammar as grammar
use Rattle.httparse.proofs.GrammarLemmas.{ReadsRequest-append, ReadsResponse-append}
use Rattle.sync_http.specs.Hearing.{front, heard, most_bytes, HearsRequest, HearsReply, Said, SaysRequest, SaysReply}
use Rattle.sync_http.specs.declared.heads.Heard.{Heard}
use Rattle.sync_http.specs.declared.heads.Heard.TheVariants.{NotYet, Head}
use Rattle.sync_http.specs.declared.heads.RequestHead.{RequestHead}
use Rattle.sync_http.specs.declared.heads.ReplyHead.{ReplyHead}
use Rattle.sync_http.specs.declared.fault.WireFault.{WireFault}
use Rattle.sync_http.specs.declared.fault.WireFault.TheVariants.{TooLarge, BadHead, BadPath, BadMethod, Chunked}
use Rattle.sync_http.specs.declared.fault.WireFault.TheVariants.{NoLength, Memory}
use Rattle.sync_http.proofs.HeadsBack.{take_behind}
use Rattle.sync_http.proofs.Hears.{one_reply, one_request, whole_front}

-- the part in which a head is looked for goes on
front_more : (bytes more : List ℕ) → (later : List ℕ) × (front (bytes ++ more) ≡ front bytes ++ later)
front_more bytes more = elim (cases_lt (length bytes) most_bytes) [
  | inl short ↦ (
    take (most_bytes - length bytes) more,
    take_behind bytes more most_bytes (omega (arith, short))
        ∙ ap (λ b. b ++ take (most_bytes - length bytes) more) (sym (whole_front bytes short)),
  )
  | inr long ↦ ([], take-append-le most_bytes bytes more long ∙ sym (append-nil (front bytes)))
]

no_fault : {T : Type 0} {x : T} {f : WireFault} → ◌≡◌ {A = Result T WireFault} (Ok x) (Err f) → ⊥
no_fault e = cc

-- ---- requests

pub request_on : (bytes more : List ℕ) (said : Said RequestHead) (n : ℕ) → SaysRequest bytes said n
    → SaysRequest (bytes ++ more) said n
request_on bytes more said n h =
    let on = front_more bytes more in record {
      head = h.head;
      rest = h.rest ++ on.0;
      reads = subst (λ b. grammar.ReadsRequest b h.head (h.rest ++ on.0)) (sym on.1)
          (ReadsRequest-append (front bytes) h.head h.rest on.0 h.reads);
      few = h.few;
      says = h.says;
      length_is = h.length_is;
    }

abbrev request_said : List ℕ → RequestHead → ℕ → Result (Heard RequestHead) WireFault → Type 0
request_said bytes head n answer = (answer ≡ heard (Ok head) n) ⊎ (answer ≡ Err Memory)

pub one_request_heard : (bytes : List ℕ) (head : RequestHead) (n : ℕ) (answer : Result (Heard RequestHead) WireFault)
    → SaysRequest bytes (Ok head) n → HearsRequest bytes answer → request_said bytes head n answer
one_request_heard bytes head n (Ok NotYet) h a =
    absurd (a.1.none h.head h.rest (subst (λ b. grammar.ReadsRequest b h.head h.rest) (whole_front bytes a.0) h.reads))
one_request_heard bytes head n (Ok (Head other k)) h a =
    let same = one_request bytes (Ok other) (Ok head) k n a h in inl (ap₂ heard same.0 same.1)
one_request_heard bytes head n (Err TooLarge) h a = absurd (a.1.none h.head h.rest h.reads)
one_request_heard bytes head n (Err BadHead) h (inl a) = absurd (a.none h.head h.rest h.reads h.few)
one_request_heard bytes head n (Err BadHead) h (inr a) =
    absurd (no_fault (one_request bytes (Ok head) (Err BadHead) n a.0 h a.1).0)
one_request_heard bytes head n (Err BadPath) h a =
    absurd (no_fault (one_request bytes (Ok head) (Err BadPath) n a.0 h a.1).0)
one_request_heard bytes head n (Err BadMethod) h a =
    absurd (no_fault (one_request bytes (Ok head) (Err BadMethod) n a.0 h a.1).0)
one_request_heard bytes head n (Err Chunked) h a =
    absurd (no_fault (one_request bytes (Ok head) (Err Chunked) n a.0 h a.1).0)
one_request_heard bytes head n (Err NoLength) h a =
    absurd (no_fault (one_request bytes (Ok head) (Err NoLength) n a.0 h a.1).0)
one_request_heard bytes head n (Err Memory) h a = inr refl

-- ---- replies

pub reply_on : (bytes more : List ℕ) (said : Said ReplyHead) (n : ℕ) → SaysReply bytes said n
    → SaysReply (bytes ++ more) said n
reply_on bytes more said n h =
    let on = front_more bytes more in record {
      head = h.head;
      rest = h.rest ++ on.0;
      reads = subst (λ b. grammar.ReadsResponse b h.head (h.rest ++ on.0)) (sym on.1)
          (ReadsResponse-append (front bytes) h.head h.rest on.0 h.reads);
      few = h.few;
      says = h.says;
      length_is = h.length_is;
    }

abbrev reply_said : List ℕ → ReplyHead → ℕ → Result (Heard ReplyHead) WireFault → Type 0
reply_said bytes head n answer = (answer ≡ heard (Ok head) n) ⊎ (answer ≡ Err Memory)

pub one_reply_heard : (bytes : List ℕ) (head : ReplyHead) (n : ℕ) (answer : Result (Heard ReplyHead) WireFault)
    → SaysReply bytes (Ok head) n → HearsReply bytes answer → reply_said bytes head n answer
one_reply_heard bytes head n (Ok NotYet) h a =
    absurd (a.1.none h.head h.rest (subst (λ b. grammar.ReadsResponse b h.head h.rest) (whole_front bytes a.0) h.reads))
one_reply_heard bytes head n (Ok (Head other k)) h a =
    let same = one_reply bytes (Ok other) (Ok head) k n a h in inl (ap₂ heard same.0 same.1)
one_reply_heard bytes head n (Err TooLarge) h a = absurd (a.1.none h.head h.rest h.reads)
one_reply_heard bytes head n (Err BadHead) h (inl a) = absurd (a.none h.head h.rest h.reads h.few)
one_reply_heard bytes head n (Err BadHead) h (inr a) =
    absurd (no_fault (one_reply bytes (Ok head) (Err BadHead) n a.0 h a.1).0)
one_reply_heard bytes head n (Err BadPath) h a =
    absurd (no_fault (one_reply bytes (Ok head) (Err BadPath) n a.0 h a.1).0)
one_reply_heard bytes head n (Err BadMethod) h a =
    absurd (no_fault (one_reply bytes (Ok head) (Err BadMethod) n a.0 h a.1).0)
one_reply_heard bytes head n (Err Chunked) h a =
    absurd (no_fault (one_reply bytes (Ok head) (Err Chunked) n a.0 h a.1).0)
one_reply_heard bytes head n (Err NoLength) h a =
    absurd (no_fault (one_reply bytes (Ok head) (Err NoLength) n a.0 h a.1).0)
one_reply_heard bytes head n (Err Memory) h a = inr refl
