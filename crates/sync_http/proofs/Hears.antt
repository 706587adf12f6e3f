-- What the parts of a head say of the bytes that it was found in.
use Rattle.std.proofs.Common.{◌≡◌, ◌⊎◌, ℕ, ◌<◌, ◌≤◌, Bool, true, false, nat_lt, if◌then◌else◌, List, length, take}
use Rattle.std.proofs.Common.{drop, map, min, Result, Ok, Err, IfErr, refl, sym, ◌∙◌, ap, ap₂, subst, arith, inl, inr}
use Rattle.std.proofs.lemmas.List.{length-map, length-take, take_all}
use Rattle.std.proofs.lemmas.Bool.{cases_lt, ltb-true, ltb-false}
use Rattle.httparse.specs.Grammar as grammar
use Rattle.httparse.specs.declared.spans.HeaderSpan.{HeaderSpan}
use Rattle.httparse.specs.declared.spans.RequestSpans.{RequestSpans}
use Rattle.httparse.specs.declared.spans.ResponseSpans.{ResponseSpans}
use Rattle.httparse.specs.Spans.{IsRequestOf, IsResponseOf}
use Rattle.httparse.specs.Spans.{header_bytes, name_and_value, span_bytes, AreFieldsAt}
use Rattle.httparse.proofs.GrammarLemmas.{request_unique, response_unique}
use Rattle.sync_http.specs.Heads.{request_of, request_said, reply_of, reply_said}
use Rattle.sync_http.specs.Hearing.{front, most_bytes, most_fields, SaysRequest, SaysReply, Hears, IsReplyFault, heard}
use Rattle.sync_http.specs.inner.Hearing.{unfinished}
use Rattle.sync_http.specs.inner.Parts.{Answers}
use Rattle.sync_http.specs.declared.heads.Heard.{Heard}
use Rattle.sync_http.specs.declared.heads.Heard.TheVariants.{NotYet}
use Rattle.sync_http.specs.declared.heads.RequestHead.{RequestHead}
use Rattle.sync_http.specs.declared.heads.ReplyHead.{ReplyHead}
use Rattle.sync_http.specs.declared.fault.WireFault.{WireFault}
use Rattle.sync_http.specs.declared.fault.WireFault.TheVariants.{TooLarge, BadHead, BadPath, BadMethod, Chunked}
use Rattle.sync_http.specs.declared.fault.WireFault.TheVariants.{NoLength, Memory}

few_fields : (piece : List ℕ) (headers : List HeaderSpan) (count : ℕ) (fields : List grammar.Field)
    → AreFieldsAt piece headers count fields → length headers ≡ most_fields → length fields ≤ most_fields
few_fields piece headers count fields are many =
    let same : length fields ≡ length (take count headers) =
    sym (length-map fields name_and_value) ∙ ap length (sym are)
    ∙ length-map (take count headers) (header_bytes piece) in
    omega (arith, same, many, length-take count headers)

-- short bytes are looked at whole
pub whole_front : (bytes : List ℕ) → length bytes < most_bytes → front bytes ≡ bytes
whole_front bytes short = take_all most_bytes bytes (omega (arith, short))

pub front_cut : (bytes : List ℕ) (n : ℕ) → n ≡ min (length bytes) most_bytes → take n bytes ≡ front bytes
front_cut bytes n is = elim (cases_lt (length bytes) most_bytes) [
  | inl short ↦ take_all n bytes (omega (arith, is, short)) ∙ sym (whole_front bytes short)
  | inr long ↦ (let same : n ≡ most_bytes = omega (arith, is, long) in ap (λ k. take k bytes) same)
]

-- ---- the answer

-- a whole head
pub hears_whole : {T : Type 0} (says : Result T WireFault → ℕ → Type 0) (is_open is_none : List ℕ → Type 0)
    (bytes : List ℕ) (said r : Result T WireFault) (n : ℕ)
    → says said n → Answers said r → Hears says is_open is_none bytes (heard r n)
hears_whole says is_open is_none bytes said (Ok x) n h a = subst (λ s. says s n) a h
hears_whole says is_open is_none bytes said (Err TooLarge) n h a = absurd a
hears_whole says is_open is_none bytes said (Err BadHead) n h a = inr (n, subst (λ s. says s n) a h)
hears_whole says is_open is_none bytes said (Err BadPath) n h a = (n, subst (λ s. says s n) a h)
hears_whole says is_open is_none bytes said (Err BadMethod) n h a = (n, subst (λ s. says s n) a h)
hears_whole says is_open is_none bytes said (Err Chunked) n h a = (n, subst (λ s. says s n) a h)
hears_whole says is_open is_none bytes said (Err NoLength) n h a = (n, subst (λ s. says s n) a h)
hears_whole says is_open is_none bytes said (Err Memory) n h a = tt

-- a head that is not there yet
pub hears_open : {T : Type 0} (says : Result T WireFault → ℕ → Type 0) (is_open is_none : List ℕ → Type 0)
    (bytes piece : List ℕ)
    → piece ≡ front bytes → is_open piece → Hears says is_open is_none bytes (unfinished bytes)
hears_open says is_open is_none bytes piece is h =
    elim (nat_lt (length bytes) most_bytes) as (λ b. nat_lt (length bytes) most_bytes ≡ b
    → Hears says is_open is_none bytes (if b then Ok NotYet else Err TooLarge)) [
      | true ↦ λ e. let short : length bytes < most_bytes = ltb-true (length bytes) most_bytes e
          in (short, subst is_open (is ∙ whole_front bytes short) h)
      | false ↦ λ e. (ltb-false (length bytes) most_bytes e, subst is_open is h)
    ] refl

same_or_memory : {T : Type 0} (said r : Result T WireFault) → Answers said r → (r ≡ said) ⊎ (r ≡ Err Memory)
same_or_memory said (Ok x) a = inl (sym a)
same_or_memory said (Err TooLarge) a = absurd a
same_or_memory said (Err BadHead) a = inl (sym a)
same_or_memory said (Err BadPath) a = inl (sym a)
same_or_memory said (Err BadMethod) a = inl (sym a)
same_or_memory said (Err Chunked) a = inl (sym a)
same_or_memory said (Err NoLength) a = inl (sym a)
same_or_memory said (Err Memory) a = inr refl

-- the head at the front is the one that is answered
pub answers_whole : {T : Type 0} (said said' r : Result T WireFault) (n n' : ℕ) → (said ≡ said') × (n ≡ n')
    → Answers said r
    → (heard r n ≡ heard said' n') ⊎ (heard r n ≡ Err Memory)
answers_whole said said' r n n' same a = elim (same_or_memory said r a) [
  | inl is ↦ inl (ap₂ heard (is ∙ same.0) same.1)
  | inr none ↦ inr (ap (λ q. heard q n) none)
]

-- of a reply no memory is taken
pub answers_reply : {T : Type 0} (said said' r : Result T WireFault) (n n' : ℕ) → (said ≡ said') × (n ≡ n')
    → Answers said r → IfErr r IsReplyFault
    → heard r n ≡ heard said' n'
answers_reply said said' r n n' same a kind = elim (same_or_memory said r a) [
  | inl is ↦ ap₂ heard (is ∙ same.0) same.1
  | inr none ↦ absurd (subst (λ q. IfErr q IsReplyFault) none kind)
]

pub heard_kind : {T : Type 0} (r : Result T WireFault) (n : ℕ) → IfErr r IsReplyFault → IfErr (heard r n) IsReplyFault
heard_kind (Ok x) n h = tt
heard_kind (Err f) n h = h

-- the two answers where more bytes may make a head
abbrev open_head : (T : Type 0) → Result (Heard T) WireFault
open_head T = Ok NotYet

abbrev too_large : (T : Type 0) → Result (Heard T) WireFault
too_large T = Err TooLarge

too_large_kind : (T : Type 0) (short : Bool) → IfErr (if short then open_head T else too_large T) IsReplyFault
too_large_kind T true = tt
too_large_kind T false = tt

pub unfinished_kind : (T : Type 0) (bytes : List ℕ) → IfErr (unfinished {T = T} bytes) IsReplyFault
unfinished_kind T bytes = too_large_kind T (nat_lt (length bytes) most_bytes)

-- ---- requests

abbrev pub said_at : List ℕ → List HeaderSpan → RequestSpans → Result RequestHead WireFault
said_at piece headers spans = request_said (map (header_bytes piece) (take spans.headers headers))
    (span_bytes piece spans.path) (span_bytes piece spans.method)

pub says_request : (bytes piece : List ℕ) (headers : List HeaderSpan) (spans : RequestSpans) → piece ≡ front bytes
    → length headers ≡ most_fields →
    IsRequestOf piece headers spans → SaysRequest bytes (said_at piece headers spans) spans.len
says_request bytes piece headers spans is many head = record {
  head = head.0;
  rest = drop spans.len piece;
  reads = subst (λ p. grammar.ReadsRequest p head.0 (drop spans.len piece)) is head.1.reads;
  few = few_fields piece headers spans.headers (head.0).fields head.1.fields many;
  says = (λ i. request_said (sym head.1.fields i) (sym head.1.path i) (sym head.1.method i));
  length_is = sym head.1.len;
}

-- bytes begin with one head
pub one_request : (bytes : List ℕ) (said said' : Result RequestHead WireFault) (n n' : ℕ) → SaysRequest bytes said n
    → SaysRequest bytes said' n' → (said ≡ said') × (n ≡ n')
one_request bytes said said' n n' h k =
    let same : h.head ≡ k.head = (request_unique (front bytes) h.head k.head h.rest k.rest h.reads k.reads).0 in (
      sym h.says ∙ ap request_of same ∙ k.says,
      sym h.length_is ∙ ap (λ g. length (grammar.print_request g)) same
          ∙ k.length_is,
    )

-- ---- replies

abbrev pub reply_said_at : List ℕ → List HeaderSpan → ResponseSpans → Result ReplyHead WireFault
reply_said_at piece headers spans = reply_said (map (header_bytes piece) (take spans.headers headers)) spans.code

pub says_reply : (bytes piece : List ℕ) (headers : List HeaderSpan) (spans : ResponseSpans) → piece ≡ front bytes
    → length headers ≡ most_fields →
    IsResponseOf piece headers spans → SaysReply bytes (reply_said_at piece headers spans) spans.len
says_reply bytes piece headers spans is many head = record {
  head = head.0;
  rest = drop spans.len piece;
  reads = subst (λ p. grammar.ReadsResponse p head.0 (drop spans.len piece)) is head.1.reads;
  few = few_fields piece headers spans.headers (head.0).fields head.1.fields many;
  says = (λ i. reply_said (sym head.1.fields i) (sym head.1.code i));
  length_is = sym head.1.len;
}

pub one_reply : (bytes : List ℕ) (said said' : Result ReplyHead WireFault) (n n' : ℕ) → SaysReply bytes said n
    → SaysReply bytes said' n' → (said ≡ said') × (n ≡ n')
one_reply bytes said said' n n' h k =
    let same : h.head ≡ k.head = (response_unique (front bytes) h.head k.head h.rest k.rest h.reads k.reads).0 in (
      sym h.says ∙ ap reply_of same ∙ k.says,
      sym h.length_is ∙ ap (λ g. length (grammar.print_response g)) same
          ∙ k.length_is,
    )
