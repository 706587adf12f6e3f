-- Whole messages that were written, head and body, are read as themselves.
use Rattle.std.proofs.Common.{◌≡◌, ◌≢◌, ◌⊎◌, ℕ, ◌+◌, ◌<◌, ◌≤◌, ◌^◌, Bool, true, false, cond, not, ◌&&◌, eqb}
use Rattle.std.proofs.Common.{pos, List, [], ◌∷◌, ◌++◌, length, map, take, drop, codes, Option, Some, None, Ok}
use Rattle.std.proofs.Common.{Result, nat_le, nat_lt, refl, sym, ap, ◌∙◌, subst, arith, inl, inr, append_assoc}
use Rattle.std.specs.List.{AllByRecursion}
use Rattle.std.specs.Prelude.{is_some}
use Rattle.std.proofs.lemmas.Bool.{le-leb, le-ltb}
use Rattle.std.proofs.lemmas.Fmt.{length-decimal-le}
use Rattle.std.proofs.lemmas.List.{drop_at, length-append, take_at}
use Rattle.json.proofs.Printed.Utf8.{IsUtf8-are_ascii}
use Rattle.httparse.specs.Grammar as grammar
use Rattle.content.specs.Tree.{Tree, boolean, whole, text, no_fields, field, object}
use Rattle.content.specs.Contents.{IsFormed}
use Rattle.u1_base.specs.Places.{Place}
use Rattle.u1_base.specs.declared.ids.Form.TheVariants.{Replica}
use Rattle.u1_base.specs.declared.limits.TheConstants.{GREATEST_COUNT}
use Rattle.u1_base.proofs.IdFacts.{id_facts}
use Rattle.sync_http.specs.Bodies.{IsInfo, info_in, info_text, info_tree, kept_in, told_in, told_text, told_tree}
use Rattle.serde_json.specs.Find.{as_object}
use Rattle.sync_http.specs.Chained.{◌>>=◌, only_if}
use Rattle.sync_http.specs.Hearing.{SaysReply, SaysRequest}
use Rattle.sync_http.specs.Laws.{CanAsk, CanReply}
use Rattle.sync_http.specs.Positions.{IsPosition, trans_text}
use Rattle.sync_http.specs.Written.{reply_written, request_written}
use Rattle.sync_http.specs.declared.address.Address.{Address}
use Rattle.sync_http.specs.declared.heads.ReplyHead.{ReplyHead}
use Rattle.sync_http.specs.declared.info.Info.{Info}
use Rattle.sync_http.proofs.BodiesBack.{info_back, told_back}
use Rattle.sync_http.specs.declared.fault.WireFault.{WireFault}
use Rattle.sync_http.proofs.HeadsBack as heads
use Rattle.sync_http.proofs.Hears.{one_reply}
use Rattle.sync_http.proofs.MoreBytes.{reply_on}
use Rattle.sync_http.proofs.PositionsBack.{value_of-tree}
use Rattle.sync_stream.specs.Came.{IsQuiet, SaysBody, Whole, ending_of}
use Rattle.sync_stream.specs.Came.EndsSo.{at_end}
use Rattle.sync_stream.specs.Laws.{IsAskable, IsGiven, IsSent, ReadsBack}
use Rattle.sync_stream.specs.Lines.{IsUnbroken}
use Rattle.sync_stream.specs.Messages.{Asks, Hears, ReadsReply, ReadsRequest, Says, SaysPurpose, SaysInfo, SaysKept}
use Rattle.sync_stream.specs.Messages.{SaysReturned, SaysStream, Status, Tell, docs_in, most_small}
use Rattle.sync_stream.specs.Messages.{small_of}
use Rattle.sync_stream.specs.Replies.{BadRequest, Keeps, LogCheck, NoLength, NoMemory, NotFound, Refusal, Refuses}
use Rattle.sync_stream.specs.Replies.{Reply, Returns, StoreFailed, StoreFull, Tells, TooLarge, WrongMethod}
use Rattle.sync_stream.specs.Replies.{kept_text, refusal_status, refusal_text, refusal_words}
use Rattle.sync_stream.specs.Replies.{is_stream, reply_body, reply_status, reply_text}
use Rattle.sync_stream.specs.Requests.{ForInfo, Question, ToExchange, ToKeep, purpose_of, request_body, request_head}
use Rattle.sync_stream.specs.Requests.{request_text, verb_of}
use Rattle.sync_stream.specs.Stream.{Ends, counted, end_fault, ends_in_cr, is_closed, is_long_rest, max_line}
use Rattle.sync_stream.specs.Written.{stream_text}
use Rattle.sync_stream.specs.declared.fault.LineFault.{LineFault}
use Rattle.sync_stream.specs.declared.line.HeadKind.{HeadKind}
use Rattle.sync_stream.specs.declared.line.HeadKind.TheVariants.{Request as OfRequest, Reply as OfReply}
use Rattle.sync_stream.specs.declared.line.Line.{Line}
use Rattle.sync_stream.specs.declared.line.Line.TheVariants.{Head, Doc, End}
use Rattle.sync_stream.specs.declared.line.Next.{Next}
use Rattle.sync_stream.specs.declared.line.Next.TheVariants.{Opening, Heading, After, Closed}
use Rattle.sync_stream.specs.declared.line.SyncDoc.{SyncDoc}
use Rattle.sync_stream.proofs.CleanTexts.{object_length, quoted_length}
use Rattle.sync_stream.proofs.StreamBack.{stream_back, trans_length}

-- ---- the bytes behind a head

behind : (front body more : List ℕ) → drop (length front) ((front ++ body) ++ more) ≡ body ++ more
behind front body more =
    ap (drop (length front)) (append_assoc front body more) ∙ drop_at front (body ++ more) (length front) refl

-- ---- small bodies

-- a small body that came whole is what its reader says
small_whole : {A : Type 0} (reads : List ℕ → Option A) (body more : List ℕ) (x : A) → reads body ≡ Some x
    → length body ≤ most_small → Says x ≡ small_of reads (length body) (body ++ more)
small_whole reads body more x says short = rw (
  le-ltb most_small (length body) short,
  le-ltb (length (body ++ more)) (length body) (omega (arith, length-append body more)),
  take_at body more (length body) refl,
  says,
) refl

told_short : (p : Place) → IsPosition p → length (told_text p) ≤ most_small
unfolding told_text told_tree
told_short p h =
    let less = h.counted in
    let fits : p.generation < 2 ^ 64 = omega (arith, less) in
    let digits = length-decimal-le 19 p.generation (omega arith) (omega (arith, less)) fits in
    let trans = trans_length p.trans h.id in
    let quote = quoted_length (trans_text p) in
    let all = object_length (field (codes "generation") (whole (pos p.generation))
    (field (codes "transaction_id") (text (trans_text p)) no_fields)) in
    omega (arith, digits, trans, quote, all)

info_short : (info : Info) → IsInfo info → length (info_text info) ≤ most_small
unfolding info_text info_tree
info_short info h =
    let source = info.source_at.generation in
    let target = info.target_at.generation in
    let less = h.source_at.counted in
    let less' = h.target_at.counted in
    let digits = length-decimal-le 19 source (omega arith) (omega (arith, less)) (omega (arith, less)) in
    let digits' = length-decimal-le 19 target (omega arith) (omega (arith, less')) (omega (arith, less')) in
    let trans = trans_length info.source_at.trans h.source_at.id in
    let trans' = trans_length info.target_at.trans h.target_at.id in
    let uid = (id_facts Replica info.source h.source).1 in
    let uid' = (id_facts Replica info.target h.target).1 in
    let quote_trans = quoted_length (trans_text info.source_at) in
    let quote_trans' = quoted_length (trans_text info.target_at) in
    let quote_uid = quoted_length info.source in
    let quote_uid' = quoted_length info.target in
    let all = object_length (field (codes "source_replica_generation") (whole (pos source))
    (field (codes "source_replica_uid") (text info.source)
    (field (codes "source_transaction_id") (text (trans_text info.source_at))
    (field (codes "target_replica_generation") (whole (pos target))
    (field (codes "target_replica_transaction_id") (text (trans_text info.target_at))
    (field (codes "target_replica_uid") (text info.target) no_fields)))))) in
    omega (
      arith,
      digits,
      digits',
      trans,
      trans',
      uid,
      uid',
      quote_trans,
      quote_trans',
      quote_uid,
      quote_uid',
      all,
    )

abbrev kept_tree : Tree
kept_tree = object (field (codes "ok") (boolean true) no_fields)

kept_formed : IsFormed kept_tree
kept_formed = (IsUtf8-are_ascii (codes "ok") refl, tt, tt, tt)

kept_back : kept_in kept_text ≡ Some tt
unfolding kept_text
kept_back =
    ap (λ d. d >>= (λ x. only_if (is_some (as_object x)) tt)) (value_of-tree kept_tree kept_formed (omega arith))

kept_short : length kept_text ≤ most_small
unfolding kept_text
kept_short = let all = object_length (field (codes "ok") (boolean true) no_fields) in omega (arith, all)

-- ---- streams

fits : (test : Bool) (fault : LineFault) (others : Option LineFault) → cond test (Some fault) others ≡ None
    → test ≡ false
fits true fault others e = cc
fits false fault others e = refl

no_long_rest : (rest : List ℕ) → nat_lt max_line (length rest) ≡ false → is_long_rest rest ≡ false
no_long_rest rest short = ap (λ b. b && not (eqb (length rest) (max_line + 1) && ends_in_cr rest)) short

-- where a body ends without a fault, its rest is quiet
quiet : (kind : HeadKind) (n : ℕ) (place : Next) (rest : List ℕ) → (is_closed place ≡ true) ⊎ IsUnbroken rest
    → end_fault kind n place rest ≡ None → IsQuiet place rest
quiet kind n Opening rest (inl closed) none = absurd cc
quiet kind n Opening rest (inr unbroken) none =
    inr (refl, unbroken, no_long_rest rest (fits (nat_lt max_line (length rest)) _ _ none))
quiet kind n Heading rest (inl closed) none = absurd cc
quiet kind n Heading rest (inr unbroken) none =
    inr (refl, unbroken, no_long_rest rest (fits (nat_lt max_line (length rest)) _ _ none))
quiet kind n (After comma) rest (inl closed) none = absurd cc
quiet kind n (After comma) rest (inr unbroken) none =
    inr (refl, unbroken, no_long_rest rest (fits (nat_lt max_line (length rest)) _ _ none))
quiet kind n Closed [] last none = inl (refl, refl)
quiet kind n Closed (b ∷ rest) last none = absurd cc

-- a body without a fault says its lines, and ends whole
ends_whole : (kind : HeadKind) (bytes : List ℕ) (said : List Line) → Ends kind bytes said None
    → SaysBody kind bytes true said Whole
ends_whole kind bytes said e = record {
  lines = e.lines;
  place = e.place;
  rest = e.rest;
  begins = e.begins;
  ends = at_end refl (quiet kind (counted (length e.lines + 1)) e.place e.rest e.last e.fault)
      (ap ending_of (sym e.fault));
}

docs_back : (docs : List SyncDoc) → docs_in (map Doc docs ++ End ∷ []) ≡ docs
docs_back [] = refl
docs_back (doc ∷ docs) = ap (λ ds. doc ∷ ds) (docs_back docs)

-- a stream that was written and came whole says what it was written for
stream_whole : (kind : HeadKind) (head : Place) (docs : List SyncDoc) (more : List ℕ) → IsPosition head
    → AllByRecursion IsSent docs
    → SaysStream kind (stream_text kind head docs ++ more) (length (stream_text kind head docs))
    (record { head = Some head; docs = docs; ending = Whole })
stream_whole kind head docs more h sent =
    let body = stream_text kind head docs in
    let said = Head head ∷ map Doc docs ++ End ∷ [] in
    let came : nat_le (length body) (length (body ++ more)) ≡ true =
    le-leb (length body) (length (body ++ more)) (omega (arith, length-append body more)) in record {
      said = said;
      says = subst (λ b. SaysBody kind (take (length body) (body ++ more)) b said Whole) (sym came)
          (subst (λ t. SaysBody kind t true said Whole) (sym (take_at body more (length body) refl))
          (ends_whole kind body said (stream_back kind head docs h sent)));
      head = refl;
      docs = docs_back docs;
    }

-- ---- requests

says_ask : (question : Question) (more : List ℕ) → IsAskable question
    → SaysPurpose (verb_of question) (request_body question ++ more) (length (request_body question))
    (purpose_of question)
says_ask ForInfo more h = refl
says_ask (ToKeep at) more h = ap Tell (small_whole told_in (told_text at) more at (told_back at h) (told_short at h))
says_ask (ToExchange known docs) more h = (
  record { head = Some known; docs = docs; ending = Whole },
  stream_whole OfRequest known docs more h.0 h.1,
  refl,
)

pub request_back : (to : Address) (source : List ℕ) (question : Question) (more : List ℕ)
    → CanAsk to (request_head to source question) → IsAskable question
    → ReadsRequest (request_text to source question ++ more) (Asks to.db source (purpose_of question))
request_back to source question more can h =
    let head = request_head to source question in
    let front = grammar.print_request (request_written to head) in
    let body = request_body question in (
      head,
      length front,
      subst (λ t. SaysRequest t (Ok head) (length front)) (sym (append_assoc front body more))
          (heads.request_back to head (body ++ more) can),
      refl,
      refl,
      subst (λ t. SaysPurpose (verb_of question) t (length body) (purpose_of question)) (sym (behind front body more))
          (says_ask question more h),
    )

-- ---- replies

-- a reply with status 200 is read as what its body says
hears_back : {A : Type 0} (says : List ℕ → ℕ → A → Type 0) (body more : List ℕ) (stream : Bool) (x : A)
    → length body ≤ GREATEST_COUNT → says (body ++ more) (length body) x
    → ReadsReply says
    ((grammar.print_response (reply_written (record { status = 200; body = length body }) stream) ++ body) ++ more)
    (Hears x)
hears_back says body more stream x short h =
    let head : ReplyHead = record { status = 200; body = length body } in
    let front = grammar.print_response (reply_written head stream) in
    let can : CanReply head = record { status = (omega arith, omega arith); phrase = refl; body = short } in (
      length body,
      length front,
      subst (λ t. SaysReply t (Ok head) (length front)) (sym (append_assoc front body more))
          (heads.reply_back head stream (body ++ more) can),
      subst (λ t. says t (length body) x) (sym (behind front body more)) h,
    )

words_short : (refusal : Refusal) → length (refusal_words refusal) ≤ 18
words_short BadRequest = omega arith
words_short NotFound = omega arith
words_short WrongMethod = omega arith
words_short LogCheck = omega arith
words_short NoLength = omega arith
words_short TooLarge = omega arith
words_short StoreFailed = omega arith
words_short NoMemory = omega arith
words_short StoreFull = omega arith

refusal_short : (refusal : Refusal) → length (refusal_text refusal) ≤ GREATEST_COUNT
unfolding refusal_text
refusal_short refusal =
    let all = object_length (field (codes "error") (text (refusal_words refusal)) no_fields) in
    let quote = quoted_length (refusal_words refusal) in
    let words = words_short refusal in
    omega (arith, all, quote, words)

can_refuse : (refusal : Refusal) (n : ℕ) → n ≤ GREATEST_COUNT
    → CanReply (record { status = refusal_status refusal; body = n })
can_refuse BadRequest n short = record { status = (omega arith, omega arith); phrase = refl; body = short }
can_refuse NotFound n short = record { status = (omega arith, omega arith); phrase = refl; body = short }
can_refuse WrongMethod n short = record { status = (omega arith, omega arith); phrase = refl; body = short }
can_refuse LogCheck n short = record { status = (omega arith, omega arith); phrase = refl; body = short }
can_refuse NoLength n short = record { status = (omega arith, omega arith); phrase = refl; body = short }
can_refuse TooLarge n short = record { status = (omega arith, omega arith); phrase = refl; body = short }
can_refuse StoreFailed n short = record { status = (omega arith, omega arith); phrase = refl; body = short }
can_refuse NoMemory n short = record { status = (omega arith, omega arith); phrase = refl; body = short }
can_refuse StoreFull n short = record { status = (omega arith, omega arith); phrase = refl; body = short }

other_status : (refusal : Refusal) → refusal_status refusal ≢ 200
other_status BadRequest e = omega (arith, e)
other_status NotFound e = omega (arith, e)
other_status WrongMethod e = omega (arith, e)
other_status LogCheck e = omega (arith, e)
other_status NoLength e = omega (arith, e)
other_status TooLarge e = omega (arith, e)
other_status StoreFailed e = omega (arith, e)
other_status NoMemory e = omega (arith, e)
other_status StoreFull e = omega (arith, e)

refuses_back : {A : Type 0} (says : List ℕ → ℕ → A → Type 0) (refusal : Refusal) (more : List ℕ)
    → ReadsReply says (reply_text (Refuses refusal) ++ more) (Status (refusal_status refusal))
refuses_back says refusal more =
    let body = refusal_text refusal in
    let head : ReplyHead = record { status = refusal_status refusal; body = length body } in
    let front = grammar.print_response (reply_written head false) in (
      length body,
      length front,
      subst (λ t. SaysReply t (Ok head) (length front)) (sym (append_assoc front body more))
          (heads.reply_back head false (body ++ more) (can_refuse refusal (length body) (refusal_short refusal))),
      other_status refusal,
    )

pub reply_back : (reply : Reply) (more : List ℕ) → IsGiven reply → ReadsBack (reply_text reply ++ more) reply
reply_back (Tells info) more h =
    let short = info_short info h in
    hears_back SaysInfo (info_text info) more false (Says info) (omega (arith, short))
    (small_whole info_in (info_text info) more info (info_back info h) short)
reply_back Keeps more h =
    let short = kept_short in
    hears_back SaysKept kept_text more false (Says tt) (omega (arith, short))
    (small_whole kept_in kept_text more tt kept_back short)
reply_back (Returns at docs) more h =
    hears_back SaysReturned (stream_text OfReply at docs) more true
    (record { head = Some at; docs = docs; ending = Whole }) h.2 (stream_whole OfReply at docs more h.0 h.1)
reply_back (Refuses refusal) more h = record {
  info = refuses_back SaysInfo refusal more;
  kept = refuses_back SaysKept refusal more;
  returned = refuses_back SaysReturned refusal more;
}

-- ---- the status of a reply

can_reply : (reply : Reply) (n : ℕ) → n ≤ GREATEST_COUNT → CanReply (record { status = reply_status reply; body = n })
can_reply (Tells info) n short = record { status = (omega arith, omega arith); phrase = refl; body = short }
can_reply Keeps n short = record { status = (omega arith, omega arith); phrase = refl; body = short }
can_reply (Returns at docs) n short = record { status = (omega arith, omega arith); phrase = refl; body = short }
can_reply (Refuses refusal) n short = can_refuse refusal n short

same_status : {x y : ReplyHead} → ◌≡◌ {A = Result ReplyHead WireFault} (Ok x) (Ok y) → x.status ≡ y.status
same_status e = cc

pub status_heard : (reply : Reply) (given more : List ℕ) (status : ℕ) → length (reply_body reply) ≤ GREATEST_COUNT
    → reply_text reply ≡ given ++ more → ReadsReply SaysInfo given (Status status) → status ≡ reply_status reply
status_heard reply given more status short is h =
    let body = reply_body reply in
    let head : ReplyHead = record { status = reply_status reply; body = length body } in
    let heard : ReplyHead = record { status = status; body = h.0 } in
    let front = grammar.print_response (reply_written head (is_stream reply)) in
    let written = heads.reply_back head (is_stream reply) body (can_reply reply (length body) short) in
    let came = subst (λ t. SaysReply t (Ok heard) h.1) (sym is) (reply_on given more (Ok heard) h.1 h.2) in
    same_status (one_reply (front ++ body) (Ok heard) (Ok head) h.1 (length front) came written).0
