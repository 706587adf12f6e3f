-- What is served of an exchange that came in part, which refusals come of a stop alone, and what is served at small
-- states.
use Rattle.std.proofs.Common.{◌≡◌, ℕ, Bool, true, false, cond, List, [], ◌∷◌, ◌++◌, Option, Some, None, refl}
use Rattle.std.proofs.Common.{inl, sym, ap, ◌∙◌, append_assoc, append-nil, arith}
use Rattle.std.proofs.lemmas.Bool.{false≢true}
use Rattle.u1_base.specs.Ids.{same_id}
use Rattle.u1_base.specs.Places.{Place}
use Rattle.translog.specs.Log.{fits_log}
use Rattle.translog.specs.Source.{passes}
use Rattle.vector_rev.specs.Counts.{Uid}
use Rattle.conflicts.specs.State.{State, Step, after_all, position_kept}
use Rattle.conflicts.specs.declared.moves.PosTable.TheVariants.{Told}
use Rattle.sync_http.specs.declared.fault.WireFault.{WireFault}
use Rattle.sync_http.specs.declared.fault.WireFault.TheVariants as wire
use Rattle.sync_stream.specs.Came.{Cut, Ending, Faulty, Whole}
use Rattle.sync_stream.specs.Laws.{IsNotOfStore}
use Rattle.sync_stream.specs.Lines.{GoOn}
use Rattle.sync_stream.specs.Messages.{AskInfo, Asks, EndsEarly, Exchange, Over, Purpose, Refused, Request, Says, Short}
use Rattle.sync_stream.specs.Messages.{Stream, Tell, Unread}
use Rattle.sync_stream.specs.Replies.{BadRequest, LogCheck, NoLength, NoMemory, NotFound, Refusal, StoreFailed}
use Rattle.sync_stream.specs.Replies.{StoreFull, TooLarge, WrongMethod, Keeps, Refuses, Reply, Returns, Tells}
use Rattle.sync_stream.specs.Replies.{head_refusal}
use Rattle.sync_stream.specs.Serving.{Failed, Full, Held, MakesMore, Memory, OnlyMemory, Response, Serves, Stop}
use Rattle.sync_stream.specs.Serving.{applied, asked, ended_so, exchange, exchanged, held_after, passing, refused}
use Rattle.sync_stream.specs.Serving.{returned, serve, steps_before, steps_for, steps_to, stopped, taken_of, whole}
use Rattle.sync_stream.specs.Worked.{ServesAsWorked}
use Rattle.sync_stream.specs.declared.fault.LineFault.TheVariants.{At, TooLong}
use Rattle.sync_stream.specs.declared.line.SyncDoc.{SyncDoc}

-- ---- in part

either : (b : Bool) (made : List Step) (x y : Response) → MakesMore x y
    → MakesMore (cond b (passing made x) (refused LogCheck)) (cond b (passing made y) (refused LogCheck))
either true made x y h = (
  (h.0.0, ap (λ steps. made ++ steps) h.0.1 ∙ sym (append_assoc made x.steps h.0.0)),
  (h.1.0, ap (λ passed. made ∷ passed) h.1.1),
)
either false made x y h = (([], refl), ([], refl))

exchanged_goes_on : (s : State) (seed : ℕ) (source : Uid) (known : Place) (held : List Held)
    (docs later : List SyncDoc) (e f : Ending)
    → MakesMore (exchanged s seed source known held docs e) (exchanged s seed source known held (docs ++ later) f)
exchanged_goes_on s seed source known held [] later e f = ((_, refl), (_, refl))
exchanged_goes_on s seed source known held (doc ∷ docs) later e f =
    let made = steps_for s seed false doc (record { table = Told; uid = source; at = doc.at }) in
    let after = after_all s made in
    let now = held ++ held_after (taken_of s doc false).outcome doc.id after in
    either (passes (position_kept s Told source) doc.at) made (exchanged after seed source known now docs e)
    (exchanged after seed source known now (docs ++ later) f)
    (exchanged_goes_on after seed source known now docs later e f)

-- a test that refuses both, or neither
pub checked : (b : Bool) (refusal : Refusal) (x y : Response) → MakesMore x y
    → MakesMore (cond b x (refused refusal)) (cond b y (refused refusal))
checked true refusal x y h = h
checked false refusal x y h = (([], refl), ([], refl))

pub exchange_goes_on : (s : State) (seed : ℕ) (source : Uid) (head : Option Place) (docs later : List SyncDoc)
    (e f : Ending)
    → MakesMore (exchange s seed source head docs e) (exchange s seed source head (docs ++ later) f)
exchange_goes_on s seed source None docs later e f = (([], refl), ([], refl))
exchange_goes_on s seed source (Some known) docs later e f =
    checked (fits_log s.log known) LogCheck (exchanged s seed source known [] docs e)
    (exchanged s seed source known [] (docs ++ later) f)
    (exchanged_goes_on s seed source known [] docs later e f)

pub goes_on : (s : State) (seed : ℕ) (db source : List ℕ) (head : Option Place) (docs later : List SyncDoc)
    (e f : Ending)
    → MakesMore (serve s seed (Asks db source (Exchange (record { head = head; docs = docs; ending = e }))))
    (serve s seed (Asks db source (Exchange (record { head = head; docs = docs ++ later; ending = f }))))
goes_on s seed db source head docs later e f =
    checked (same_id s.name db) NotFound (exchange s seed source head docs e)
    (exchange s seed source head (docs ++ later) f)
    (exchange_goes_on s seed source head docs later e f)

-- ---- the steps of the documents

-- the steps are those of the documents that are passed
abbrev AreOfDocuments : Response → Type 0
AreOfDocuments r = r.steps ≡ steps_before (applied r) r

passed_one : (made : List Step) (r : Response) → AreOfDocuments r → AreOfDocuments (passing made r)
passed_one made r is = ap (λ steps. made ++ steps) is

of_documents : (b : Bool) (refusal : Refusal) (r : Response) → AreOfDocuments r
    → AreOfDocuments (cond b r (refused refusal))
of_documents true refusal r is = is
of_documents false refusal r is = refl

exchanged_of : (s : State) (seed : ℕ) (source : Uid) (known : Place) (held : List Held) (docs : List SyncDoc)
    (e : Ending) → AreOfDocuments (exchanged s seed source known held docs e)
exchanged_of s seed source known held [] e = refl
exchanged_of s seed source known held (doc ∷ docs) e =
    let made = steps_for s seed false doc (record { table = Told; uid = source; at = doc.at }) in
    let after = after_all s made in
    let now = held ++ held_after (taken_of s doc false).outcome doc.id after in
    of_documents (passes (position_kept s Told source) doc.at) LogCheck
    (passing made (exchanged after seed source known now docs e))
    (passed_one made (exchanged after seed source known now docs e)
    (exchanged_of after seed source known now docs e))

exchange_of : (s : State) (seed : ℕ) (source : Uid) (head : Option Place) (docs : List SyncDoc) (e : Ending)
    → AreOfDocuments (exchange s seed source head docs e)
exchange_of s seed source None docs e = refl
exchange_of s seed source (Some known) docs e =
    of_documents (fits_log s.log known) LogCheck (exchanged s seed source known [] docs e)
    (exchanged_of s seed source known [] docs e)

pub documents : (s : State) (seed : ℕ) (db source : List ℕ) (stream : Stream)
    → AreOfDocuments (serve s seed (Asks db source (Exchange stream)))
documents s seed db source stream =
    of_documents (same_id s.name db) NotFound (exchange s seed source stream.head stream.docs stream.ending)
    (exchange_of s seed source stream.head stream.docs stream.ending)

-- ---- refusals of the store

abbrev of_store : Reply → Bool
of_store (Tells info) = false
of_store Keeps = false
of_store (Returns at docs) = false
of_store (Refuses BadRequest) = false
of_store (Refuses NotFound) = false
of_store (Refuses WrongMethod) = false
of_store (Refuses LogCheck) = false
of_store (Refuses NoLength) = false
of_store (Refuses TooLarge) = false
of_store (Refuses StoreFailed) = true
of_store (Refuses NoMemory) = false
of_store (Refuses StoreFull) = true

no_store : (reply : Reply) → of_store reply ≡ false → IsNotOfStore reply
no_store reply is = (
  λ full. false≢true (sym is ∙ ap of_store full),
  λ failed. false≢true (sym is ∙ ap of_store failed),
)

either_none : (b : Bool) (refusal : Refusal) (r : Response) → of_store r.reply ≡ false
    → of_store (Refuses refusal) ≡ false → of_store (cond b r (refused refusal)).reply ≡ false
either_none true refusal r is other = is
either_none false refusal r is other = other

ended_none : (e : Ending) (reply : Reply) → of_store reply ≡ false → of_store (ended_so e reply) ≡ false
ended_none Whole reply is = is
ended_none (Faulty (At n)) reply is = refl
ended_none (Faulty (TooLong n)) reply is = refl
ended_none (Cut n) reply is = refl

exchanged_none : (s : State) (seed : ℕ) (source : Uid) (known : Place) (held : List Held) (docs : List SyncDoc)
    (e : Ending) → of_store (exchanged s seed source known held docs e).reply ≡ false
exchanged_none s seed source known held [] e = ended_none e (returned s known held) refl
exchanged_none s seed source known held (doc ∷ docs) e =
    let made = steps_for s seed false doc (record { table = Told; uid = source; at = doc.at }) in
    let after = after_all s made in
    let now = held ++ held_after (taken_of s doc false).outcome doc.id after in
    either_none (passes (position_kept s Told source) doc.at) LogCheck
    (passing made (exchanged after seed source known now docs e))
    (exchanged_none after seed source known now docs e) refl

asked_none : (s : State) (seed : ℕ) (source : Uid) (purpose : Purpose)
    → of_store (asked s seed source purpose).reply ≡ false
asked_none s seed source AskInfo = refl
asked_none s seed source (Tell (Says at)) =
    either_none (passes (position_kept s Told source) at) LogCheck
    (record { reply = Keeps; steps = steps_to s (record { table = Told; uid = source; at = at }); passed = [] }) refl
    refl
asked_none s seed source (Tell Unread) = refl
asked_none s seed source (Tell Short) = refl
asked_none s seed source (Tell Over) = refl
asked_none s seed source (Exchange stream) = by stream.head
  where
    by : (head : Option Place) → of_store (exchange s seed source head stream.docs stream.ending).reply ≡ false
    by None = ended_none stream.ending (Refuses BadRequest) refl
    by (Some known) =
        either_none (fits_log s.log known) LogCheck (exchanged s seed source known [] stream.docs stream.ending)
        (exchanged_none s seed source known [] stream.docs stream.ending) refl

head_none : (f : WireFault) → of_store (Refuses (head_refusal f)) ≡ false
head_none wire.TooLarge = refl
head_none wire.BadHead = refl
head_none wire.BadPath = refl
head_none wire.BadMethod = refl
head_none wire.Chunked = refl
head_none wire.NoLength = refl
head_none wire.Memory = refl

serve_none : (s : State) (seed : ℕ) (request : Request) → of_store (serve s seed request).reply ≡ false
serve_none s seed EndsEarly = refl
serve_none s seed (Refused f) = head_none f
serve_none s seed (Asks db source purpose) =
    either_none (same_id s.name db) NotFound (asked s seed source purpose) (asked_none s seed source purpose) refl

pub store : (s : State) (seed : ℕ) (request : Request) → IsNotOfStore (serve s seed request).reply
store s seed request = no_store (serve s seed request).reply (serve_none s seed request)

pub only_memory : (s : State) (seed : ℕ) (request : Request) (reply : Reply) (made : List Step) (n : ℕ)
    → Serves OnlyMemory s seed request reply made n → IsNotOfStore reply
only_memory s seed request reply made n (whole is steps count) =
    no_store reply (ap of_store is ∙ serve_none s seed request)
only_memory s seed request reply made n (stopped (Full x) may is stops) = absurd may
only_memory s seed request reply made n (stopped Failed may is stops) = absurd may
only_memory s seed request reply made n (stopped Memory may is stops) = no_store reply (ap of_store is)

-- what was made before a stop are some first ones of all steps
pub served_first : (may_stop : Stop → Type 0) (s : State) (seed : ℕ) (request : Request) (reply : Reply)
    (made : List Step) (n : ℕ) → Serves may_stop s seed request reply made n → GoOn made (serve s seed request).steps
served_first may_stop s seed request reply made n (whole is steps count) = ([], sym steps ∙ sym (append-nil made))
served_first may_stop s seed request reply made n (stopped stop may is stops) = stops.of_all

-- ---- at small states

pub worked : ServesAsWorked
worked = record {
  inserted = λ seed. refl;
  again = λ seed later. refl;
  conflicted = λ seed. refl;
  merges = λ seed. refl;
  missed = λ seed. refl;
  old = λ seed. refl;
  other = λ seed. refl;
  before = λ seed. refl;
  behind = λ seed. refl;
  cut = λ seed. refl;
  short = λ seed. refl;
  over = λ seed. refl;
  elsewhere = λ seed. refl;
  no_room = λ seed. record {
    within = omega arith;
    of_them = ([], refl);
    of_all = (_, refl);
    next = (refl, ([], refl), refl);
  };
  failed = λ seed. record { within = omega arith; of_them = (_, refl); of_all = ([], refl); next = tt };
  no_memory = λ seed. record { within = omega arith; of_them = ([], refl); of_all = ([], refl); next = inl refl };
}
