-- A request of which a front was read asks for some first ones of the steps that the whole request asks for.
use Rattle.std.proofs.Common.{◌≡◌, ℕ, ◌+◌, ◌-◌, ◌≤◌, Bool, true, false, cond, nat_le, nat_lt, List, [], ◌∷◌}
use Rattle.std.proofs.Common.{◌++◌, length, take, drop, flat_map, Option, Some, None, Result, Ok, Err, refl, sym, ap}
use Rattle.std.proofs.Common.{ap₂, ◌∙◌, subst, arith, inl, inr, append_assoc, append-nil}
use Rattle.std.proofs.lemmas.Bool.{cases_lt, le-ltb, ltb-false}
use Rattle.std.proofs.lemmas.List.{drop-append-le, take-append-le, length-append, length-take, take_all}
use Rattle.std.specs.List.{AllByRecursion}
use Rattle.httparse.specs.Grammar as grammar
use Rattle.u1_base.specs.Ids.{same_id}
use Rattle.u1_base.specs.Places.{Place}
use Rattle.vector_rev.specs.Counts.{Uid}
use Rattle.conflicts.specs.State.{State}
use Rattle.sync_http.specs.Bodies.{told_in}
use Rattle.sync_http.specs.Hearing.{SaysRequest, heard, most_bytes}
use Rattle.sync_http.specs.declared.fault.WireFault.{WireFault}
use Rattle.sync_http.specs.declared.fault.WireFault.TheVariants.{Memory}
use Rattle.sync_http.specs.declared.heads.Heard.{Heard}
use Rattle.sync_http.specs.declared.heads.Heard.TheVariants.{NotYet}
use Rattle.sync_http.specs.declared.heads.RequestHead.{RequestHead}
use Rattle.sync_http.specs.declared.heads.Verb.{Verb}
use Rattle.sync_http.specs.declared.heads.Verb.TheVariants.{Get, Put, Post}
use Rattle.sync_http.proofs.HeadsBack.{take_behind}
use Rattle.sync_http.proofs.Hears.{one_request}
use Rattle.sync_http.proofs.MoreBytes.{one_request_heard, request_on}
use Rattle.sync_stream.specs.Came.{Ending, SaysBody}
use Rattle.sync_stream.specs.Lines.{GoOn, ended, IsUnbroken}
use Rattle.sync_stream.specs.Messages.{Asks, EndsEarly, Exchange, Over, Purpose, ReadsRequest, Refused, Request}
use Rattle.sync_stream.specs.Messages.{SaysPurpose, SaysStream, Short, Stream, Tell, docs_in, head_in}
use Rattle.sync_stream.specs.Messages.{most_small, small_if, small_of}
use Rattle.sync_stream.specs.Replies.{NotFound}
use Rattle.sync_stream.specs.Serving.{MakesMore, Response, asked, exchange, serve}
use Rattle.sync_stream.specs.Stream.{Passes, counted}
use Rattle.sync_stream.specs.declared.line.HeadKind.{HeadKind}
use Rattle.sync_stream.specs.declared.line.Line.{Line}
use Rattle.sync_stream.specs.declared.line.Line.TheVariants.{Head, Doc, End}
use Rattle.sync_stream.specs.declared.line.Next.TheVariants.{Opening}
use Rattle.sync_stream.proofs.Came.{no_further}
use Rattle.sync_stream.proofs.FirstFault.{all_more_front, same_parts}
use Rattle.sync_stream.proofs.Serving.{checked, exchange_goes_on}
use Rattle.sync_stream.proofs.Unique.{passes_on}

-- ---- lines

-- more bytes of a body say what the bytes so far say, and then perhaps more
pub says_on : (kind : HeadKind) (bytes later : List ℕ) (some all : Bool) (said more : List Line) (e f : Ending)
    → SaysBody kind bytes some said e → SaysBody kind (bytes ++ later) all more f → GoOn said more
says_on kind bytes later some all said more e f h k =
    elim (same_parts h.lines k.lines (h.rest ++ later) k.rest h.begins.splits.each k.begins.splits.each
    (sym (append_assoc (flat_map ended h.lines) h.rest later) ∙ ap (λ b. b ++ later) (sym h.begins.splits.whole)
    ∙ k.begins.splits.whole)) [
      | inl on ↦ (let rest = passes_on kind Opening h.place k.place h.lines on.0 said more h.begins.passes
          (subst (λ x. Passes kind Opening x more k.place) on.1 k.begins.passes) in (rest.0, rest.1))
      | inr on ↦ fewer on.0 on.1 on.2
    ]
  where
    fewer : (ms : List (List ℕ)) → h.lines ≡ k.lines ++ ms → k.rest ≡ flat_map ended ms ++ (h.rest ++ later)
        → GoOn said more
    fewer [] lines rest =
        let on = passes_on kind Opening k.place h.place k.lines [] more said k.begins.passes
        (subst (λ x. Passes kind Opening x said h.place) lines h.begins.passes) in
        ([], sym (append-nil more) ∙ ap (λ s. more ++ s) (sym on.2.0) ∙ sym on.1 ∙ sym (append-nil said))
    fewer (l ∷ ms) lines rest =
        let on = passes_on kind Opening k.place h.place k.lines (l ∷ ms) more said k.begins.passes
        (subst (λ x. Passes kind Opening x said h.place) lines h.begins.passes) in
        absurd (no_further kind (counted (length k.lines + 1)) k.place l (flat_map ended ms ++ (h.rest ++ later)) k.rest
        on.2.0 all f on.2.2 (all_more_front k.lines l ms (subst (AllByRecursion IsUnbroken) lines h.begins.splits.each))
        (rest ∙ append_assoc (ended l) (flat_map ended ms) (h.rest ++ later)) k.ends)

docs_both : (said later : List Line) → docs_in (said ++ later) ≡ docs_in said ++ docs_in later
docs_both [] later = refl
docs_both (Head p ∷ said) later = docs_both said later
docs_both (Doc doc ∷ said) later = ap (λ docs. doc ∷ docs) (docs_both said later)
docs_both (End ∷ said) later = docs_both said later

-- a head that was given is the head
head_stays : (said later : List Line) (p : Place) → head_in said ≡ Some p → head_in (said ++ later) ≡ Some p
head_stays [] later p is = absurd (Prim.cc is)
head_stays (Head q ∷ said) later p is = is
head_stays (Doc doc ∷ said) later p is = head_stays said later p is
head_stays (End ∷ said) later p is = head_stays said later p is

-- ---- bodies

take_more : (n : ℕ) (bytes more : List ℕ) → (later : List ℕ) × (take n (bytes ++ more) ≡ take n bytes ++ later)
take_more n bytes more = elim (cases_lt (length bytes) n) [
  | inl short ↦ (
    _,
    take_behind bytes more n (omega (arith, short))
        ∙ ap (λ b. b ++ take (n - length bytes) more) (sym (take_all n bytes (omega (arith, short)))),
  )
  | inr long ↦ ([], take-append-le n bytes more long ∙ sym (append-nil (take n bytes)))
]

same_response : (x y : Response) → x ≡ y → MakesMore x y
same_response x y is = (
  ([], ap (λ r. r.steps) (sym is) ∙ sym (append-nil x.steps)),
  ([], ap (λ r. r.passed) (sym is) ∙ sym (append-nil x.passed)),
)

-- a stream that came in part
streams : (s : State) (seed : ℕ) (source : Uid) (kind : HeadKind) (n : ℕ) (bytes more : List ℕ) (x y : Stream)
    → SaysStream kind bytes n x → SaysStream kind (bytes ++ more) n y
    → MakesMore (asked s seed source (Exchange x)) (asked s seed source (Exchange y))
streams s seed source kind n bytes more x y h k =
    let later = take_more n bytes more in
    let on = says_on kind (take n bytes) later.0 (nat_le n (length bytes)) (nat_le n (length (bytes ++ more))) h.said
    k.said x.ending y.ending h.says
    (subst (λ b. SaysBody kind b (nat_le n (length (bytes ++ more))) k.said y.ending) later.1 k.says) in
    let docs : y.docs ≡ x.docs ++ docs_in on.0 = sym k.docs ∙ ap docs_in on.1 ∙ docs_both h.said on.0
    ∙ ap (λ d. d ++ docs_in on.0) h.docs in
    by x.head refl on.0 on.1 docs
  where
    by : (head : Option Place) → x.head ≡ head → (ls : List Line) → k.said ≡ h.said ++ ls
        → y.docs ≡ x.docs ++ docs_in ls
        → MakesMore (asked s seed source (Exchange x)) (asked s seed source (Exchange y))
    by None is ls said docs =
        subst (λ o. MakesMore (exchange s seed source o x.docs x.ending) (asked s seed source (Exchange y))) (sym is)
        ((_, refl), (_, refl))
    by (Some p) is ls said docs =
        let head : y.head ≡ Some p = sym k.head ∙ ap head_in said ∙ head_stays h.said ls p (h.head ∙ is) in
        subst (λ o. MakesMore (exchange s seed source o x.docs x.ending)
        (exchange s seed source y.head y.docs y.ending))
        (sym is)
        (subst (λ o. MakesMore (exchange s seed source (Some p) x.docs x.ending)
        (exchange s seed source o y.docs y.ending)) (sym head)
        (subst (λ d. MakesMore (exchange s seed source (Some p) x.docs x.ending)
        (exchange s seed source (Some p) d y.ending)) (sym docs)
        (exchange_goes_on s seed source (Some p) x.docs (docs_in ls) x.ending y.ending)))

-- a told position that came in part is refused, and makes no step
tells : (s : State) (seed : ℕ) (source : Uid) (n : ℕ) (bytes more : List ℕ)
    → MakesMore (asked s seed source (Tell (small_of told_in n bytes)))
    (asked s seed source (Tell (small_of told_in n (bytes ++ more))))
tells s seed source n bytes more = by (nat_lt most_small n) (nat_lt (length bytes) n) refl refl
  where
    -- what is read of a body that came whole, or is too long
    same : nat_lt (length bytes) n ≡ false → small_of told_in n bytes ≡ small_of told_in n (bytes ++ more)
    same fits =
        let within : n ≤ length bytes = ltb-false (length bytes) n fits in
        let fits' : nat_lt (length (bytes ++ more)) n ≡ false = le-ltb (length (bytes ++ more)) n
        (omega (arith, within, length-append bytes more)) in
        ap₂ (λ (b : Bool) (t : List ℕ). cond (nat_lt most_small n) Over (cond b Short (small_if (told_in t))))
        (fits ∙ sym fits') (sym (take-append-le n bytes more within))

    by : (over short : Bool) → nat_lt most_small n ≡ over → nat_lt (length bytes) n ≡ short
        → MakesMore (asked s seed source (Tell (small_of told_in n bytes)))
        (asked s seed source (Tell (small_of told_in n (bytes ++ more))))
    by true short is fits =
        let less : small_of told_in n bytes ≡ Over =
        ap (λ (b : Bool). cond b Over (cond (nat_lt (length bytes) n) Short (small_if (told_in (take n bytes))))) is in
        subst (λ t. MakesMore (asked s seed source (Tell t))
        (asked s seed source (Tell (small_of told_in n (bytes ++ more)))))
        (sym less) ((_, refl), (_, refl))
    by false true is fits =
        let less : small_of told_in n bytes ≡ Short =
        ap₂ (λ (b : Bool) (c : Bool). cond b Over (cond c Short (small_if (told_in (take n bytes))))) is fits in
        subst (λ t. MakesMore (asked s seed source (Tell t))
        (asked s seed source (Tell (small_of told_in n (bytes ++ more)))))
        (sym less) ((_, refl), (_, refl))
    by false false is fits =
        same_response (asked s seed source (Tell (small_of told_in n bytes)))
        (asked s seed source (Tell (small_of told_in n (bytes ++ more))))
        (ap (λ t. asked s seed source (Tell t)) (same fits))

purposes : (s : State) (seed : ℕ) (source : Uid) (verb : Verb) (n : ℕ) (bytes more : List ℕ) (x y : Purpose)
    → SaysPurpose verb bytes n x → SaysPurpose verb (bytes ++ more) n y
    → MakesMore (asked s seed source x) (asked s seed source y)
purposes s seed source Get n bytes more x y h k =
    same_response (asked s seed source x) (asked s seed source y) (ap (λ p. asked s seed source p) (h ∙ sym k))
purposes s seed source Put n bytes more x y h k =
    subst (λ p. MakesMore (asked s seed source p) (asked s seed source y)) (sym h)
    (subst (λ p. MakesMore (asked s seed source (Tell (small_of told_in n bytes))) (asked s seed source p)) (sym k)
    (tells s seed source n bytes more))
purposes s seed source Post n bytes more x y h k =
    subst (λ p. MakesMore (asked s seed source p) (asked s seed source y)) (sym h.2)
    (subst (λ p. MakesMore (asked s seed source (Exchange h.0)) (asked s seed source p)) (sym k.2)
    (streams s seed source _ n bytes more h.0 k.0 h.1 k.1))

-- ---- requests

no_head : {n : ℕ} {head : RequestHead}
    → ◌≡◌ {A = Result (Heard RequestHead) WireFault} (Ok NotYet) (heard (Ok head) n) → ⊥
no_head e = cc

no_memory : ◌≡◌ {A = Result (Heard RequestHead) WireFault} (Ok NotYet) (Err Memory) → ⊥
no_memory e = cc

no_fault : {f : WireFault} {n : ℕ} {head : RequestHead}
    → ◌≡◌ {A = Result (Heard RequestHead) WireFault} (Err f) (heard (Ok head) n) → ⊥
no_fault e = cc

is_memory : {f : WireFault} → ◌≡◌ {A = Result (Heard RequestHead) WireFault} (Err f) (Err Memory) → f ≡ Memory
is_memory e = cc

same_head : {x y : RequestHead} → ◌≡◌ {A = Result RequestHead WireFault} (Ok x) (Ok y) → x ≡ y
same_head e = cc

-- the head lies in the bytes
head_within : (bytes : List ℕ) (head : RequestHead) (n : ℕ) → SaysRequest bytes (Ok head) n → n ≤ length bytes
head_within bytes head n h =
    omega (
      arith,
      h.length_is,
      ap length h.reads.1,
      length-append (grammar.print_request h.head) h.rest,
      length-take most_bytes bytes,
    )

asks : (s : State) (seed : ℕ) (read more : List ℕ) (db source : List ℕ) (x y : Purpose) (head : RequestHead) (n : ℕ)
    (db' source' : List ℕ) (h : SaysRequest read (Ok head) n) (k : SaysRequest (read ++ more) (Ok head) n)
    → head.db ≡ db → head.source ≡ source → SaysPurpose head.verb (drop n read) head.body x
    → head.db ≡ db' → head.source ≡ source' → SaysPurpose head.verb (drop n (read ++ more)) head.body y
    → MakesMore (serve s seed (Asks db source x)) (serve s seed (Asks db' source' y))
asks s seed read more db source x y head n db' source' h k is_db is_source says is_db' is_source' says' =
    let behind : drop n (read ++ more) ≡ drop n read ++ more = drop-append-le n read more (head_within read head n h) in
    subst (λ d. MakesMore (serve s seed (Asks db source x)) (serve s seed (Asks d source' y))) (sym is_db ∙ is_db')
    (subst (λ u. MakesMore (serve s seed (Asks db source x)) (serve s seed (Asks db u y))) (sym is_source ∙ is_source')
    (checked (same_id s.name db) NotFound (asked s seed source x) (asked s seed source y)
    (purposes s seed source head.verb head.body (drop n read) more x y says
    (subst (λ b. SaysPurpose head.verb b head.body y) behind says'))))

pub cut : (s : State) (seed : ℕ) (read more : List ℕ) (part all : Request) → ReadsRequest read part
    → ReadsRequest (read ++ more) all → MakesMore (serve s seed part) (serve s seed all)
cut s seed read more EndsEarly all h k = ((_, refl), (_, refl))
cut s seed read more (Refused f) all h k = ((_, refl), (_, refl))
cut s seed read more (Asks db source x) EndsEarly h k =
    elim (one_request_heard (read ++ more) h.0 h.1 (Ok NotYet) (request_on read more (Ok h.0) h.1 h.2) k) [
      | inl is ↦ absurd (no_head is)
      | inr is ↦ absurd (no_memory is)
    ]
cut s seed read more (Asks db source x) (Refused f) h k =
    elim (one_request_heard (read ++ more) h.0 h.1 (Err f) (request_on read more (Ok h.0) h.1 h.2) k.0) [
      | inl is ↦ absurd (no_fault is)
      | inr is ↦ absurd (k.1 (is_memory is))
    ]
cut s seed read more (Asks db source x) (Asks db' source' y) h k =
    let on = request_on read more (Ok h.0) h.1 h.2 in
    let same = one_request (read ++ more) (Ok k.0) (Ok h.0) k.1 h.1 k.2 on in
    let all = subst (λ (p : RequestHead × ℕ). SaysRequest (read ++ more) (Ok p.0) p.1 × (p.0.db ≡ db')
    × (p.0.source ≡ source') × SaysPurpose p.0.verb (drop p.1 (read ++ more)) p.0.body y)
    (λ i. (same_head same.0 i, same.1 i)) (k.2, k.3, k.4, k.5) in
    asks s seed read more db source x y h.0 h.1 db' source' h.2 on h.3 h.4 h.5 all.1 all.2 all.3
