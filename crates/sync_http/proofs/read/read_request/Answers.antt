-- The head that was found says what its parts say.
use Rattle.std.proofs.Common.{rules, sym, subst, inl, ◌⊎◌, ◌≡◌, Err}
use Rattle.httparse.specs.Grammar as grammar
use Rattle.sync_http.specs.Hearing.{HearsRequest, IsOpenRequest, IsNoRequest, SaysRequest, heard}
use Rattle.sync_http.specs.declared.fault.WireFault.TheVariants.{Memory}
use Rattle.sync_http.proofs.Hears.{said_at, says_request, one_request, hears_whole, hears_open, answers_whole}
use Rattle.sync_http.proofs.read.read_request.Goals as goal

pub returns-in-Ok-Complete : goal.returns-in-Ok-Complete
returns-in-Ok-Complete c =
    let bytes = c.args.bytes.now in
    let spans = c.in-Ok-Complete.spans in
    let said = said_at c.head_in-front.result.now c.parse_request.new.headers spans in
    let says = says_request bytes c.head_in-front.result.now c.parse_request.new.headers spans
    c.head_in-front.ensures (search rules)
    (rw c.in-Ok-Complete.field-0-is at c.in-Ok-Complete.ensures.complete) in record {
      hears = subst (HearsRequest bytes) (sym c.heard.ensures)
          (hears_whole (SaysRequest bytes) IsOpenRequest IsNoRequest bytes said c.request_at-said.result spans.len says
          c.request_at-said.ensures);
      whole = λ other n h. subst (λ r. (r ≡ heard other n) ⊎ (r ≡ Err Memory)) (sym c.heard.ensures)
          (answers_whole said other c.request_at-said.result spans.len n
          (one_request bytes said other spans.len n says h) c.request_at-said.ensures);
    }

pub returns-in-Ok-Partial : goal.returns-in-Ok-Partial
returns-in-Ok-Partial c =
    let bytes = c.args.bytes.now in
    let none : grammar.HasNoRequest c.head_in-front.result.now =
    rw c.in-Ok-Partial.field-0-is at c.in-Ok-Partial.ensures.partial in record {
      hears = subst (HearsRequest bytes) (sym c.unfinished.ensures)
          (hears_open (SaysRequest bytes) IsOpenRequest IsNoRequest bytes c.head_in-front.result.now
          c.head_in-front.ensures
          (record { none = none; may = rw c.in-Ok-Partial.field-0-is at c.in-Ok-Partial.ensures.unfinished }));
      whole = λ other n h. absurd
          (none h.head h.rest (subst (λ p. grammar.ReadsRequest p h.head h.rest)
          (sym c.head_in-front.ensures) h.reads));
    }

pub returns-in-Err : goal.returns-in-Err
returns-in-Err c =
    let none : IsNoRequest c.head_in-front.result.now = record {
      none = λ h rest reads few. rw c.in-Err.is at (c.parse_request.ensures.found h rest reads few);
      never = search rules;
    } in record {
      hears = inl (subst IsNoRequest c.head_in-front.ensures none);
      whole = λ other n h. absurd
          (rw c.in-Err.is at (c.parse_request.ensures.found h.head h.rest
          (subst (λ p. grammar.ReadsRequest p h.head h.rest) (sym c.head_in-front.ensures) h.reads) h.few));
    }
