-- The head that was found says what its parts say.
use Rattle.std.proofs.Common.{rules, sym, subst, inl, ◌≡◌, IfErr}
use Rattle.httparse.specs.Grammar as grammar
use Rattle.sync_http.specs.Hearing.{HearsReply, IsOpenReply, IsNoReply, IsReplyFault, SaysReply, heard}
use Rattle.sync_http.specs.declared.heads.ReplyHead.{ReplyHead}
use Rattle.sync_http.proofs.Hears.{reply_said_at, says_reply, one_reply, hears_whole, hears_open, answers_reply}
use Rattle.sync_http.proofs.Hears.{heard_kind, unfinished_kind}
use Rattle.sync_http.proofs.read.read_reply.Goals as goal

pub returns-in-Ok-Complete : goal.returns-in-Ok-Complete
returns-in-Ok-Complete c =
    let bytes = c.args.bytes.now in
    let spans = c.in-Ok-Complete.spans in
    let said = reply_said_at c.head_in-front.result.now c.parse_response.new.headers spans in
    let says = says_reply bytes c.head_in-front.result.now c.parse_response.new.headers spans c.head_in-front.ensures
    (search rules)
    (rw c.in-Ok-Complete.field-0-is at c.in-Ok-Complete.ensures.complete) in record {
      hears = subst (HearsReply bytes) (sym c.heard.ensures)
          (hears_whole (SaysReply bytes) IsOpenReply IsNoReply bytes said c.reply_at-said.result spans.len says
          c.reply_at-said.ensures.says);
      whole = λ other n h. subst (λ r. r ≡ heard other n) (sym c.heard.ensures)
          (answers_reply said other c.reply_at-said.result spans.len n
          (one_reply bytes said other spans.len n says h) c.reply_at-said.ensures.says c.reply_at-said.ensures.kinds);
      kinds = subst (λ r. IfErr r IsReplyFault) (sym c.heard.ensures)
          (heard_kind c.reply_at-said.result spans.len c.reply_at-said.ensures.kinds);
    }

pub returns-in-Ok-Partial : goal.returns-in-Ok-Partial
returns-in-Ok-Partial c =
    let bytes = c.args.bytes.now in
    let none : grammar.HasNoResponse c.head_in-front.result.now =
    rw c.in-Ok-Partial.field-0-is at c.in-Ok-Partial.ensures.partial in record {
      hears = subst (HearsReply bytes) (sym c.unfinished.ensures)
          (hears_open (SaysReply bytes) IsOpenReply IsNoReply bytes c.head_in-front.result.now c.head_in-front.ensures
          (record { none = none; may = rw c.in-Ok-Partial.field-0-is at c.in-Ok-Partial.ensures.unfinished }));
      whole = λ other n h. absurd
          (none h.head h.rest (subst (λ p. grammar.ReadsResponse p h.head h.rest)
          (sym c.head_in-front.ensures) h.reads));
      kinds = subst (λ r. IfErr r IsReplyFault) (sym c.unfinished.ensures) (unfinished_kind ReplyHead bytes);
    }

pub returns-in-Err : goal.returns-in-Err
returns-in-Err c =
    let none : IsNoReply c.head_in-front.result.now = record {
      none = λ h rest reads few. rw c.in-Err.is at (c.parse_response.ensures.found h rest reads few);
      never = search rules;
    } in record {
      hears = inl (subst IsNoReply c.head_in-front.ensures none);
      whole = λ other n h. absurd
          (rw c.in-Err.is at (c.parse_response.ensures.found h.head h.rest
          (subst (λ p. grammar.ReadsResponse p h.head h.rest) (sym c.head_in-front.ensures) h.reads) h.few));
      kinds = tt;
    }
