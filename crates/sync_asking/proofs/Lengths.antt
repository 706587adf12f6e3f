-- The head of a reply, in the bytes that were heard.
use Rattle.std.proofs.Common.{◌≡◌, ℕ, ◌+◌, ◌≤◌, min, List, [], ◌++◌, length, Ok, IfSome, ap, ◌∙◌, sym, arith}
use Rattle.std.proofs.Common.{length-append}
use Rattle.std.proofs.Common.{refl, subst, append-nil}
use Rattle.std.proofs.lemmas.List.{length-take}
use Rattle.httparse.specs.Grammar.{print_response}
use Rattle.u1_base.specs.declared.limits.TheConstants.{MOST_HEAD_BYTES}
use Rattle.sync_http.specs.Hearing.{HearsReply, SaysReply}
use Rattle.sync_http.specs.declared.heads.Heard.{Heard}
use Rattle.sync_http.specs.declared.heads.Heard.TheVariants.{Head, NotYet}
use Rattle.sync_http.specs.declared.heads.ReplyHead.{ReplyHead}
use Rattle.sync_link.specs.declared.asking.AskFault.{AskFault}
use Rattle.sync_link.specs.declared.asking.AskFault.TheVariants as ask
use Rattle.sync_asking.specs.Heard.{HasNoHead, ask_ends}
use Rattle.sync_asking.specs.inner.Heard.{found_of}

within : (bytes : List ℕ) (head : ReplyHead) (n : ℕ) → SaysReply bytes (Ok head) n
    → (n ≤ length bytes) × (n ≤ MOST_HEAD_BYTES)
within bytes head n says =
    let parts : min MOST_HEAD_BYTES (length bytes) ≡ length (print_response says.head) + length says.rest =
    sym (length-take MOST_HEAD_BYTES bytes) ∙ ap length says.reads.1
    ∙ length-append (print_response says.head) says.rest in
    let all : length (print_response says.head) ≡ n = says.length_is in
    (omega (arith, parts, all), omega (arith, parts, all))

pub found_within : (bytes : List ℕ) (said : Heard ReplyHead) → HearsReply bytes (Ok said)
    → IfSome (found_of said) (λ found. (found.length ≤ length bytes) × (found.length ≤ MOST_HEAD_BYTES))
found_within bytes NotYet hears = tt
found_within bytes (Head head n) hears = within bytes head n hears

-- a link that failed before the head was whole
pub no_head_yet : (fault : AskFault) (first more : List ℕ) → HearsReply first (Ok NotYet)
    → (fault ≡ ask.Failed → more ≡ []) → HasNoHead (first ++ more) (ask_ends fault)
no_head_yet ask.Failed first more hears none =
    subst (λ m. HearsReply (first ++ m) (Ok NotYet)) (sym (none refl))
    (subst (λ f. HearsReply f (Ok NotYet)) (sym (append-nil first)) hears)
no_head_yet ask.Memory first more hears none = tt
