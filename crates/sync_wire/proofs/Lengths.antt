-- A head is no longer than the bytes that begin with it.
use Rattle.std.proofs.Common.{◌≡◌, ℕ, ◌+◌, ◌≤◌, min, List, length, sym, ap, ◌∙◌, arith}
use Rattle.std.proofs.lemmas.List.{length-append, length-take}
use Rattle.httparse.specs.Grammar.{print_request}
use Rattle.sync_http.specs.Hearing.{Said, SaysRequest, most_bytes}
use Rattle.sync_http.specs.declared.heads.RequestHead.{RequestHead}

pub head_within : (bytes : List ℕ) (said : Said RequestHead) (n : ℕ) → SaysRequest bytes said n → n ≤ length bytes
head_within bytes said n says =
    let parts : min most_bytes (length bytes) ≡ length (print_request says.head) + length says.rest =
    sym (length-take most_bytes bytes) ∙ ap length says.reads.1 ∙ length-append (print_request says.head) says.rest in
    let all : length (print_request says.head) ≡ n = says.length_is in
    omega (arith, parts, all)
