-- Each phrase that the `http` crate gives to a status is one of a reply's head.
use Rattle.std.proofs.Common.{◌≡◌, ◌≤◌, ◌==◌, ◌&&◌, ℕ, Bool, nat_le, length, true, false, List, [], Option, Some}
use Rattle.std.proofs.Common.{if◌then◌else◌, codes, unwrap_or, refl}
use Rattle.std.specs.List.{list_all}
use Rattle.std.proofs.lemmas.Bool.{and_parts, leb-true}
use Rattle.http.specs.StatusCode.{reason_phrase}
use Rattle.httparse.specs.Grammar.{is_value_byte}

-- visible bytes and blanks, and not many of them
abbrev is_plain : List ℕ → Bool
is_plain phrase = list_all is_value_byte phrase && nat_le (length phrase) 64

abbrev IsPlain : Option (List ℕ) → Type 0
IsPlain phrase = is_plain (unwrap_or phrase []) ≡ true

either : (test : Bool) (phrase : List ℕ) (others : Option (List ℕ)) → is_plain phrase ≡ true → IsPlain others
    → IsPlain (if test then Some phrase else others)
either true phrase others plain rest = plain
either false phrase others plain rest = rest

phrase : (n : ℕ) → IsPlain (reason_phrase n)
phrase n =
    either (n == 100) (codes "Continue") _ refl (
    either (n == 101) (codes "Switching Protocols") _ refl (
    either (n == 102) (codes "Processing") _ refl (
    either (n == 103) (codes "Early Hints") _ refl (
    either (n == 200) (codes "OK") _ refl (
    either (n == 201) (codes "Created") _ refl (
    either (n == 202) (codes "Accepted") _ refl (
    either (n == 203) (codes "Non Authoritative Information") _ refl (
    either (n == 204) (codes "No Content") _ refl (
    either (n == 205) (codes "Reset Content") _ refl (
    either (n == 206) (codes "Partial Content") _ refl (
    either (n == 207) (codes "Multi-Status") _ refl (
    either (n == 208) (codes "Already Reported") _ refl (
    either (n == 226) (codes "IM Used") _ refl (
    either (n == 300) (codes "Multiple Choices") _ refl (
    either (n == 301) (codes "Moved Permanently") _ refl (
    either (n == 302) (codes "Found") _ refl (
    either (n == 303) (codes "See Other") _ refl (
    either (n == 304) (codes "Not Modified") _ refl (
    either (n == 305) (codes "Use Proxy") _ refl (
    either (n == 307) (codes "Temporary Redirect") _ refl (
    either (n == 308) (codes "Permanent Redirect") _ refl (
    either (n == 400) (codes "Bad Request") _ refl (
    either (n == 401) (codes "Unauthorized") _ refl (
    either (n == 402) (codes "Payment Required") _ refl (
    either (n == 403) (codes "Forbidden") _ refl (
    either (n == 404) (codes "Not Found") _ refl (
    either (n == 405) (codes "Method Not Allowed") _ refl (
    either (n == 406) (codes "Not Acceptable") _ refl (
    either (n == 407) (codes "Proxy Authentication Required") _ refl (
    either (n == 408) (codes "Request Timeout") _ refl (
    either (n == 409) (codes "Conflict") _ refl (
    either (n == 410) (codes "Gone") _ refl (
    either (n == 411) (codes "Length Required") _ refl (
    either (n == 412) (codes "Precondition Failed") _ refl (
    either (n == 413) (codes "Payload Too Large") _ refl (
    either (n == 414) (codes "URI Too Long") _ refl (
    either (n == 415) (codes "Unsupported Media Type") _ refl (
    either (n == 416) (codes "Range Not Satisfiable") _ refl (
    either (n == 417) (codes "Expectation Failed") _ refl (
    either (n == 418) (codes "I'm a teapot") _ refl (
    either (n == 421) (codes "Misdirected Request") _ refl (
    either (n == 422) (codes "Unprocessable Entity") _ refl (
    either (n == 423) (codes "Locked") _ refl (
    either (n == 424) (codes "Failed Dependency") _ refl (
    either (n == 425) (codes "Too Early") _ refl (
    either (n == 426) (codes "Upgrade Required") _ refl (
    either (n == 428) (codes "Precondition Required") _ refl (
    either (n == 429) (codes "Too Many Requests") _ refl (
    either (n == 431) (codes "Request Header Fields Too Large") _ refl (
    either (n == 451) (codes "Unavailable For Legal Reasons") _ refl (
    either (n == 500) (codes "Internal Server Error") _ refl (
    either (n == 501) (codes "Not Implemented") _ refl (
    either (n == 502) (codes "Bad Gateway") _ refl (
    either (n == 503) (codes "Service Unavailable") _ refl (
    either (n == 504) (codes "Gateway Timeout") _ refl (
    either (n == 505) (codes "HTTP Version Not Supported") _ refl (
    either (n == 506) (codes "Variant Also Negotiates") _ refl (
    either (n == 507) (codes "Insufficient Storage") _ refl (
    either (n == 508) (codes "Loop Detected") _ refl (
    either (n == 510) (codes "Not Extended") _ refl (
    either (n == 511) (codes "Network Authentication Required") _ refl (
    refl))))))))))))))))))))))))))))))))))))))))))))))))))))))))))))))

pub phrase_plain : (n : ℕ) → list_all is_value_byte (unwrap_or (reason_phrase n) []) ≡ true
phrase_plain n = (and_parts _ _ (phrase n)).0

pub phrase_short : (n : ℕ) → length (unwrap_or (reason_phrase n) []) ≤ 64
phrase_short n = leb-true _ _ (and_parts _ _ (phrase n)).1
