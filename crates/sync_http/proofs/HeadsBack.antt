-- A head that was written is read as what it was written for.
use Rattle.std.proofs.Common.{◌≡◌, ℕ, zero, suc, ◌+◌, ◌-◌, ◌/◌, ◌%◌, ◌^◌, ◌<◌, ◌≤◌, Bool, true, false, List, [], ◌∷◌}
use Rattle.std.proofs.Common.{◌++◌, length, take, codes, Some, Result, Ok, IsUtf8, refl}
use Rattle.std.proofs.Common.{sym, ap, ap₂, ◌∙◌, arith, decimal, unwrap_or, append_assoc}
use Rattle.std.specs.Prelude.{All}
use Rattle.std.specs.List.{list_all}
use Rattle.std.specs.Char.{is_ascii_digit}
use Rattle.std.proofs.lemmas.Fmt.{digits_value-decimal, decimal_step, decimal_nonempty, length-decimal-le}
use Rattle.std.proofs.lemmas.List.{length-append}
use Rattle.std.proofs.lemmas.List.Elements.{All-nil, All-cons}
use Rattle.std.proofs.lemmas.Str.{IsUtf8-append}
use Rattle.json.proofs.Printed.Utf8.{IsUtf8-are_ascii}
use Rattle.http.specs.StatusCode.{reason_phrase}
use Rattle.httparse.specs.Grammar as grammar
use Rattle.u1_base.specs.Ids.{IsId, is_allowed, id_in}
use Rattle.u1_base.specs.declared.limits.TheConstants.{GREATEST_COUNT}
use Rattle.u1_base.specs.declared.ids.Form.TheVariants.{Name, Replica}
use Rattle.u1_base.proofs.IdFacts.{id_facts, in_id}
use Rattle.sync_http.specs.Heads.{target_in, target_with, request_of}
use Rattle.sync_http.specs.Hearing.{front, most_bytes, most_fields, SaysRequest, SaysReply}
use Rattle.sync_http.specs.Laws.{CanAsk, CanReply}
use Rattle.sync_http.specs.Written.{field, host_text, json_type, length_field, reply_written, request_body_fields}
use Rattle.sync_http.specs.Written.{request_written, stream_type, target_text, type_field, type_of, verb_text}
use Rattle.sync_http.specs.declared.address.Address.{Address}
use Rattle.sync_http.specs.declared.fault.WireFault.{WireFault}
use Rattle.sync_http.specs.declared.heads.Verb.{Verb}
use Rattle.sync_http.specs.declared.heads.Verb.TheVariants.{Get, Put, Post}
use Rattle.sync_http.specs.declared.heads.RequestHead.{RequestHead}
use Rattle.sync_http.specs.declared.heads.ReplyHead.{ReplyHead}
use Rattle.sync_http.proofs.HeadBytes.{AllPass-test, IsToken-test, IsField-field, both_pass, weaker, uri_byte}
use Rattle.sync_http.proofs.HeadBytes.{value_byte, no_slash, digits_pass, trim_decimal, number_in-decimal, part_before}
use Rattle.sync_http.proofs.HeadBytes.{rest_behind}
use Rattle.sync_http.proofs.Numerals.{own_numerals}
use Rattle.sync_http.proofs.Phrases.{phrase_plain, phrase_short}
use Rattle.sync_http.proofs.PositionsBack.{IsUtf8-id}

-- ---- the front of a head and more

pub take_behind : (xs ys : List ℕ) (n : ℕ) → length xs ≤ n → take n (xs ++ ys) ≡ xs ++ take (n - length xs) ys
take_behind [] ys n short = let same : n - 0 ≡ n = omega arith in ap (λ k. take k ys) (sym same)
take_behind (x ∷ xs) ys zero short = absurd (omega (arith, short))
take_behind (x ∷ xs) ys (suc n) short =
    let same : suc n - suc (length xs) ≡ n - length xs = omega arith in
    ap (λ t. x ∷ t) (take_behind xs ys n (omega (arith, short)) ∙ ap (λ k. xs ++ take k ys) (sym same))

front_of_written : (text more : List ℕ) → length text ≤ most_bytes
    → front (text ++ more) ≡ text ++ take (most_bytes - length text) more
front_of_written text more short = take_behind text more most_bytes short

-- ---- the target

db_parts : (db : List ℕ) → IsId Name db → list_all (is_allowed Name) db ≡ true
db_parts db is = (id_facts Name db is).2

uid_parts : (uid : List ℕ) → IsId Replica uid → list_all (is_allowed Replica) uid ≡ true
uid_parts uid is = (id_facts Replica uid is).2

target_is : (db source : List ℕ) → target_text db source ≡ 47 ∷ (db ++ 47 ∷ (codes "sync-from" ++ 47 ∷ source))
target_is db source = ap (λ (t : List ℕ). 47 ∷ t) (append_assoc db (codes "/sync-from/") source)

behind_is : (db source : List ℕ) → IsId Name db
    → target_in (47 ∷ (db ++ 47 ∷ (codes "sync-from" ++ 47 ∷ source)))
    ≡ target_with (id_in Name db) (id_in Replica source)
behind_is db source is =
    let plain = weaker (is_allowed Name) _ (no_slash Name) db (db_parts db is) in
    rw (
      rest_behind db (codes "sync-from" ++ 47 ∷ source) plain,
      part_before db (codes "sync-from" ++ 47 ∷ source) plain,
    ) refl

target_back : (db source : List ℕ) → IsId Name db → IsId Replica source
    → target_in (target_text db source) ≡ Some (record { db = db; source = source })
target_back db source d s =
    ap target_in (target_is db source) ∙ behind_is db source d
    ∙ ap₂ target_with (in_id Name db d) (in_id Replica source s)

target_bytes : (db source : List ℕ) → IsId Name db → IsId Replica source
    → list_all grammar.is_uri_byte (target_text db source) ≡ true
target_bytes db source d s =
    both_pass grammar.is_uri_byte (db ++ codes "/sync-from/") source
    (both_pass grammar.is_uri_byte db (codes "/sync-from/")
    (weaker (is_allowed Name) grammar.is_uri_byte (uri_byte Name) db (db_parts db d)) refl)
    (weaker (is_allowed Replica) grammar.is_uri_byte (uri_byte Replica) source (uid_parts source s))

target_utf8 : (db source : List ℕ) → IsId Name db → IsId Replica source → IsUtf8 (target_text db source)
target_utf8 db source d s =
    IsUtf8-append (47 ∷ []) (db ++ codes "/sync-from/" ++ source) (IsUtf8-are_ascii (47 ∷ []) refl)
    (IsUtf8-append (db ++ codes "/sync-from/") source
    (IsUtf8-append db (codes "/sync-from/") (IsUtf8-id Name db d) (IsUtf8-are_ascii (codes "/sync-from/") refl))
    (IsUtf8-id Replica source s))

-- ---- the fields

type_is_field : (type : List ℕ) → list_all grammar.is_value_byte type ≡ true → grammar.IsField (type_field type)
unfolding grammar.is_token_byte
type_is_field type plain = IsField-field (codes "Content-Type") type refl plain

length_is_field : (n : ℕ) → n < 2 ^ 64 → grammar.IsField (length_field n)
unfolding grammar.is_token_byte
length_is_field n fits =
    IsField-field (codes "Content-Length") (decimal n) refl
    (weaker is_ascii_digit grammar.is_value_byte value_byte (decimal n) (digits_pass n fits))

close_is_field : grammar.IsField (field (codes "Connection") (codes "close"))
unfolding grammar.is_token_byte
close_is_field = IsField-field (codes "Connection") (codes "close") refl refl

host_is_field : (host : List ℕ) (port : ℕ) → list_all grammar.is_value_byte host ≡ true → port < 2 ^ 64
    → grammar.IsField (field (codes "Host") (host_text host port))
unfolding grammar.is_token_byte
host_is_field host port plain fits =
    IsField-field (codes "Host") (host_text host port) refl
    (both_pass grammar.is_value_byte host (58 ∷ decimal port) plain
    (weaker is_ascii_digit grammar.is_value_byte value_byte (decimal port) (digits_pass port fits)))

all_two : (a b : grammar.Field) → grammar.IsField a → grammar.IsField b → All grammar.IsField (a ∷ b ∷ [])
all_two a b p q = All-cons grammar.IsField a (b ∷ []) p (All-cons grammar.IsField b [] q (All-nil grammar.IsField))

body_fields : (verb : Verb) (n : ℕ) → n < 2 ^ 64 → All grammar.IsField (request_body_fields verb n)
body_fields Get n fits = All-nil grammar.IsField
body_fields Put n fits = all_two (type_field json_type) (length_field n) (type_is_field json_type refl)
    (length_is_field n fits)
body_fields Post n fits = all_two (type_field stream_type) (length_field n) (type_is_field stream_type refl)
    (length_is_field n fits)

-- ---- requests

method_is : (verb : Verb) → grammar.IsToken (verb_text verb)
unfolding grammar.is_token_byte
method_is Get = IsToken-test (codes "GET") refl
method_is Put = IsToken-test (codes "PUT") refl
method_is Post = IsToken-test (codes "POST") refl

few : (verb : Verb) (host close : grammar.Field) (n : ℕ)
    → length (host ∷ close ∷ request_body_fields verb n) ≤ most_fields
few Get host close n = omega arith
few Put host close n = omega arith
few Post host close n = omega arith

abbrev asked : Verb → List ℕ → List ℕ → ℕ → Result RequestHead WireFault
asked verb db source n = Ok (record { verb = verb; db = db; source = source; body = n })

abbrev wrote : Verb → List ℕ → ℕ → List ℕ → List ℕ → ℕ → grammar.RequestHead
wrote verb host port db source n =
    request_written (record { host = host; port = port; db = db })
    (record { verb = verb; db = db; source = source; body = n })

says_asked : (verb : Verb) (host : List ℕ) (port : ℕ) (db source : List ℕ) (n : ℕ) → IsId Name db → IsId Replica source
    → n ≤ GREATEST_COUNT
    → (verb ≡ Get → n ≡ 0) → request_of (wrote verb host port db source n) ≡ asked verb db source n
says_asked Get host port db source n d s less none =
    rw (target_back db source d s) (ap (asked Get db source) (sym (none refl)))
says_asked Put host port db source n d s less none =
    rw (target_back db source d s, trim_decimal n (omega (arith, less)), number_in-decimal n less) refl
says_asked Post host port db source n d s less none =
    rw (target_back db source d s, trim_decimal n (omega (arith, less)), number_in-decimal n less) refl

is_head : (to : Address) (head : RequestHead) → CanAsk to head → grammar.IsRequestHead (request_written to head)
is_head to head h = record {
  method = method_is head.verb;
  target = (
    omega arith,
    AllPass-test grammar.is_uri_byte (target_text head.db head.source)
        (target_bytes head.db head.source h.db h.source),
  );
  target_text = target_utf8 head.db head.source h.db h.source;
  minor = omega arith;
  fields =
      All-cons grammar.IsField (field (codes "Host") (host_text to.host to.port))
      (field (codes "Connection") (codes "close") ∷ request_body_fields head.verb head.body)
      (host_is_field to.host to.port h.host (let port = h.port in omega (arith, port)))
      (All-cons grammar.IsField (field (codes "Connection") (codes "close"))
      (request_body_fields head.verb head.body) close_is_field
      (body_fields head.verb head.body (let body = h.body in omega (arith, body))));
}

pub request_back : (to : Address) (head : RequestHead) (more : List ℕ) → CanAsk to head
    → SaysRequest (grammar.print_request (request_written to head) ++ more) (Ok head)
    (length (grammar.print_request (request_written to head)))
request_back to head more h = record {
  head = request_written to head;
  rest = take (most_bytes - length (grammar.print_request (request_written to head))) more;
  reads = (is_head to head h, front_of_written (grammar.print_request (request_written to head)) more h.short);
  few = few head.verb (field (codes "Host") (host_text to.host to.port))
      (field (codes "Connection") (codes "close")) head.body;
  says = says_asked head.verb to.host to.port head.db head.source head.body h.db h.source h.body h.none;
  length_is = refl;
}

-- ---- replies

three_digits : (n : ℕ) → 100 ≤ n → n < 1000 → length (decimal n) ≡ 3
three_digits n low high =
    let one = decimal_step n (omega (arith, low)) (omega (arith, high)) in
    let two = decimal_step (n / 10) (omega (arith, low)) (omega (arith, high)) in
    let first = decimal_nonempty (n / 10 / 10) (omega (arith, high)) in
    let most = length-decimal-le 3 n (omega arith) (omega (arith, high)) (omega (arith, high)) in
    omega (
      arith,
      ap length one,
      ap length two,
      first,
      most,
      length-append (decimal (n / 10)) ((48 + n % 10) ∷ []),
      length-append (decimal (n / 10 / 10)) ((48 + n / 10 % 10) ∷ []),
    )

types_plain : (stream : Bool) → list_all grammar.is_value_byte (type_of stream) ≡ true
types_plain true = refl
types_plain false = refl

-- the head of a reply is short
reply_short : (head : ReplyHead) (stream : Bool) → CanReply head
    → length (grammar.print_response (reply_written head stream)) ≤ most_bytes
unfolding grammar.print_response
reply_short head true h =
    let status = h.status in let body = h.body in
    let code = length-decimal-le 3 head.status (omega arith) (omega (arith, status)) (omega (arith, status)) in
    let count = length-decimal-le 19 head.body (omega arith) (omega (arith, body)) (omega (arith, body)) in
    let phrase = phrase_short head.status in
    simp length-append (omega (arith, code, count, phrase))
reply_short head false h =
    let status = h.status in let body = h.body in
    let code = length-decimal-le 3 head.status (omega arith) (omega (arith, status)) (omega (arith, status)) in
    let count = length-decimal-le 19 head.body (omega arith) (omega (arith, body)) (omega (arith, body)) in
    let phrase = phrase_short head.status in
    simp length-append (omega (arith, code, count, phrase))

pub reply_back : (head : ReplyHead) (stream : Bool) (more : List ℕ) → CanReply head
    → SaysReply (grammar.print_response (reply_written head stream) ++ more) (Ok head)
    (length (grammar.print_response (reply_written head stream)))
reply_back head stream more h =
    let fits : head.body < 2 ^ 64 = (let body = h.body in omega (arith, body)) in
    let code : head.status < 2 ^ 64 = (let status = h.status in omega (arith, status)) in record {
      head = reply_written head stream;
      rest = take (most_bytes - length (grammar.print_response (reply_written head stream))) more;
      reads = (
        record {
          minor = omega arith;
          digits = (
            three_digits head.status h.status.0 h.status.1,
            AllPass-test is_ascii_digit (decimal head.status) (digits_pass head.status code),
          );
          reason = AllPass-test grammar.is_value_byte (unwrap_or (reason_phrase head.status) [])
              (phrase_plain head.status);
          fields =
              All-cons grammar.IsField (type_field (type_of stream))
              (length_field head.body ∷ field (codes "Connection") (codes "close") ∷ [])
              (type_is_field (type_of stream) (types_plain stream))
              (all_two (length_field head.body) (field (codes "Connection") (codes "close"))
              (length_is_field head.body fits) close_is_field);
        },
        front_of_written (grammar.print_response (reply_written head stream)) more (reply_short head stream h),
      );
      few = omega arith;
      says = rw (
        digits_value-decimal own_numerals head.status code,
        trim_decimal head.body fits,
        number_in-decimal head.body h.body,
      ) refl;
      length_is = refl;
    }
