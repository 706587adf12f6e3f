-- The status line, three fields and the empty line.
use Rattle.std.proofs.Common.{[], ◌∷◌, ◌++◌, decimal, unwrap_or, codes, ap, ◌∙◌, rules}
use Rattle.http.specs.StatusCode.{reason_phrase}
use Rattle.httparse.specs.Grammar.{print_field, print_version}
use Rattle.sync_http.specs.Written.{type_field, length_field, type_of, field}
use Rattle.sync_http.proofs.Joining.{three_fields}
use Rattle.sync_http.proofs.write.write_reply.Goals as goal

pub returns : goal.returns
unfolding Rattle.httparse.specs.Grammar.print_response
returns c =
    let head = c.args.head.now in
    three_fields ([] ++ print_version 1 ++ (32 ∷ decimal head.status)
    ++ (32 ∷ unwrap_or (reason_phrase head.status) []) ++ 13 ∷ 10 ∷ [])
    c.push_status.new.out c.push_body.new.out c.push_field.new.out c.extend.new.self
    (print_field (type_field (type_of c.args.stream))) (print_field (length_field head.body))
    (print_field (field (codes "Connection") (codes "close"))) (13 ∷ 10 ∷ [])
    (search rules)
    (c.in_ok-push_body.ensures
    ∙ ap (λ t. c.push_status.new.out ++ print_field (type_field t) ++ print_field (length_field head.body))
    c.type_of.ensures)
    c.in_ok-push_field.ensures c.in_ok-extend.ensures.ok
