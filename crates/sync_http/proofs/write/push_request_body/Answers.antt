use Rattle.httparse.specs.Grammar.{print_field}
use Rattle.sync_http.specs.Written.{type_field, length_field, json_type, stream_type}
use Rattle.sync_http.proofs.Joining.{two_fields}
use Rattle.sync_http.proofs.write.push_request_body.Goals as goal

pub returns-in_ok-push_body-in-Put : goal.returns-in_ok-push_body-in-Put
returns-in_ok-push_body-in-Put c =
    rw c.in-Put.is (two_fields c.args.out.now c.push_body.new.out (print_field (type_field json_type))
    (print_field (length_field c.args.length)) c.in_ok-push_body-in-Put.ensures)

pub returns-in_ok-push_body-in-Post : goal.returns-in_ok-push_body-in-Post
returns-in_ok-push_body-in-Post c =
    rw c.in-Post.is (two_fields c.args.out.now c.push_body-in-Post.new.out (print_field (type_field stream_type))
    (print_field (length_field c.args.length)) c.in_ok-push_body-in-Post.ensures)
