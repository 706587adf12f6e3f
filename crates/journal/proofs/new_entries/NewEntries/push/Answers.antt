-- The body stands behind those that were spelled.
use Rattle.std.proofs.Common.{◌≡◌, ◌≤◌, ◌-◌, ◌∷◌, [], ◌++◌, ℕ, List, length, set, ◌∙◌, sym, ap, subst, arith}
use Rattle.std.proofs.Common.{length-append}
use Rattle.journal.specs.Image.{body_field}
use Rattle.journal.proofs.Fields.{length-body_field}
use Rattle.journal.proofs.Staged.{one_spelled}
use Rattle.journal.proofs.new_entries.NewEntries.push.Goals as goal

pub returns-in-Ok-clause-spelled : goal.returns-in-Ok-clause-spelled
returns-in-Ok-clause-spelled c bodies s =
    let body = c.args.body.now in let old = c.args.self.now in let mid = c.extend_from_slice.new.self.items
    in let new = c.open_before.new.bytes.items in
    let added : mid ≡ old ++ (body_field body ++ 0 ∷ []) =
    c.in-Ok.ensures.items ∙ ap (λ (l : List ℕ). l ++ c.as_slice.result.now) c.self.view_is
    ∙ ap (λ (l : List ℕ). old ++ l) (c.as_slice.ensures ∙ c.in_ok-behind.ensures) in
    let end : c.len-end.result ≡ length old = omega (arith, c.len-end.ensures, c.self.inside.bytes.ok.0, ap length c.self.view_is) in
    one_spelled bodies body old mid new s (c.requires.some, c.requires.short) added
    (λ none. c.open_before.ensures.none (end ∙ none))
    (λ some. subst (λ (n : ℕ). new ≡ set mid (n - 1) 1) end
    (c.open_before.ensures.some (subst (λ (n : ℕ). 1 ≤ n) (sym end) some)))

pub returns-in-Ok-clause-length : goal.returns-in-Ok-clause-length
returns-in-Ok-clause-length c =
    let body = c.args.body.now in let old = c.args.self.now in let mid = c.extend_from_slice.new.self.items in
    let added : mid ≡ old ++ (body_field body ++ 0 ∷ []) =
    c.in-Ok.ensures.items ∙ ap (λ (l : List ℕ). l ++ c.as_slice.result.now) c.self.view_is
    ∙ ap (λ (l : List ℕ). old ++ l) (c.as_slice.ensures ∙ c.in_ok-behind.ensures) in
    omega (
      arith,
      c.open_before.ensures.length,
      ap length added,
      length-append old (body_field body ++ 0 ∷ []),
      length-append (body_field body) (0 ∷ []),
      length-body_field body,
    )
