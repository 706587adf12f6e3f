-- One part after another.
use Rattle.std.proofs.Common.{◌≡◌, List, ℕ, ◌∷◌, [], length, get_or, take, drop, subst, ◌∙◌, ap}
use Rattle.std.proofs.lemmas.Result.{on_ok_weaker}
use Rattle.disk_model.specs.Disk.{Torn, Cut, overwritten}
use Rattle.disk_model.proofs.Runs.{goes_on, weaker}
use Rattle.journal.specs.inner.Restarting.{IsAnew, IsKeptOrSpoilt}
use Rattle.journal.proofs.Restarts.{kept_anew, cut_anew, alone, rest_anew, rest_written, last_anew, last_written}
use Rattle.journal.proofs.restarting.begin_anew.Goals as goal

pub returns-in_err-spoil-clause-any_moment : goal.returns-in_err-spoil-clause-any_moment
returns-in_err-spoil-clause-any_moment g c t =
    let known = g.D.Disk.known in let old = known c.args.disk.now in let begun = c.args.image.now in
    weaker old (known c.spoil.new.disk) (IsKeptOrSpoilt old.seen) (IsAnew old.seen begun)
    (c.in_err-spoil.ensures.any_moment t) (kept_anew old.seen begun)

pub returns-in_err-cut_synced-clause-any_moment : goal.returns-in_err-cut_synced-clause-any_moment
returns-in_err-cut_synced-clause-any_moment g c t =
    let known = g.D.Disk.known in let old = known c.args.disk.now in let begun = c.args.image.now
    in let one = known c.spoil.new.disk in let two = known c.cut_synced.new.disk in
    let P = IsAnew old.seen begun in
    goes_on old one two P
    (weaker old one (IsKeptOrSpoilt old.seen) P (c.in_ok-spoil.ensures.any_moment t) (kept_anew old.seen begun))
    (weaker one two (Cut 1 one.seen) P (c.in_err-cut_synced.ensures.any_moment t (c.in_ok-spoil.ensures.durable t))
    (λ file. cut_anew old.seen begun one.seen file (c.in_ok-spoil.ensures.some t) (c.in_ok-spoil.ensures.spoilt t)))

pub returns-in_err-write_synced-clause-any_moment : goal.returns-in_err-write_synced-clause-any_moment
returns-in_err-write_synced-clause-any_moment g c t =
    let known = g.D.Disk.known in let old = known c.args.disk.now in let begun = c.args.image.now
    in let one = known c.spoil.new.disk in let two = known c.cut_synced.new.disk in
    let three = known c.write_synced.new.disk in let rest = c.behind-rest.result.now in
    let P = IsAnew old.seen begun in
    let x = get_or one.seen 0 0 in
    goes_on old two three P
    (goes_on old one two P
    (weaker old one (IsKeptOrSpoilt old.seen) P (c.in_ok-spoil.ensures.any_moment t) (kept_anew old.seen begun))
    (weaker one two (Cut 1 one.seen) P (c.in_ok-cut_synced.ensures.any_moment t (c.in_ok-spoil.ensures.durable t))
    (λ file. cut_anew old.seen begun one.seen file (c.in_ok-spoil.ensures.some t) (c.in_ok-spoil.ensures.spoilt t))))
    (weaker two three (Torn 1 (length rest) two.seen) P
    (c.in_err-write_synced.ensures.any_moment t (c.in_ok-cut_synced.ensures.durable t))
    (λ file. rest_anew old.seen begun two.seen file (length rest) x
    (c.in_ok-cut_synced.ensures.shortened t ∙ alone one.seen (c.in_ok-spoil.ensures.some t))
    (c.in_ok-spoil.ensures.spoilt t)))

pub returns-clause-written : goal.returns-clause-written
returns-clause-written g c t =
    let known = g.D.Disk.known in let begun = c.args.image.now in let one = known c.spoil.new.disk
    in let two = known c.cut_synced.new.disk in
    let three = known c.write_synced.new.disk in let four = known c.write_synced-2.new.disk
    in let rest = c.behind-rest.result.now in
    let x = get_or one.seen 0 0 in
    let third : three.seen ≡ x ∷ drop 1 begun =
    c.in_ok-write_synced.ensures.written t
    ∙ rest_written two.seen rest x (c.in_ok-cut_synced.ensures.shortened t
    ∙ alone one.seen (c.in_ok-spoil.ensures.some t))
    ∙ ap (λ (l : List ℕ). x ∷ l) c.behind-rest.ensures in
    let last : four.seen ≡ overwritten three.seen 0 (take 1 begun) → four.seen ≡ begun = λ e. e
    ∙ last_written begun three.seen x third c.requires.some in
    on_ok_weaker c.write_synced-2.result last (c.write_synced-2.ensures.written t)

pub returns-clause-any_moment : goal.returns-clause-any_moment
returns-clause-any_moment g c t =
    let known = g.D.Disk.known in let old = known c.args.disk.now in let begun = c.args.image.now
    in let one = known c.spoil.new.disk in let two = known c.cut_synced.new.disk in
    let three = known c.write_synced.new.disk in let four = known c.write_synced-2.new.disk
    in let rest = c.behind-rest.result.now in
    let P = IsAnew old.seen begun in
    let x = get_or one.seen 0 0 in
    let second : two.seen ≡ x ∷ [] = c.in_ok-cut_synced.ensures.shortened t
    ∙ alone one.seen (c.in_ok-spoil.ensures.some t) in
    let third : three.seen ≡ x ∷ drop 1 begun =
    c.in_ok-write_synced.ensures.written t ∙ rest_written two.seen rest x second
    ∙ ap (λ (l : List ℕ). x ∷ l) c.behind-rest.ensures in
    goes_on old three four P
    (goes_on old two three P
    (goes_on old one two P
    (weaker old one (IsKeptOrSpoilt old.seen) P (c.in_ok-spoil.ensures.any_moment t) (kept_anew old.seen begun))
    (weaker one two (Cut 1 one.seen) P (c.in_ok-cut_synced.ensures.any_moment t (c.in_ok-spoil.ensures.durable t))
    (λ file. cut_anew old.seen begun one.seen file (c.in_ok-spoil.ensures.some t) (c.in_ok-spoil.ensures.spoilt t))))
    (weaker two three (Torn 1 (length rest) two.seen) P
    (c.in_ok-write_synced.ensures.any_moment t (c.in_ok-cut_synced.ensures.durable t))
    (λ file. rest_anew old.seen begun two.seen file (length rest) x second (c.in_ok-spoil.ensures.spoilt t))))
    (weaker three four (Torn 0 (length (take 1 begun)) three.seen) P
    (c.write_synced-2.ensures.any_moment t (c.in_ok-write_synced.ensures.durable t))
    (λ file torn. last_anew old.seen begun three.seen file x third c.requires.some c.requires.first
    (subst (λ (n : ℕ). Torn 0 n three.seen file) (ap length (alone begun c.requires.some)) torn)))
