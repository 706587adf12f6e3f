-- The root was looked at, and then the store was made or not.
use Rattle.std.proofs.Common.{◌≡◌, List, ℕ, [], ◌∷◌, inl, refl, sym, ◌∙◌}
use Rattle.std.proofs.lemmas.Result.{err_from_is_err_and}
use Rattle.disks.specs.declared.name.DiskName.TheVariants.{Root}
use Rattle.disks.specs.Disks.{disks_known}
use Rattle.disks.specs.Joint.{seen_of}
use Rattle.disks.proofs.Runs.{reads_may_stay}
use Rattle.journal.proofs.Spells.{spelled_reads}
use Rattle.volume.proofs.Finding.{found_blank}
use Rattle.volume.proofs.Makes.{left_now, no_look, not_begun, looks_run, makes_run}
use Rattle.volume.proofs.Opens.{looks, blank_names, not_blank, witnessed}
use Rattle.volume.proofs.making.init_images.Goals as goal

pub make_store-requires : goal.make_store-requires
make_store-requires g c t =
    let root = (disks_known g.D.Disk.known c.args.disks.now).files.root.seen
    in let looked = c.in_ok-front_synced_on.ensures in
    record {
      seen = looked.seen t ∙ blank_names root (sym (looked.value t) ∙ c.in-None.is);
      durable = looked.durable t;
    }

pub returns-in_err-image-clause-reads : goal.returns-in_err-image-clause-reads
returns-in_err-image-clause-reads g c =
    let why = err_from_is_err_and c.from_residual.result c.from_residual.ensures.1 in
    rw (why.1, why.2) ((disks_known g.D.Disk.known c.args.disks.now).files.root.seen, (λ t. refl), tt)

pub returns-in_err-image-clause-any_moment : goal.returns-in_err-image-clause-any_moment
returns-in_err-image-clause-any_moment g c t = not_begun c.args.header.now (disks_known g.D.Disk.known c.args.disks.now)

pub returns-in_err-front_synced_on-clause-reads : goal.returns-in_err-front_synced_on-clause-reads
returns-in_err-front_synced_on-clause-reads g c =
    let why = err_from_is_err_and c.from_residual-in_err-front_synced_on.result
    c.from_residual-in_err-front_synced_on.ensures.1 in
    rw (why.1, why.2) ((disks_known g.D.Disk.known c.args.disks.now).files.root.seen, (λ t. refl), tt)

pub returns-in_err-front_synced_on-clause-any_moment : goal.returns-in_err-front_synced_on-clause-any_moment
returns-in_err-front_synced_on-clause-any_moment g c t =
    let known = g.D.Disk.known in
    looks_run c.args.header.now (disks_known known c.args.disks.now) (disks_known known c.front_synced_on.new.disks)
    (c.in_err-front_synced_on.ensures.any_moment t)

pub returns-in-Some-clause-reads : goal.returns-in-Some-clause-reads
returns-in-Some-clause-reads g c =
    let root = (disks_known g.D.Disk.known c.args.disks.now).files.root.seen in
    witnessed g.D.Disk.tells root (0 ∷ []) (λ (bytes : List ℕ). bytes ≡ [] → ⊥)
    (λ t. not_blank root c.in-Some.field-0 (sym (c.in_ok-front_synced_on.ensures.value t) ∙ c.in-Some.is))
    (λ e. absurd (cc e))

pub returns-in-Some-clause-any_moment : goal.returns-in-Some-clause-any_moment
returns-in-Some-clause-any_moment g c t =
    let known = g.D.Disk.known in
    looks_run c.args.header.now (disks_known known c.args.disks.now) (disks_known known c.front_synced_on.new.disks)
    (c.in_ok-front_synced_on.ensures.any_moment t)

pub returns-in_err-make_store-in-None-clause-any_moment : goal.returns-in_err-make_store-in-None-clause-any_moment
returns-in_err-make_store-in-None-clause-any_moment g c t =
    let known = g.D.Disk.known in let law = g.met.D.Disk.seen_may_stay in let trio = c.args.disks.now.trio
    in let looked = c.in_ok-front_synced_on.ensures in
    let old = disks_known known c.args.disks.now in
    makes_run c.args.header.now old (disks_known known c.front_synced_on.new.disks)
    (disks_known known c.make_store.new.disks)
    (reads_may_stay known trio (law trio.root t) (law trio.left t) (law trio.right t))
    (blank_names old.files.root.seen (sym (looked.value t) ∙ c.in-None.is))
    (looked.any_moment t) (c.in_err-make_store-in-None.ensures.any_moment t c.args.header.now
    (spelled_reads c.args.header.now [] c.in_ok-image.image c.in_ok-image.ensures))

pub returns-clause-any_moment : goal.returns-clause-any_moment
returns-clause-any_moment g c t =
    let known = g.D.Disk.known in let law = g.met.D.Disk.seen_may_stay in let trio = c.args.disks.now.trio
    in let looked = c.in_ok-front_synced_on.ensures in
    let old = disks_known known c.args.disks.now in
    makes_run c.args.header.now old (disks_known known c.front_synced_on.new.disks)
    (disks_known known c.make_store.new.disks)
    (reads_may_stay known trio (law trio.root t) (law trio.left t) (law trio.right t))
    (blank_names old.files.root.seen (sym (looked.value t) ∙ c.in-None.is))
    (looked.any_moment t) (c.in_ok-make_store-in-None.ensures.any_moment t c.args.header.now
    (spelled_reads c.args.header.now [] c.in_ok-image.image c.in_ok-image.ensures))

-- ---- over a root that is not empty nothing is written

pub returns-in_err-image-clause-looks : goal.returns-in_err-image-clause-looks
returns-in_err-image-clause-looks g c t some = no_look (disks_known g.D.Disk.known c.args.disks.now)

pub returns-in_err-front_synced_on-clause-looks : goal.returns-in_err-front_synced_on-clause-looks
returns-in_err-front_synced_on-clause-looks g c t some =
    let known = g.D.Disk.known in let looked = c.in_err-front_synced_on.ensures in
    looks Root (disks_known known c.args.disks.now) (disks_known known c.front_synced_on.new.disks) (looked.seen t)
    (looked.stays_settled t) (looked.others t) (looked.any_moment t)

pub returns-in-Some-clause-looks : goal.returns-in-Some-clause-looks
returns-in-Some-clause-looks g c t some =
    let known = g.D.Disk.known in let looked = c.in_ok-front_synced_on.ensures in
    looks Root (disks_known known c.args.disks.now) (disks_known known c.front_synced_on.new.disks) (looked.seen t)
    (looked.stays_settled t) (looked.others t) (looked.any_moment t)

pub returns-in_err-make_store-in-None-clause-looks : goal.returns-in_err-make_store-in-None-clause-looks
returns-in_err-make_store-in-None-clause-looks g c t some =
    absurd (some (blank_names (disks_known g.D.Disk.known c.args.disks.now).files.root.seen
    (sym (c.in_ok-front_synced_on.ensures.value t) ∙ c.in-None.is)))

pub returns-clause-looks : goal.returns-clause-looks
returns-clause-looks g c t some =
    absurd (some (blank_names (disks_known g.D.Disk.known c.args.disks.now).files.root.seen
    (sym (c.in_ok-front_synced_on.ensures.value t) ∙ c.in-None.is)))

-- ---- over an empty one there is no store then, or the empty one

pub returns-in_err-image-clause-left : goal.returns-in_err-image-clause-left
returns-in_err-image-clause-left g c t none =
    inl (found_blank (seen_of (disks_known g.D.Disk.known c.args.disks.now).files) none)

pub returns-in_err-front_synced_on-clause-left : goal.returns-in_err-front_synced_on-clause-left
returns-in_err-front_synced_on-clause-left g c t none =
    inl (found_blank (seen_of (disks_known g.D.Disk.known c.front_synced_on.new.disks).files)
    (c.in_err-front_synced_on.ensures.seen t ∙ none))

pub returns-in-Some-clause-left : goal.returns-in-Some-clause-left
returns-in-Some-clause-left g c t none =
    absurd (not_blank (disks_known g.D.Disk.known c.args.disks.now).files.root.seen c.in-Some.field-0
    (sym (c.in_ok-front_synced_on.ensures.value t) ∙ c.in-Some.is) none)

pub returns-in_err-make_store-in-None-clause-left : goal.returns-in_err-make_store-in-None-clause-left
returns-in_err-make_store-in-None-clause-left g c t none =
    let known = g.D.Disk.known in let law = g.met.D.Disk.seen_may_stay in let trio = c.make_store.new.disks.trio in
    left_now known trio c.args.header.now (law trio.root t) (law trio.left t) (law trio.right t)
    (c.in_err-make_store-in-None.ensures.any_moment t c.args.header.now
    (spelled_reads c.args.header.now [] c.in_ok-image.image c.in_ok-image.ensures)).here

pub returns-clause-left : goal.returns-clause-left
returns-clause-left g c t none =
    let known = g.D.Disk.known in let law = g.met.D.Disk.seen_may_stay in let trio = c.make_store.new.disks.trio in
    left_now known trio c.args.header.now (law trio.root t) (law trio.left t) (law trio.right t)
    (c.in_ok-make_store-in-None.ensures.any_moment t c.args.header.now
    (spelled_reads c.args.header.now [] c.in_ok-image.image c.in_ok-image.ensures)).here
