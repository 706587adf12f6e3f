-- Three lines, and then those of the peers that are known and told.
use Rattle.std.proofs.Common.{◌∷◌, ◌++◌, Err, ap, refl}
use Rattle.std.proofs.lemmas.Result.{err_from_is_err_and}
use Rattle.doc_table.specs.Listed.{Listed}
use Rattle.u1_base.specs.Places.{Place}
use Rattle.replica_core.specs.Commands.Effects.{Now, OfDatabase, OfReplica}
use Rattle.command_lines.proofs.Putting.{puts_as}
use Rattle.store_commands.proofs.InfoLines.{known_lines, same_info, told_lines}
use Rattle.store_commands.proofs.Listed.{both_then, front_broke, head_broke, head_then}
use Rattle.store_commands.proofs.info.print_info.Goals as goal

pub returns-in_err-print_replica : goal.returns-in_err-print_replica
returns-in_err-print_replica g c =
    let k = g.K.Sink.known in
    let st = c.args.state.now in
    let uid = c.uid.result.now in
    let name = st.name in
    let at = c.args.at.now in
    let known = st.known.pairs in
    let told = st.told.pairs in
    let p = err_from_is_err_and c.from_residual.result c.from_residual.ensures.1 in
    rw (p.1, p.2)
    (puts_as _ _ (k c.args.out.now) (k c.print_replica.new.out) (Err c.in_err-print_replica.field-0.0)
    (same_info uid st.uid name st.name at known st.known.pairs told st.told.pairs c.uid.ensures refl refl refl)
    (head_broke (OfReplica uid) (OfDatabase name ∷ Now at ∷ known_lines known ++ told_lines told) (k c.args.out.now)
    (k c.print_replica.new.out) c.in_err-print_replica.field-0.0 c.in_err-print_replica.ensures))

pub returns-in_err-print_database : goal.returns-in_err-print_database
returns-in_err-print_database g c =
    let k = g.K.Sink.known in
    let st = c.args.state.now in
    let uid = c.uid.result.now in
    let name = c.name.result.now in
    let at = c.args.at.now in
    let known = st.known.pairs in
    let told = st.told.pairs in
    let p = err_from_is_err_and c.from_residual-in_err-print_database.result
    c.from_residual-in_err-print_database.ensures.1 in
    rw (p.1, p.2)
    (puts_as _ _ (k c.args.out.now) (k c.print_database.new.out) (Err c.in_err-print_database.field-0.0)
    (same_info uid st.uid name st.name at known st.known.pairs told st.told.pairs c.uid.ensures
    c.name.ensures refl refl)
    (head_then (OfReplica uid) (OfDatabase name ∷ Now at ∷ known_lines known ++ told_lines told) (k c.args.out.now)
    (k c.print_replica.new.out) (k c.print_database.new.out)
    (Err c.in_err-print_database.field-0.0) c.in_ok-print_replica.ensures
    (head_broke (OfDatabase name) (Now at ∷ known_lines known ++ told_lines told) (k c.print_replica.new.out)
    (k c.print_database.new.out) c.in_err-print_database.field-0.0 c.in_err-print_database.ensures)))

pub returns-in_err-print_now : goal.returns-in_err-print_now
returns-in_err-print_now g c =
    let k = g.K.Sink.known in
    let st = c.args.state.now in
    let uid = c.uid.result.now in
    let name = c.name.result.now in
    let at = c.args.at.now in
    let known = st.known.pairs in
    let told = st.told.pairs in
    let p = err_from_is_err_and c.from_residual-in_err-print_now.result c.from_residual-in_err-print_now.ensures.1 in
    rw (p.1, p.2)
    (puts_as _ _ (k c.args.out.now) (k c.print_now.new.out) (Err c.in_err-print_now.field-0.0)
    (same_info uid st.uid name st.name at known st.known.pairs told st.told.pairs c.uid.ensures
    c.name.ensures refl refl)
    (head_then (OfReplica uid) (OfDatabase name ∷ Now at ∷ known_lines known ++ told_lines told) (k c.args.out.now)
    (k c.print_replica.new.out) (k c.print_now.new.out) (Err c.in_err-print_now.field-0.0) c.in_ok-print_replica.ensures
    (head_then (OfDatabase name) (Now at ∷ known_lines known ++ told_lines told) (k c.print_replica.new.out)
    (k c.print_database.new.out) (k c.print_now.new.out)
    (Err c.in_err-print_now.field-0.0) c.in_ok-print_database.ensures
    (head_broke (Now at) (known_lines known ++ told_lines told) (k c.print_database.new.out)
    (k c.print_now.new.out) c.in_err-print_now.field-0.0 c.in_err-print_now.ensures))))

pub returns-in_err-print_places : goal.returns-in_err-print_places
returns-in_err-print_places g c =
    let k = g.K.Sink.known in
    let st = c.args.state.now in
    let uid = c.uid.result.now in
    let name = c.name.result.now in
    let at = c.args.at.now in
    let known = c.positions.result.now.pairs in
    let told = st.told.pairs in
    let p = err_from_is_err_and c.from_residual-in_err-print_places.result
    c.from_residual-in_err-print_places.ensures.1 in
    rw (p.1, p.2)
    (puts_as _ _ (k c.args.out.now) (k c.print_places.new.out) (Err c.in_err-print_places.field-0.0)
    (same_info uid st.uid name st.name at known st.known.pairs told st.told.pairs c.uid.ensures c.name.ensures
    (ap (λ (t : Listed Place). t.pairs) c.positions.ensures) refl)
    (head_then (OfReplica uid) (OfDatabase name ∷ Now at ∷ known_lines known ++ told_lines told) (k c.args.out.now)
    (k c.print_replica.new.out) (k c.print_places.new.out)
    (Err c.in_err-print_places.field-0.0) c.in_ok-print_replica.ensures
    (head_then (OfDatabase name) (Now at ∷ known_lines known ++ told_lines told) (k c.print_replica.new.out)
    (k c.print_database.new.out) (k c.print_places.new.out)
    (Err c.in_err-print_places.field-0.0) c.in_ok-print_database.ensures
    (head_then (Now at) (known_lines known ++ told_lines told) (k c.print_database.new.out) (k c.print_now.new.out)
    (k c.print_places.new.out) (Err c.in_err-print_places.field-0.0) c.in_ok-print_now.ensures
    (front_broke (known_lines known) (told_lines told) (k c.print_now.new.out)
    (k c.print_places.new.out) c.in_err-print_places.field-0.0 c.in_err-print_places.ensures)))))

pub returns : goal.returns
returns g c =
    let k = g.K.Sink.known in
    let st = c.args.state.now in
    let uid = c.uid.result.now in
    let name = c.name.result.now in
    let at = c.args.at.now in
    let known = c.positions.result.now.pairs in
    let told = c.positions-2.result.now.pairs in
    puts_as _ _ (k c.args.out.now) (k c.print_places-2.new.out) c.print_places-2.result
    (same_info uid st.uid name st.name at known st.known.pairs told st.told.pairs c.uid.ensures c.name.ensures
    (ap (λ (t : Listed Place). t.pairs) c.positions.ensures) (ap (λ (t : Listed Place). t.pairs) c.positions-2.ensures))
    (head_then (OfReplica uid) (OfDatabase name ∷ Now at ∷ known_lines known ++ told_lines told) (k c.args.out.now)
    (k c.print_replica.new.out) (k c.print_places-2.new.out) c.print_places-2.result c.in_ok-print_replica.ensures
    (head_then (OfDatabase name) (Now at ∷ known_lines known ++ told_lines told) (k c.print_replica.new.out)
    (k c.print_database.new.out) (k c.print_places-2.new.out) c.print_places-2.result c.in_ok-print_database.ensures
    (head_then (Now at) (known_lines known ++ told_lines told) (k c.print_database.new.out) (k c.print_now.new.out)
    (k c.print_places-2.new.out) c.print_places-2.result c.in_ok-print_now.ensures
    (both_then (known_lines known) (told_lines told) (k c.print_now.new.out) (k c.print_places.new.out)
    (k c.print_places-2.new.out) c.print_places-2.result c.in_ok-print_places.ensures c.print_places-2.ensures))))
