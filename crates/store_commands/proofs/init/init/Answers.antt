-- The store is made, or memory ran out before.
use Rattle.std.proofs.Common.{Err, refl}
use Rattle.disks.specs.declared.fault.MakeFault.TheVariants.{Memory}
use Rattle.store_commands.proofs.Making.{made_so, within_limits}
use Rattle.store_commands.proofs.Unbuilt.{left_alone}
use Rattle.store_commands.proofs.init.init.Goals as goal

pub make-requires : goal.make-requires
make-requires g c =
    let both = within_limits c.args.name.now c.args.uid.now c.args.limit c.requires in
    record { least = rw c.unwrap_or.ensures both.0; greatest = rw c.unwrap_or.ensures both.1 }

pub returns-in-Ok : goal.returns-in-Ok
returns-in-Ok g c =
    let m = c.make.ensures in
    made_so c.args.name.now c.args.uid.now c.args.limit c.args.seed _ _ _ _ _ _ _ c.requires m.made
    (rw (c.in-Ok.ensures, c.unwrap_or.ensures) at m.makes) (rw c.in-Ok.ensures at m.tells)

pub returns-in-Err : goal.returns-in-Err
returns-in-Err g c =
    made_so c.args.name.now c.args.uid.now c.args.limit c.args.seed _ _ _ _ _ _ _ c.requires (Err Memory)
    (left_alone _, refl) (refl, refl)
