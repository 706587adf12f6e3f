-- init makes a store; any other command opens one.
use Rattle.store_commands.proofs.carrying.carry_out_built.Goals as goal

pub init-requires : goal.init-requires
init-requires g c = rw c.in-Init.is at c.requires

pub returns-in-Init : goal.returns-in-Init
returns-in-Init g c = rw c.in-Init.is c.init.ensures
