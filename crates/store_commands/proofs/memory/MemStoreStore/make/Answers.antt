-- There was none, and now there is the empty one.
use Rattle.std.proofs.Common.{false, refl, sym, ◌∙◌}
use Rattle.store_commands.proofs.InMemory.{exists_in_memory, made_in_memory, none_there}
use Rattle.store_commands.proofs.memory.MemStoreStore.make.Goals as goal

pub returns : goal.returns
returns c =
    made_in_memory c.args.self _ (record { replica = c.new-replica.result; limit = c.args.limit; staged = false }) c.args.name.now
    c.args.uid.now c.args.limit
    (none_there c.args.self.opened (sym c.is_some.ensures ∙ c.if-is_some.false)) refl refl
    (rw (c.in-Ok-Ok.ensures, c.in-Ok-Ok.ensures') at c.new-replica.ensures) refl

pub returns-then-is_some : goal.returns-then-is_some
returns-then-is_some c = exists_in_memory c.args.self (sym c.is_some.ensures ∙ c.if-is_some.true)
