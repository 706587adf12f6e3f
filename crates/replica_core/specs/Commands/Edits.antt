-- The commands that write documents: create, put, delete, resolve and resolve-deleted. Each makes one call, and prints
-- the revision that it made.
use Rattle.std.specs.Prelude.{ℕ, ◌+◌, List, length, Option, Some, None, Result, unwrap_or}
use Rattle.content.specs.Tree.{Tree}
use Rattle.u1_base.specs.NewId.{new_id_text}
use Rattle.u1_base.specs.declared.made.IdKind.TheVariants.{Doc}
use Rattle.vector_rev.specs.Clock.{Clock}
use Rattle.conflicts.specs.State.{State, Text}
use Rattle.replica_core.specs.CallsDecide.{delete_decides, put_decides, resolve_decides}
use Rattle.replica_core.specs.Commands.Effects.{Effect, Made, Refusal, Edit, Resolve, calls}

-- put names the revision that it changes; none where the document is new or deleted
abbrev pub put_effect : State → ℕ → Text → Option Clock → Tree → Result Effect Refusal
put_effect s seed id rev content = calls (Made id) Edit (put_decides seed id rev content s)

-- the id of a document that is created: the given one, or one that is made of the seed and the next generation
abbrev pub created_id : State → ℕ → Option Text → Text
created_id s seed id = unwrap_or id (new_id_text seed Doc (length s.log + 1))

-- create is a put that names no revision
abbrev pub create_effect : State → ℕ → Option Text → Tree → Result Effect Refusal
create_effect s seed id content = put_effect s seed (created_id s seed id) None content

-- delete names the revision that it deletes
abbrev pub delete_effect : State → ℕ → Text → Clock → Result Effect Refusal
delete_effect s seed id rev = calls (Made id) Edit (delete_decides seed id rev s)

-- resolve names the revisions that the new one takes the place of
abbrev pub resolve_effect : State → ℕ → Text → List Clock → Tree → Result Effect Refusal
resolve_effect s seed id named content = calls (Made id) Resolve (resolve_decides seed id named (Some content) s)

-- resolve-deleted does too, and gives no content
abbrev pub resolve_deleted_effect : State → ℕ → Text → List Clock → Result Effect Refusal
resolve_deleted_effect s seed id named = calls (Made id) Resolve (resolve_decides seed id named None s)
