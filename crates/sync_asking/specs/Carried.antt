-- What a phase of a session does with a link: one ask, as far as it came.
use Rattle.std.specs.Prelude.{◌≡◌, ◌⊎◌, ℕ, List, [], ◌++◌, Some, IfSome, IsSomeAnd}
use Rattle.link.specs.Streams.{IsFront}
use Rattle.conflicts.specs.State.{State}
use Rattle.sync_http.specs.declared.address.Address.{Address}
use Rattle.sync_link.specs.Links.{BothTold, LinkKnown, and_given, asks}
use Rattle.sync_link.specs.declared.asking.Phase.TheVariants.{Receiving}

-- there is one ask more: of its request this was sent, and of its reply this was handed back
pub record IsAsked (before after : LinkKnown) (to : Address) (sent given : List ℕ) : Type 0 where
  pub earlier : after.earlier ≡ asks before
  pub ask : after.ask ≡ Some (record { to = to; sent = sent; given = given })
  pub seed : after.seed ≡ before.seed

-- the ask under way was given these bytes more. A reply that is told begins with them
pub record IsGiven (before after : LinkKnown) (given : List ℕ) : Type 0 where
  pub earlier : after.earlier ≡ before.earlier
  pub ask : after.ask ≡ and_given given before.ask
  pub seed : after.seed ≡ before.seed
  pub peer : after.peer ≡ before.peer
  pub front : IfSome before.coming (IsFront given)

module _ (serves : ℕ → State → List ℕ → List ℕ → State → Type 0) (stops : ℕ → State → List ℕ → State → Type 0) where
  -- the whole request was sent, and its reply is to come. A peer that is told has served it
  pub record Awaits (before after : LinkKnown) (to : Address) (text : List ℕ) : Type 0 where
    pub asked : IsAsked before after to text []
    pub phase : after.phase ≡ Receiving
    pub peer : BothTold before.peer after.peer
        (λ p q. IsSomeAnd after.coming (λ reply. serves before.seed p text reply q))

  -- of an ask of this request so much was handed back
  pub data Carries (before after : LinkKnown) (to : Address) (text given : List ℕ) : Type 0 where
    -- the whole request was sent; a peer that is told has served it, by a reply that begins so
    whole : IsAsked before after to text given
        → BothTold before.peer after.peer (λ p q. (more : List ℕ) × serves before.seed p text (given ++ more) q)
        → Carries before after to text given
    -- it was given up with a front of the request sent, before any of the reply came
    cut : (sent : List ℕ) → IsFront sent text → given ≡ [] → IsAsked before after to sent []
        → BothTold before.peer after.peer (λ p q. (q ≡ p) ⊎ stops before.seed p text q)
        → Carries before after to text given
    -- memory ran out before there was an ask
    none : given ≡ [] → asks after ≡ asks before → after.peer ≡ before.peer → after.seed ≡ before.seed
        → Carries before after to text given
