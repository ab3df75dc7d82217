-- A run as a chain of its events, for runs that are worked out by hand.
use Rattle.std.proofs.Common.{◌≡◌, ℕ, Bool, true, false, ◌&&◌, ◌||◌, List, [], ◌∷◌, refl, pos, eqb}
use Rattle.geom_core.specs.Grid.{Key, key, same_key}
use Rattle.machine_model.specs.State.{State}
use Rattle.machine_model.specs.Event.{Event}
use Rattle.machine_model.specs.Step.{Step, Run}

infixr 30 ◌▸◌
-- the event happens
pub record Happens (e : Event) (old new : State) : Type 0 where
  pub step : Step old e new

-- the events happen one after another
pub record Chain (events : List Event) (old new : State) : Type 0 where
  pub run : Run old events new

-- one event, and then others
pub ◌▸◌ : {e : Event} {events : List Event} {old mid new : State} → Happens e old mid → Chain events mid new → Chain (e ∷ events) old new
◌▸◌ {mid = mid} one more = record { run = (mid, one.step, more.run) }

-- nothing more happens
pub ends : {s : State} → Chain [] s s
ends = record { run = refl }

-- the one tile of the root is published
pub all_walked : (g : ℕ) (k : Key) → (eqb 0 g || false) ≡ true → (same_key k (key (pos 0) (pos 0)) || false) ≡ true → ((eqb 0 g && same_key k (key (pos 0) (pos 0))) || false) ≡ true
all_walked g k h i = go (eqb 0 g) (same_key k (key (pos 0) (pos 0))) h i
  where
    go : (a b : Bool) → (a || false) ≡ true → (b || false) ≡ true → ((a && b) || false) ≡ true
    go true b h i = i
    go false b h i = h
