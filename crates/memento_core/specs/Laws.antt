-- What holds of every book and its plane.
use Rattle.std.specs.Prelude.{◌≡◌, true, Option, ◌∷◌}
use Rattle.std.specs.FinMap as map
use Rattle.geom_core.specs.Grid.{Key}
use Rattle.memento_core.specs.Planes.{Keyed, tile_under}
use Rattle.memento_core.specs.Revisions.{AllStand, Exchanges, IsIndex, noted_under}
use Rattle.memento_core.specs.Books.{Pages, RollsBack, RollsForward}

module _ (T : Type 0) where
  -- what is rolled back and then forward is as it was, book and plane
  abbrev pub ForthAgain : Type 0
  ForthAgain = (b c d : Pages T) (before between after : Keyed T) → RollsBack b c before between → RollsForward c d between after → (d ≡ b) × (after ≡ before)

  -- what is rolled forward and then back is as it was
  abbrev pub BackAgain : Type 0
  BackAgain = (b c d : Pages T) (before between after : Keyed T) → RollsForward b c before between → RollsBack c d between after → (d ≡ b) × (after ≡ before)

  -- to roll back a committed transaction, in which each changed key was noted with what stood there, gives back the plane from before it began
  abbrev pub BackToBegin : Type 0
  BackToBegin = (b c : Pages T) (r before now after : Keyed T) → b.past ≡ r ∷ c.past → IsIndex r before now → RollsBack b c now after → after ≡ before

  -- at its begin nothing was changed and nothing is noted
  abbrev pub IndexBegins : Type 0
  IndexBegins = (plane : Keyed T) → IsIndex map.empty plane plane

  -- it notes what stands under a key, and then what stands there may change
  abbrev pub IndexGrows : Type 0
  IndexGrows = (r before now : Keyed T) (k : Key) (t : Option T) → map.contains_key now k ≡ true → IsIndex r before now → IsIndex (noted_under r k (tile_under now k)) before (map.insert now k t)

  -- an exchange takes no key away, so each revision that could be exchanged still can
  abbrev pub KeysStay : Type 0
  KeysStay = (r after old new : Keyed T) → AllStand r old → Exchanges r after old new → (k : Key) → map.contains_key new k ≡ map.contains_key old k
