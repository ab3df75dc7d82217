-- How the composing of a walk goes on.
use Rattle.std.proofs.Common.{◌≡◌, ℕ, Some, List, [], ◌∷◌, ◌++◌, length, sym, subst}
use Rattle.std.specs.Prelude.{slice_get}
use Rattle.geom_core.specs.Grid.{Key}
use Rattle.walker_core.specs.Composing.{AreOf, tiles_in}
use Rattle.walker_core.specs.Readings.{Readings}
use Rattle.walker_core.specs.declared.rows.Rows.{Rows}
use Rattle.host_pieces.specs.Fronts.{IsFront}
use Rattle.host_pieces.specs.Walks.{AreFirstRows}
use Rattle.host_pieces.proofs.Fronts.{front_more}

-- one more tile
pub rows_more : (r : Readings) (keys : List Key) (x y : Rows) (i : ℕ) (key : Key) → length (tiles_in x) ≡ i → slice_get keys i ≡ Some key → AreOf r y → tiles_in y ≡ tiles_in x ++ key ∷ [] → AreFirstRows r keys x → AreFirstRows r keys y
rows_more r keys x y i key n at of e first = record { of = of; front = subst (IsFront keys) (sym e) (front_more keys (tiles_in x) first.front i key n at) }
