-- Shots of caches, and parts that are damaged.
use Rattle.std.specs.Prelude.{◌≡◌, ℕ, true, List, [], ◌∷◌}
use Rattle.std.specs.Ordering.{nat_cmp}
use Rattle.std.specs.FinMap.{FinMap}
use Rattle.geom_core.specs.Areas.{Area, Point, holds}
use Rattle.frame_core.specs.Damage.{Parts, is_damaged}
use Rattle.tile_core.specs.Shots.{Sight, sight_at}
use Rattle.walker_core.specs.Knowing.{is_stale}
use Rattle.walker_core.specs.declared.known.Damaged.{Damaged}
use Rattle.doc_model.specs.Layers.{Layer}
use Rattle.desk_core.specs.UpToDate.{cached_at}

-- each group has a shot that shows its cache at the point
abbrev pub ShowCaches : FinMap nat_cmp Layer → List ℕ → List Sight → Point → Type 0
ShowCaches caches [] shots p = Unit {0}
ShowCaches caches (g ∷ gs) [] p = ⊥
ShowCaches caches (g ∷ gs) (s ∷ ss) p = (sight_at s p ≡ cached_at caches p g) × ShowCaches caches gs ss p

-- so it is at each point of the rectangle
abbrev pub ShowCachesOn : Area → FinMap nat_cmp Layer → List ℕ → List Sight → Type 0
ShowCachesOn a caches groups shots = (p : Point) → holds a p ≡ true → ShowCaches caches groups shots p

-- of the points of the rectangle the parts hold just those that are damaged
abbrev pub TellDamage : Area → Parts → List Damaged → Type 0
TellDamage a damage parts = (p : Point) → holds a p ≡ true → is_stale parts p ≡ is_damaged damage p
