-- Pairs of a group and a tile that a walk lays, one after another.
use Rattle.std.specs.Prelude.{◌≡◌, ◌≤◌, ℕ, cond, List, [], ◌∷◌, ◌++◌, map, length}
use Rattle.std.specs.Ordering.{nat_cmp}
use Rattle.std.specs.List.{list_any}
use Rattle.std.specs.FinMap.{FinMap}
use Rattle.geom_core.specs.Grid.{Key}
use Rattle.doc_model.specs.Layers.{Layer}
use Rattle.machine_model.specs.Guards.{same_pair}
use Rattle.machine_model.specs.Walks.{walk_value}
use Rattle.walker_core.specs.Readings.{Readings}
use Rattle.group_caches.specs.Kept.{with_picture}
use Rattle.filmed_caches.specs.Filmed.{Filmed}

-- the groups on one tile
abbrev pub pairs_at : List ℕ → Key → List (ℕ × Key)
pairs_at path key = map (λ g. (g, key)) path

-- those of the pairs that aren't published, each once
abbrev pub lacking : List (ℕ × Key) → List (ℕ × Key) → List (ℕ × Key)
lacking published [] = []
lacking published (p ∷ ps) = cond (list_any (same_pair p.0 p.1) published) (lacking published ps) (p ∷ lacking (p ∷ published) ps)

-- the caches of a desk, and the pairs that a walk has published
pub record Laid : Type 0 where
  pub caches : FinMap nat_cmp Layer
  pub published : List (ℕ × Key)

-- these caches and pairs
abbrev pub laid_as : FinMap nat_cmp Layer → List (ℕ × Key) → Laid
laid_as caches published = record { caches = caches; published = published }

-- the caches of a film, and these pairs
abbrev pub laid_in : Filmed → List (ℕ × Key) → Laid
laid_in filmed published = laid_as filmed.caches published

-- the walk's picture of a group on a tile is laid on the group's cache, and the pair is published
abbrev pub laid : Readings → ℕ × Key → Laid → Laid
laid r p l = record { caches = with_picture l.caches p.0 r.patch.rect p.1 (walk_value r.groups p.0); published = p ∷ l.published }

-- the pairs are laid, one after another
abbrev pub laid_all : Readings → List (ℕ × Key) → Laid → Laid
laid_all r [] l = l
laid_all r (p ∷ ps) l = laid_all r ps (laid r p l)

-- those of the pairs that weren't published are laid
abbrev pub Lays : Readings → List (ℕ × Key) → Laid → Laid → Type 0
Lays r pairs old new = new ≡ laid_all r (lacking old.published pairs) old

-- some of these are, from the front on
pub record LaysFront (r : Readings) (pairs : List (ℕ × Key)) (old new : Laid) : Type 0 where
  pub front : List (ℕ × Key)
  pub rest : List (ℕ × Key)
  pub are : front ++ rest ≡ lacking old.published pairs
  pub lays : new ≡ laid_all r front old

-- and some of them are left
pub record LaysSome (r : Readings) (pairs : List (ℕ × Key)) (old new : Laid) : Type 0 where
  pub part : LaysFront r pairs old new
  pub left : 1 ≤ length part.rest
