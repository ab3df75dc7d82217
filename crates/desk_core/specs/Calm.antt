-- Walks that compose what is there.
use Rattle.std.specs.Prelude.{◌≡◌, ℕ, Bool, true, Some, List, map, slice_get}
use Rattle.std.specs.Ordering.{nat_cmp}
use Rattle.std.specs.FinMap.{FinMap}
use Rattle.std.specs.List.{list_any, AllByRecursion}
use Rattle.geom_core.specs.Areas.{Area, holds, Point}
use Rattle.geom_core.specs.Grid.{key_of}
use Rattle.doc_model.specs.declared.canvas.Walk.TheVariants.{All}
use Rattle.doc_model.specs.Layers.{Layer}
use Rattle.doc_model.specs.Picture.{Doc}
use Rattle.machine_model.specs.State.{Child, Walker, Slot, Walks, State}
use Rattle.machine_model.specs.Caches.{SamePixels}
use Rattle.machine_model.specs.Groups.{with_pixels, nodes_in}
use Rattle.machine_model.specs.Guards.{same_pair}
use Rattle.machine_model.specs.Slots.{no_painter}
use Rattle.machine_model.specs.Walks.{walk_value}
use Rattle.desk_core.specs.UpToDate.{cached_at}

-- at the point a walk has published of a group what is in the group's cache, and of the children that it doesn't compose it has the pixels of now
pub record ReadsNow (doc : Doc) (caches : FinMap nat_cmp Layer) (w : Walker) (g : ℕ) (read : List Child) (p : Point) : Type 0 where
  pub published : list_any (same_pair g (key_of p)) w.published ≡ true → cached_at caches p g ≡ walk_value w.shot g p
  pub current : SamePixels (map (λ (e : ℕ × List Child). e.0) w.shot) read (with_pixels caches (nodes_in g doc)) p

-- so it is for each point and group of a walk in a slot
abbrev pub IsRipe : Doc → FinMap nat_cmp Layer → Slot → Type 0
IsRipe doc caches (Walks w) = (p : Point) → holds w.patch.rect p ≡ true → AllByRecursion (λ (e : ℕ × List Child). ReadsNow doc caches w e.0 e.1 p) w.shot
IsRipe doc caches slot = Unit {0}

-- no job is at work, and every walk at work composes what is there
pub record IsCalm (s : State) : Type 0 where
  pub painters : no_painter s ≡ true
  pub ripe : AllByRecursion (IsRipe s.present s.caches) s.slots

-- where it is known to be calm, the walk in the slot composes all groups on the rectangle
abbrev pub IsRenewed : State → Bool → ℕ → Area → Type 0
IsRenewed s calm place a = (calm ≡ true) × ((w : Walker) → slice_get s.slots place ≡ Some (Walks w) → (w.patch.walk ≡ All) × (w.patch.rect ≡ a))
