-- The patches that wait, and the walks at work.
use Rattle.std.specs.Prelude.{◌≡◌, ℕ, ◌==◌, Bool, true, ◌||◌, ◌&&◌, not, List, [], ◌∷◌, map}
use Rattle.std.specs.List.{list_all, AllByRecursion}
use Rattle.geom_core.specs.Areas.{Area, holds, meets, Point}
use Rattle.doc_model.specs.declared.canvas.Walk.{Walk}
use Rattle.doc_model.specs.declared.canvas.Walk.TheVariants.{Up, All}
use Rattle.doc_model.specs.declared.canvas.Patch.{Patch}
use Rattle.doc_model.specs.Forest.{is_group}
use Rattle.doc_model.specs.Picture.{Doc, canvas_area}
use Rattle.doc_model.specs.Queues.{IsQueue}
use Rattle.machine_model.specs.State.{Child, Slot, Walks, State, head_stroke}
use Rattle.machine_model.specs.Slots.{no_walker}
use Rattle.machine_model.specs.Groups.{children_of, path_of}
use Rattle.machine_model.specs.Guards.{is_exclusive}

-- the walk recomposes a group of the document and those above it, or all
abbrev pub IsGroupOf : Doc → Walk → Type 0
IsGroupOf doc (Up g) = ((g == 0) || is_group g doc) ≡ true
IsGroupOf doc All = Unit {0}

-- these children are those ones, with their looks
abbrev pub SameChildren : List Child → List Child → Type 0
SameChildren [] [] = Unit {0}
SameChildren (a ∷ xs) (b ∷ ys) = (a.id ≡ b.id) × (a.look ≡ b.look) × SameChildren xs ys
SameChildren [] (b ∷ ys) = ⊥
SameChildren (a ∷ xs) [] = ⊥

-- the path of a walk at work is that of now, and its shot has the children of now
abbrev pub WalkStands : State → Slot → Type 0
WalkStands s (Walks w) =
    IsGroupOf s.present w.patch.walk
    × (map (λ (e : ℕ × List Child). e.0) w.shot ≡ path_of w.patch.walk s.present)
    × AllByRecursion (λ (e : ℕ × List Child). SameChildren e.1 (children_of s e.0)) w.shot
WalkStands s slot = Unit {0}

-- whether no walks meet in the two slots
abbrev pub walks_apart : Slot → Slot → Bool
walks_apart (Walks a) (Walks b) = not (meets a.patch.rect b.patch.rect)
walks_apart a b = true

-- whether no patches of running walks meet
abbrev pub all_apart : List Slot → Bool
all_apart [] = true
all_apart (slot ∷ slots) = list_all (walks_apart slot) slots && all_apart slots

-- the list of patches, and the walks at work
pub record Walking (s : State) : Type 0 where
  pub queue : IsQueue (canvas_area s.canvas) s.updates
  pub apart : all_apart s.slots ≡ true
  pub groups : AllByRecursion (λ (p : Patch). IsGroupOf s.present p.walk) s.updates
  pub walks : AllByRecursion (WalkStands s) s.slots
  pub alone : is_exclusive (head_stroke s) s.way ≡ true → no_walker s ≡ true

-- a running walk's patch lies in the canvas
abbrev pub WalkInside : Area → Slot → Type 0
WalkInside canvas (Walks w) = (q : Point) → holds w.patch.rect q ≡ true → holds canvas q ≡ true
WalkInside canvas slot = Unit {0}
