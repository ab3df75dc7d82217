-- What a walk reads, and what it computes.
use Rattle.std.specs.Prelude.{ℕ, ◌==◌, if◌then◌else◌, List, [], ◌∷◌, map}
use Rattle.pixel_core.specs.Rgba.{Rgba, clear}
use Rattle.geom_core.specs.Areas.{Area, Point}
use Rattle.doc_model.specs.declared.canvas.Patch.{Patch}
use Rattle.doc_model.specs.Layers.{at}
use Rattle.doc_model.specs.Shots.{shot_of}
use Rattle.doc_model.specs.Picture.{with_look}
use Rattle.machine_model.specs.State.{Child, State}
use Rattle.machine_model.specs.Groups.{children_of, path_of}

-- a walk's values at a point, each group's after those of the groups in it
abbrev pub value_in : List (ℕ × Rgba) → Child → Point → Rgba
value_in [] c p = at c.pixels p
value_in (v ∷ vs) c p = if v.0 == c.id then v.1 else value_in vs c p

-- a group's children laid on a backdrop, those on the path with their values
abbrev pub walk_folded : List (ℕ × Rgba) → List Child → Point → Rgba → Rgba
walk_folded values [] p backdrop = backdrop
walk_folded values (c ∷ cs) p backdrop = walk_folded values cs p (with_look c.look (value_in values c p) backdrop)

-- the values of the groups of a shot, the last one first
abbrev pub walk_values : List (ℕ × List Child) → List (ℕ × Rgba) → Point → List (ℕ × Rgba)
walk_values [] values p = values
walk_values (e ∷ more) values p = walk_values more ((e.0, walk_folded values e.1 p clear) ∷ values) p

-- the value that was computed for a group
abbrev pub looked_up : List (ℕ × Rgba) → ℕ → Rgba
looked_up [] g = clear
looked_up (v ∷ vs) g = if v.0 == g then v.1 else looked_up vs g

-- the walk's value of a group on its path
unfoldable pub walk_value : List (ℕ × List Child) → ℕ → Point → Rgba
walk_value shot g p = looked_up (walk_values shot [] p) g

-- a child with its pixels on the rectangle alone
abbrev pub cut_child : Area → Child → Child
cut_child rect c = record c { pixels = shot_of (rect ∷ []) c.pixels }

-- each group with its children, cut to a rectangle
abbrev pub shots_of : State → Area → List ℕ → List (ℕ × List Child)
shots_of s rect [] = []
shots_of s rect (g ∷ gs) = (g, map (cut_child rect) (children_of s g)) ∷ shots_of s rect gs

-- what a walk of the patch reads, as things stand
abbrev pub walk_shot : State → Patch → List (ℕ × List Child)
walk_shot s p = shots_of s p.rect (path_of p.walk s.present)
