-- Worked rows, by computing.
use Rattle.std.proofs.Common.{◌≡◌, refl, negsuc, ℕ, List, [], ◌∷◌, Some, None, pos, true, false, length, suc, zero, ◌+◌, ◌*◌, ◌/◌, ◌%◌}
use Rattle.pixel_core.specs.Rgba.{rgba, clear}
use Rattle.pixel_core.specs.Compose.{compose, mul}
use Rattle.pixel_core.specs.declared.blending.Op.TheVariants.{Over}
use Rattle.geom_core.specs.Areas.{area}
use Rattle.geom_core.specs.Grid.{cells}
use Rattle.doc_model.specs.declared.job.Job.TheVariants.{Fill, Move, Blur}
use Rattle.doc_model.specs.declared.job.Kind.TheVariants.{Con, Seq, Uni}
use Rattle.doc_model.specs.declared.canvas.Canvas.{Canvas}
use Rattle.doc_model.specs.declared.command.Command.TheVariants as command
use Rattle.doc_model.specs.declared.tree.Change.TheVariants as change
use Rattle.doc_model.specs.declared.command.Outcome.TheVariants as outcome
use Rattle.doc_model.specs.declared.tree.TreeFault.TheVariants.{Taken, NoNode, NotGroup, IntoItself, BadPlace}
use Rattle.doc_model.specs.declared.canvas.Walk.TheVariants.{Up, All}
use Rattle.doc_model.specs.declared.canvas.Patch.{Patch}
use Rattle.doc_model.specs.Updates.{queued}
use Rattle.doc_model.proofs.LayerLaws.{at-plain, default-plain}
use Rattle.doc_model.proofs.JobLaws.{at-apply, default-apply}
use Rattle.doc_model.specs.Strokes.{conflict, entries}
use Rattle.doc_model.specs.Jobs.{checks}
use Rattle.doc_model.specs.Meaning.{meaning, Story}

red_fill : conflict ((Con, Fill (area (pos 0) (pos 0) 2 1) (rgba 255 0 0 255) Over 255)
    ∷ (Con, Fill (area (pos 2) (pos 0) 1 1) (rgba 255 0 0 255) Over 255)
    ∷ (Con, Fill (area (pos 1) (pos 0) 1 1) (rgba 0 0 255 255) Over 255) ∷ []) ≡ Some (1, 3)
unfolding conflict
red_fill = refl

uni : conflict ((Uni, Fill (area (pos 0) (pos 0) 2 1) (rgba 255 0 0 255) Over 255)
    ∷ (Uni, Fill (area (pos 1) (pos 0) 1 1) (rgba 0 0 255 255) Over 255) ∷ []) ≡ None
unfolding conflict
uni = refl

con_uni : conflict ((Con, Fill (area (pos 0) (pos 0) 2 1) (rgba 255 0 0 255) Over 255)
    ∷ (Uni, Fill (area (pos 1) (pos 0) 1 1) (rgba 0 0 255 255) Over 255) ∷ []) ≡ Some (1, 2)
unfolding conflict
con_uni = refl

white : Canvas
white = record { w = 1; h = 1; paper = rgba 255 255 255 255 }

tiny : Story
tiny = meaning white (entries (
    command.Change (change.Layer 1 0 0 clear)
    ∷ command.Stroke 1 1 false
    ∷ command.Add 1 Seq (Fill (area (pos 0) (pos 0) 1 1) (rgba 255 0 0 128) Over 255)
    ∷ command.End 1
    ∷ command.Export ∷ []))

tiny_frames : tiny.frames ≡ ((255 ∷ 127 ∷ 127 ∷ []) ∷ []) ∷ []
unfolding tiny white conflict compose mul
tiny_frames = rw (at-apply, at-plain) refl

under : Story
under = meaning white (entries (
    command.Change (change.Group 1 0 0)
    ∷ command.Change (change.Layer 2 1 0 clear)
    ∷ command.Change (change.Look 1 (record { opacity = 77; op = Over; visible = true }))
    ∷ command.Stroke 1 2 false
    ∷ command.Add 1 Seq (Fill (area (pos 0) (pos 0) 1 1) (rgba 0 0 0 255) Over 255)
    ∷ command.End 1
    ∷ command.Change (change.Remove 1)
    ∷ command.Export
    ∷ command.Undo
    ∷ command.Export ∷ []))

under_frames : under.frames ≡ ((255 ∷ 255 ∷ 255 ∷ []) ∷ []) ∷ ((178 ∷ 178 ∷ 178 ∷ []) ∷ []) ∷ []
unfolding under white conflict compose mul
under_frames = rw (at-apply, at-plain) refl

-- refusals
refused : Story
refused = meaning white (entries (
    command.Change (change.Group 1 0 0)
    ∷ command.Change (change.Layer 2 1 0 clear)
    ∷ command.Change (change.Layer 2 0 0 clear)
    ∷ command.Change (change.Layer 3 9 0 clear)
    ∷ command.Change (change.Layer 3 2 0 clear)
    ∷ command.Change (change.Layer 3 0 2 clear)
    ∷ command.Change (change.Place 1 1 0)
    ∷ command.Change (change.Remove 7)
    ∷ command.Stroke 1 1 false ∷ command.End 1
    ∷ command.Stroke 2 8 false ∷ command.End 2 ∷ []))

refused_outcomes : refused.outcomes ≡
    outcome.Done ∷ outcome.Done ∷ outcome.Tree (Taken 2) ∷ outcome.Tree (NoNode 9) ∷ outcome.Tree (NotGroup 2) ∷ outcome.Tree (BadPlace 2) ∷ outcome.Tree (IntoItself 1) ∷ outcome.Tree (NoNode 7)
    ∷ outcome.NotPaint 1 ∷ outcome.NoLayer 8 ∷ []
unfolding refused white conflict
refused_outcomes = refl

-- the pixels (256 i, 256 j), n of them in row order from the k-th of 8 by 8
abbrev queue_of : ℕ → ℕ → List Patch → List Patch
queue_of k zero ps = ps
queue_of k (suc n) ps = queue_of (k + 1) n (queued_by ps k)
  where
    queued_by : List Patch → ℕ → List Patch
    queued_by ps k = queued (area (pos 0) (pos 0) 2048 2048) ps (Up 0) (area (pos (256 * (k % 8))) (pos (256 * (k / 8))) 1 1)

four : length (queue_of 0 4 []) ≡ 4
unfolding queued cells
four = refl

eight : length (queue_of 0 8 []) ≡ 8
unfolding queued cells
eight = refl

spread : length (queued (area (pos 0) (pos 0) 2048 2048) (queue_of 0 4 []) (Up 3) (area (pos 5) (pos 5) 1793 300)) ≡ 20
unfolding queued cells
spread = refl

full : length (queue_of 0 64 []) ≡ 64
unfolding queued cells
full = refl

last_of : List Patch → Patch
last_of [] = record { walk = All; rect = area (pos 0) (pos 0) 0 0 }
last_of (p ∷ []) = p
last_of (p ∷ q ∷ ps) = last_of (q ∷ ps)

overflow : last_of (queued (area (pos 0) (pos 0) 2048 2048) (queue_of 0 64 []) (Up 3) (area (pos 5) (pos 5) 1 1)) ≡ record { walk = All; rect = area (pos 1792) (pos 1792) 1 1 }
unfolding queued cells last_of
overflow = refl

-- a layer with a default pixel, and a move that leaves it behind
green : Story
green = meaning (record white { w = 2 }) (entries (
    command.Change (change.Layer 1 0 0 (rgba 0 255 0 255))
    ∷ command.Stroke 1 1 false
    ∷ command.Add 1 Seq (Fill (area (pos 0) (pos 0) 1 1) (rgba 255 0 0 255) Over 255)
    ∷ command.Add 1 Seq (Move (area (pos 0) (pos 0) 1 1) (pos 1) (pos 0))
    ∷ command.End 1
    ∷ command.Export
    ∷ command.Undo
    ∷ command.Export ∷ []))

green_frames : green.frames ≡ ((0 ∷ 255 ∷ 0 ∷ []) ∷ (255 ∷ 0 ∷ 0 ∷ []) ∷ []) ∷ ((0 ∷ 255 ∷ 0 ∷ []) ∷ (0 ∷ 255 ∷ 0 ∷ []) ∷ []) ∷ []
unfolding green white conflict compose mul
green_frames = simp (at-apply, at-plain, default-apply, default-plain)

-- blurs that read what the other writes conflict, and blurs that only read the same don't
near_blurs : conflict ((Con, Blur (area (pos 0) (pos 0) 1 1) 1) ∷ (Con, Blur (area (pos 1) (pos 0) 1 1) 1) ∷ []) ≡ Some (1, 2)
unfolding conflict
near_blurs = refl

far_blurs : conflict ((Con, Blur (area (pos 0) (pos 0) 1 1) 1) ∷ (Con, Blur (area (pos 2) (pos 0) 1 1) 1) ∷ []) ≡ None
unfolding conflict
far_blurs = refl

blurred : Story
blurred = meaning (record white { w = 3 }) (entries (
    command.Change (change.Layer 1 0 0 clear)
    ∷ command.Stroke 1 1 false
    ∷ command.Add 1 Seq (Fill (area (pos 1) (pos 0) 1 1) (rgba 255 0 0 255) Over 255)
    ∷ command.Add 1 Seq (Blur (area (pos 0) (pos 0) 3 1) 1)
    ∷ command.End 1
    ∷ command.Export ∷ []))

blurred_frames : blurred.frames ≡ ((255 ∷ 227 ∷ 227 ∷ []) ∷ (255 ∷ 227 ∷ 227 ∷ []) ∷ (255 ∷ 227 ∷ 227 ∷ []) ∷ []) ∷ []
unfolding blurred white conflict compose mul
blurred_frames = simp (at-apply, at-plain)

-- an id that is used again is another layer
again : Story
again = meaning white (entries (
    command.Change (change.Layer 1 0 0 clear)
    ∷ command.Stroke 1 1 false
    ∷ command.Add 1 Seq (Fill (area (pos 0) (pos 0) 1 1) (rgba 255 0 0 255) Over 255)
    ∷ command.End 1
    ∷ command.Change (change.Remove 1)
    ∷ command.Change (change.Layer 1 0 0 clear)
    ∷ command.Stroke 2 1 false
    ∷ command.Add 2 Seq (Fill (area (pos 0) (pos 0) 1 1) (rgba 0 0 255 255) Over 255)
    ∷ command.End 2
    ∷ command.Undo ∷ command.Undo ∷ command.Undo
    ∷ command.Export
    ∷ command.Redo ∷ command.Redo ∷ command.Redo
    ∷ command.Export ∷ []))

again_frames : again.frames ≡ ((255 ∷ 0 ∷ 0 ∷ []) ∷ []) ∷ ((0 ∷ 0 ∷ 255 ∷ []) ∷ []) ∷ []
unfolding again white conflict compose mul
again_frames = simp (at-apply, at-plain)

-- a blur reads beyond what it writes, and no read may leave the world
blur_out : checks (Blur (area (negsuc 16383) (pos 0) 1 1) 1) ≡ false
blur_out = refl
