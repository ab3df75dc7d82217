-- Whole scripts and what they mean, by computing.
use Rattle.std.proofs.Common.{◌≡◌, refl, List, [], ◌∷◌, pos, true, false, ℕ}
use Rattle.pixel_core.specs.Rgba.{Rgba, rgba, clear}
use Rattle.pixel_core.specs.Compose.{compose, mul}
use Rattle.pixel_core.specs.declared.blending.Op.TheVariants.{Over, Erase}
use Rattle.geom_core.specs.Areas.{area}
use Rattle.doc_model.specs.declared.job.Job.{Job}
use Rattle.doc_model.specs.declared.job.Job.TheVariants.{Fill, Move}
use Rattle.doc_model.specs.declared.job.Kind.TheVariants.{Con, Seq, Bar, Uni}
use Rattle.doc_model.specs.declared.command.Command.{Command}
use Rattle.doc_model.specs.declared.command.Command.TheVariants.{Change, Stroke, Add, End, Cancel, Undo, Redo, Purge, Export}
use Rattle.doc_model.specs.declared.command.Outcome.TheVariants as outcome
use Rattle.doc_model.specs.declared.command.Outcome.TheVariants.{Done}
use Rattle.doc_model.specs.declared.tree.Change.TheVariants as change
use Rattle.doc_model.proofs.LayerLaws.{at-plain, default-plain}
use Rattle.doc_model.proofs.JobLaws.{at-apply, default-apply}
use Rattle.doc_model.specs.Strokes.{conflict, entries}
use Rattle.doc_model.specs.Meaning.{meaning, Story, some_refused}

abbrev red : Rgba
red = rgba 255 0 0 255

abbrev blue : Rgba
blue = rgba 0 0 255 255

-- a row of n points on white paper
abbrev on_row : ℕ → List Command → Story
on_row n commands = meaning (record { w = n; h = 1; paper = rgba 255 255 255 255 }) (entries commands)

abbrev layer : ℕ → Command
layer id = Change (change.Layer id 0 0 clear)

abbrev fill : ℕ → ℕ → Rgba → Job
fill x w colour = Fill (area (pos x) (pos 0) w 1) colour Over 255

abbrev white_pixel : List ℕ
white_pixel = 255 ∷ 255 ∷ 255 ∷ []

abbrev red_pixel : List ℕ
red_pixel = 255 ∷ 0 ∷ 0 ∷ []

abbrev blue_pixel : List ℕ
blue_pixel = 0 ∷ 0 ∷ 255 ∷ []

-- two fills side by side, which may run at once
halves : Story
halves = on_row 4 (layer 1 ∷ Stroke 1 1 false ∷ Add 1 Con (fill 0 2 red) ∷ Add 1 Con (fill 2 2 blue) ∷ End 1 ∷ Export ∷ [])

halves_frames : halves.frames ≡ (red_pixel ∷ red_pixel ∷ blue_pixel ∷ blue_pixel ∷ []) ∷ []
unfolding halves conflict compose mul
halves_frames = simp (at-apply, at-plain)

-- a move onto itself, one column on
moved_on : Story
moved_on = on_row 4 (layer 1 ∷ Stroke 1 1 false ∷ Add 1 Seq (fill 0 3 red) ∷ Add 1 Seq (Move (area (pos 0) (pos 0) 3 1) (pos 1) (pos 0)) ∷ End 1 ∷ Export ∷ [])

moved_on_frames : moved_on.frames ≡ (white_pixel ∷ red_pixel ∷ red_pixel ∷ red_pixel ∷ []) ∷ []
unfolding moved_on conflict compose mul
moved_on_frames = simp (at-apply, at-plain, default-apply, default-plain)

-- a cancelled stroke after an undo leaves the future, so a redo brings back what was undone
cancelled : Story
cancelled = on_row 3 (layer 1 ∷ Stroke 1 1 false ∷ Add 1 Seq (fill 0 3 red) ∷ End 1 ∷ Undo
    ∷ Stroke 2 1 false ∷ Add 2 Con (fill 0 1 blue) ∷ Add 2 Con (fill 1 1 blue) ∷ Add 2 Con (fill 2 1 blue) ∷ Cancel 2 ∷ Redo ∷ Export ∷ [])

cancelled_frames : cancelled.frames ≡ (red_pixel ∷ red_pixel ∷ red_pixel ∷ []) ∷ []
unfolding cancelled conflict compose mul
cancelled_frames = simp (at-apply, at-plain)

cancelled_outcomes : cancelled.outcomes ≡ Done ∷ Done ∷ Done ∷ outcome.Cancelled ∷ Done ∷ Done ∷ []
unfolding cancelled conflict
cancelled_outcomes = refl

cancelled_refuses : some_refused cancelled.outcomes ≡ false
unfolding cancelled conflict
cancelled_refuses = refl

-- a concurrent job that paints over another of its run refuses the whole stroke, also where it was cancelled
overlapping : Command → Story
overlapping close = on_row 3 (layer 1 ∷ Stroke 1 1 false ∷ Add 1 Con (fill 0 2 red) ∷ Add 1 Con (fill 2 1 red) ∷ Add 1 Con (fill 1 1 blue) ∷ close ∷ Export ∷ [])

overlapping_frames : (overlapping (End 1)).frames ≡ (white_pixel ∷ white_pixel ∷ white_pixel ∷ []) ∷ []
unfolding overlapping conflict compose mul
overlapping_frames = simp (at-plain)

overlapping_outcomes : (overlapping (End 1)).outcomes ≡ Done ∷ outcome.Overlap 1 3 ∷ Done ∷ []
unfolding overlapping conflict
overlapping_outcomes = refl

overlapping_cancelled : (overlapping (Cancel 1)).outcomes ≡ Done ∷ outcome.Overlap 1 3 ∷ Done ∷ []
unfolding overlapping conflict
overlapping_cancelled = refl

overlapping_refuses : some_refused (overlapping (End 1)).outcomes ≡ true
unfolding overlapping conflict
overlapping_refuses = refl

-- uniquely concurrent jobs may paint over each other, in list order
unique : Story
unique = on_row 2 (layer 1 ∷ Stroke 1 1 false ∷ Add 1 Uni (fill 0 2 red) ∷ Add 1 Uni (fill 1 1 blue) ∷ End 1 ∷ Export ∷ [])

unique_frames : unique.frames ≡ (red_pixel ∷ blue_pixel ∷ []) ∷ []
unfolding unique conflict compose mul
unique_frames = simp (at-apply, at-plain)

-- nothing to undo
nothing_undone : Story
nothing_undone = on_row 1 (Undo ∷ Export ∷ [])

nothing_undone_outcomes : nothing_undone.outcomes ≡ outcome.NothingToUndo ∷ Done ∷ []
unfolding nothing_undone
nothing_undone_outcomes = refl

nothing_undone_frames : nothing_undone.frames ≡ (white_pixel ∷ []) ∷ []
unfolding nothing_undone compose mul
nothing_undone_frames = refl

-- back and forth
back_and_forth : Story
back_and_forth = on_row 1 (layer 1 ∷ Stroke 1 1 false ∷ Add 1 Seq (fill 0 1 red) ∷ End 1 ∷ Export ∷ Undo ∷ Export ∷ Redo ∷ Export ∷ [])

back_and_forth_frames : back_and_forth.frames ≡ (red_pixel ∷ []) ∷ (white_pixel ∷ []) ∷ (red_pixel ∷ []) ∷ []
unfolding back_and_forth conflict compose mul
back_and_forth_frames = simp (at-apply, at-plain)

-- a barrier after a concurrent job of an exclusive stroke
barrier : Story
barrier = on_row 2 (layer 1 ∷ Stroke 1 1 true ∷ Add 1 Con (fill 0 1 red) ∷ Add 1 Bar (fill 1 1 blue) ∷ End 1 ∷ Export ∷ [])

barrier_frames : barrier.frames ≡ (red_pixel ∷ blue_pixel ∷ []) ∷ []
unfolding barrier conflict compose mul
barrier_frames = simp (at-apply, at-plain)

-- a purge keeps the newest, and a change empties the future
purged : Story
purged = on_row 1 (layer 1 ∷ layer 2 ∷ Purge 1 ∷ Undo ∷ Undo ∷ [])

purged_outcomes : purged.outcomes ≡ Done ∷ Done ∷ Done ∷ Done ∷ outcome.NothingToUndo ∷ []
unfolding purged
purged_outcomes = refl

emptied : Story
emptied = on_row 1 (layer 1 ∷ Undo ∷ layer 2 ∷ Redo ∷ [])

emptied_outcomes : emptied.outcomes ≡ Done ∷ Done ∷ Done ∷ outcome.NothingToRedo ∷ []
unfolding emptied
emptied_outcomes = refl

-- two strokes fed in turns: the one that began first comes first
in_turns : Story
in_turns = on_row 1 (layer 1 ∷ Stroke 1 1 false ∷ Stroke 2 1 false ∷ Add 2 Seq (fill 0 1 blue) ∷ End 2 ∷ Add 1 Seq (fill 0 1 red) ∷ End 1 ∷ Export ∷ [])

in_turns_frames : in_turns.frames ≡ (blue_pixel ∷ []) ∷ []
unfolding in_turns conflict compose mul
in_turns_frames = simp (at-apply, at-plain)

-- a new layer shows its default pixel, until that is erased
erased : Story
erased = on_row 1 (Change (change.Layer 1 0 0 (rgba 0 255 0 255)) ∷ Export
    ∷ Stroke 1 1 false ∷ Add 1 Seq (Fill (area (pos 0) (pos 0) 1 1) (rgba 255 255 255 255) Erase 255) ∷ End 1 ∷ Export ∷ [])

erased_frames : erased.frames ≡ ((0 ∷ 255 ∷ 0 ∷ []) ∷ []) ∷ (white_pixel ∷ []) ∷ []
unfolding erased conflict compose mul
erased_frames = simp (at-apply, at-plain)

-- an id that is used again, with a past that was cut short
cut_short : Story
cut_short = on_row 1 (layer 1 ∷ Stroke 1 1 false ∷ Add 1 Seq (fill 0 1 red) ∷ End 1 ∷ Change (change.Remove 1) ∷ layer 1
    ∷ Stroke 2 1 false ∷ Add 2 Seq (fill 0 1 blue) ∷ End 2 ∷ Purge 2 ∷ Undo ∷ Undo ∷ Undo ∷ Export ∷ Redo ∷ Redo ∷ Redo ∷ Export ∷ [])

cut_short_frames : cut_short.frames ≡ (white_pixel ∷ []) ∷ (blue_pixel ∷ []) ∷ []
unfolding cut_short conflict compose mul
cut_short_frames = simp (at-apply, at-plain)

cut_short_outcomes : cut_short.outcomes ≡ Done ∷ Done ∷ Done ∷ Done ∷ Done ∷ Done ∷ Done ∷ Done ∷ outcome.NothingToUndo ∷ Done ∷ Done ∷ Done ∷ outcome.NothingToRedo ∷ Done ∷ []
unfolding cut_short conflict
cut_short_outcomes = refl
