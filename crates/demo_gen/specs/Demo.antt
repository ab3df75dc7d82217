-- The script of a number, whose commands follow the draws of a generator.
use Rattle.std.specs.Prelude.{ℕ, suc, zero, ◌+◌, ◌*◌, ◌/◌, ◌%◌, ◌==◌, pos, ◌-ℤ◌, Bool, true, if◌then◌else◌, List, [], ◌∷◌, ◌++◌, map}
use Rattle.geom_core.specs.Areas.{area}
use Rattle.pixel_core.specs.Rgba.{Rgba, rgba, clear, if_canonical}
use Rattle.pixel_core.specs.declared.blending.Op.{Op}
use Rattle.pixel_core.specs.declared.blending.Op.TheVariants.{Over, Erase, Multiply, Screen, Addition}
use Rattle.doc_model.specs.declared.job.Job.{Job}
use Rattle.doc_model.specs.declared.job.Job.TheVariants.{Dab, Move}
use Rattle.doc_model.specs.declared.job.Kind.TheVariants.{Con, Seq}
use Rattle.doc_model.specs.declared.tree.Change.TheVariants as change
use Rattle.doc_model.specs.declared.command.Command.{Command}
use Rattle.doc_model.specs.declared.command.Command.TheVariants as command
use Rattle.script_text.specs.Script.{Contents, contents}

-- the state after one more draw: a linear congruence, of 64 bits
unfoldable pub next : ℕ → ℕ
next s = (s * 6364136223846793005 + 1442695040888963407) % 18446744073709551616

-- the state after so many draws
abbrev pub later : ℕ → ℕ → ℕ
later zero s = s
later (suc j) s = next (later j s)

-- the number below n that a draw tells in that state
unfoldable pub told : ℕ → ℕ → ℕ
told s n = (s / 8589934592) % n

-- the number below n of the j-th draw from a state on
abbrev pub draw : ℕ → ℕ → ℕ → ℕ
draw s j n = told (later j s) n

-- the colour of a dab, by four draws
abbrev pub ink : ℕ → Rgba
ink s = if_canonical (draw s 1 256) (draw s 2 256) (draw s 3 256) (64 + draw s 4 192)

abbrev pub dab_op : ℕ → Op
dab_op n = if n == 0 then Erase else Over

-- the dab at a place of the six by four cells of 130 by 150 points
abbrev pub dab_job : ℕ → ℕ → Job
dab_job i s = Dab (pos (65 + 130 * (i % 6))) (pos (75 + 150 * (i / 6))) (draw s 1 60) true (ink (later 1 s)) (dab_op (draw s 6 8)) 255

-- the state after so many dabs
unfoldable pub after_dabs : ℕ → ℕ → ℕ
after_dabs zero s = s
after_dabs (suc i) s = later 6 (after_dabs i s)

-- the dabs at the first places
unfoldable pub dabs : ℕ → ℕ → ℕ → List Command
dabs k zero s = []
dabs k (suc i) s = dabs k i s ++ command.Add k Con (dab_job i (after_dabs i s)) ∷ []

abbrev pub move_job : ℕ → Job
move_job s = Move (area (pos (draw s 1 600)) (pos (draw s 2 400)) 200 200) (pos (draw s 3 201) -ℤ pos 100) (pos (draw s 4 201) -ℤ pos 100)

abbrev pub closing : ℕ → Command
closing k = if (k % 7) == 3 then command.Cancel k else command.End k

-- the layer of the stroke that begins in that state
abbrev pub layer : ℕ → ℕ
layer s = 3 + draw s 1 6

-- a stroke's commands: its start, 24 dabs, a move and its end
abbrev pub stroke : ℕ → ℕ → List Command
stroke k s = command.Stroke k (layer s) ((k % 10) == 0)
    ∷ (dabs k 24 (later 1 s) ++ command.Add k Seq (move_job (after_dabs 24 (later 1 s))) ∷ closing k ∷ [])

abbrev pub after_stroke : ℕ → ℕ
after_stroke s = later 4 (after_dabs 24 (later 1 s))

-- the command where the test passes
abbrev pub only_if : Bool → Command → List Command
only_if test c = if test then c ∷ [] else []

abbrev pub look_op : ℕ → Op
look_op n = if n == 0 then Over else if n == 1 then Multiply else if n == 2 then Screen else Addition

abbrev pub look : ℕ → ℕ → Command
look id s = command.Change (change.Look id (record { opacity = 100 + draw s 1 156; op = look_op (draw s 2 4); visible = true }))

-- what comes with the k-th stroke
abbrev pub block : ℕ → ℕ → List Command
block k s = stroke k s
    ++ (only_if ((k % 9) == 4) command.Undo
    ++ (only_if ((k % 18) == 4) command.Redo
    ++ (only_if ((k % 5) == 0) (look (layer s) (after_stroke s))
    ++ only_if ((k % 20) == 0) command.Export)))

abbrev pub after_block : ℕ → ℕ → ℕ
after_block k s = if (k % 5) == 0 then later 2 (after_stroke s) else after_stroke s

-- the state after the first n strokes and what comes with them
unfoldable pub after_blocks : ℕ → ℕ → ℕ
after_blocks zero s = s
after_blocks (suc n) s = after_block (suc n) (after_blocks n s)

-- the first n strokes and what comes with them
unfoldable pub blocks : ℕ → ℕ → List Command
blocks zero s = []
blocks (suc n) s = blocks n s ++ block (suc n) (after_blocks n s)

-- two groups, each with two layers, and two layers above them
unfoldable pub tree : List Command
tree = map command.Change (
    change.Group 1 0 0 ∷ change.Group 2 0 1
    ∷ change.Layer 3 1 0 clear ∷ change.Layer 4 1 1 clear ∷ change.Layer 5 2 0 clear ∷ change.Layer 6 2 1 clear
    ∷ change.Layer 7 0 2 clear ∷ change.Layer 8 0 3 clear ∷ [])

-- a tree of six layers and 40 strokes, on a white canvas
unfoldable pub demo : ℕ → Contents
demo number = contents (record { w = 800; h = 600; paper = rgba 255 255 255 255 }) (tree ++ blocks 40 number)
