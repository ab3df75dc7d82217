-- Lines behind their words, each with the first field at which reading it fails.
use Rattle.std.proofs.Common.{ℕ, suc, Bool, true, false, cond, List, [], ◌∷◌, length, Option, None, refl, inl, inr}
use Rattle.std.specs.Prelude.{Result, Ok, Err, ◌-◌, nat_le}
use Rattle.std.specs.List.{list_all}
use Rattle.geom_core.specs.Areas.{Point, lies_in, world}
use Rattle.doc_model.specs.declared.job.Job.{Job}
use Rattle.doc_model.specs.declared.job.Job.TheVariants as job
use Rattle.doc_model.specs.declared.command.Command.TheVariants as command
use Rattle.doc_model.specs.Jobs.{checks, squares}
use Rattle.doc_model.specs.Trails.{Trail, centres, trail}
use Rattle.script_lines.specs.declared.cause.Cause.{Cause}
use Rattle.script_lines.specs.declared.cause.Cause.TheVariants.{FieldCount, OutOfWorld, TooManyDabs}
use Rattle.script_lines.specs.Values.{natural, rgb, rgba, ◌>>=◌}
use Rattle.script_forms.specs.declared.words.JobWord.{JobWord}
use Rattle.script_forms.specs.declared.words.JobWord.TheVariants.{Fill, Dab, Move, Blur, Track}
use Rattle.script_forms.specs.declared.words.Word.{Word}
use Rattle.script_forms.specs.declared.words.Word.TheVariants.{Layer, Group, Remove, Place, Look, Stroke, Paint, End, Cancel, Undo, Redo, Purge, Export}
use Rattle.script_forms.specs.Forms.{canvas, command_of, exclusive_of, id_of, seen_of, stroke_number}
use Rattle.script_forms.specs.Jobs.{are_points, area_of, cell_at, checked, distance, drawn, Fields, ink, job_fields, job_of, kind_of, measured, op_of, outline, paint, path, points_at, polyline, stamp, tip, track, trail_of}
use Rattle.script_fields.specs.Sorts.{command_sorts, job_sorts, sorts, trail as trail_sorts}
use Rattle.script_fields.specs.declared.form.Form.TheVariants as form
use Rattle.script_fields.specs.Fields.{fault_from}
use Rattle.script_fields.specs.Laws.{IsTold}
use Rattle.script_fields.proofs.Told.{fine, of_line, told_assoc, told_if, told_then}
use Rattle.script_fields.proofs.Parts.{told_cell, told_ink, told_outline, told_points, told_sides, told_spot, told_stamp, told_tip}

-- a job that leaves the world
told_checked : {T : Type 0} (j : Job) (h : Job → Result T Cause) → ((j : Job) (fault : Option (ℕ × Cause)) → IsTold (h j) fault) → (fault : Option (ℕ × Cause)) → IsTold (checked j >>= h) fault
told_checked j h f fault = go (checks j)
  where
    go : (b : Bool) → IsTold (cond b (Ok j) (Err OutOfWorld) >>= h) fault
    go true = f j fault
    go false = of_line OutOfWorld fault (inr (inl refl))

pub told_canvas : (fields : Fields) → IsTold (canvas fields) (fault_from 2 (sorts form.Canvas) fields)
unfolding canvas
told_canvas (width ∷ height ∷ []) = told_sides width height _ 2 None (λ s. fine _ None)
told_canvas (width ∷ height ∷ colour ∷ []) = told_sides width height _ 2 _ (λ s. told_then (rgb colour) _ 4 None (λ p. fine _ None))
told_canvas fields = of_line FieldCount (fault_from 2 (sorts form.Canvas) fields) (inl refl)

-- a track or a path with too many dabs
told_measured : {T : Type 0} (t : Trail) (h : Trail → Result T Cause) → ((t : Trail) (fault : Option (ℕ × Cause)) → IsTold (h t) fault) → (fault : Option (ℕ × Cause)) → IsTold (measured t >>= h) fault
told_measured t h f fault = go (nat_le (length (centres t)) 4096)
  where
    go : (b : Bool) → IsTold (cond b (Ok t) (Err TooManyDabs) >>= h) fault
    go true = f t fault
    go false = of_line TooManyDabs fault (inr (inr refl))

-- its points
told_polyline : {T : Type 0} (fields : Fields) (k : List Point → Result T Cause) (n : ℕ) → ((ps : List Point) (fault : Option (ℕ × Cause)) → IsTold (k ps) fault) → IsTold (polyline fields >>= k) (fault_from n [] fields)
unfolding polyline
told_polyline fields k n f = go (are_points (length fields))
  where
    go : (b : Bool) → IsTold (cond b (points_at fields) (Err FieldCount) >>= k) (fault_from n [] fields)
    go true = told_points fields k n f
    go false = of_line FieldCount (fault_from n [] fields) (inl refl)

-- the dabs of a track or a path
told_trail : {T : Type 0} (fields : Fields) (h : Trail → Result T Cause) (n : ℕ) → ((t : Trail) (fault : Option (ℕ × Cause)) → IsTold (h t) fault) → IsTold (trail_of fields >>= h) (fault_from n trail_sorts fields)
unfolding trail_of
told_trail (radius ∷ edge ∷ colour ∷ operation ∷ strength ∷ gap ∷ others) h n f =
    told_assoc (stamp radius edge colour operation strength) _ h _ (told_stamp radius edge colour operation strength _ n _
    (λ s. told_assoc (natural 1 255 gap) _ h _ (told_then (natural 1 255 gap) _ (suc (suc (suc (suc (suc n))))) _
    (λ g. told_assoc (polyline others) (λ ps. measured (trail ps g s)) h _ (told_polyline others (λ ps. measured (trail ps g s) >>= h) (suc (suc (suc (suc (suc (suc n)))))) (λ ps fault. told_measured (trail ps g s) h f fault))))))
told_trail fields h n f = of_line FieldCount (fault_from n trail_sorts fields) (inl refl)

told_drawn : (n : ℕ) (t : Trail) (fault : Option (ℕ × Cause)) → IsTold (drawn n t) fault
told_drawn n t fault = go (list_all (λ a. lies_in a world) (squares t))
  where
    go : (b : Bool) → IsTold {A = ℕ × Trail} (cond b (Ok (n, t)) (Err OutOfWorld)) fault
    go true = fine {A = ℕ × Trail} (n, t) fault
    go false = of_line {A = ℕ × Trail} OutOfWorld fault (inr (inl refl))

pub told_path : (fields : Fields) → IsTold (path fields) (fault_from 2 (sorts form.Path) fields)
unfolding path
told_path (number ∷ others) =
    told_if (are_points (length others - 6)) _ _ (told_then (natural 0 4294967295 number) _ 2 _ (λ n. told_trail others (drawn n) 3 (told_drawn n)))
told_path [] = of_line FieldCount None (inl refl)

-- a job, from its fourth field on
told_job : {T : Type 0} (work : JobWord) (fields : Fields) (h : Job → Result T Cause) → ((j : Job) (fault : Option (ℕ × Cause)) → IsTold (h j) fault) → IsTold (job_of work fields >>= h) (fault_from 4 (job_sorts work) fields)
unfolding job_of track
told_job Fill (left ∷ top ∷ width ∷ height ∷ colour ∷ operation ∷ strength ∷ []) h f =
    told_assoc (outline left top width height) _ h _ (told_outline left top width height _ 4 _
    (λ o. told_assoc (ink colour operation strength) _ h _ (told_ink colour operation strength _ 8 _ (λ i. told_checked (job.Fill (area_of o) i.colour i.op i.strength) h f None))))
told_job Dab (left ∷ top ∷ radius ∷ edge ∷ colour ∷ operation ∷ strength ∷ []) h f =
    told_assoc (tip left top radius edge) _ h _ (told_tip left top radius edge _ 4 _
    (λ t. told_assoc (ink colour operation strength) _ h _ (told_ink colour operation strength _ 8 _ (λ i. told_checked (job.Dab t.x t.y t.r t.soft i.colour i.op i.strength) h f None))))
told_job Move (left ∷ top ∷ width ∷ height ∷ columns ∷ rows ∷ []) h f =
    told_assoc (outline left top width height) _ h _ (told_outline left top width height _ 4 _
    (λ o. told_assoc (distance columns) _ h _ (told_then (distance columns) _ 8 _ (λ dx. told_assoc (distance rows) _ h _ (told_then (distance rows) _ 9 _ (λ dy. told_checked (job.Move (area_of o) dx dy) h f None))))))
told_job Blur (left ∷ top ∷ width ∷ height ∷ radius ∷ []) h f =
    told_assoc (outline left top width height) _ h _ (told_outline left top width height _ 4 _
    (λ o. told_assoc (natural 1 16 radius) _ h _ (told_then (natural 1 16 radius) _ 8 _ (λ r. told_checked (job.Blur (area_of o) r) h f None))))
told_job Track (column ∷ row ∷ others) h f =
    told_assoc (cell_at column row) _ h _ (told_cell column row _ 4 _
    (λ k. told_assoc (trail_of others) (λ t. checked (job.Track t k)) h _ (told_trail others (λ t. checked (job.Track t k) >>= h) 6 (λ t fault. told_checked (job.Track t k) h f fault))))
told_job work fields h f = of_line FieldCount (fault_from 4 (job_sorts work) fields) (inl refl)

told_paint : (work : JobWord) (fields : Fields) → IsTold (paint work fields) (fault_from 2 (command_sorts (Paint work)) fields)
unfolding paint
told_paint work (number ∷ kind ∷ others) =
    told_if (job_fields work (length others)) _ _ (told_then (natural 0 4294967295 number) _ 2 _ (λ n. told_then (kind_of kind) _ 3 _ (λ k. told_job work others (λ j. Ok (command.Add n k j)) (λ j fault. fine _ fault))))
told_paint work fields = of_line FieldCount (fault_from 2 (command_sorts (Paint work)) fields) (inl refl)

pub told_command : (word : Word) (fields : Fields) → IsTold (command_of word fields) (fault_from 2 (sorts (form.Command word)) fields)
unfolding command_of
told_command Layer (id ∷ parent ∷ place ∷ []) = told_spot id parent place _ 2 None (λ s. fine _ None)
told_command Layer (id ∷ parent ∷ place ∷ colour ∷ []) = told_spot id parent place _ 2 _ (λ s. told_then (rgba colour) _ 5 None (λ p. fine _ None))
told_command Group (id ∷ parent ∷ place ∷ []) = told_spot id parent place _ 2 None (λ s. fine _ None)
told_command Remove (id ∷ []) = told_then (id_of id) _ 2 None (λ i. fine _ None)
told_command Place (id ∷ parent ∷ place ∷ []) = told_spot id parent place _ 2 None (λ s. fine _ None)
told_command Look (id ∷ opacity ∷ operation ∷ seen ∷ []) =
    told_then (id_of id) _ 2 _ (λ i. told_then (natural 0 255 opacity) _ 3 _ (λ o. told_then (op_of operation) _ 4 _ (λ op. told_then (seen_of seen) _ 5 None (λ v. fine _ None))))
told_command Stroke (number ∷ on ∷ []) = told_then (stroke_number number) _ 2 _ (λ n. told_then (id_of on) _ 3 None (λ l. fine _ None))
told_command Stroke (number ∷ on ∷ mark ∷ []) = told_then (stroke_number number) _ 2 _ (λ n. told_then (id_of on) _ 3 _ (λ l. told_then (exclusive_of mark) _ 4 None (λ e. fine _ None)))
told_command (Paint work) fields = told_paint work fields
told_command End (number ∷ []) = told_then (stroke_number number) _ 2 None (λ n. fine _ None)
told_command Cancel (number ∷ []) = told_then (stroke_number number) _ 2 None (λ n. fine _ None)
told_command Undo [] = fine _ None
told_command Redo [] = fine _ None
told_command Purge (number ∷ []) = told_then (stroke_number number) _ 2 None (λ n. fine _ None)
told_command Export [] = fine _ None
told_command word fields = of_line FieldCount (fault_from 2 (sorts (form.Command word)) fields) (inl refl)
