-- The frame that an export takes of the root's cache is that of the document.
use Rattle.std.proofs.Common.{◌≡◌, ℕ, zero, suc, ◌-◌, ◌<◌, List, [], ◌∷◌, ◌++◌, Some, length, get_or, map, refl, ap, ◌∙◌, subst, arith}
use Rattle.std.specs.Prelude.{pos, slice_get}
use Rattle.pixel_core.specs.Compose.{on_paper}
use Rattle.geom_core.specs.Areas.{area, points_of}
use Rattle.geom_core.proofs.Tests.{some_same}
use Rattle.doc_model.specs.declared.command.Outcome.TheVariants as outcome
use Rattle.doc_model.specs.Layers.{at}
use Rattle.doc_model.specs.Picture.{frame, canvas_area}
use Rattle.doc_model.specs.Strokes.{Exports}
use Rattle.frame_core.specs.Frames.{Scene, put_at}
use Rattle.frame_core.specs.Scenes.{HasSides, colours_of}
use Rattle.entry_queue.specs.Pushed.{Pending}
use Rattle.machine_model.specs.State.{head}
use Rattle.machine_model.specs.Event.{Act}
use Rattle.machine_model.specs.Groups.{cache}
use Rattle.machine_model.specs.PictureLaws.{cached_frame}
use Rattle.machine_model.proofs.CanvasPoints.{same_list}
use Rattle.machine_model.proofs.ExportedFrames.{export_is_frame}
use Rattle.machine_model.proofs.RootPicture.{clean_is_picture}
use Rattle.filmed_caches.specs.Made.{IsOfCanvas, ShowsDocument}
use Rattle.desk_state.specs.Cached.{ShowsCache}
use Rattle.desk_state.specs.Enabled.{Enabled}
use Rattle.desk_state.specs.Parts.{Parts, state_of}
use Rattle.desk_state.specs.Tied.{IsDesk}
use Rattle.desk_state.proofs.Doing.{Does, IsPopped, present_at_rest}
use Rattle.desk_state.proofs.ActDoing.{export_does, act_at_rest}
use Rattle.doc_model.specs.declared.command.Command.TheVariants as command

-- the frame's colours are those of the root's cache
shown_cache : (d : Parts) (shown : Scene) → ShowsCache d.caches d.canvas shown → colours_of shown ≡ cached_frame (state_of d)
shown_cache d shown shows =
    (λ i. map (λ p. on_paper (put_at shown p) (shows.paper i)) (points_of (area (pos 0) (pos 0) (shows.width i) (shows.height i))))
    ∙ same_list (λ p. on_paper (put_at shown p) d.canvas.paper) (λ p. on_paper (at (cache d.caches 0) p) d.canvas.paper) (canvas_area d.canvas)
    (λ p inside. ap (λ c. on_paper c d.canvas.paper) (shows.shows p inside))

pub export_shows : (d : Parts) (shown : Scene) (q : Pending) → IsDesk d → Enabled (state_of d) Act → head (state_of d) ≡ Some Exports → IsPopped d.queue q outcome.Done → ShowsCache d.caches d.canvas shown → Does d Act (record d { queue = q; frames = d.frames ++ shown ∷ [] })
export_shows d shown q desk can at pop shows = export_does d shown q desk can at pop (record { width = shows.width; height = shows.height })
    (shown_cache d shown shows ∙ (export_is_frame (state_of d) can.0 desk.sound at can.1).is_frame ∙ ap (λ doc. frame doc d.canvas) (present_at_rest d desk (act_at_rest d command.Export Exports desk can at refl)))

-- where an export is due, the root's cache has the document's picture
pub export_settled : (d : Parts) → IsDesk d → Enabled (state_of d) Act → head (state_of d) ≡ Some Exports → ShowsDocument d.caches d.canvas d.store.present
export_settled d desk can at p inside = clean_is_picture (state_of d) desk.sound p inside ((export_is_frame (state_of d) can.0 desk.sound at can.1).clean p inside)

frame_at : (frames : List Scene) (i : ℕ) (s : Scene) → slice_get frames i ≡ Some s → (i < length frames) × (get_or frames i s ≡ s)
frame_at [] i s e = cc
frame_at (f ∷ frames) zero s e = (omega arith, some_same f s e)
frame_at (f ∷ frames) (suc i) s e = let h : (i < length frames) × (get_or frames i s ≡ s) = frame_at frames i s e in (omega arith, h.1)

-- the newest frame has the canvas's sides
pub newest_sides : (d : Parts) → IsDesk d → IsOfCanvas d.canvas d.frames
newest_sides d desk s e =
    let at : (length d.frames - 1 < length d.frames) × (get_or d.frames (length d.frames - 1) s ≡ s) = frame_at d.frames (length d.frames - 1) s e in
    subst (HasSides d.canvas.w d.canvas.h) at.1 (desk.sides (length d.frames - 1) s at.0)
