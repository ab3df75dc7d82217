-- A settled desk's frame is that of the document that its script makes.
use Rattle.std.proofs.Common.{◌≡◌, [], ◌∷◌, List, map, sym, ap, ◌∙◌, subst}
use Rattle.std.specs.Prelude.{pos}
use Rattle.std.specs.List.{All}
use Rattle.std.proofs.lemmas.List.Elements.{All-nil, All-cons}
use Rattle.pixel_core.specs.Compose.{on_paper}
use Rattle.geom_core.specs.Areas.{area, points_of}
use Rattle.frame_core.specs.Frames.{Scene, put_at}
use Rattle.doc_model.specs.declared.canvas.Canvas.{Canvas}
use Rattle.doc_model.specs.declared.command.Outcome.{Outcome}
use Rattle.doc_model.specs.Meaning.{Story, meaning}
use Rattle.doc_model.specs.Picture.{Frame, picture, frame, canvas_area}
use Rattle.doc_model.specs.Strokes.{entries}
use Rattle.frame_core.specs.Scenes.{HasSides, colours_of}
use Rattle.machine_model.specs.State.{State}
use Rattle.machine_model.specs.Settled.{story}
use Rattle.machine_model.specs.MeaningLaws.{HasMeaning}
use Rattle.machine_model.proofs.CanvasPoints.{same_list}
use Rattle.desk_state.specs.Cached.{ShowsCache}
use Rattle.desk_events.specs.Shown.{ShowsPicture}
use Rattle.script_text.specs.Script.{Contents, meaning_of}
use Rattle.live_run.specs.Last.{ShowsLast}

-- a frame of the root's cache has the picture's colours
cached_colours : (d : State) (f : Scene) → ShowsPicture d → ShowsCache d.caches d.canvas f → colours_of f ≡ frame d.present d.canvas
cached_colours d f clean shows =
    (λ i. map (λ p. on_paper (put_at f p) (shows.paper i)) (points_of (area (pos 0) (pos 0) (shows.width i) (shows.height i))))
    ∙ same_list (λ p. on_paper (put_at f p) d.canvas.paper) (λ p. on_paper (picture d.present p) d.canvas.paper) (canvas_area d.canvas)
    (λ p inside. ap (λ c. on_paper c d.canvas.paper) (shows.shows p inside ∙ clean p inside))

pub last_is : (d : State) (script : Contents) (f : Scene) (outcomes : List Outcome) → HasMeaning d → ShowsPicture d → d.canvas ≡ script.canvas → d.fed ≡ script.commands
    → ShowsCache d.caches d.canvas f → outcomes ≡ d.outcomes → ShowsLast script (f ∷ []) outcomes
last_is d script f outcomes h clean canvas fed shows told =
    let same : meaning_of script ≡ story d = (λ i. meaning (sym canvas i) (entries (sym fed i))) ∙ h.means in
    let doc : d.present ≡ (meaning_of script).document = h.present ∙ ap (λ (s : Story). s.document) (sym same) in
    let is : frame d.present d.canvas ≡ frame (meaning_of script).document script.canvas = λ i. frame (doc i) (canvas i) in
    let sides : HasSides d.canvas.w d.canvas.h f = record { width = shows.width; height = shows.height } in
    record {
      sides = subst (λ (c : Canvas). All (HasSides c.w c.h) (f ∷ [])) canvas (All-cons (HasSides d.canvas.w d.canvas.h) f [] sides (All-nil (HasSides d.canvas.w d.canvas.h)));
      colours = ap (λ (x : Frame). x ∷ []) (cached_colours d f clean shows ∙ is);
      outcomes_are = told ∙ sym (ap (λ (s : Story). s.outcomes) same);
    }
