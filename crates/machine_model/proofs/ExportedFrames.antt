-- The frame that an export takes from the root's cache is that of the document.
use Rattle.std.proofs.Common.{◌≡◌, [], ◌∷◌, ◌++◌, Some, sym, ap, ◌∙◌}
use Rattle.pixel_core.specs.Compose.{on_paper}
use Rattle.doc_model.specs.Strokes.{Exports}
use Rattle.doc_model.specs.Layers.{at}
use Rattle.doc_model.specs.Picture.{picture, frame, canvas_area}
use Rattle.machine_model.specs.State.{State}
use Rattle.machine_model.specs.Groups.{cache}
use Rattle.machine_model.specs.Effects.{after_entry}
use Rattle.machine_model.specs.PictureLaws.{CachesAreFolds, CleanIsFrame, ExportIsFrame, IsClean, cached_frame}
use Rattle.machine_model.specs.UnderWay.{AtRest}
use Rattle.machine_model.proofs.ActCaches.{at_rest}
use Rattle.machine_model.proofs.CanvasPoints.{same_list}
use Rattle.machine_model.proofs.RootPicture.{clean_is_picture, still_is_clean}

pub caches_are_folds : CachesAreFolds
caches_are_folds s sound = sound.caches

pub clean_is_frame : CleanIsFrame
clean_is_frame s sound clean = same_list (λ p. on_paper (at (cache s.caches 0) p) s.canvas.paper) (λ p. on_paper (picture s.present p) s.canvas.paper) (canvas_area s.canvas)
    (λ p inside. ap (λ c. on_paper c s.canvas.paper) (clean_is_picture s sound p inside (clean p inside)))

pub export_is_frame : ExportIsFrame
export_is_frame old new sound at_head step = record {
  clean = clean;
  frames = ap (λ (s : State). s.frames) (step.new_is ∙ ap (after_entry old) same) ∙ ap (λ f. old.frames ++ f ∷ []) (ap (λ d. frame d old.canvas) (sym rest.same) ∙ sym whole);
  is_frame = whole;
}
  where
    same : step.entry ≡ Exports
    same = let e : Some step.entry ≡ Some Exports = sym step.at_head ∙ at_head in cc

    rest : AtRest old
    rest = at_rest old step.no_stroke sound.orderly.on_way

    clean : IsClean old
    clean p inside = still_is_clean old (step.clean same) rest.idle step.no_walks 0 p

    whole : cached_frame old ≡ frame old.present old.canvas
    whole = clean_is_frame old sound clean
