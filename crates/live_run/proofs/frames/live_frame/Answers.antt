use Rattle.std.proofs.Common.{◌≡◌, length, refl, sym, ap, ◌∙◌, subst, arith}
use Rattle.std.specs.Prelude.{slice_get}
use Rattle.std.specs.FinMap as map
use Rattle.geom_core.specs.Areas.{Area}
use Rattle.geom_core.specs.Grid.{keys_of}
use Rattle.frame_core.specs.Frames.{scene}
use Rattle.doc_model.specs.declared.canvas.Canvas.{Canvas}
use Rattle.doc_model.specs.Canvases.{IsOfLimits}
use Rattle.doc_model.specs.Picture.{canvas_area}
use Rattle.machine_model.specs.State.{State}
use Rattle.filmed_caches.proofs.CacheFrames.{drawn_none, drawn_more, drawn_inside, drawn_all}
use Rattle.live_view.specs.Shown.{updates_of}
use Rattle.live_view.specs.Views.{Feed, published, pending}
use Rattle.live_run.specs.Showing.{ShowsRoot}
use Rattle.live_run.proofs.RootTiles.{key_on_canvas, one_shown}
use Rattle.live_run.proofs.frames.live_frame.Goals as goal

pub rect-shown-requires : goal.rect-shown-requires
rect-shown-requires g c = subst IsOfLimits (sym (c.canvas-canvas.ensures ∙ ap (λ (s : State). s.canvas) c.deref.ensures)) c.requires.limits

pub loop-i-init : goal.loop-i-init
loop-i-init g c = record {
  drawn = drawn_none c.args.desk.now.caches c.args.desk.now.canvas c.in_ok-frame.frame (c.in_ok-frame.ensures ∙ ap (λ (k : Canvas). scene k.w k.h k.paper map.empty) (c.canvas-canvas.ensures ∙ ap (λ (s : State). s.canvas) c.deref.ensures));
  kept = refl;
}

pub put_seen-requires-clause-key : goal.put_seen-requires-clause-key
put_seen-requires-clause-key g c =
    let area_is : c.rect-shown.result ≡ canvas_area c.args.desk.now.canvas = c.rect-shown.ensures ∙ ap canvas_area (c.canvas-canvas.ensures ∙ ap (λ (s : State). s.canvas) c.deref.ensures) in
    key_on_canvas c.args.desk.now.canvas c.loop-i.i c.tile_at.result c.requires.limits (ap (λ (a : Area). slice_get (keys_of a) c.loop-i.i) (sym area_is) ∙ c.tile_at.ensures.value)

pub put_seen-requires-clause-inside : goal.put_seen-requires-clause-inside
put_seen-requires-clause-inside g c =
    let area_is : c.rect-shown.result ≡ canvas_area c.args.desk.now.canvas = c.rect-shown.ensures ∙ ap canvas_area (c.canvas-canvas.ensures ∙ ap (λ (s : State). s.canvas) c.deref.ensures) in
    drawn_inside c.args.desk.now.caches c.args.desk.now.canvas c.loop-i.i c.tile_at.result c.loop-i.frame c.requires.limits (ap (λ (a : Area). slice_get (keys_of a) c.loop-i.i) (sym area_is) ∙ c.tile_at.ensures.value) c.loop-i.invariant.drawn

pub put_seen-requires-clause-none : goal.put_seen-requires-clause-none
put_seen-requires-clause-none g c = ap (λ (f : Feed). pending f) c.loop-i.invariant.kept ∙ c.requires.none

pub put_seen-requires-clause-shows : goal.put_seen-requires-clause-shows
put_seen-requires-clause-shows g c =
    let area_is : c.rect-shown.result ≡ canvas_area c.args.desk.now.canvas = c.rect-shown.ensures ∙ ap canvas_area (c.canvas-canvas.ensures ∙ ap (λ (s : State). s.canvas) c.deref.ensures) in
    one_shown (updates_of (published c.loop-i.live)) c.args.desk.now (keys_of (canvas_area c.args.desk.now.canvas)) c.loop-i.i c.tile_at.result
    (ap (λ (a : Area). slice_get (keys_of a) c.loop-i.i) (sym area_is) ∙ c.tile_at.ensures.value)
    (subst (λ (f : Feed). ShowsRoot (updates_of (published f)) c.args.desk.now) (sym c.loop-i.invariant.kept) c.requires.root)

pub loop-i-preserved : goal.loop-i-preserved
loop-i-preserved g c =
    let area_is : c.rect-shown.result ≡ canvas_area c.args.desk.now.canvas = c.rect-shown.ensures ∙ ap canvas_area (c.canvas-canvas.ensures ∙ ap (λ (s : State). s.canvas) c.deref.ensures) in
    record {
      drawn = drawn_more c.args.desk.now.caches c.args.desk.now.canvas c.loop-i.i c.tile_at.result c.loop-i.frame c.put_seen.new.frame c.requires.limits
          (ap (λ (a : Area). slice_get (keys_of a) c.loop-i.i) (sym area_is) ∙ c.tile_at.ensures.value) c.loop-i.invariant.drawn c.in_ok-put_seen.ensures.ok;
      kept = c.put_seen.ensures.kept ∙ c.loop-i.invariant.kept;
    }

pub returns-clause-cache : goal.returns-clause-cache
returns-clause-cache g c =
    let area_is : c.rect-shown.result ≡ canvas_area c.args.desk.now.canvas = c.rect-shown.ensures ∙ ap canvas_area (c.canvas-canvas.ensures ∙ ap (λ (s : State). s.canvas) c.deref.ensures) in
    let count : c.tile_count-i-end.result ≡ length (keys_of (canvas_area c.args.desk.now.canvas)) = c.tile_count-i-end.ensures.value ∙ ap (λ (a : Area). length (keys_of a)) area_is in
    drawn_all c.args.desk.now.caches c.args.desk.now.canvas c.loop-i.i c.loop-i.frame (omega arith) c.loop-i.invariant.drawn
