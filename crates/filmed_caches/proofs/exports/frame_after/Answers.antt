use Rattle.std.proofs.Common.{◌≡◌, Some, length, sym, ap, ◌∙◌, arith}
use Rattle.std.specs.Prelude.{slice_get}
use Rattle.geom_core.specs.Grid.{keys_of}
use Rattle.doc_model.specs.Picture.{canvas_area}
use Rattle.filmed_caches.proofs.CacheFrames.{drawn_none, drawn_on, drawn_inside, drawn_all, next_met}
use Rattle.filmed_caches.proofs.exports.frame_after.Goals as goal

pub loop-i-init : goal.loop-i-init
loop-i-init c = drawn_none c.args.scenery.now.caches.now c.args.scenery.now.canvas c.in_ok-frame.frame c.in_ok-frame.ensures

pub put_shown-requires-clause-key : goal.put_shown-requires-clause-key
put_shown-requires-clause-key c =
    let at : slice_get (keys_of (canvas_area c.args.scenery.now.canvas)) c.loop-i.i ≡ Some c.tile_at.result = ap (λ a. slice_get (keys_of a) c.loop-i.i) (sym c.rect-shown.ensures) ∙ c.tile_at.ensures.value in
    next_met c.args.scenery.now.canvas c.loop-i.i c.tile_at.result c.requires.limits at

pub put_shown-requires-clause-inside : goal.put_shown-requires-clause-inside
put_shown-requires-clause-inside c =
    let at : slice_get (keys_of (canvas_area c.args.scenery.now.canvas)) c.loop-i.i ≡ Some c.tile_at.result = ap (λ a. slice_get (keys_of a) c.loop-i.i) (sym c.rect-shown.ensures) ∙ c.tile_at.ensures.value in
    drawn_inside c.args.scenery.now.caches.now c.args.scenery.now.canvas c.loop-i.i c.tile_at.result c.loop-i.frame c.requires.limits at c.loop-i.invariant

pub loop-i-preserved : goal.loop-i-preserved
loop-i-preserved c =
    let at : slice_get (keys_of (canvas_area c.args.scenery.now.canvas)) c.loop-i.i ≡ Some c.tile_at.result = ap (λ a. slice_get (keys_of a) c.loop-i.i) (sym c.rect-shown.ensures) ∙ c.tile_at.ensures.value in
    drawn_on c.args.scenery.now.caches.now c.args.scenery.now.canvas c.loop-i.i c.tile_at.result c.loop-i.frame c.put_shown.new.frame c.requires.limits at c.loop-i.invariant c.in_ok-put_shown.ensures

pub returns : goal.returns
returns c =
    let count : c.tile_count-i-end.result ≡ length (keys_of (canvas_area c.args.scenery.now.canvas)) = c.tile_count-i-end.ensures.value ∙ ap (λ a. length (keys_of a)) c.rect-shown.ensures in
    drawn_all c.args.scenery.now.caches.now c.args.scenery.now.canvas c.loop-i.i c.loop-i.frame (omega arith) c.loop-i.invariant
