use Rattle.std.proofs.Common.{◌≡◌, Some, length, sym, ap, ◌∙◌, arith}
use Rattle.std.specs.Prelude.{slice_get}
use Rattle.geom_core.specs.Grid.{keys_of}
use Rattle.doc_model.specs.Picture.{canvas_area}
use Rattle.filmed_caches.proofs.CacheFrames.{drawn_none, drawn_more, drawn_inside, drawn_all}
use Rattle.filmed_caches.proofs.exports.frame_of_cache.Goals as goal

pub loop-i-init : goal.loop-i-init
loop-i-init c = drawn_none c.args.caches.now c.args.canvas c.in_ok-frame.frame c.in_ok-frame.ensures

pub put_cached-requires : goal.put_cached-requires
put_cached-requires c =
    let at : slice_get (keys_of (canvas_area c.args.canvas)) c.loop-i.i ≡ Some c.tile_at.result = ap (λ a. slice_get (keys_of a) c.loop-i.i) (sym c.rect-shown.ensures) ∙ c.tile_at.ensures.value in
    drawn_inside c.args.caches.now c.args.canvas c.loop-i.i c.tile_at.result c.loop-i.frame c.requires at c.loop-i.invariant

pub loop-i-preserved : goal.loop-i-preserved
loop-i-preserved c =
    let at : slice_get (keys_of (canvas_area c.args.canvas)) c.loop-i.i ≡ Some c.tile_at.result = ap (λ a. slice_get (keys_of a) c.loop-i.i) (sym c.rect-shown.ensures) ∙ c.tile_at.ensures.value in
    drawn_more c.args.caches.now c.args.canvas c.loop-i.i c.tile_at.result c.loop-i.frame c.put_cached.new.frame c.requires at c.loop-i.invariant c.in_ok-put_cached.ensures

pub returns : goal.returns
returns c =
    let count : c.tile_count-i-end.result ≡ length (keys_of (canvas_area c.args.canvas)) = c.tile_count-i-end.ensures.value ∙ ap (λ a. length (keys_of a)) c.rect-shown.ensures in
    drawn_all c.args.caches.now c.args.canvas c.loop-i.i c.loop-i.frame (omega arith) c.loop-i.invariant
