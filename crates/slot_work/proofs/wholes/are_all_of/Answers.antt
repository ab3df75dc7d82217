use Rattle.std.proofs.Common.{◌≡◌, Some, ◌<◌, length, true, false, not, refl, sym, ap, ◌∙◌, arith}
use Rattle.std.specs.Prelude.{slice_get}
use Rattle.std.proofs.lemmas.Option.{slice_get_read}
use Rattle.geom_core.specs.Grid.{keys_of}
use Rattle.filmed_caches.proofs.KeyLists.{key_test}
use Rattle.slot_work.proofs.InOrder.{same_so_far, not_same, other_key, this_key}
use Rattle.slot_work.proofs.wholes.are_all_of.Goals as goal

pub returns-then-ne : goal.returns-then-ne
returns-then-ne c =
    let tiles = c.args.tiles.now in
    let inside : c.loop-i.i < length tiles = omega arith in
    let at : slice_get tiles c.loop-i.i ≡ Some c.index-tiles-i.result = slice_get_read tiles (length tiles) c.loop-i.i c.index-tiles-i.result refl inside c.index-tiles-i.is in (
      λ f. absurd (let e : false ≡ true = f in cc),
      λ all. absurd (not_same tiles (keys_of c.args.rect.now) c.loop-i.i c.index-tiles-i.result c.tile_at.result at c.tile_at.ensures.value (λ e. other_key c.key.result c.tile_at.result (ap not (key_test c.key.result c.tile_at.result) ∙ sym c.ne.ensures ∙ c.if-ne.true) (c.key.ensures.value ∙ e)) all),
    )

pub loop-i-preserved : goal.loop-i-preserved
loop-i-preserved c =
    let tiles = c.args.tiles.now in
    let inside : c.loop-i.i < length tiles = omega arith in
    let at : slice_get tiles c.loop-i.i ≡ Some c.index-tiles-i.result = slice_get_read tiles (length tiles) c.loop-i.i c.index-tiles-i.result refl inside c.index-tiles-i.is in
    same_so_far tiles (keys_of c.args.rect.now) c.loop-i.i c.index-tiles-i.result c.tile_at.result at c.tile_at.ensures.value (sym c.key.ensures.value ∙ this_key c.key.result c.tile_at.result (ap not (key_test c.key.result c.tile_at.result) ∙ sym c.ne.ensures ∙ c.if-ne.false)) c.loop-i.invariant
