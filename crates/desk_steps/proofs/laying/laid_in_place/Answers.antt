use Rattle.std.proofs.Common.{◌≡◌, length, arith, sym, subst, ap, ◌∙◌}
use Rattle.std.proofs.lemmas.Bool.Decides.{nat_tests}
use Rattle.doc_model.specs.Shots.{published}
use Rattle.job_core.specs.Paints as paints
use Rattle.tile_core.specs.Blocks.{LaysBlock}
use Rattle.memento_core.specs.Planes.{tile_under}
use Rattle.paint_device.specs.Seen.{layer_of}
use Rattle.desk_steps.specs.Tiles.{IsLaid}
use Rattle.desk_steps.proofs.Lain.{key_made, one_block_laid, changed_layer}
use Rattle.desk_steps.proofs.laying.laid_in_place.Goals as goal

pub returns-then-block_count-eq1-clause-laid : goal.returns-then-block_count-eq1-clause-laid
returns-then-block_count-eq1-clause-laid c w m laid =
    let one : length c.args.made.now.blocks ≡ 1 = grind (arith, nat_tests, c.block_count.ensures.value, c.if-block_count-eq1.true) in
    let key : c.key.result ≡ w.key = c.key.ensures.value ∙ key_made w c.args.made.now m in
    let job = w.job in
    let shot = paints.layer_of w.shot in
    let block = c.block.result.now in
    changed_layer job shot (λ old new. LaysBlock old new block) c.args.device.now c.changed_in_place.new.device c.key.result (c.changed_in_place.ensures.laid laid)
    (λ before after was lays. subst (λ k. IsLaid job shot k c.args.device.now after) (sym key)
    (one_block_laid c.args.made.now c.args.device.now before after block one c.block.ensures (ap (tile_under c.args.device.now.tiles) (sym c.key.ensures.value) ∙ was) lays w m))
    ∙ ap (λ k. published job shot k (layer_of c.args.device.now)) key
