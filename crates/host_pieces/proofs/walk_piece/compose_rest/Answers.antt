use Rattle.std.proofs.Common.{◌≡◌, suc, length, ap, ◌∙◌, arith}
use Rattle.geom_core.proofs.Tests.{length_more}
use Rattle.walker_core.specs.Composing.{tiles_in}
use Rattle.host_pieces.proofs.ComposedWalks.{rows_more}
use Rattle.host_pieces.proofs.walk_piece.compose_rest.Goals as goal

pub loop-i-preserved : goal.loop-i-preserved
loop-i-preserved c =
    let n : length (tiles_in c.compose.new.self) ≡ suc (length (tiles_in c.loop-i.rows)) = ap (λ ks. length ks) c.in_ok-compose.ensures.ok ∙ length_more (tiles_in c.loop-i.rows) c.tile_at.result in
    record {
      first = rows_more c.args.inputs.now c.args.part.now.keys c.loop-i.rows c.compose.new.self c.loop-i.i c.tile_at.result c.loop-i.invariant.so_far c.tile_at.ensures.value c.compose.ensures.of c.in_ok-compose.ensures.ok c.loop-i.invariant.first;
      so_far = omega arith;
      count = omega arith;
    }
