use Rattle.std.proofs.Common.{◌≡◌, None, ap, sym, ◌∙◌, subst, replicate}
use Rattle.std.specs.Prelude.{IfSome}
use Rattle.std.specs.Option.{unwrap_or}
use Rattle.std.specs.FinMap as map
use Rattle.tile_core.specs.Pixels.{Pixels}
use Rattle.job_core.specs.Points.{LaysPoints}
use Rattle.whole_tiles.specs.Base.{tile_of}
use Rattle.whole_tiles.proofs.pixels.plain_left.Goals as goal

pub returns-in-None : goal.returns-in-None
returns-in-None c =
    let none : map.get c.args.shot.now.tiles c.args.work.now.key ≡ None = ap (map.get c.args.shot.now.tiles) (sym c.key.ensures.value) ∙ sym c.in-None.ensures in
    let ground : replicate 4096 c.ground.result ≡ tile_of c.args.shot.now c.args.work.now.key = ap (replicate 4096) c.ground.ensures ∙ ap (λ o. unwrap_or o (replicate 4096 c.args.shot.now.default_pixel)) (sym none) in
    subst (λ (old : Pixels). IfSome c.plain_on_ground.result (λ d. LaysPoints c.args.work.now old (replicate 4096 d))) ground c.plain_on_ground.ensures
