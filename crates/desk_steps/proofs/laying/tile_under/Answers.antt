use Rattle.std.proofs.Common.{◌≡◌, None, sym, ap, ◌∙◌, replicate}
use Rattle.std.specs.Option.{option_copied}
use Rattle.std.proofs.lemmas.Result.{IfOk-weaker}
use Rattle.memento_core.specs.Planes.{tile_under}
use Rattle.tile_core.specs.Pixels.{pixel_at}
use Rattle.desk_steps.proofs.Lain.{plain_at}
use Rattle.desk_steps.proofs.laying.tile_under.Goals as goal

pub returns-in-None : goal.returns-in-None
returns-in-None c =
    let nothing : tile_under c.args.device.now.tiles c.args.key ≡ None = sym c.tile.ensures ∙ ap option_copied c.in-None.is in
    IfOk-weaker c.plain.result (λ t. t ≡ replicate 4096 c.ground.result) _
    (λ t e p h. ap (λ u. pixel_at u p) (e ∙ ap (replicate 4096) c.ground.ensures) ∙ plain_at c.args.device.now c.args.key p h nothing) c.plain.ensures
