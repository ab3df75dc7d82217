use Rattle.std.proofs.Common.{◌≡◌, sym, subst, ◌∙◌}
use Rattle.std.proofs.lemmas.Result.{IfOk-weaker}
use Rattle.desk_steps.specs.Tiles.{IsWholeOn}
use Rattle.desk_steps.proofs.WholeTiles.{base_stands}
use Rattle.desk_steps.proofs.exchanging.tile_with.Goals as goal

pub returns-then-has_base : goal.returns-then-has_base
returns-then-has_base c =
    let x = c.args.whole.now in
    let s = c.args.device.now in
    IfOk-weaker c.share.result (λ t. t ≡ c.tile.result.now) (IsWholeOn x s) (λ t e. subst (IsWholeOn x s) (sym (e ∙ c.tile.ensures)) (base_stands x s c.has_base.ensures.known (c.has_base.ensures.value c.if-has_base.true))) c.share.ensures
