use Rattle.std.proofs.Common.{◌≡◌, arith, subst, sym}
use Rattle.std.proofs.lemmas.Result.{IfOk-weaker}
use Rattle.compose_core.specs.Children.{IsComposed}
use Rattle.compose_core.proofs.LaidChildren.{group_all}
use Rattle.compose_core.proofs.children.compose_tile.Goals as goal

pub returns : goal.returns
returns c = IfOk-weaker c.from_pixels.result (λ t. t ≡ c.loop-i.pixels.items) _
    (λ t e. subst (IsComposed c.args.rect.now c.args.looks.now c.args.tiles.now) (sym e)
    (group_all _ _ _ _ c.args.rect.now c.args.looks.now c.args.tiles.now c.loop-i.pixels.items c.loop-i.i c.part_of-part.ensures.left c.part_of-part.ensures.top c.part_of-part.ensures.w c.part_of-part.ensures.h c.loop-i.invariant (omega arith)))
    c.from_pixels.ensures
