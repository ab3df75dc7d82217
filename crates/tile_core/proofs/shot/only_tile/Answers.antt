use Rattle.std.proofs.Common.{◌≤◌, subst, sym, ◌∙◌}
use Rattle.tile_core.proofs.WholeTiles.{one_tile}
use Rattle.tile_core.proofs.shot.only_tile.Goals as goal

pub returns-then-tile_count-eq1-clause-inside : goal.returns-then-tile_count-eq1-clause-inside
returns-then-tile_count-eq1-clause-inside c = one_tile c.args.rect.now c.tile_at.result (subst (λ n. 1 ≤ n) c.w.ensures.value c.w.ensures.some) (subst (λ n. 1 ≤ n) c.h.ensures.value c.h.ensures.some)
    (sym c.tile_count.ensures.value ∙ c.if-tile_count-eq1.true) c.tile_at.ensures.value
