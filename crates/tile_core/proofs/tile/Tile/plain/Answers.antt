use Rattle.std.proofs.Common.{◌≡◌, ◌∙◌, replicate}
use Rattle.std.proofs.lemmas.Result.{IfOk-weaker}
use Rattle.tile_core.proofs.tile.Tile.plain.Goals as goal

pub returns : goal.returns
returns c = IfOk-weaker c.from_pixels.result (λ t. t ≡ c.in_ok-vec.field-0.items) (λ t. t ≡ replicate 4096 c.args.p) (λ t e. e ∙ c.in_ok-vec.ensures.items_if_clones_equal (λ _ h. h)) c.from_pixels.ensures
