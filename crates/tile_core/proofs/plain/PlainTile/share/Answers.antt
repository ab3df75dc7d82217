use Rattle.std.proofs.Common.{◌≡◌, ◌∙◌, ap, replicate}
use Rattle.std.proofs.lemmas.Result.{IfOk-weaker}
use Rattle.tile_core.proofs.plain.PlainTile.share.Goals as goal

pub returns : goal.returns
returns c = IfOk-weaker c.share.result (λ t. t ≡ c.self.inside.tile) (λ t. t ≡ replicate 4096 c.args.self.now) (λ _ e. e ∙ c.self.invariant ∙ ap (replicate 4096) c.self.view_is) c.share.ensures
