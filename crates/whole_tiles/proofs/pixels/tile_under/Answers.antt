use Rattle.std.proofs.Common.{◌≡◌, ap, ◌∙◌, subst, replicate}
use Rattle.std.specs.Option.{unwrap_or}
use Rattle.std.proofs.lemmas.Result.{IfOk-weaker}
use Rattle.whole_tiles.specs.Base.{tile_of}
use Rattle.whole_tiles.specs.Circles.{AllCanonical}
use Rattle.whole_tiles.proofs.Circles.{plain_canonical}
use Rattle.whole_tiles.proofs.pixels.tile_under.Goals as goal

pub returns-in-None-clause-value : goal.returns-in-None-clause-value
returns-in-None-clause-value c =
    let ground : replicate 4096 c.ground-ground.result ≡ tile_of c.args.shot.now c.args.key = ap (replicate 4096) c.ground-ground.ensures ∙ ap (λ o. unwrap_or o (replicate 4096 c.args.shot.now.default_pixel)) c.in-None.ensures in
    IfOk-weaker c.plain.result (λ t. t ≡ replicate 4096 c.ground-ground.result) (λ t. t ≡ tile_of c.args.shot.now c.args.key) (λ t e. e ∙ ground) c.plain.ensures

pub returns-in-None-clause-canonical : goal.returns-in-None-clause-canonical
returns-in-None-clause-canonical c =
    let ground : replicate 4096 c.ground-ground.result ≡ tile_of c.args.shot.now c.args.key = ap (replicate 4096) c.ground-ground.ensures ∙ ap (λ o. unwrap_or o (replicate 4096 c.args.shot.now.default_pixel)) c.in-None.ensures in
    subst AllCanonical ground (plain_canonical c.ground-ground.result c.bytes-known.ensures.known)
