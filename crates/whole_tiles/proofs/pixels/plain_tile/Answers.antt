use Rattle.std.proofs.Common.{◌≡◌, true, ap, sym, ◌∙◌, arith, replicate}
use Rattle.std.proofs.lemmas.Result.{IfOk-weaker}
use Rattle.pixel_core.specs.Rgba.{Rgba, same_pixel}
use Rattle.whole_tiles.proofs.pixels.plain_tile.Goals as goal

same_colour : (a b : Rgba) → same_pixel a b ≡ true → a ≡ b
same_colour a b e = grind arith

pub returns-in-Some : goal.returns-in-Some
returns-in-Some c =
    let same : c.pixel.result ≡ c.args.pixel = same_colour c.pixel.result c.args.pixel (sym c.eq.ensures ∙ c.if-eq.true) in
    IfOk-weaker c.share.result (λ t. t ≡ replicate 4096 c.in-Some.plain) (λ t. t ≡ replicate 4096 c.args.pixel) (λ _ e. e ∙ ap (replicate 4096) (sym c.pixel.ensures ∙ same)) c.share.ensures

pub returns-in_ok-tile-in_default : goal.returns-in_ok-tile-in_default
returns-in_ok-tile-in_default c = c.in_ok-tile-in_default.ensures ∙ ap (replicate 4096) c.in_ok-plain-in_default.ensures
