use Rattle.std.proofs.Common.{◌≡◌, sym, ap, ◌∙◌, Some, None, replicate, ◌*◌}
use Rattle.std.proofs.lemmas.Result.{IfOk-weaker}
use Rattle.std.specs.FinMap as map
use Rattle.std.specs.BTreeMap as tree
use Rattle.geom_core.specs.Grid.{key_cmp}
use Rattle.tile_core.specs.Pixels.{pixel_at}
use Rattle.tile_core.specs.Shots.{Sight, sight_at}
use Rattle.tile_core.specs.Pixels.{HasPixels}
use Rattle.tile_core.proofs.Taken.{seen_pixels, plain_pixels}
use Rattle.tile_core.proofs.MapViews.{get-view}
use Rattle.tile_core.proofs.shot.Shot.read.Goals as goal

pub returns-in-Some-clause-has : goal.returns-in-Some-clause-has
returns-in-Some-clause-has c =
    let e : map.get c.args.self.now.tiles c.args.key ≡ Some c.in-Some.tile.now = ap (λ (s : Sight). map.get s.tiles c.args.key) (sym c.self.view_is) ∙ get-view c.self.inside.seen.value.tiles c.args.key ∙ (λ i. tree.get key_cmp (sym c.deref.ensures i).tiles c.args.key) ∙ sym c.in-Some.ensures.value in
    IfOk-weaker c.part.result (λ v. HasPixels c.args.rect.now (pixel_at c.in-Some.tile.now) v.items) (λ v. HasPixels c.args.rect.now (sight_at c.args.self.now) v.items)
    (λ v h. seen_pixels c.args.self.now c.args.key c.args.rect.now (Some c.in-Some.tile.now) v.items e c.requires.inside h) c.part.ensures.has

pub returns-in-None-clause-has : goal.returns-in-None-clause-has
returns-in-None-clause-has c =
    let e : map.get c.args.self.now.tiles c.args.key ≡ None = ap (λ (s : Sight). map.get s.tiles c.args.key) (sym c.self.view_is) ∙ get-view c.self.inside.seen.value.tiles c.args.key ∙ (λ i. tree.get key_cmp (sym c.deref.ensures i).tiles c.args.key) ∙ sym c.in-None.ensures.value in
    let d : c.self.inside.ground ≡ c.args.self.now.default_pixel = ap (λ (s : Sight). s.default_pixel) c.self.view_is in
    IfOk-weaker c.plain_part.result (λ v. v.items ≡ replicate (c.args.rect.now.h * c.args.rect.now.w) c.self.inside.ground) (λ v. HasPixels c.args.rect.now (sight_at c.args.self.now) v.items)
    (λ v h. seen_pixels c.args.self.now c.args.key c.args.rect.now None v.items e c.requires.inside (rw (h, d) (plain_pixels c.args.rect.now c.args.self.now.default_pixel))) c.plain_part.ensures.has
