use Rattle.std.proofs.Common.{◌≡◌, cond, inl, true}
use Rattle.std.proofs.lemmas.Result.{IfOk-weaker}
use Rattle.geom_core.specs.Areas.{holds, Point}
use Rattle.doc_model.specs.Shots.{in_tile}
use Rattle.compose_core.specs.Piles.{ShowsPile}
use Rattle.compose_core.specs.Spots.{given_on}
use Rattle.compose_core.proofs.SpotPoints.{spot_held}
use Rattle.walker_core.specs.Lower.{ShowsEither}
use Rattle.walker_core.proofs.LaidFolds.{grown, part_spot}
use Rattle.walker_core.proofs.folds.picture_on.Goals as goal

pub returns-in_default : goal.returns-in_default
returns-in_default c = IfOk-weaker c.composed.result (ShowsPile c.args.pile.now c.in_tile.result) (ShowsEither c.args.known c.args.pile.now c.args.spot.now.part)
    (λ g shows p q. inl (shows p (spot_held c.args.spot.now c.in_tile.result p c.requires.spot c.in_tile.ensures.value q)))
    c.composed.ensures

pub in_tile-requires-2 : goal.in_tile-requires-2
in_tile-requires-2 c = part_spot c.args.spot.now c.lacking.result c.requires.spot c.lacking.ensures.within

pub overlaid-requires : goal.overlaid-requires
overlaid-requires c = part_spot c.args.spot.now c.lacking.result c.requires.spot c.lacking.ensures.within

pub returns : goal.returns
returns c = IfOk-weaker c.overlaid.result (λ g. (p : Point) → in_tile c.args.spot.now.key p ≡ true → given_on g p ≡ cond (holds c.lacking.result p) (given_on c.in_ok-fresh.fresh p) (given_on c.in_ok-share.field-0 p)) (ShowsEither c.args.known c.args.pile.now c.args.spot.now.part)
    (λ g over. grown c.args.known c.in-Some.fold c.args.pile.now c.args.spot.now c.lacking.result c.in_ok-fresh.fresh c.in_ok-share.field-0 g c.in-Some.is c.requires.spot c.lacking.ensures.all
    (λ p h. c.in_ok-fresh.ensures p (spot_held (record { key = c.args.spot.now.key; part = c.lacking.result }) c.in_tile-2.result p (part_spot c.args.spot.now c.lacking.result c.requires.spot c.lacking.ensures.within) c.in_tile-2.ensures.value h))
    c.in_ok-share.ensures over)
    c.overlaid.ensures
