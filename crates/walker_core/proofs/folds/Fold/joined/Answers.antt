use Rattle.std.proofs.Common.{◌∙◌, ap, cond, sym}
use Rattle.geom_core.specs.Areas.{holds}
use Rattle.compose_core.specs.Spots.{given_on}
use Rattle.walker_core.proofs.LaidFolds.{both_joined}
use Rattle.walker_core.proofs.folds.Fold.joined.Goals as goal

pub returns-then-lies_in : goal.returns-then-lies_in
returns-then-lies_in c = both_joined c.args.self.now c.args.more.now c.with.result c.in_ok-given.given c.lacking.result c.requires.own c.requires.more c.requires.tile c.with.ensures.group c.with.ensures.layer c.with.ensures.tile (c.with.ensures.part ∙ c.bound-all.ensures) c.with.ensures.given
    (λ p k. c.in_ok-given.ensures p k ∙ ap (λ g. cond (holds c.args.more.now.spot.part p) (given_on c.args.more.now.given p) (given_on g p)) c.in_ok-share.ensures)
    (λ p h. c.lacking.ensures.all p (ap (λ q. holds q p) c.bound-all.ensures ∙ h))
    (sym c.lies_in-then-not-lies_in.ensures ∙ c.if-lies_in.true)
