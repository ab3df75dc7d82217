use Rattle.std.proofs.Common.{◌≡◌, arith, subst, to_z, of_z, w16}
use Rattle.std.specs.Prelude.{◌-ℤ◌}
use borrow.Author.Differences.{ints}
use Rattle.job_core.specs.Laid.{ChangesRows}
use Rattle.job_core.specs.Dabs.{brushed_from}
use Rattle.job_core.proofs.dabs.lay_dab.Goals as goal

pub lay_dab_rows-requires-clause-left : goal.lay_dab_rows-requires-clause-left
lay_dab_rows-requires-clause-left c = omega (arith, ints)

pub lay_dab_rows-requires-clause-right : goal.lay_dab_rows-requires-clause-right
lay_dab_rows-requires-clause-right c = omega (arith, ints)

pub lay_dab_rows-requires-clause-top : goal.lay_dab_rows-requires-clause-top
lay_dab_rows-requires-clause-top c = omega (arith, ints)

pub lay_dab_rows-requires-clause-bottom : goal.lay_dab_rows-requires-clause-bottom
lay_dab_rows-requires-clause-bottom c = omega (arith, ints)

pub returns : goal.returns
returns c =
    let across : to_z w16 (of_z w16 c.steps-dx.result) ≡ (c.args.part.now.x -ℤ c.args.brush.now.x) = omega (arith, ints) in
    let down : to_z w16 (of_z w16 c.steps-dy.result) ≡ (c.args.part.now.y -ℤ c.args.brush.now.y) = omega (arith, ints) in
    subst (λ d. ChangesRows d c.args.width c.args.place.left c.args.place.top c.args.place.w c.args.place.h c.args.pixels.now c.lay_dab_rows.new.pixels) (λ i. brushed_from c.args.brush.now c.args.ink.now (across i) (down i)) c.lay_dab_rows.ensures
