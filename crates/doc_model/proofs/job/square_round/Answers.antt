use Rattle.std.proofs.Common.{◌≡◌, pos, ◌-ℤ◌, ◌+◌, ◌*◌, to_z, of_z, w32, arith}
use borrow.Author.Differences.{ints}
use Rattle.geom_core.specs.Areas.{area}
use Rattle.doc_model.specs.Jobs.{square}
use Rattle.doc_model.proofs.InWorld.{same_value, ok_inside, err_outside}
use Rattle.doc_model.proofs.job.square_round.Goals as goal

-- what was made is the square
made : (c : goal.After-new) → area (to_z w32 (of_z w32 c.rewound.result)) (to_z w32 (of_z w32 c.rewound-2.result)) (2 * c.from.result + 1) (2 * c.from.result + 1) ≡ square c.args.x c.args.y c.args.r
made c =
    let x : to_z w32 (of_z w32 c.rewound.result) ≡ c.args.x -ℤ pos c.args.r = omega (arith, ints) in
    let y : to_z w32 (of_z w32 c.rewound-2.result) ≡ c.args.y -ℤ pos c.args.r = omega (arith, ints) in
    λ i. area (x i) (y i) (2 * c.from.ensures i + 1) (2 * c.from.ensures i + 1)

pub returns-clause-value : goal.returns-clause-value
returns-clause-value c = same_value _ _ _ (made c) c.new.ensures.ok

pub returns-clause-inside : goal.returns-clause-inside
returns-clause-inside c = ok_inside _ _ _ (made c) c.new.ensures.inside

pub returns-clause-outside : goal.returns-clause-outside
returns-clause-outside c = err_outside _ _ _ (made c) c.new.ensures.outside
