use Rattle.std.proofs.Common.{◌∙◌, arith, sym}
use Rattle.pixel_rows.proofs.Weights.{weight_cover, shares_are, cover_least, shares_most}
use Rattle.pixel_rows.proofs.shares.Shares.new.Goals as goal

pub invariant_of-result-clause-all : goal.invariant_of-result-clause-all
invariant_of-result-clause-all c = weight_cover c.args.sa c.args.da (omega arith) (omega arith) ∙ sym (shares_are c.args.sa c.args.da (omega arith) (omega arith))

pub invariant_of-result-clause-small : goal.invariant_of-result-clause-small
invariant_of-result-clause-small c = shares_most c.args.sa c.args.da (omega arith) (omega arith)

pub invariant_of-result-clause-whole : goal.invariant_of-result-clause-whole
invariant_of-result-clause-whole c = λ some.
    omega (arith, some, c.max-sum.ensures, cover_least c.args.sa c.args.da (omega arith) (omega arith) (omega (arith, some, weight_cover c.args.sa c.args.da (omega arith) (omega arith), shares_are c.args.sa c.args.da (omega arith) (omega arith))), weight_cover c.args.sa c.args.da (omega arith) (omega arith), shares_are c.args.sa c.args.da (omega arith) (omega arith))

pub returns-clause-cover : goal.returns-clause-cover
returns-clause-cover c = weight_cover c.args.sa c.args.da (omega arith) (omega arith)
