use Rattle.std.proofs.Common.{◌∙◌, ◌∷◌, sym}
use Rattle.std.proofs.lemmas.Bool.{eq-eqb}
use Rattle.walker_core.proofs.Laid.{test_off}
use Rattle.walker_core.proofs.LowerOnes.{end_here, passed_other, passed_still}
use Rattle.walker_core.proofs.folds.lower_end.Goals as goal
use Rattle.walker_core.proofs.folds.lower_end.Goals.{else-source-group-via-then-source-group+else-moves, else-source-group-via-else-source-group}

pub returns-then-moves : goal.returns-then-moves
returns-then-moves c = end_here (c.args.layer ∷ c.args.path.now) c.args.group c.args.sources.now c.loop-i.i c.index-sources-i.result c.loop-i-test.true c.index-sources-i.is (eq-eqb _ _ c.if-source-group.true) (sym c.moves.ensures ∙ c.if-moves.true) c.loop-i.invariant

pub loop-i-preserved : goal.loop-i-preserved
loop-i-preserved c = elim c.else-source-group.branch [
  | else-source-group-via-then-source-group+else-moves w ↦ passed_still (c.args.layer ∷ c.args.path.now) c.args.group c.args.sources.now c.loop-i.i c.index-sources-i.result c.loop-i-test.true c.index-sources-i.is (eq-eqb _ _ w.if-source-group.true) (sym w.moves.ensures ∙ w.if-moves.false) c.loop-i.invariant
  | else-source-group-via-else-source-group w ↦ passed_other (c.args.layer ∷ c.args.path.now) c.args.group c.args.sources.now c.loop-i.i c.index-sources-i.result c.loop-i-test.true c.index-sources-i.is (test_off _ _ w.if-source-group.false) c.loop-i.invariant
]
