use Rattle.std.proofs.Common.{◌≡◌, ℕ, ◌∷◌, List, ap, get_or, length, subst, take}
use Rattle.std.specs.Prelude.{IfSome}
use Rattle.doc_model.specs.declared.canvas.Patch.{Patch}
use Rattle.compose_core.specs.Spots.{given_on}
use Rattle.walker_core.specs.Lower.{IsEnd, next_group, ShowsSources}
use Rattle.walker_core.specs.Readings.{path_in}
use Rattle.walker_core.proofs.LaidFolds.{folds_right, known_right, lower_laid, part_spot}
use Rattle.walker_core.proofs.folds.lay_lower.Goals as goal
use Rattle.walker_core.proofs.folds.lay_lower.Goals.{In_ok-fold}

pub returns-in_default-clause-laid : goal.returns-in_default-clause-laid
returns-in_default-clause-laid c = λ p h q. c.requires.empty p

pub lay_fold-requires-clause-spot : goal.lay_fold-requires-clause-spot
lay_fold-requires-clause-spot c = part_spot c.args.spot.now c.in-Some-clip.part c.requires.spot c.in-Some-clip.ensures.shared.in_a

-- the next group, and where its lower children end
next : (c : In_ok-fold) → get_or c.path.result.now (length c.args.below.now.given.now) 0 ≡ next_group c.args.inputs.now c.args.below.now
next c = ap (λ ps. get_or ps (length c.args.below.now.given.now) 0) c.path.ensures

ends : (c : In_ok-fold) → IsEnd c.args.sources.now (get_or c.path.result.now (length c.args.below.now.given.now) 0) (c.in-Some.footing.now.layer ∷ path_in c.args.inputs.now) c.lower_end-end.result
ends c = subst (λ (ps : List ℕ). IsEnd c.args.sources.now (get_or c.path.result.now (length c.args.below.now.given.now) 0) (c.in-Some.footing.now.layer ∷ ps) c.lower_end-end.result) c.path-2.ensures c.lower_end-end.ensures

-- what is known of them is right
known : (c : In_ok-fold) → IfSome c.fold.result (λ f. ShowsSources c.args.inputs.now.patch.rect c.args.below.now (get_or c.path.result.now (length c.args.below.now.given.now) 0) (take c.lower_end-end.result c.args.sources.now) f.now.spot.part (given_on f.now.given))
known c = known_right c.args.inputs.now c.args.sources.now c.args.spot.now.key c.args.below.now c.in-Some.footing.now (get_or c.path.result.now (length c.args.below.now.given.now) 0) c.lower_end-end.result c.fold.result c.requires.sources c.requires.below (next c) (ends c) c.in-Some.ensures c.fold.ensures

pub returns-clause-laid : goal.returns-clause-laid
returns-clause-laid c = lower_laid c.args.inputs.now c.args.sources.now c.args.spot.now c.args.below.now (get_or c.path.result.now (length c.args.below.now.given.now) 0) c.lower_end-end.result c.patch.result.rect c.in-Some-clip.part c.lay_fold.new.pile
    (next c) (ap (λ (q : Patch). q.rect) c.patch.ensures) c.in-Some-clip.ensures.shared (c.in_ok-fold.ensures.laid c.args.inputs.now.patch.rect (known c))

pub returns-clause-fold : goal.returns-clause-fold
returns-clause-fold c = folds_right c.args.inputs.now c.args.sources.now c.args.spot.now.key c.args.below.now c.in-Some.footing.now.layer (get_or c.path.result.now (length c.args.below.now.given.now) 0) c.lower_end-end.result c.in-Some-clip.part c.in_ok-fold.fold c.requires.sources c.requires.below (next c) (ends c)
    (part_spot c.args.spot.now c.in-Some-clip.part c.requires.spot c.in-Some-clip.ensures.shared.in_a) c.in_ok-fold.ensures.spot c.in_ok-fold.ensures.of (c.in_ok-fold.ensures.fold c.args.inputs.now.patch.rect (known c))
