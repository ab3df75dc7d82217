use Rattle.std.proofs.Common.{◌∙◌, ap, sym, [], refl, subst, arith}
use Rattle.std.proofs.lemmas.Bool.{eq-eqb}
use Rattle.std.proofs.lemmas.List.{take_all}
use Rattle.doc_model.specs.Picture.{with_look}
use Rattle.machine_model.specs.Walks.{walk_folded, value_in}
use Rattle.compose_core.specs.Piles.{IsPile, pile_at}
use Rattle.walker_core.specs.Rows.{given_values}
use Rattle.walker_core.specs.Views.{children_in, child_of}
use Rattle.walker_core.proofs.Laid.{source_laid, source_passed, unseen, test_off}
use Rattle.walker_core.proofs.row.lay_sources.Goals as goal
use Rattle.walker_core.proofs.row.lay_sources.Goals.{then-source-group+then-source+in_ok-add_child, else-source-group, else-source-group-via-then-source-group+else-source, else-source-group-via-else-source-group}

pub loop-source-init : goal.loop-source-init
loop-source-init c = (c.requires.known, (λ rect p h k. refl))

pub loop-source-preserved : goal.loop-source-preserved
loop-source-preserved c = elim c.if-source-group.branch [
  | then-source-group+then-source+in_ok-add_child w ↦ (
    subst IsPile (sym w.pile-is) w.in_ok-add_child.ensures.known,
    (λ rect p h k. ap (λ q. pile_at q p) w.pile-is ∙ w.in_ok-add_child.ensures.laid rect p h k
        ∙ ap (λ b. with_look c.source-item.result.look (value_in (given_values c.args.below.now.path.now c.args.below.now.given.now [] p) (child_of rect c.source-item.result) p) b) (c.loop-source.invariant.1 rect p h k)
        ∙ sym (source_laid rect c.args.group c.args.sources.now c.loop-source.source-index c.source-item.result _ p (pile_at c.args.pile.now p) (omega arith) c.source-item.is (eq-eqb _ _ w.if-source-group.true))),
  )
  | else-source-group w ↦ elim w.else-source-group.branch [
    | else-source-group-via-then-source-group+else-source v ↦ (
      subst IsPile (sym w.pile-is) c.loop-source.invariant.0,
      (λ rect p h k. ap (λ q. pile_at q p) w.pile-is ∙ c.loop-source.invariant.1 rect p h k
          ∙ sym (source_laid rect c.args.group c.args.sources.now c.loop-source.source-index c.source-item.result _ p (pile_at c.args.pile.now p) (omega arith) c.source-item.is (eq-eqb _ _ v.if-source-group.true) ∙ unseen c.source-item.result.look _ _ v.if-source.false)),
    )
    | else-source-group-via-else-source-group v ↦ (
      subst IsPile (sym w.pile-is) c.loop-source.invariant.0,
      (λ rect p h k. ap (λ q. pile_at q p) w.pile-is ∙ c.loop-source.invariant.1 rect p h k
          ∙ ap (λ cs. walk_folded (given_values c.args.below.now.path.now c.args.below.now.given.now [] p) cs p (pile_at c.args.pile.now p)) (sym (source_passed rect c.args.group c.args.sources.now c.loop-source.source-index c.source-item.result (omega arith) c.source-item.is (test_off _ _ v.if-source-group.false)))),
    )
  ]
]

pub returns-clause-laid : goal.returns-clause-laid
returns-clause-laid c = λ rect p h k. c.loop-source.invariant.1 rect p h k
    ∙ ap (λ ss. walk_folded (given_values c.args.below.now.path.now c.args.below.now.given.now [] p) (children_in rect c.args.group ss) p (pile_at c.args.pile.now p)) (take_all c.loop-source.source-index c.args.sources.now (omega arith))
