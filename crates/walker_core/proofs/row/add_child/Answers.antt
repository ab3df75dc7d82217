use Rattle.std.proofs.Common.{◌≡◌, ◌∙◌, ap, sym, true, []}
use Rattle.std.specs.Option.{unwrap_or}
use Rattle.std.proofs.lemmas.Result.{on_ok_weaker}
use Rattle.geom_core.specs.Areas.{Area, holds, Point}
use Rattle.doc_model.specs.Shots.{in_tile}
use Rattle.doc_model.specs.Layers.{at}
use Rattle.doc_model.specs.Picture.{with_look}
use Rattle.machine_model.specs.Walks.{value_in}
use Rattle.compose_core.specs.Spots.{given_on}
use Rattle.compose_core.specs.Piles.{pile_at}
use Rattle.walker_core.specs.Rows.{given_values}
use Rattle.walker_core.specs.Views.{child_of, layer_on}
use Rattle.walker_core.proofs.Given.{value_found}
use Rattle.walker_core.proofs.Shown.{at_layer_on}
use Rattle.walker_core.proofs.row.add_child.Goals as goal
use Rattle.walker_core.proofs.row.add_child.Goals.{in-Some+in_ok-given-in-Some, in-None+in_ok-given-in-None}

-- what is given for the child is its value
value : (c : goal.After-add) (rect : Area) (p : Point) → holds rect p ≡ true → in_tile c.args.key p ≡ true
    → given_on c.match-walked.given p ≡ value_in (given_values c.args.below.now.path.now c.args.below.now.given.now [] p) (child_of rect c.args.source.now) p
value c rect p h k = elim c.match-walked.branch [
  | in-Some+in_ok-given-in-Some w ↦ ap (λ g. given_on g p) (w.given-is ∙ w.in_ok-given-in-Some.ensures) ∙ sym (value_found _ (child_of rect c.args.source.now) p ∙ ap (λ o. unwrap_or o (at (layer_on rect c.args.source.now.shot) p)) (w.in-Some.ensures p))
  | in-None+in_ok-given-in-None w ↦ ap (λ g. given_on g p) w.given-is ∙ w.in_ok-given-in-None.ensures p k ∙ sym (value_found _ (child_of rect c.args.source.now) p ∙ ap (λ o. unwrap_or o (at (layer_on rect c.args.source.now.shot) p)) (w.in-None.ensures p) ∙ at_layer_on rect c.args.source.now.shot p h)
]

pub returns-clause-laid : goal.returns-clause-laid
returns-clause-laid c = λ rect. on_ok_weaker c.add.result
    (λ (lays : (p : Point) → pile_at c.add.new.self p ≡ with_look c.args.source.now.look (given_on c.match-walked.given p) (pile_at c.args.pile.now p)) p h k. lays p ∙ ap (λ v. with_look c.args.source.now.look v (pile_at c.args.pile.now p)) (value c rect p h k))
    c.add.ensures.laid
