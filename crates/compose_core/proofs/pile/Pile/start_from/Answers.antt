use Rattle.std.proofs.Common.{◌≡◌, ◌∙◌, ap, true}
use Rattle.std.proofs.lemmas.Result.{on_ok_weaker}
use Rattle.pixel_core.specs.declared.blending.Op.TheVariants.{Over}
use Rattle.geom_core.specs.Areas.{Point}
use Rattle.doc_model.specs.declared.tree.Look.{Look}
use Rattle.doc_model.specs.Picture.{with_look}
use Rattle.compose_core.specs.Spots.{given_on}
use Rattle.compose_core.specs.Piles.{pile_at}
use Rattle.compose_core.proofs.LaidPiles.{as_it_is}
use Rattle.compose_core.proofs.pile.Pile.start_from.Goals as goal

look : Look
look = record { opacity = 255; op = Over; visible = true }

pub returns-clause-shows : goal.returns-clause-shows
unfolding look
returns-clause-shows c = on_ok_weaker c.add.result
    (λ (lays : (p : Point) → pile_at c.add.new.self p ≡ with_look look (given_on c.args.given p) (pile_at c.clear.new.self p)) p. lays p ∙ ap (with_look look (given_on c.args.given p)) (c.clear.ensures.clear p) ∙ as_it_is (given_on c.args.given p) (c.tell_clean.ensures p))
    c.add.ensures.laid
