use Rattle.std.proofs.Common.{◌∙◌, refl, sym, ap}
use Rattle.pixel_core.specs.Rgba.{clear}
use Rattle.doc_model.specs.Picture.{with_look}
use Rattle.compose_core.specs.Spots.{given_on}
use Rattle.compose_core.specs.Piles.{pile_at}
use Rattle.compose_core.proofs.LaidPiles.{covered, clear_canonical}
use Rattle.compose_core.proofs.pile.Pile.uncover.Goals as goal

pub returns-then-is_opaque-clause-same : goal.returns-then-is_opaque-clause-same
returns-then-is_opaque-clause-same c = λ p.
    ap (with_look c.args.look (given_on c.args.given.now p)) (c.clear.ensures.clear p)
    ∙ covered c.args.look (given_on c.args.given.now p) clear (pile_at c.args.self.now p) (sym c.if-covers.ensures) (c.if-is_opaque.ensures refl p) clear_canonical (c.requires.known.canonical p)
