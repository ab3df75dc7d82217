use Rattle.std.proofs.Common.{◌∙◌, sym, subst, arith}
use Rattle.pixel_core.specs.Canonical.{IsCanonical}
use Rattle.compose_core.specs.Piles.{laid_at}
use Rattle.compose_core.proofs.LaidPiles.{laid_more, look_canonical}
use Rattle.compose_core.proofs.pile.Pile.push.Goals as goal

pub returns-clause-laid : goal.returns-clause-laid
returns-clause-laid c = λ p. (λ i. laid_at (c.in_ok-push.ensures.items i) (c.in_ok-push-2.ensures.items i) p) ∙ laid_more c.args.self.now.looks.items c.args.self.now.tiles.items c.args.look c.args.given p c.requires.known.paired

pub returns-clause-known : goal.returns-clause-known
returns-clause-known c = record {
  paired = omega (arith, c.in_ok-push.ensures.len, c.in_ok-push-2.ensures.len, c.requires.known.paired);
  canonical = λ p. subst IsCanonical (sym ((λ i. laid_at (c.in_ok-push.ensures.items i) (c.in_ok-push-2.ensures.items i) p) ∙ laid_more c.args.self.now.looks.items c.args.self.now.tiles.items c.args.look c.args.given p c.requires.known.paired)) (look_canonical c.args.look _ _ (omega arith) (c.requires.clean p) (c.requires.known.canonical p));
}
