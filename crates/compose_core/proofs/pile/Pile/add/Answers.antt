use Rattle.std.proofs.Common.{ap}
use Rattle.compose_core.specs.Spots.{given_on}
use Rattle.compose_core.specs.Piles.{pile_at}
use Rattle.compose_core.proofs.LaidPiles.{clear_passed}
use Rattle.compose_core.proofs.pile.Pile.add.Goals as goal

pub returns-then-is_clear-clause-laid : goal.returns-then-is_clear-clause-laid
returns-then-is_clear-clause-laid c = λ p. clear_passed c.args.look (given_on c.args.given p) (pile_at c.args.self.now p) (ap (λ g. given_on g p) (c.is_clear.ensures.0 c.if-is_clear.true)) (c.requires.known.canonical p)
