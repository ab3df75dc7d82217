use Rattle.std.proofs.Common.{◌≡◌, arith}
use Rattle.std.proofs.lemmas.Result.{IfOk-weaker}
use Rattle.compose_core.proofs.LaidPiles.{laid_alone}
use Rattle.compose_core.proofs.pile.Pile.composed.Goals as goal

pub returns-then-shows_itself : goal.returns-then-shows_itself
returns-then-shows_itself c = IfOk-weaker c.share.result (λ g. g ≡ c.index-only.result.now) _
    (λ g same p _. laid_alone c.args.self.now.looks.items c.args.self.now.tiles.items c.index.result.now c.index-only.result.now g p (omega arith) (omega arith) c.index.ensures c.index-only.ensures c.if-shows_itself.ensures (c.tell_clean.ensures p) same)
    c.share.ensures
