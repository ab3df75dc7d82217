use Rattle.std.proofs.Common.{◌≡◌, ℕ, sym, ap, subst}
use Rattle.turn_lock.specs.Answers.{added}
use Rattle.turn_lock.specs.Passes.{called, first_of, HasTurn}
use Rattle.studio.specs.Histories.{signed, signer, may_be_next}
use Rattle.studio.proofs.Signing.{answered_lawful}
use Rattle.studio.proofs.studio.Studio.send.Goals as goal

pub returns-clause-turn : goal.returns-clause-turn
returns-clause-turn g c =
    let p = c.args.pass.now in
    let is : first_of p.numbers ≡ c.artist.result = ap first_of c.artist.ensures.1 in
    subst (λ (k : ℕ). HasTurn signer may_be_next p.numbers p.made p.seen (signed k c.args.command.now) c.send.result c.send.new.pass.seen) (sym is) c.send.ensures.turn

pub returns-clause-pass : goal.returns-clause-pass
returns-clause-pass g c =
    let p = c.args.pass.now in
    let is : first_of p.numbers ≡ c.artist.result = ap first_of c.artist.ensures.1 in
    subst (λ (k : ℕ). c.send.new.pass ≡ called p (added (signed k c.args.command.now) c.send.result) c.send.new.pass.seen) (sym is) c.send.ensures.pass

pub returns-clause-lawful : goal.returns-clause-lawful
returns-clause-lawful g c =
    let t = c.send.ensures.turn in
    answered_lawful t.history (signed c.artist.result c.args.command.now) c.send.result c.send.new.pass.seen t.continues.legal t.answers
