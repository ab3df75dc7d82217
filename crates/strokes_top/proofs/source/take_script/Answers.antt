use Rattle.std.proofs.Common.{◌≡◌, IfOk, IfErr, sym, subst}
use Rattle.strokes_top.specs.Run.{IsOf}
use Rattle.strokes_top.specs.Sources.{IsNoScript}
use Rattle.strokes_top.proofs.source.take_script.Goals as goal

pub returns-in-None-clause-ok : goal.returns-in-None-clause-ok
returns-in-None-clause-ok g c =
    let l = g.S.Source.left c.args.source.now in
    let r = g.S.Source.left c.read_given.new.source in
    subst (λ d. IfOk c.read_given.result (λ s. IsOf (λ t. t ≡ s) d c.args.choice.now.replay l r)) (sym c.in-None.is) c.read_given.ensures.ok

pub returns-in-None-clause-err : goal.returns-in-None-clause-err
returns-in-None-clause-err g c =
    let l = g.S.Source.left c.args.source.now in
    let r = g.S.Source.left c.read_given.new.source in
    subst (λ d. IfErr c.read_given.result (IsNoScript d c.args.choice.now.replay l r)) (sym c.in-None.is) c.read_given.ensures.err
