use Rattle.std.proofs.Common.{◌≡◌, None, IfOk, IfErr, sym, subst}
use Rattle.strokes_top.specs.Reading.{WasRead}
use Rattle.strokes_top.specs.Run.{Gives}
use Rattle.strokes_top.specs.Sources.{IsNoScript}
use Rattle.strokes_top.proofs.source.read_given.Goals as goal

pub returns-then-replays-clause-ok : goal.returns-then-replays-clause-ok
returns-then-replays-clause-ok g c =
    let l = g.S.Source.left c.args.source.now in
    let r = g.S.Source.left c.read_trace.new.source in
    subst (λ b. IfOk c.read_trace.result (λ s. WasRead l r (Gives b (λ t. t ≡ s)))) (sym c.if-replays.true) c.read_trace.ensures.ok

pub returns-then-replays-clause-err : goal.returns-then-replays-clause-err
returns-then-replays-clause-err g c =
    let l = g.S.Source.left c.args.source.now in
    let r = g.S.Source.left c.read_trace.new.source in
    subst (λ b. IfErr c.read_trace.result (IsNoScript None b l r)) (sym c.if-replays.true) c.read_trace.ensures.err

pub returns-clause-ok : goal.returns-clause-ok
returns-clause-ok g c =
    let l = g.S.Source.left c.args.source.now in
    let r = g.S.Source.left c.read_script.new.source in
    subst (λ b. IfOk c.read_script.result (λ s. WasRead l r (Gives b (λ t. t ≡ s)))) (sym c.if-replays.false) c.read_script.ensures.ok

pub returns-clause-err : goal.returns-clause-err
returns-clause-err g c =
    let l = g.S.Source.left c.args.source.now in
    let r = g.S.Source.left c.read_script.new.source in
    subst (λ b. IfErr c.read_script.result (IsNoScript None b l r)) (sym c.if-replays.false) c.read_script.ensures.err
