use Rattle.std.proofs.Common.{◌∙◌, sym, subst, None}
use Rattle.strokes_top.specs.Reading.{limit_for}
use Rattle.strokes_top.specs.Sources.{ReadsUpTo}
use Rattle.strokes_top.specs.Ends.{Ends, read_end}
use Rattle.strokes_top.proofs.Endings.{read_end_of, no_usage, no_usage_painted, unread_painted, nothing_painted, reads_for, unless_read, ends_unscripted, ends_painted}
use Rattle.strokes_top.proofs.command.answer.Goals as goal

pub returns-in-Ok-take_script-clause-ends : goal.returns-in-Ok-take_script-clause-ends
returns-in-Ok-take_script-clause-ends g c =
    let l = g.S.Source.left c.args.source.now in
    let r = g.S.Source.left c.take_script.new.source in
    let o = g.K.Sink.taken c.args.out.now in
    let n = g.K.Sink.taken c.paint.new.out in
    ends_painted c.args.words.now c.in-Ok.asked.choice c.in-Ok.ensures.ok l r o n c.paint.result c.in-Ok-take_script.script c.in-Ok-take_script.ensures.ok c.paint.ensures.paints

pub returns-in-Ok-take_script-clause-nothing : goal.returns-in-Ok-take_script-clause-nothing
returns-in-Ok-take_script-clause-nothing g c = nothing_painted (g.K.Sink.taken c.args.out.now) (g.K.Sink.taken c.paint.new.out) c.in-Ok.asked.choice c.in-Ok-take_script.script c.paint.result c.paint.ensures.paints

pub returns-in-Ok-take_script-clause-reads : goal.returns-in-Ok-take_script-clause-reads
returns-in-Ok-take_script-clause-reads g c =
    let l = g.S.Source.left c.args.source.now in
    let r = g.S.Source.left c.take_script.new.source in
    let none = unread_painted (g.K.Sink.taken c.args.out.now) (g.K.Sink.taken c.paint.new.out) c.in-Ok.asked.choice c.in-Ok-take_script.script c.paint.result c.paint.ensures.paints in
    subst (λ e. ReadsUpTo (limit_for c.args.words.now) l r (g.S.Source.faults c.args.source.now) (g.S.Source.faults c.take_script.new.source) e) (sym none)
    (reads_for c.args.words.now c.in-Ok.asked.choice c.in-Ok.ensures.ok l r _ _ None c.in-Ok-take_script.ensures.reads)

pub returns-in-Ok-take_script-clause-unread : goal.returns-in-Ok-take_script-clause-unread
returns-in-Ok-take_script-clause-unread g c =
    unless_read c.args.words.now c.in-Ok.asked.choice c.in-Ok.ensures.ok (g.S.Source.left c.args.source.now) (g.S.Source.left c.take_script.new.source) _ c.paint.result
    (no_usage_painted (g.K.Sink.taken c.args.out.now) (g.K.Sink.taken c.paint.new.out) c.in-Ok.asked.choice c.in-Ok-take_script.script c.paint.result c.paint.ensures.paints) c.in-Ok-take_script.ensures.demo

pub returns-in-Err-clause-ends : goal.returns-in-Err-clause-ends
returns-in-Err-clause-ends g c =
    let l = g.S.Source.left c.args.source.now in
    let r = g.S.Source.left c.take_script.new.source in
    let o = g.K.Sink.taken c.args.out.now in
    subst (λ st. Ends st c.args.words.now l r o o) (sym c.from.ensures)
    (ends_unscripted c.args.words.now c.in-Ok.asked.choice c.in-Ok.ensures.ok l r o o c.in-Err.error c.in-Err.ensures.err)

pub returns-in-Err-clause-reads : goal.returns-in-Err-clause-reads
returns-in-Err-clause-reads g c =
    let l = g.S.Source.left c.args.source.now in
    let r = g.S.Source.left c.take_script.new.source in
    let f = g.S.Source.faults c.args.source.now in
    let n = g.S.Source.faults c.take_script.new.source in
    subst (λ st. ReadsUpTo (limit_for c.args.words.now) l r f n (read_end st)) (sym c.from.ensures)
    (subst (λ e. ReadsUpTo (limit_for c.args.words.now) l r f n e) (sym (read_end_of c.in-Err.error))
    (reads_for c.args.words.now c.in-Ok.asked.choice c.in-Ok.ensures.ok l r f n _ c.in-Err.ensures.reads))

pub returns-in-Err-clause-unread : goal.returns-in-Err-clause-unread
returns-in-Err-clause-unread g c =
    unless_read c.args.words.now c.in-Ok.asked.choice c.in-Ok.ensures.ok (g.S.Source.left c.args.source.now) (g.S.Source.left c.take_script.new.source) _ c.from.result
    (λ u. no_usage c.in-Err.error (sym c.from.ensures ∙ u)) c.in-Err.ensures.demo
