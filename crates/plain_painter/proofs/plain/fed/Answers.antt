use Rattle.std.proofs.Common.{◌≡◌, Some, take, sym, ap, ◌∙◌, subst, length, refl}
use Rattle.std.specs.Prelude.{slice_get}
use Rattle.std.proofs.lemmas.Option.{slice_get_read}
use Rattle.entry_queue.specs.Pushed.{Pending, StandsFor}
use Rattle.entry_queue.proofs.Taking.{takes_lawful}
use Rattle.plain_painter.proofs.Fronts.{item_more, lawful_next}
use Rattle.plain_painter.proofs.plain.fed.Goals as goal

pub push-requires : goal.push-requires
push-requires c =
    let at : slice_get c.args.commands.now c.loop-command.command-index ≡ Some c.command-item.result = slice_get_read c.args.commands.now (length c.args.commands.now) c.loop-command.command-index c.command-item.result refl c.loop-command-test.true c.command-item.is in
    takes_lawful (take c.loop-command.command-index c.args.commands.now) c.command-item.result c.loop-command.queue (lawful_next c.args.commands.now c.loop-command.command-index c.command-item.result c.requires at) c.loop-command.invariant.0

pub loop-command-preserved : goal.loop-command-preserved
loop-command-preserved c =
    let at : slice_get c.args.commands.now c.loop-command.command-index ≡ Some c.command-item.result = slice_get_read c.args.commands.now (length c.args.commands.now) c.loop-command.command-index c.command-item.result refl c.loop-command-test.true c.command-item.is in (
      subst (λ cs. StandsFor cs c.push.new.self) (sym (item_more c.args.commands.now c.loop-command.command-index c.command-item.result at))
          (c.in_ok-push.ensures.stands (take c.loop-command.command-index c.args.commands.now) (lawful_next c.args.commands.now c.loop-command.command-index c.command-item.result c.requires at) c.loop-command.invariant.0),
      ap (λ (q : Pending). q.outcomes) c.in_ok-push.ensures.ok ∙ c.loop-command.invariant.1,
    )
