use Rattle.std.proofs.Common.{Some, ap, ◌∙◌}
use Rattle.std.specs.FinMap as map
use Rattle.paint_device.specs.Sheets.{Sheet, with_under}
use Rattle.desk_steps.proofs.Devices.{on_err}
use Rattle.desk_steps.proofs.Lain.{ready_there, with_readied}
use Rattle.desk_steps.proofs.Patched.{put_back}
use Rattle.desk_steps.proofs.laying.set_under.Goals as goal

pub returns-in_err-note_under-clause-err : goal.returns-in_err-note_under-clause-err
returns-in_err-note_under-clause-err c = on_err c.from_residual.result c.note_under.ensures.same

pub set_tile-requires : goal.set_tile-requires
set_tile-requires c = ap (λ (s : Sheet). map.contains_key s.tiles c.args.key) c.in_ok-note_under.ensures.ok ∙ ready_there c.args.device.now c.args.key

pub returns-clause-ok : goal.returns-clause-ok
returns-clause-ok c = c.set_tile.ensures ∙ ap (λ s. with_under s c.args.key (Some c.args.tile)) c.in_ok-note_under.ensures.ok ∙ with_readied c.args.device.now c.args.key (Some c.args.tile)

pub returns-clause-back : goal.returns-clause-back
returns-clause-back c = put_back c.args.found.now c.args.device.now c.args.key c.args.tile c.note_under.new.found c.set_tile.new.self c.requires.there
    (c.set_tile.ensures ∙ ap (λ s. with_under s c.args.key (Some c.args.tile)) c.in_ok-note_under.ensures.ok ∙ with_readied c.args.device.now c.args.key (Some c.args.tile))
    c.in_ok-note_under.ensures.noted
