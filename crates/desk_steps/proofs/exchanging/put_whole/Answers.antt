use Rattle.std.proofs.Common.{Some, sym, ap, subst, ◌∙◌}
use Rattle.std.specs.FinSet as set
use Rattle.geom_core.specs.Keys.{IsWorldKey}
use Rattle.memento_core.specs.Revisions.{keys_in}
use Rattle.paint_device.specs.Sheets.{with_under}
use Rattle.paint_device.specs.Seen.{layer_of}
use Rattle.desk_steps.proofs.Devices.{more_ok}
use Rattle.desk_steps.proofs.Lain.{laid_layer}
use Rattle.desk_steps.proofs.WholeTiles.{whole_laid}
use Rattle.desk_steps.proofs.exchanging.put_whole.Goals as goal

pub show_under-requires-clause-world : goal.show_under-requires-clause-world
show_under-requires-clause-world c = subst IsWorldKey (sym c.key.ensures.value) c.key.ensures.known.world

pub returns-clause-ok : goal.returns-clause-ok
returns-clause-ok c shot shows =
    let x = c.args.whole.now in
    let s = c.args.device.now in
    let t = c.in_ok-tile.tile in
    more_ok c.show_under.result (λ e. e ∙ ap (λ k. layer_of (with_under s k (Some t))) c.key.ensures.value ∙ laid_layer x.job shot x.key s t (whole_laid x shot s t c.key.ensures.known shows c.in_ok-tile.ensures)) c.show_under.ensures.ok

pub returns-clause-keys : goal.returns-clause-keys
returns-clause-keys c = more_ok c.show_under.result (λ e. e ∙ ap (set.insert (keys_in c.args.found.now)) c.key.ensures.value) c.show_under.ensures.keys
