use Rattle.std.proofs.Common.{◌≡◌, Some, sym, subst, ap, ◌∙◌}
use Rattle.std.specs.FinMap as map
use Rattle.geom_core.specs.Keys.{IsWorldKey}
use Rattle.job_core.specs.Points.{LaysPoints, all_painted_in}
use Rattle.paint_device.specs.InPlace.{LaysUnder}
use Rattle.paint_device.specs.Seen.{layer_of}
use Rattle.paint_device.specs.Sheets.{with_under}
use Rattle.memento_core.specs.Revisions.{keys_in}
use Rattle.desk_steps.specs.Founds.{GivesBack, StandIn}
use Rattle.desk_steps.proofs.Devices.{more_ok}
use Rattle.memento_core.proofs.Sets.{inserted_again}
use Rattle.memento_core.proofs.Exchanging.{contains-keys_in}
use Rattle.desk_steps.proofs.Painted.{painted_layer, painted_in_place}
use Rattle.desk_steps.proofs.painting.paint.Goals as goal

pub returns-then-changed_in_place-clause-ok : goal.returns-then-changed_in_place-clause-ok
returns-then-changed_in_place-clause-ok c =
    let w = c.args.work.now in
    let s = c.args.device.now in
    painted_in_place w s c.changed_in_place.new.device (subst (LaysUnder (LaysPoints w) s c.changed_in_place.new.device) c.key-key.ensures.value (c.changed_in_place.ensures.laid c.if-changed_in_place.true))

pub returns-then-changed_in_place-clause-keys : goal.returns-then-changed_in_place-clause-keys
returns-then-changed_in_place-clause-keys c = sym (inserted_again (keys_in c.args.found.now) c.args.work.now.key (contains-keys_in c.args.found.now c.args.work.now.key
    ∙ ap (map.contains_key c.args.found.now) (sym c.key-key.ensures.value) ∙ c.changed_in_place.ensures.among c.if-changed_in_place.true))

pub set_under-requires-clause-there : goal.set_under-requires-clause-there
set_under-requires-clause-there c = subst (λ s. StandIn c.args.found.now (Some s)) (sym (c.changed_in_place.ensures.kept c.if-changed_in_place.false)) c.requires

pub returns-clause-back : goal.returns-clause-back
returns-clause-back c = subst (λ s. GivesBack c.args.found.now c.set_under.new.found s c.set_under.new.device) (c.changed_in_place.ensures.kept c.if-changed_in_place.false) c.set_under.ensures.back

pub set_under-requires-clause-world : goal.set_under-requires-clause-world
set_under-requires-clause-world c = subst IsWorldKey (sym c.key-key.ensures.value) c.key-key.ensures.known.world

pub returns-clause-ok : goal.returns-clause-ok
returns-clause-ok c =
    let w = c.args.work.now in
    let s = c.changed_in_place.new.device in
    let same : s ≡ c.args.device.now = c.changed_in_place.ensures.kept c.if-changed_in_place.false in
    more_ok c.set_under.result (λ e. ap layer_of (e ∙ ap (λ k. with_under s k (Some c.in_ok-tile.tile)) c.key-key.ensures.value) ∙ painted_layer w s c.in_ok-tile.tile c.in_ok-tile.ensures
    ∙ ap (λ s. all_painted_in w.jobs w.key (layer_of s)) same) c.set_under.ensures.ok
