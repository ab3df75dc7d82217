use Rattle.std.proofs.Common.{◌≡◌, Some, sym, subst, ◌∙◌}
use Rattle.doc_model.specs.Shots.{published}
use Rattle.job_core.specs.Paints as paints
use Rattle.paint_device.specs.Seen.{layer_of}
use Rattle.memento_core.specs.Revisions.{keys_in}
use Rattle.desk_steps.specs.Founds.{GivesBack, StandIn}
use Rattle.desk_steps.specs.Tiles.{IsLaid}
use Rattle.desk_steps.proofs.Devices.{more_ok}
use Rattle.memento_core.proofs.Sets.{inserted_again}
use Rattle.desk_steps.proofs.Lain.{key_made, laid_layer}
use Rattle.memento_core.proofs.Exchanging.{contains-keys_in}
use Rattle.desk_steps.proofs.laying.lay.Goals as goal

pub returns-then-laid_in_place-clause-keys : goal.returns-then-laid_in_place-clause-keys
returns-then-laid_in_place-clause-keys c = sym (inserted_again (keys_in c.args.found.now) c.args.made.now.key (contains-keys_in c.args.found.now c.args.made.now.key ∙ c.laid_in_place.ensures.among c.if-laid_in_place.true))

pub show_under-requires-clause-there : goal.show_under-requires-clause-there
show_under-requires-clause-there c = subst (λ s. StandIn c.args.found.now (Some s)) (sym (c.laid_in_place.ensures.kept c.if-laid_in_place.false)) c.requires

pub returns-clause-back : goal.returns-clause-back
returns-clause-back c = subst (λ s. GivesBack c.args.found.now c.show_under.new.found s c.show_under.new.device) (c.laid_in_place.ensures.kept c.if-laid_in_place.false) c.show_under.ensures.back

pub returns-clause-ok : goal.returns-clause-ok
returns-clause-ok c w m =
    let s = c.laid_in_place.new.device in
    let same : s ≡ c.args.device.now = c.laid_in_place.ensures.kept c.if-laid_in_place.false in
    let key : c.key.result ≡ w.key = c.key.ensures.value ∙ key_made w c.args.made.now m in
    more_ok c.show_under.result
    (λ e. e ∙ laid_layer w.job (paints.layer_of w.shot) c.key.result s c.in_ok-tile.tile (subst (λ k. IsLaid w.job (paints.layer_of w.shot) k s c.in_ok-tile.tile) (sym key) (c.in_ok-tile.ensures w m))
    ∙ (λ i. published w.job (paints.layer_of w.shot) (key i) (layer_of (same i)))) c.show_under.ensures.ok
