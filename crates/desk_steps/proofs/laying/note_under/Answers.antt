use Rattle.std.proofs.Common.{◌≡◌, not, is_some, sym, ap, subst, ◌∙◌}
use Rattle.paint_device.specs.Seen.{layer_of}
use Rattle.paint_device.specs.Sheets.{readied}
use Rattle.memento_core.specs.Revisions.{keys_in, noted_under}
use Rattle.desk_steps.specs.Founds.{GivesBack}
use Rattle.desk_steps.proofs.Devices.{either_way, more_ok}
use Rattle.desk_steps.proofs.Lain.{ready_layer, ready_stands}
use Rattle.desk_steps.proofs.Patched.{keys_in-noted_under, note_back, ready_back}
use Rattle.desk_steps.proofs.laying.note_under.Goals as goal
use Rattle.desk_steps.proofs.laying.note_under.Goals.{then-is_none+in_ok-ready, else-is_none}

-- the key is there, whether a tile stood under it or not
is_ready : (c : goal.After-note) → c.if-is_none.device ≡ readied c.args.device.now c.args.key
is_ready c = elim c.if-is_none.branch [
  | then-is_none+in_ok-ready w ↦ w.device-is ∙ w.in_ok-ready.ensures.ok
  | else-is_none w ↦ w.device-is ∙ sym (ready_stands c.args.device.now c.args.key (ap is_some (sym c.in_ok-old.ensures) ∙ c.is_none.ensures ∙ ap not w.if-is_none.false))
]

pub returns-clause-keys : goal.returns-clause-keys
returns-clause-keys c = more_ok c.note.result (λ e. ap keys_in e ∙ keys_in-noted_under c.args.found.now c.args.key c.in_ok-old.old) c.note.ensures.ok

pub returns-clause-back : goal.returns-clause-back
returns-clause-back c = either_way c.note.result
    (λ e. note_back c.args.found.now c.args.device.now c.args.key c.note.new.self c.if-is_none.device c.requires.there (is_ready c) (e ∙ ap (noted_under c.args.found.now c.args.key) c.in_ok-old.ensures))
    (λ e. subst (λ f. GivesBack c.args.found.now f c.args.device.now c.if-is_none.device) (sym e) (ready_back c.args.found.now c.args.device.now c.if-is_none.device c.args.key c.requires.there (is_ready c)))
    c.note.ensures.ok c.note.ensures.err

pub returns-clause-same : goal.returns-clause-same
returns-clause-same c = ap layer_of (is_ready c) ∙ ready_layer c.args.device.now c.args.key
