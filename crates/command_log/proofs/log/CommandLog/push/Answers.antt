use Rattle.std.proofs.Common.{◌≡◌, ◌∙◌, sym, Some, None, Err, subst}
use Rattle.doc_model.specs.Strokes.{entries}
use Rattle.command_log.specs.declared.refusal.Refusal.{Refusal}
use Rattle.command_log.specs.declared.refusal.Refusal.TheVariants as refusal
use Rattle.command_log.specs.Misfits.{misfit_of}
use Rattle.command_log.specs.Log.{Refuses}
use Rattle.command_log.proofs.Following.{fits}
use Rattle.command_log.proofs.log.CommandLog.push.Goals as goal

pub unreachable-requires : goal.unreachable-requires
unreachable-requires c = go c.in-Err.field-0 c.in-Err.is
  where
    fit : misfit_of (entries c.args.self.now.items) c.args.command ≡ None
    fit = fits (entries c.args.self.now.items) c.args.command c.requires.lawful

    go : (r : Refusal) → c.add.result ≡ Err r → ⊥
    go (refusal.Misfit m) e =
        let told : misfit_of (entries c.args.self.now.items) c.args.command ≡ Some m = subst (λ x. Refuses x (misfit_of (entries c.args.self.now.items) c.args.command)) e c.add.ensures.refused in
        absurd (cc (sym fit ∙ told))
    go refusal.NoMemory e = c.add.ensures.full e c.requires.room
