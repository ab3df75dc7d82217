use Rattle.std.proofs.Common.{◌≡◌, ◌↔◌, true, Some, None, ap, sym, ◌∙◌, refl, rules, subst}
use Rattle.std.specs.Prelude.{IsTrue}
use Rattle.doc_model.specs.declared.canvas.Patch.{Patch}
use Rattle.desk_state.specs.declared.work.Work.TheVariants.{Paint, Walk}
use Rattle.desk_events.proofs.SameWalks.{told_at}
use Rattle.desk_events.proofs.machine.Machine.walks_as.Goals as goal

pub returns-in-Some-Walk : goal.returns-in-Some-Walk
returns-in-Some-Walk c =
    let same : IsTrue c.eq.result ↔ (c.patch.result.walk ≡ c.args.walk) = search rules in
    let told = subst (λ (q : Patch). IsTrue c.eq.result ↔ (q.walk ≡ c.args.walk)) c.patch.ensures same in
    rw (← c.self.view_is) (λ slot at. told_at c.self.inside.slots c.args.place c.args.walk (Some (Walk c.in-Some-Walk.walker)) slot c.eq.result (ap Some (sym c.in-Some-Walk.field-0-is) ∙ c.in-Some-Walk.ensures) told at)

pub returns-in-Some-Paint : goal.returns-in-Some-Paint
returns-in-Some-Paint c = rw (← c.self.view_is) (λ slot at. told_at c.self.inside.slots c.args.place c.args.walk (Some (Paint c.in-Some-Paint.field-0-0)) slot true (ap Some (sym c.in-Some-Paint.field-0-is) ∙ c.in-Some-Paint.ensures) ((λ e. tt), (λ e. refl)) at)

pub returns-in-None : goal.returns-in-None
returns-in-None c = rw (← c.self.view_is) (λ slot at. told_at c.self.inside.slots c.args.place c.args.walk None slot true c.in-None.ensures ((λ e. tt), (λ e. refl)) at)
