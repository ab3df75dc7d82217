use Rattle.std.proofs.Common.{ℕ, ◌≡◌, ◌∙◌, sym, ap, subst, ◌++◌, ◌∷◌, [], length, rules, Some, None, ◌≤◌}
use Rattle.std.specs.Prelude.{IfSome}
use Rattle.std.specs.List.{filter}
use Rattle.doc_model.specs.Strokes.{entries, fed, is_export}
use Rattle.doc_model.proofs.Feeding.{entries_last}
use Rattle.command_log.specs.Misfits.{misfit_of}
use Rattle.command_log.specs.Table.{Tells, kept, next_fed, stroke_misfit, export_misfit}
use Rattle.command_log.specs.Log.{Log}
use Rattle.command_log.proofs.Steps.{step, exports_step, exports_few, misfit_of_exports, misfit_of_strokes}
use Rattle.command_log.proofs.log.CommandLog.add.Goals as goal

pub invariant_of-self-2 : goal.invariant_of-self-2
invariant_of-self-2 c =
    let d = c.self.inside in
    let cs = d.commands.items in
    let es = entries cs in
    let more : c.take_next.new.self.items ≡ cs ++ c.args.command ∷ [] = one_more ∙ ap (λ l. l ++ c.args.command ∷ []) c.make_room.ensures.items in
    let room : export_misfit d.exports c.args.command ≡ None = search rules in
    let taken : stroke_misfit (kept d.strokes) c.args.command ≡ None = search rules in
    let fits : misfit_of es c.args.command ≡ None = misfit_of_strokes es c.args.command (kept d.strokes) d.exports c.self.invariant.tells c.self.invariant.exports room ∙ taken in
    let now : entries c.take_next.new.self.items ≡ fed es c.args.command = ap entries more ∙ entries_last cs c.args.command in
    record {
      tells = λ m. subst (λ l. Tells l m (kept c.take.new.self m)) (sym now)
          (subst (λ f. Tells (fed es c.args.command) m f) (sym (kept_then m))
          (step es c.args.command m (kept d.strokes m) fits (c.self.invariant.tells m)));
      exports = c.exports_after-self-inside.ensures ∙ (exports_step es c.args.command d.exports c.self.invariant.exports ∙ ap (λ l. length (filter is_export l)) (sym now));
      few = subst (λ n. n ≤ 64) (sym c.exports_after-self-inside.ensures) (exports_few es c.args.command d.exports c.self.invariant.exports c.self.invariant.few fits);
    }
  where
    one_more : c.take_next.new.self.items ≡ c.make_room.new.self.items ++ c.args.command ∷ []
    one_more = subst (λ o. IfSome o (λ k. c.take_next.new.self.items ≡ c.make_room.new.self.items ++ k ∷ [])) c.in_ok-make_room.ensures.room c.take_next.ensures

    kept_then : (m : ℕ) → kept c.take.new.self m ≡ next_fed c.args.command m (kept c.self.inside.strokes m)
    kept_then m = search rules

pub returns-in-Some-clause-refused : goal.returns-in-Some-clause-refused
returns-in-Some-clause-refused c =
    let d = c.self.inside in
    let cs = d.commands.items in
    let room : export_misfit d.exports c.args.command ≡ Some c.in-Some.misfit = search rules in
    let here : misfit_of (entries cs) c.args.command ≡ Some c.in-Some.misfit = misfit_of_exports (entries cs) c.args.command (kept d.strokes) d.exports c.in-Some.misfit c.self.invariant.tells c.self.invariant.exports room in
    subst (λ (l : Log). misfit_of (entries l.items) c.args.command ≡ Some c.in-Some.misfit) c.self.view_is here

pub returns-in_err-take-clause-refused : goal.returns-in_err-take-clause-refused
returns-in_err-take-clause-refused c =
    let d = c.self.inside in
    let cs = d.commands.items in
    let room : export_misfit d.exports c.args.command ≡ None = search rules in
    let here : misfit_of (entries cs) c.args.command ≡ stroke_misfit (kept d.strokes) c.args.command = misfit_of_strokes (entries cs) c.args.command (kept d.strokes) d.exports c.self.invariant.tells c.self.invariant.exports room in
    let bad : misfit_of (entries c.args.self.now.items) c.args.command ≡ stroke_misfit (kept d.strokes) c.args.command = subst (λ (l : Log). misfit_of (entries l.items) c.args.command ≡ stroke_misfit (kept d.strokes) c.args.command) c.self.view_is here in
    rw bad (search rules)

pub returns-clause-refused : goal.returns-clause-refused
returns-clause-refused c =
    let d = c.self.inside in
    let cs = d.commands.items in
    let room : export_misfit d.exports c.args.command ≡ None = search rules in
    let taken : stroke_misfit (kept d.strokes) c.args.command ≡ None = search rules in
    let here : misfit_of (entries cs) c.args.command ≡ None = misfit_of_strokes (entries cs) c.args.command (kept d.strokes) d.exports c.self.invariant.tells c.self.invariant.exports room ∙ taken in
    subst (λ (l : Log). misfit_of (entries l.items) c.args.command ≡ None) c.self.view_is here
