use Rattle.std.proofs.Common.{◌≡◌, true, eqb, sym, ap, ◌∙◌, arith}
use Rattle.std.proofs.lemmas.Bool.Decides.{nat_tests}
use Rattle.pixel_core.specs.Rgba.{clear}
use Rattle.doc_model.specs.Layers.{Layer}
use Rattle.doc_model.proofs.LayerLaws.{default-plain}
use Rattle.doc_model.proofs.JobLaws.{default-apply}
use Rattle.plain_painter.specs.Steps.{layer_after}
use Rattle.plain_painter.specs.declared.layer.Deed.TheVariants.{Fresh, Paint}
use Rattle.plain_painter.proofs.Layered.{no_steps, layer_own}
use Rattle.plain_painter.proofs.layer.+default_after.Goals as goal

pub returns-in_default : goal.returns-in_default
returns-in_default t c = sym (ap (λ (l : Layer). l.default_pixel) (no_steps c.args.id c.args.steps.now c.in_default.ensures.cases) ∙ default-plain clear)

pub returns-in-Fresh : goal.returns-in-Fresh
returns-in-Fresh t c =
    let own : eqb c.in-Some.step.now.layer c.args.id ≡ true = grind (arith, nat_tests) in
    sym (default-plain c.in-Fresh.pixel) ∙ ap (λ (l : Layer). l.default_pixel) (layer_own c.args.id c.args.steps.now c.in-Some.older.now c.in-Some.step.now (Fresh c.in-Fresh.pixel) c.in-Some.ensures.cases.0 own c.in-Fresh.is)

pub returns-in-Paint : goal.returns-in-Paint
returns-in-Paint t c =
    let own : eqb c.in-Some.step.now.layer c.args.id ≡ true = grind (arith, nat_tests) in
    c.default_after-in-Paint.ensures ∙ sym (default-apply c.in-Paint.field-0 (layer_after c.args.id c.in-Some.older.now))
    ∙ ap (λ (l : Layer). l.default_pixel) (layer_own c.args.id c.args.steps.now c.in-Some.older.now c.in-Some.step.now (Paint c.in-Paint.field-0) c.in-Some.ensures.cases.0 own c.in-Paint.is)
