use Rattle.std.proofs.Common.{rules, ◌≡◌, to_z, of_z, w32, subst}
use Rattle.std.specs.Prelude.{ℤ, OnOk, ◌++◌}
use Rattle.std.proofs.lemmas.Int.{to_z-of_z}
use Rattle.doc_model.specs.declared.job.Job.TheVariants.{Dab}
use Rattle.script_text.specs.Text.{spaced, job_text_fields}
use Rattle.script_text.proofs.printing.add_job.Goals as goal

pub returns-in-Fill : goal.returns-in-Fill
returns-in-Fill c = rw c.in-Fill.is c.add_fill.ensures

pub returns-in-Dab : goal.returns-in-Dab
returns-in-Dab c =
    let d = c.in-Dab in
    let P : ℤ → ℤ → Type 0 = λ x y. OnOk c.add_dab.result (c.add_dab.new.out.items ≡ c.args.out.now.items ++ spaced (job_text_fields (Dab x y c.in-Dab.r c.in-Dab.soft c.in-Dab.colour c.in-Dab.op c.in-Dab.strength))) in
    let x : to_z w32 (of_z w32 c.in-Dab.x) ≡ c.in-Dab.x = search (rules, to_z-of_z) in
    let y : to_z w32 (of_z w32 c.in-Dab.y) ≡ c.in-Dab.y = search (rules, to_z-of_z) in
    rw c.in-Dab.is (subst (λ a. P a c.in-Dab.y) x (subst (λ b. P (to_z w32 (of_z w32 c.in-Dab.x)) b) y c.add_dab.ensures))
