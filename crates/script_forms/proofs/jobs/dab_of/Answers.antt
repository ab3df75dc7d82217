use Rattle.std.proofs.Common.{◌≡◌, refl, to_z, of_z, w32, arith}
use borrow.Author.Differences.{ints}
use Rattle.std.proofs.lemmas.Int.{to_z-of_z}
use Rattle.doc_model.specs.Jobs.{square}
use Rattle.doc_model.specs.declared.job.Job.TheVariants.{Dab}
use Rattle.script_forms.specs.Ranges.{in_world}
use Rattle.script_forms.proofs.World.{checked_sound, small, held, not_held, one, answer, refused}
use Rattle.script_forms.proofs.jobs.dab_of.Goals as goal
use Rattle.geom_core.proofs.Tests.{no_first}

pub returns-in-Ok-clause-value : goal.returns-in-Ok-clause-value
returns-in-Ok-clause-value c =
    let t = c.args.t in
    let x : to_z w32 (of_z w32 t.x) ≡ t.x = omega (arith, ints) in
    let y : to_z w32 (of_z w32 t.y) ≡ t.y = omega (arith, ints) in
    let told : c.square_rect.result ≡ in_world (square t.x t.y t.r) = grind (arith, to_z-of_z, c.square_rect.ensures) in
    let h = held (square t.x t.y t.r) c.in-Ok.field-0 c.square_rect.result told c.in-Ok.is in
    answer _ _ _ (one _ h.inside) (λ i. Dab (x i) (y i) t.r t.soft c.args.i.colour c.args.i.op c.args.i.strength)

pub returns-in-Err-clause-value : goal.returns-in-Err-clause-value
returns-in-Err-clause-value c =
    let t = c.args.t in
    let told : c.square_rect.result ≡ in_world (square t.x t.y t.r) = grind (arith, to_z-of_z, c.square_rect.ensures) in
    let h = not_held (square t.x t.y t.r) c.in-Err.field-0 c.square_rect.result told c.in-Err.is in
    refused _ _ _ (no_first _ _ h.outside) refl

pub returns-in-Ok-clause-sound : goal.returns-in-Ok-clause-sound
returns-in-Ok-clause-sound c = checked_sound (Dab c.args.t.x c.args.t.y c.args.t.r c.args.t.soft c.args.i.colour c.args.i.op c.args.i.strength) _ (returns-in-Ok-clause-value c) (small c.args.t.r c.requires.t.r)
