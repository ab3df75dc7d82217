use Rattle.std.proofs.Common.{◌≡◌, ℤ, pos, negsuc, Bool, false, ◌&&◌, ap, sym, ◌∙◌, to_z, of_z, w32, arith}
use Rattle.std.specs.Prelude.{int_le}
use borrow.Author.Differences.{ints}
use Rattle.geom_core.specs.Areas.{moved}
use Rattle.doc_model.proofs.InWorld.{ok_inside, err_outside, far_across, far_down}
use Rattle.doc_model.proofs.job.displaced.Goals as goal
use Rattle.doc_model.proofs.job.displaced.Goals.{then-not-is_step-via-then-not-is_step, then-not-is_step-via-else-not-is_step+then-not-is_step-2}

abbrev is_near : ℤ → Bool
is_near d = int_le (negsuc 32766) d && int_le d (pos 32767)

made : (c : goal.After-moved) → moved c.args.rect.now (to_z w32 (of_z w32 c.args.dx)) (to_z w32 (of_z w32 c.args.dy)) ≡ moved c.args.rect.now c.args.dx c.args.dy
made c =
    let x : to_z w32 (of_z w32 c.args.dx) ≡ c.args.dx = omega (arith, ints) in
    let y : to_z w32 (of_z w32 c.args.dy) ≡ c.args.dy = omega (arith, ints) in
    λ i. moved c.args.rect.now (x i) (y i)

pub returns-then-not-is_step-clause-outside : goal.returns-then-not-is_step-clause-outside
returns-then-not-is_step-clause-outside c =
    let x : to_z w32 (of_z w32 c.args.dx) ≡ c.args.dx = omega (arith, ints) in
    elim c.then-not-is_step.branch [
      | then-not-is_step-via-then-not-is_step w ↦ far_across c.args.rect.now c.args.dx c.args.dy c.in_world-whole.ensures.inside c.in_world-whole.ensures.columns
          (let no_step : c.is_step.result ≡ false = search in sym (ap is_near x) ∙ sym c.is_step.ensures ∙ no_step)
      | then-not-is_step-via-else-not-is_step+then-not-is_step-2 w ↦ far_down c.args.rect.now c.args.dx c.args.dy c.in_world-whole.ensures.inside c.in_world-whole.ensures.rows
          (let y : to_z w32 (of_z w32 c.args.dy) ≡ c.args.dy = omega (arith, ints) in
          let no_step : w.is_step-else-not-is_step.result ≡ false = search in sym (ap is_near y) ∙ sym w.is_step-else-not-is_step.ensures ∙ no_step)
    ]

pub returns-clause-inside : goal.returns-clause-inside
returns-clause-inside c = ok_inside _ _ _ (made c) c.moved.ensures.inside

pub returns-clause-outside : goal.returns-clause-outside
returns-clause-outside c = err_outside _ _ _ (made c) c.moved.ensures.outside
