use Rattle.std.proofs.Common.{◌≡◌, ◌∙◌, sym, arith, refl, subst, to_z, of_z, w16, w32}
use Rattle.std.specs.Prelude.{nat_abs, ◌-ℤ◌, int_lt}
use borrow.Author.Differences.{ints}
use Rattle.doc_model.specs.Trails.{distance, how_many_on}
use Rattle.doc_model.specs.Tracks.{point_of}
use Rattle.job_core.specs.Tracks.{stands, reaches, IsBeside, AreWithin}
use Rattle.job_core.proofs.Near.{near_across, near_down, other_axis, steps_across, steps_down}
use Rattle.job_core.proofs.tracks.near_dabs.Goals as goal
use Rattle.job_core.proofs.tracks.near_dabs.Goals.{then-abs_diff-steps, else-abs_diff-steps}

pub returns-clause-near : goal.returns-clause-near
returns-clause-near c =
    let p = point_of c.args.segment.now.from in
    let q = point_of c.args.segment.now.to in
    let within : AreWithin c.if-abs_diff-steps.steps.low c.if-abs_diff-steps.steps.high c.args.gap (how_many_on c.args.gap p q) c.multiples.result.first c.multiples.result.end =
    subst (λ n. AreWithin c.if-abs_diff-steps.steps.low c.if-abs_diff-steps.steps.high c.args.gap n c.multiples.result.first c.multiples.result.end) c.dab_count-count.ensures.value c.multiples.ensures in
    elim c.if-abs_diff-steps.branch [
      | then-abs_diff-steps w ↦ (
          let a : to_z w16 (of_z w16 c.args.segment.now.from.0) ≡ p.x = omega (arith, ints) in
          let b : to_z w16 (of_z w16 c.args.segment.now.to.0) ≡ q.x = omega (arith, ints) in
          let s : to_z w32 (of_z w32 w.x.result) ≡ c.args.bounds.now.x = omega (arith, ints) in
          let major : nat_abs (q.x -ℤ p.x) ≡ distance p q = omega (arith, ints) in
          near_across p q c.args.gap c.args.r c.args.bounds.now c.if-abs_diff-steps.steps.low c.if-abs_diff-steps.steps.high c.multiples.result.first c.multiples.result.end (int_lt q.x p.x) c.requires major
          (steps_across p q (int_lt q.x p.x) major refl)
          (λ n h. (λ i. reaches (stands (sym a i) (int_lt (sym b i) (sym a i)) n) c.args.r (sym s i) (sym w.w.ensures.value i)) ∙ w.near_steps-steps.ensures n (subst (λ t. IsBeside t.low t.high n) w.steps-is h))
          within)
      | else-abs_diff-steps w ↦ (
          let a : to_z w16 (of_z w16 c.args.segment.now.from.1) ≡ p.y = omega (arith, ints) in
          let b : to_z w16 (of_z w16 c.args.segment.now.to.1) ≡ q.y = omega (arith, ints) in
          let s : to_z w32 (of_z w32 w.y.result) ≡ c.args.bounds.now.y = omega (arith, ints) in
          let turned : c.abs_diff.result ≡ nat_abs (q.x -ℤ p.x) = omega (arith, ints) in
          let major : nat_abs (q.y -ℤ p.y) ≡ distance p q = other_axis (nat_abs (q.x -ℤ p.x)) (nat_abs (q.y -ℤ p.y)) c.abs_diff.result c.steps.result turned c.steps.ensures.value w.if-abs_diff-steps.false ∙ c.steps.ensures.value in
          near_down p q c.args.gap c.args.r c.args.bounds.now c.if-abs_diff-steps.steps.low c.if-abs_diff-steps.steps.high c.multiples.result.first c.multiples.result.end (int_lt q.y p.y) c.requires major
          (steps_down p q (int_lt q.y p.y) major refl)
          (λ n h. (λ i. reaches (stands (sym a i) (int_lt (sym b i) (sym a i)) n) c.args.r (sym s i) (sym w.h.ensures.value i)) ∙ w.near_steps-steps-else-abs_diff-steps.ensures n (subst (λ t. IsBeside t.low t.high n) w.steps-is h))
          within)
    ]
