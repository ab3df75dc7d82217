use Rattle.std.proofs.Common.{◌≡◌, ℤ, pos, ◌+ℤ◌, ◌-ℤ◌, to_z, of_z, w32, arith, ap, ◌∙◌, subst}
use borrow.Author.Differences.{ints}
use Rattle.job_core.specs.Tracks.{IsBeside, reaches, stands}
use Rattle.job_core.proofs.Near.{beside_forward, beside_back}
use Rattle.job_core.proofs.tracks.near_steps.Goals as goal

pub returns-then-back : goal.returns-then-back
returns-then-back c n h =
    let a : to_z w32 (of_z w32 (to_z w32 (of_z w32 c.from-from.result) -ℤ to_z w32 (of_z w32 c.last_reached-high.result))) ≡ (c.args.from -ℤ (((c.args.start +ℤ pos c.args.size) +ℤ pos c.args.r) -ℤ pos 1)) = omega (arith, ints) in
    let b : to_z w32 (of_z w32 (to_z w32 (of_z w32 c.from-from.result) -ℤ to_z w32 (of_z w32 c.first_reached-low.result))) ≡ (c.args.from -ℤ (c.args.start -ℤ pos c.args.r)) = omega (arith, ints) in
    ap (λ t. reaches (stands c.args.from t n) c.args.r c.args.start c.args.size) c.if-back.true
    ∙ beside_back c.args.from c.args.start c.args.r c.args.size n (subst (λ (t : ℤ × ℤ). IsBeside t.0 t.1 n) (λ i. (a i, b i)) h)

pub returns-else-back : goal.returns-else-back
returns-else-back c n h =
    let a : to_z w32 (of_z w32 (to_z w32 (of_z w32 c.first_reached-low.result) -ℤ to_z w32 (of_z w32 c.from-from.result))) ≡ ((c.args.start -ℤ pos c.args.r) -ℤ c.args.from) = omega (arith, ints) in
    let b : to_z w32 (of_z w32 (to_z w32 (of_z w32 c.last_reached-high.result) -ℤ to_z w32 (of_z w32 c.from-from.result))) ≡ ((((c.args.start +ℤ pos c.args.size) +ℤ pos c.args.r) -ℤ pos 1) -ℤ c.args.from) = omega (arith, ints) in
    ap (λ t. reaches (stands c.args.from t n) c.args.r c.args.start c.args.size) c.if-back.false
    ∙ beside_forward c.args.from c.args.start c.args.r c.args.size n (subst (λ (t : ℤ × ℤ). IsBeside t.0 t.1 n) (λ i. (a i, b i)) h)
