-- The order of points.
use Rattle.std.specs.Prelude.{ℤ}
use Rattle.std.specs.Ordering.{int_cmp}
use Rattle.std.specs.Cmp.{IsTotalOrder}
use Rattle.std.specs.FinMap.{IsAntisymmetric}
use Rattle.std.specs.Coded.{Coded, code_by, coded×, coded_ℤ}
use Rattle.std.proofs.Common.{ap, refl}
use Rattle.std.proofs.lemmas.Cmp.{on_total, then_total, int_cmp_total}
use Rattle.std.proofs.lemmas.Map.Lookups.{exact_pairs, exact_signed}
use Rattle.geom_core.specs.Areas.{Point, point, point_cmp}

-- points stand in one order
pub point_cmp_total : IsTotalOrder point_cmp
point_cmp_total = then_total (on_total (λ (p : Point). p.y) int_cmp_total) (on_total (λ (p : Point). p.x) int_cmp_total)

-- points that compare alike are one
pub point_cmp-IsAntisymmetric : IsAntisymmetric point_cmp
point_cmp-IsAntisymmetric p q h = ap (λ (t : ℤ × ℤ). point t.1 t.0) (exact_pairs int_cmp int_cmp exact_signed exact_signed (p.y, p.x) (q.y, q.x) h)

-- the code by which contracts tell points apart
abbrev pub point_code : Coded Point
point_code = code_by (ℤ × ℤ) (coded× coded_ℤ coded_ℤ) (λ p. (p.x, p.y)) (λ t. point t.0 t.1) (λ _. refl)
