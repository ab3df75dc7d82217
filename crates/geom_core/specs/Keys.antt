-- Keys of tiles: their order, those of the world, and how contracts tell them apart.
use Rattle.std.specs.Prelude.{ℤ, pos, negsuc, ◌≤ℤ◌, ◌<ℤ◌}
use Rattle.std.specs.Ordering.{int_cmp}
use Rattle.std.specs.Cmp.{IsTotalOrder}
use Rattle.std.specs.FinMap.{IsAntisymmetric}
use Rattle.std.specs.Coded.{Coded, code_by, coded×, coded_ℤ}
use Rattle.std.proofs.Common.{ap, refl}
use Rattle.std.proofs.lemmas.Cmp.{on_total, then_total, int_cmp_total}
use Rattle.std.proofs.lemmas.Map.Lookups.{exact_pairs, exact_signed}
use Rattle.geom_core.specs.Grid.{Key, key, key_cmp}

-- the world's tiles have columns and rows from -256 to 255
pub record IsWorldKey (k : Key) : Type 0 where
  pub left : negsuc 255 ≤ℤ k.col
  pub right : k.col <ℤ pos 256
  pub top : negsuc 255 ≤ℤ k.row
  pub bottom : k.row <ℤ pos 256

-- keys stand in one order
pub key_cmp_total : IsTotalOrder key_cmp
key_cmp_total = then_total (on_total (λ (k : Key). k.row) int_cmp_total) (on_total (λ (k : Key). k.col) int_cmp_total)

-- keys that compare alike are one
pub key_cmp-IsAntisymmetric : IsAntisymmetric key_cmp
key_cmp-IsAntisymmetric a b h = ap (λ (t : ℤ × ℤ). key t.1 t.0) (exact_pairs int_cmp int_cmp exact_signed exact_signed (a.row, a.col) (b.row, b.col) h)

-- the code by which contracts tell keys apart
abbrev pub key_code : Coded Key
key_code = code_by (ℤ × ℤ) (coded× coded_ℤ coded_ℤ) (λ k. (k.col, k.row)) (λ t. key t.0 t.1) (λ _. refl)
