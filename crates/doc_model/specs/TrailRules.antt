-- What every track keeps to, and how contracts tell tracks apart.
use Rattle.std.specs.Prelude.{◌≤◌, ℕ, List, length, refl}
use Rattle.std.specs.Coded.{Coded, code_by, coded×, coded_ℕ, coded_list}
use Rattle.geom_core.specs.Points.{point_code}
use Rattle.geom_core.specs.Areas.{Point}
use Rattle.doc_model.specs.declared.track.Stamp.{Stamp}
use Rattle.doc_model.specs.contracts.track.Stamp as stamp
use Rattle.doc_model.specs.Trails.{Trail, trail}

-- what every track keeps to
pub record IsTrail (t : Trail) : Type 0 where
  pub several : 2 ≤ length t.points
  pub few : length t.points ≤ 8
  pub gap : (1 ≤ t.gap) × (t.gap ≤ 255)
  pub radius : t.stamp.r ≤ 128

-- the code by which contracts tell tracks apart
abbrev pub trail_code : Coded Trail
trail_code = code_by (List Point × (ℕ × Stamp)) (coded× (coded_list point_code) (coded× coded_ℕ (stamp.the_row).coded)) (λ t. (t.points, (t.gap, t.stamp))) (λ t. trail t.0 t.1.0 t.1.1) (λ _. refl)
