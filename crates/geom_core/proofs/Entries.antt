-- A map from points after an entry was set or taken out.
use Rattle.std.proofs.Common.{◌≡◌, ◌≢◌, Bool, true, false, cond, Option, Some, None, subst, sym, ap, refl}
use Rattle.std.specs.Option.{unwrap_or}
use Rattle.std.specs.FinMap as map
use Rattle.std.specs.FinMap.{FinMap}
use Rattle.geom_core.specs.Areas.{Point, point_cmp}
use Rattle.geom_core.specs.Same.{same_point}
use Rattle.geom_core.specs.Points.{point_cmp_total}

module _ {A : Type 0} where
  -- where there is no entry none is d
  pub no_entry : (d : A) (x : Option A) → x ≡ None → x ≢ Some d
  no_entry d x e h = cc

  -- each entry after one was taken out, or else set
  pub get-entry : (b : Bool) (m : FinMap point_cmp A) (p : Point) (c : A) (q : Point) → map.get (cond b (map.remove m p) (map.insert m p c)) q ≡ cond (same_point q p) (cond b None (Some c)) (map.get m q)
  get-entry true m p c q = map.get-remove point_cmp_total m p q
  get-entry false m p c q = map.get-insert point_cmp_total m p c q

  set_entry : (b : Bool) (c d : A) → (b ≡ false → c ≢ d) → cond b None (Some c) ≢ Some d
  set_entry true c d other e = cc
  set_entry false c d other e = other refl (ap (λ o. unwrap_or o d) e)

  either : (t : Bool) (d : A) (x y : Option A) → x ≢ Some d → y ≢ Some d → cond t x y ≢ Some d
  either true d x y a b = a
  either false d x y a b = b

  -- no entry is d, where none was and what is set isn't
  pub kept-entry : (b : Bool) (m : FinMap point_cmp A) (p : Point) (c d : A) → (b ≡ false → c ≢ d) → ((q : Point) → map.get m q ≢ Some d) → (q : Point) → map.get (cond b (map.remove m p) (map.insert m p c)) q ≢ Some d
  kept-entry b m p c d other kept q = subst (λ o. o ≢ Some d) (sym (get-entry b m p c q)) (either (same_point q p) d _ _ (set_entry b c d other) (kept q))
