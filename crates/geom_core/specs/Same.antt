-- When two points or rectangles are one.
use Rattle.std.specs.Prelude.{nat_eq, Bool, ◌&&◌}
use Rattle.std.specs.Ordering.{int_eq, eq_by_cmp}
use Rattle.std.specs.Cmp.{IsEquivalence, and_equiv, on_equiv, int_eq_equiv, nat_eq_equiv}
use Rattle.geom_core.specs.Areas.{Area, Point, point_cmp}

-- whether two points are one
abbrev pub same_point : Point → Point → Bool
same_point = eq_by_cmp point_cmp

-- whether two rectangles are one
abbrev pub same_area : Area → Area → Bool
same_area a b = (int_eq a.x b.x && int_eq a.y b.y) && (nat_eq a.w b.w && nat_eq a.h b.h)

-- each is one with itself, both ways round, and along a chain
pub same_area_equiv : IsEquivalence same_area
same_area_equiv = and_equiv
    (and_equiv (on_equiv (λ (a : Area). a.x) int_eq_equiv) (on_equiv (λ (a : Area). a.y) int_eq_equiv))
    (and_equiv (on_equiv (λ (a : Area). a.w) nat_eq_equiv) (on_equiv (λ (a : Area). a.h) nat_eq_equiv))
