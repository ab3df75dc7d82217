-- Dabs of a track laid on one pixel, one after another.
use Rattle.std.proofs.Common.{◌≡◌, ◌≤◌, ℕ, suc, zero, ◌+◌, List, [], ◌∷◌, drop, length, Some, refl, sym, ap, ◌∙◌, arith}
use Rattle.std.specs.Prelude.{slice_get}
use Rattle.pixel_core.specs.Rgba.{Rgba}
use Rattle.geom_core.specs.Areas.{Point}
use Rattle.doc_model.specs.declared.track.Stamp.{Stamp}
use Rattle.doc_model.specs.Trails.{Trail, centres}
use Rattle.doc_model.specs.Jobs.{stamped, all_stamped}
use Rattle.brush_path.proofs.Squares.{drop_at}

-- one dab more
pub dab_laid : (t : Trail) (i : ℕ) (s : Stamp) (c d p : Point) (old new : Rgba) → Some c ≡ slice_get (centres t) i → s ≡ t.stamp → d ≡ c → new ≡ stamped s d p old
    → all_stamped t.stamp (drop (i + 1) (centres t)) p new ≡ all_stamped t.stamp (drop i (centres t)) p old
dab_laid t i s c d p old new at same there e =
    ap (all_stamped t.stamp (drop (i + 1) (centres t)) p) (e ∙ (λ j. stamped (same j) (there j) p old))
    ∙ sym (ap (λ cs. all_stamped t.stamp cs p old) (drop_at (centres t) i c (sym at)))

none_behind : (cs : List Point) (i : ℕ) → length cs ≤ i → drop i cs ≡ []
none_behind [] zero h = refl
none_behind [] (suc i) h = refl
none_behind (c ∷ cs) zero h = absurd (omega arith)
none_behind (c ∷ cs) (suc i) h = none_behind cs i (omega arith)

-- all dabs
pub all_laid : (t : Trail) (i : ℕ) (p : Point) (now : Rgba) (n : ℕ) → n ≡ length (centres t) → n ≤ i → now ≡ all_stamped t.stamp (drop i (centres t)) p now
all_laid t i p now n e h = sym (ap (λ cs. all_stamped t.stamp cs p now) (none_behind (centres t) i (omega arith)))
