-- What shots show of the rectangles that a job reads.
use Rattle.std.proofs.Common.{◌≡◌, true, ◌&&◌, List, sym, ap, ◌∙◌, refl}
use Rattle.std.specs.List.{list_any, list_all}
use Rattle.geom_core.specs.Areas.{Area, Point, lies_in}
use Rattle.geom_core.specs.Rects.{any_holds}
use Rattle.geom_core.proofs.Tests.{both_true, taken}
use Rattle.tile_core.specs.Shots.{Sight, sight_at, SameShots}
use Rattle.doc_model.specs.Layers.{at, plain}
use Rattle.doc_model.specs.Laws.{SameOn}
use Rattle.doc_model.proofs.LayerLaws.{at-painted}
use Rattle.job_core.specs.Paints.{layer_of}
use Rattle.whole_tiles.proofs.Seen.{default-layer_of, covered_seen}

-- on the shot's own rectangles the layer has the shot's pixels
pub own_pixels : (s : Sight) (p : Point) → any_holds s.rects p ≡ true → at (layer_of s) p ≡ sight_at s p
unfolding layer_of
own_pixels s p h = at-painted s.rects (λ _. true) (sight_at s) (plain s.default_pixel) p ∙ taken (any_holds s.rects p && true) (sight_at s p) (at (plain s.default_pixel) p) (both_true _ _ h refl)

-- a shot that covers the rectangles, and one of them
module _ (rects : List Area) (s kept : Sight) (whole : kept.rects ≡ rects) (covers : list_all (λ (a : Area). list_any (lies_in a) s.rects) rects ≡ true) where
  kept_seen : (p : Point) → any_holds rects p ≡ true → at (layer_of kept) p ≡ sight_at kept p
  kept_seen p h = own_pixels kept p (ap (λ rs. any_holds rs p) whole ∙ h)

  pub same_layers : SameShots rects s kept → SameOn rects (layer_of s) (layer_of kept)
  same_layers same = record {
    default_pixel = default-layer_of s ∙ same.default_pixel ∙ sym (default-layer_of kept);
    pixels = λ p h. covered_seen s rects p covers h ∙ same.pixels p h ∙ sym (kept_seen p h);
  }

  pub same_sights : SameOn rects (layer_of s) (layer_of kept) → SameShots rects s kept
  same_sights same = record {
    default_pixel = sym (default-layer_of s) ∙ same.default_pixel ∙ default-layer_of kept;
    pixels = λ p h. sym (covered_seen s rects p covers h) ∙ same.pixels p h ∙ kept_seen p h;
  }
