-- What a shot shows, and what a published tile leaves. Of jobs only their laws are used.
use Rattle.std.proofs.Common.{◌≡◌, true, ◌&&◌, cond, List, ◌∙◌}
use Rattle.geom_core.specs.Areas.{Area, Point}
use Rattle.geom_core.specs.Rects.{any_holds}
use Rattle.geom_core.specs.Grid.{Key}
use Rattle.geom_core.proofs.Tests.{taken, and-true}
use Rattle.doc_model.specs.declared.job.Job.{Job}
use Rattle.doc_model.specs.Layers.{Layer, at, plain}
use Rattle.doc_model.proofs.LayerLaws.{at-plain, default-plain, at-painted, default-painted}
use Rattle.doc_model.specs.Jobs.{writes, apply}
use Rattle.doc_model.specs.Shots.{shot_of, published, in_tile}
use Rattle.doc_model.specs.Laws.{SameOn}

pub at-shot_of : (rects : List Area) (layer : Layer) (p : Point) → at (shot_of rects layer) p ≡ cond (any_holds rects p) (at layer p) layer.default_pixel
unfolding shot_of
at-shot_of rects layer p = at-painted rects (λ _. true) (at layer) (plain layer.default_pixel) p ∙ (λ i. cond (and-true (any_holds rects p) i) (at layer p) (at-plain layer.default_pixel p i))

pub default-shot_of : (rects : List Area) (layer : Layer) → (shot_of rects layer).default_pixel ≡ layer.default_pixel
unfolding shot_of
default-shot_of rects layer = default-painted rects (λ _. true) (at layer) (plain layer.default_pixel) ∙ default-plain layer.default_pixel

-- a shot has the layer's default pixel, and its pixels on the rectangles
pub shot_same : (rects : List Area) (layer : Layer) → SameOn rects (shot_of rects layer) layer
shot_same rects layer = record { default_pixel = default-shot_of rects layer; pixels = λ p h. at-shot_of rects layer p ∙ taken (any_holds rects p) _ _ h }

pub at-published : (job : Job) (shot : Layer) (key : Key) (layer : Layer) (p : Point) → at (published job shot key layer) p ≡ cond (any_holds (writes job) p && in_tile key p) (at (apply job shot) p) (at layer p)
unfolding published
at-published job shot key layer p = at-painted (writes job) (in_tile key) (at (apply job shot)) layer p

pub default-published : (job : Job) (shot : Layer) (key : Key) (layer : Layer) → (published job shot key layer).default_pixel ≡ layer.default_pixel
unfolding published
default-published job shot key layer = default-painted (writes job) (in_tile key) (at (apply job shot)) layer
