-- Jobs that don't write what the other reads commute, whole and tile by tile. Of jobs only their laws are used.
use Rattle.std.proofs.Common.{◌≡◌, Bool, true, false, ◌&&◌, cond, List, refl, sym, ap, ◌∙◌, inl, inr}
use Rattle.pixel_core.specs.Rgba.{Rgba}
use Rattle.geom_core.specs.Areas.{Area, Point}
use Rattle.geom_core.specs.Rects.{any_holds}
use Rattle.geom_core.proofs.Tests.{true_or_false}
use Rattle.doc_model.specs.declared.job.Job.{Job}
use Rattle.doc_model.specs.Layers.{Layer, at}
use Rattle.doc_model.proofs.LayerLaws.{layer_ext}
use Rattle.doc_model.specs.Jobs.{reads, writes, apply}
use Rattle.doc_model.specs.Shots.{in_tile}
use Rattle.doc_model.specs.Laws.{SameOn, Apart, JobsCommute, TilesCommute}
use Rattle.doc_model.proofs.JobLaws.{laws_of_jobs}
use Rattle.doc_model.proofs.Shots.{at-published, default-published}

not_held : (one other : List Area) → Apart one other → (p : Point) → any_holds other p ≡ true → any_holds one p ≡ false
not_held one other apart p h = elim (true_or_false (any_holds one p)) [ inl e ↦ (let f : any_holds other p ≡ false = apart p e in cc) | inr e ↦ e ]

-- points that a job writes lie in no rectangle that the other writes
not_written : (a b : Job) → Apart (writes a) (reads b) → Apart (writes a) (writes b)
not_written a b apart p h = elim (true_or_false (any_holds (writes b) p)) [ inl e ↦ (let r : any_holds (reads b) p ≡ true = laws_of_jobs.within b p e in let f : any_holds (reads b) p ≡ false = apart p h in cc) | inr e ↦ e ]

-- a job that writes nothing that the other reads is not seen by it
unseen : (a b : Job) (layer : Layer) → Apart (writes a) (reads b) → SameOn (reads b) (apply a layer) layer
unseen a b layer apart = record { default_pixel = laws_of_jobs.default_pixel a layer; pixels = λ p h. laws_of_jobs.outside a layer p (not_held (writes a) (reads b) apart p h) }

-- at a point that a doesn't write
commute_at : (a b : Job) (layer : Layer) (p : Point) → Apart (writes a) (reads b) → any_holds (writes a) p ≡ false → at (apply a (apply b layer)) p ≡ at (apply b (apply a layer)) p
commute_at a b layer p apart out = laws_of_jobs.outside a (apply b layer) p out ∙ elim (true_or_false (any_holds (writes b) p)) [
  | inl h ↦ sym (laws_of_jobs.inside b (apply a layer) layer p (unseen a b layer apart) h)
  | inr h ↦ laws_of_jobs.outside b layer p h ∙ sym (laws_of_jobs.outside a layer p out) ∙ sym (laws_of_jobs.outside b (apply a layer) p h)
]

pub jobs_commute : JobsCommute
jobs_commute a b layer ab ba = layer_ext _ _
    (laws_of_jobs.default_pixel a (apply b layer) ∙ laws_of_jobs.default_pixel b layer ∙ sym (laws_of_jobs.default_pixel b (apply a layer) ∙ laws_of_jobs.default_pixel a layer))
    (λ p. elim (true_or_false (any_holds (writes a) p)) [
      | inl h ↦ sym (commute_at b a layer p ba (not_written a b ab p h))
      | inr h ↦ commute_at a b layer p ab h
    ])

swapped : (s t u v : Bool) (x y l : Rgba) → (s ≡ true → t ≡ false) → cond (s && u) x (cond (t && v) y l) ≡ cond (t && v) y (cond (s && u) x l)
swapped true true u v x y l apart = let e : true ≡ false = apart refl in cc
swapped true false u v x y l apart = refl
swapped false t u v x y l apart = refl

pub tiles_commute : TilesCommute
tiles_commute a b s t k l layer ab ba = layer_ext _ _
    (default-published a s k _ ∙ default-published b t l layer ∙ sym (default-published b t l _ ∙ default-published a s k layer))
    (λ p. at-published a s k _ p ∙ ap (cond (any_holds (writes a) p && in_tile k p) (at (apply a s) p)) (at-published b t l layer p)
    ∙ swapped (any_holds (writes a) p) (any_holds (writes b) p) (in_tile k p) (in_tile l p) _ _ (at layer p) (not_written a b ab p)
    ∙ sym (at-published b t l _ p ∙ ap (cond (any_holds (writes b) p && in_tile l p) (at (apply b t) p)) (at-published a s k layer p)))
