-- The jobs of a track leave what its dabs leave.
use Rattle.std.proofs.Common.{◌≡◌, ℕ, Bool, true, false, ◌&&◌, ◌||◌, cond, List, [], ◌∷◌, map, refl, sym, ap, ◌∙◌, subst, inl, inr}
use Rattle.std.specs.List.{AllByRecursion, list_any, IsDistinct}
use Rattle.std.specs.Prelude.{◌-ℤ◌}
use Rattle.pixel_core.specs.Rgba.{Rgba}
use Rattle.pixel_core.specs.Compose.{mul, compose}
use Rattle.brush_mask.specs.Mask.{mask}
use Rattle.geom_core.specs.Areas.{Point, Area, holds}
use Rattle.geom_core.specs.Rects.{any_holds}
use Rattle.geom_core.specs.Grid.{Key, key_of, same_key, tile}
use Rattle.geom_core.proofs.Tests.{true_or_false, or-false}
use Rattle.geom_core.proofs.Tiles.{key_same, key_is, key_of_holder, own_tile}
use Rattle.doc_model.specs.declared.job.Job.{Job}
use Rattle.doc_model.specs.declared.job.Job.TheVariants as job
use Rattle.doc_model.specs.declared.track.Stamp.{Stamp}
use Rattle.doc_model.specs.Trails.{Trail, centres}
use Rattle.doc_model.specs.Layers.{Layer, at}
use Rattle.doc_model.proofs.LayerLaws.{layer_ext}
use Rattle.doc_model.specs.Jobs.{apply, apply_all, square, squares, stamped, all_stamped}
use Rattle.doc_model.proofs.JobLaws.{at-apply, default-apply}
use Rattle.brush_path.specs.Cells.{cells, jobs, jobs_in}
use Rattle.brush_path.specs.Dabs.{dab_at, dabs}
use Rattle.brush_path.specs.Laws.{JobsAreDabs}
use Rattle.brush_path.proofs.Tiled.{tiles_are_met, held_in_cells}

default_all : (js : List Job) (layer : Layer) → (apply_all js layer).default_pixel ≡ layer.default_pixel
default_all [] layer = refl
default_all (j ∷ js) layer = default_all js (apply j layer) ∙ default-apply j layer

-- the dab's ink on a pixel
abbrev inked : Stamp → Point → Point → Rgba → Rgba
inked s c p d = compose s.op s.colour d (mul (mask s.r s.soft (p.x -ℤ c.x) (p.y -ℤ c.y)) s.strength)

at_dab : (s : Stamp) (c : Point) (layer : Layer) (p : Point) → at (apply (dab_at s c) layer) p ≡ stamped s c p (at layer p)
at_dab s c layer p = at-apply (dab_at s c) layer p ∙ ap (λ b. cond b (inked s c p (at layer p)) (at layer p)) (or-false (holds (square c.x c.y s.r) p))

-- dabs one after another
at_dabs : (s : Stamp) (cs : List Point) (layer : Layer) (p : Point) → at (apply_all (map (dab_at s) cs) layer) p ≡ all_stamped s cs p (at layer p)
at_dabs s [] layer p = refl
at_dabs s (c ∷ cs) layer p = at_dabs s cs (apply (dab_at s c) layer) p ∙ ap (all_stamped s cs p) (at_dab s c layer p)

-- a tile holds just the points of its key
holds_tile : (k : Key) (p : Point) → holds (tile k) p ≡ same_key (key_of p) k
holds_tile k p = elim (true_or_false (holds (tile k) p)) [
  | inl h ↦ h ∙ sym (key_is (key_of p) k (key_of_holder k p h))
  | inr h ↦ elim (true_or_false (same_key (key_of p) k)) [
    | inl e ↦ (let held : holds (tile k) p ≡ true = subst (λ m. holds (tile m) p ≡ true) (key_same (key_of p) k e) (own_tile p) in absurd (never (sym held ∙ h)))
    | inr e ↦ h ∙ sym e
  ]
]
  where
    never : true ≡ false → ⊥
    never e = cc

at_track : (t : Trail) (k : Key) (layer : Layer) (p : Point) → at (apply (job.Track t k) layer) p ≡ cond (same_key (key_of p) k) (all_stamped t.stamp (centres t) p (at layer p)) (at layer p)
at_track t k layer p = at-apply (job.Track t k) layer p ∙ ap (λ b. cond b (all_stamped t.stamp (centres t) p (at layer p)) (at layer p)) (or-false (holds (tile k) p) ∙ holds_tile k p)

not_among : (q k : Key) (ks : List Key) → same_key q k ≡ true → AllByRecursion (λ y. same_key k y ≡ false) ks → list_any (same_key q) ks ≡ false
not_among q k [] e h = refl
not_among q k (y ∷ ys) e h = ap (λ b. b || list_any (same_key q) ys) (ap (λ m. same_key m y) (key_same q k e) ∙ h.0) ∙ not_among q k ys e h.1

-- the track in tiles of which no two are one
at_tracks : (t : Trail) (ks : List Key) (layer : Layer) (p : Point) → IsDistinct same_key ks
    → at (apply_all (jobs_in t ks) layer) p ≡ cond (list_any (same_key (key_of p)) ks) (all_stamped t.stamp (centres t) p (at layer p)) (at layer p)
unfolding IsDistinct
at_tracks t [] layer p h = refl
at_tracks t (k ∷ ks) layer p h = at_tracks t ks (apply (job.Track t k) layer) p h.1 ∙ go (same_key (key_of p) k) refl
  where
    go : (b : Bool) → same_key (key_of p) k ≡ b
        → cond (list_any (same_key (key_of p)) ks) (all_stamped t.stamp (centres t) p (at (apply (job.Track t k) layer) p)) (at (apply (job.Track t k) layer) p)
        ≡ cond (same_key (key_of p) k || list_any (same_key (key_of p)) ks) (all_stamped t.stamp (centres t) p (at layer p)) (at layer p)
    go true e =
        ap (λ b. cond b (all_stamped t.stamp (centres t) p (at (apply (job.Track t k) layer) p)) (at (apply (job.Track t k) layer) p)) (not_among (key_of p) k ks e h.0)
        ∙ at_track t k layer p
        ∙ ap (λ b. cond b (all_stamped t.stamp (centres t) p (at layer p)) (at layer p)) (e ∙ sym (ap (λ b. b || list_any (same_key (key_of p)) ks) e))
    go false e =
        let same : at (apply (job.Track t k) layer) p ≡ at layer p = at_track t k layer p ∙ ap (λ b. cond b (all_stamped t.stamp (centres t) p (at layer p)) (at layer p)) e in
        ap (λ d. cond (list_any (same_key (key_of p)) ks) (all_stamped t.stamp (centres t) p d) d) same
        ∙ ap (λ b. cond (b || list_any (same_key (key_of p)) ks) (all_stamped t.stamp (centres t) p (at layer p)) (at layer p)) (sym e)

-- where no square holds the point nothing is laid
none_stamped : (s : Stamp) (cs : List Point) (p : Point) (d : Rgba) → any_holds (map (λ (c : Point). square c.x c.y s.r) cs) p ≡ false → all_stamped s cs p d ≡ d
none_stamped s [] p d h = refl
none_stamped s (c ∷ cs) p d h =
    ap (all_stamped s cs p) (ap (λ b. cond b (inked s c p d) d) (Rattle.geom_core.proofs.Tests.none_left (holds (square c.x c.y s.r) p) (any_holds (map (λ (c : Point). square c.x c.y s.r) cs) p) h))
    ∙ none_stamped s cs p d (Rattle.geom_core.proofs.Tests.none_right (holds (square c.x c.y s.r) p) (any_holds (map (λ (c : Point). square c.x c.y s.r) cs) p) h)

pub jobs_are_dabs : JobsAreDabs
jobs_are_dabs t layer = layer_ext _ _
    (default_all (jobs t) layer ∙ sym (default_all (dabs t) layer))
    (λ p. at_tracks t (cells t) layer p (tiles_are_met t).distinct ∙ go p (list_any (same_key (key_of p)) (cells t)) refl ∙ sym (at_dabs t.stamp (centres t) layer p))
  where
    never : true ≡ false → ⊥
    never e = cc

    unseen : (p : Point) → list_any (same_key (key_of p)) (cells t) ≡ false → any_holds (squares t) p ≡ false
    unseen p e = elim (true_or_false (any_holds (squares t) p)) [ inl h ↦ absurd (never (sym (held_in_cells t p h) ∙ e)) | inr h ↦ h ]

    go : (p : Point) (b : Bool) → list_any (same_key (key_of p)) (cells t) ≡ b → cond (list_any (same_key (key_of p)) (cells t)) (all_stamped t.stamp (centres t) p (at layer p)) (at layer p) ≡ all_stamped t.stamp (centres t) p (at layer p)
    go p true e = ap (λ b. cond b (all_stamped t.stamp (centres t) p (at layer p)) (at layer p)) e
    go p false e = ap (λ b. cond b (all_stamped t.stamp (centres t) p (at layer p)) (at layer p)) e ∙ sym (none_stamped t.stamp (centres t) p (at layer p) (unseen p e))
