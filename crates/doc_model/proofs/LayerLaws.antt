-- When layers are equal, and what stands at each point of a painted one.
use Rattle.std.specs.Prelude.{◌≡◌, ◌≢◌, Bool, true, false, cond, ◌&&◌, ◌||◌, List, [], ◌∷◌, Option, Some, None}
use Rattle.std.specs.Option.{unwrap_or}
use Rattle.std.specs.List.{list_any, flat_map}
use Rattle.std.proofs.lemmas.List.Concat.{flat_map-cons}
use Rattle.std.specs.FinMap as map
use Rattle.std.proofs.Common.{sym, ap, subst, ◌∙◌, refl, arith}
use Rattle.std.proofs.lemmas.Bool.Decides.{nat_tests}
use Rattle.std.proofs.lemmas.List.Folds.{list_any-append}
use Rattle.std.proofs.lemmas.Map.Views.{any-filter_same}
use Rattle.geom_core.proofs.Members.{any-points_of}
use Rattle.pixel_core.specs.Rgba.{Rgba, same_pixel}
use Rattle.geom_core.specs.Points.{point_cmp_total, point_cmp-IsAntisymmetric}
use Rattle.geom_core.specs.Areas.{Area, Point, point_cmp, points_of}
use Rattle.geom_core.specs.Same.{same_point}
use Rattle.doc_model.specs.Codes.{same_parts}
use Rattle.doc_model.specs.Layers.{Layer, at, painted, painted_at, plain, put}
use Rattle.geom_core.proofs.Entries.{get-entry}
use Rattle.geom_core.specs.Rects.{any_holds}

same_entry : (g : Rgba) (x y : Option Rgba) → x ≢ Some g → y ≢ Some g → unwrap_or x g ≡ unwrap_or y g → x ≡ y
same_entry g None None m n e = refl
same_entry g None (Some b) m n e = absurd (n (ap Some (sym e)))
same_entry g (Some a) None m n e = absurd (m (ap Some e))
same_entry g (Some a) (Some b) m n e = ap Some e

-- two layers are equal where they have the same default pixel and the same pixel at every point
pub layer_ext : (a b : Layer) → a.default_pixel ≡ b.default_pixel → ((p : Point) → at a p ≡ at b p) → a ≡ b
unfolding at
layer_ext a b same e = same_parts a b (λ i. (same i, pixels i))
  where
    pixels : a.pixels ≡ b.pixels
    pixels = map.same_map point_cmp_total point_cmp-IsAntisymmetric _ _ (λ p. same_entry a.default_pixel _ _ (a.kept p)
        (subst (λ g. map.get b.pixels p ≢ Some g) (sym same) (b.kept p))
        (e p ∙ ap (unwrap_or (map.get b.pixels p)) (sym same)))

same_pixel-same : (c g : Rgba) → same_pixel c g ≡ true → c ≡ g
same_pixel-same c g t = grind (arith, nat_tests)

read_entry : (t b : Bool) (c g : Rgba) (x : Option Rgba) → same_pixel c g ≡ b → unwrap_or (cond t (cond b None (Some c)) x) g ≡ cond t c (unwrap_or x g)
read_entry true true c g x e = sym (same_pixel-same c g e)
read_entry true false c g x e = refl
read_entry false b c g x e = refl

at-put : (layer : Layer) (p : Point) (c : Rgba) (q : Point) → at (put layer p c) q ≡ cond (same_point q p) c (at layer q)
unfolding at put
at-put layer p c q = ap (λ o. unwrap_or o layer.default_pixel) (get-entry (same_pixel c layer.default_pixel) layer.pixels p c q) ∙ read_entry (same_point q p) (same_pixel c layer.default_pixel) c layer.default_pixel (map.get layer.pixels q) refl

default-put : (layer : Layer) (p : Point) (c : Rgba) → (put layer p c).default_pixel ≡ layer.default_pixel
unfolding put
default-put layer p c = refl

same_point-same : (p q : Point) → same_point q p ≡ true → q ≡ p
same_point-same p q e = grind (arith, map.int_cmp-IsAntisymmetric)

pub at-plain : (c : Rgba) (p : Point) → at (plain c) p ≡ c
unfolding at plain
at-plain c p = ap (λ o. unwrap_or o c) (map.get-empty point_cmp p)

pub default-plain : (c : Rgba) → (plain c).default_pixel ≡ c
unfolding plain
default-plain c = refl

one_more_at : (t u : Bool) (a b c d : Rgba) → (t ≡ true → a ≡ b) → d ≡ cond u b c → cond t a d ≡ cond (t || u) b c
one_more_at true u a b c d same e = same refl
one_more_at false u a b c d same e = e

at-painted_at : (f : Point → Rgba) (ps : List Point) (layer : Layer) (q : Point) → at (painted_at f ps layer) q ≡ cond (list_any (same_point q) ps) (f q) (at layer q)
unfolding painted_at
at-painted_at f [] layer q = refl
at-painted_at f (p ∷ ps) layer q = at-put (painted_at f ps layer) p (f p) q
    ∙ one_more_at (same_point q p) (list_any (same_point q) ps) (f p) (f q) (at layer q) _ (λ t. ap f (sym (same_point-same p q t))) (at-painted_at f ps layer q)

default-painted_at : (f : Point → Rgba) (ps : List Point) (layer : Layer) → (painted_at f ps layer).default_pixel ≡ layer.default_pixel
unfolding painted_at
default-painted_at f [] layer = refl
default-painted_at f (p ∷ ps) layer = default-put (painted_at f ps layer) p (f p) ∙ default-painted_at f ps layer

any-points_of_all : (areas : List Area) (q : Point) → list_any (same_point q) (flat_map points_of areas) ≡ any_holds areas q
any-points_of_all [] q = refl
any-points_of_all (a ∷ rest) q = rw (flat_map-cons, list_any-append, any-points_of, any-points_of_all rest q) refl

and_comm : (a b : Bool) → (a && b) ≡ (b && a)
and_comm true true = refl
and_comm true false = refl
and_comm false true = refl
and_comm false false = refl

pub at-painted : (areas : List Area) (test : Point → Bool) (f : Point → Rgba) (layer : Layer) (q : Point) → at (painted areas test f layer) q ≡ cond (any_holds areas q && test q) (f q) (at layer q)
unfolding painted
at-painted areas test f layer q = at-painted_at f _ layer q
    ∙ ap (λ b. cond b (f q) (at layer q)) (any-filter_same (same_point q) test (test q) (λ p t. ap test (sym (same_point-same p q t))) (flat_map points_of areas)
    ∙ ap (λ b. test q && b) (any-points_of_all areas q) ∙ and_comm (test q) _)

pub default-painted : (areas : List Area) (test : Point → Bool) (f : Point → Rgba) (layer : Layer) → (painted areas test f layer).default_pixel ≡ layer.default_pixel
unfolding painted
default-painted areas test f layer = default-painted_at f _ layer
