-- What inputs show.
use Rattle.std.proofs.Common.{◌≡◌, ℕ, Bool, true, false, ◌||◌, ◌&&◌, cond, List, [], ◌∷◌, ◌++◌, refl, sym, ap, subst, ◌∙◌, eqb}
use Rattle.geom_core.specs.Areas.{Area, holds, Point}
use Rattle.geom_core.specs.Rects.{any_holds}
use Rattle.geom_core.proofs.Tests.{taken, and-true}
use Rattle.tile_core.specs.Shots.{Sight, sight_at}
use Rattle.doc_model.specs.Layers.{at, painted, plain}
use Rattle.doc_model.proofs.LayerLaws.{layer_ext, at-painted, at-plain, default-painted, default-plain}
use Rattle.doc_model.specs.Shots.{shot_of}
use Rattle.paint_device.specs.Sheets.{Sheet, sheet_at}
use Rattle.paint_device.specs.Seen.{layer_of}
use Rattle.paint_device.proofs.Shown.{at-layer_of, default-layer_of}
use Rattle.machine_model.specs.State.{Child}
use Rattle.walker_core.specs.declared.gathered.Source.{Source}
use Rattle.walker_core.specs.Readings.{Readings, readings, path_in, childless, child_on, with_child_in, with_child}
use Rattle.walker_core.specs.Views.{shown_by, layer_on, child_of, children_in, groups_of}
use Rattle.walker_core.specs.declared.gathered.Gathered.TheInside.{Inside}
use Rattle.walker_core.proofs.Given.{groups_path}
use Rattle.walker_core.proofs.Laid.{children_more}

-- one rectangle alone
lone_rect : (rect : Area) (p : Point) → any_holds (rect ∷ []) p ≡ holds rect p
lone_rect rect p = go (holds rect p)
  where
    go : (b : Bool) → (b || false) ≡ b
    go true = refl
    go false = refl

-- the pixel of a shot's layer at a point of the rectangle
pub at_layer_on : (rect : Area) (s : Sight) (p : Point) → holds rect p ≡ true → at (layer_on rect s) p ≡ sight_at s p
unfolding layer_on
at_layer_on rect s p h = at-painted (rect ∷ []) (λ _. true) (sight_at s) (plain s.default_pixel) p ∙ taken _ _ _ (and-true _ ∙ lone_rect rect p ∙ h)

-- what was grabbed of a device is the part of its layer
pub grabbed : (rect : Area) (s : Sight) (d : Sheet) → s.default_pixel ≡ d.default_pixel → ((p : Point) → any_holds (rect ∷ []) p ≡ true → sight_at s p ≡ sheet_at d p) → layer_on rect s ≡ shot_of (rect ∷ []) (layer_of d)
unfolding layer_on shot_of
grabbed rect s d e same = layer_ext _ _ first points
  where
    first : (painted (rect ∷ []) (λ _. true) (sight_at s) (plain s.default_pixel)).default_pixel ≡ (painted (rect ∷ []) (λ _. true) (at (layer_of d)) (plain (layer_of d).default_pixel)).default_pixel
    first = default-painted (rect ∷ []) (λ _. true) (sight_at s) (plain s.default_pixel) ∙ default-plain s.default_pixel ∙ e ∙ sym (default-layer_of d) ∙ sym (default-plain (layer_of d).default_pixel) ∙ sym (default-painted (rect ∷ []) (λ _. true) (at (layer_of d)) (plain (layer_of d).default_pixel))

    points : (p : Point) → at (painted (rect ∷ []) (λ _. true) (sight_at s) (plain s.default_pixel)) p ≡ at (painted (rect ∷ []) (λ _. true) (at (layer_of d)) (plain (layer_of d).default_pixel)) p
    points p = at-painted (rect ∷ []) (λ _. true) (sight_at s) (plain s.default_pixel) p ∙ go (any_holds (rect ∷ []) p) refl ∙ sym (at-painted (rect ∷ []) (λ _. true) (at (layer_of d)) (plain (layer_of d).default_pixel) p)
      where
        go : (b : Bool) → any_holds (rect ∷ []) p ≡ b → cond (b && true) (sight_at s p) (at (plain s.default_pixel) p) ≡ cond (b && true) (at (layer_of d) p) (at (plain (layer_of d).default_pixel) p)
        go true h = same p h ∙ sym (at-layer_of d p)
        go false h = at-plain s.default_pixel p ∙ e ∙ sym (default-layer_of d) ∙ sym (at-plain (layer_of d).default_pixel p)

-- groups without sources
pub none_shown : (rect : Area) (gs : List ℕ) → groups_of rect [] gs ≡ childless gs
none_shown rect [] = refl
none_shown rect (g ∷ gs) = ap (λ es. (g, []) ∷ es) (none_shown rect gs)

-- a test before a pair
paired : (b : Bool) (g : ℕ) (xs ys : List Child) (e : ℕ × List Child) → e ≡ (g, cond b xs ys) → ◌≡◌ {A = ℕ × List Child} e (cond b (g, xs) (g, ys))
paired true g xs ys e h = h
paired false g xs ys e h = h

-- one source more
pub one_more_shown : (rect : Area) (ss : List Source) (s : Source) (gs : List ℕ) → groups_of rect (ss ++ s ∷ []) gs ≡ with_child_in s.group (child_of rect s) (groups_of rect ss gs)
one_more_shown rect ss s [] = refl
one_more_shown rect ss s (g ∷ gs) =
    let here : ◌≡◌ {A = ℕ × List Child} (g, children_in rect g (ss ++ s ∷ [])) (g, cond (eqb s.group g) (children_in rect g ss ++ child_of rect s ∷ []) (children_in rect g ss)) = λ i. (g, children_more rect g ss s i) in
    λ i. paired (eqb s.group g) g (children_in rect g ss ++ child_of rect s ∷ []) (children_in rect g ss) _ here i ∷ one_more_shown rect ss s gs i

-- the children of the groups
pub sources_of : (a : Inside) (r : Readings) (ss : List Source) → shown_by a ≡ r → ss ≡ a.sources.items → r.groups ≡ groups_of r.patch.rect ss (path_in r)
sources_of a r ss e f = subst (λ (q : Readings). q.groups ≡ groups_of q.patch.rect ss (path_in q)) e (λ i. groups_of a.patch.rect (sym f i) (sym (groups_path a.patch.rect a.sources.items a.path.items) i))

pub path_of_view : (a : Inside) (r : Readings) (gs : List ℕ) → shown_by a ≡ r → gs ≡ a.path.items → gs ≡ path_in r
path_of_view a r gs e f = f ∙ sym (groups_path a.patch.rect a.sources.items a.path.items) ∙ ap path_in e

-- what inputs show with one source more
pub source_added : (a : Inside) (r : Readings) (ss : List Source) (s : Source) (d : Sheet) → shown_by a ≡ r → ss ≡ a.sources.items ++ s ∷ [] → s.shot.default_pixel ≡ d.default_pixel → ((p : Point) → any_holds (a.patch.rect ∷ []) p ≡ true → sight_at s.shot p ≡ sheet_at d p)
    → readings a.patch (groups_of a.patch.rect ss a.path.items) ≡ with_child r s.group (child_on r.patch.rect s.id s.look (layer_of d))
source_added a r ss s d e f first same =
    (λ i. readings a.patch (groups_of a.patch.rect (f i) a.path.items))
    ∙ ap (readings a.patch) (one_more_shown a.patch.rect a.sources.items s a.path.items)
    ∙ (λ i. readings a.patch (with_child_in s.group (record { id = s.id; look = s.look; pixels = grabbed a.patch.rect s.shot d first same i }) (groups_of a.patch.rect a.sources.items a.path.items)))
    ∙ ap (λ (q : Readings). with_child q s.group (child_on q.patch.rect s.id s.look (layer_of d))) e
