-- Children of a group, laid one on another.
use Rattle.std.proofs.Common.{◌≡◌, ℕ, ◌%◌, ◌≤◌, Bool, true, false, cond, List, [], ◌∷◌, ◌++◌, length, get_or, refl, sym, ap, subst, ◌∙◌, arith, eqb}
use Rattle.std.specs.Prelude.{fold}
use Rattle.std.proofs.lemmas.Bool.Decides.{nat_tests}
use Rattle.pixel_core.specs.declared.blending.Op.{Op}
use Rattle.pixel_core.specs.declared.blending.Op.TheVariants.{Over, Erase, Multiply, Screen, Addition}
use Rattle.pixel_core.specs.Rgba.{Rgba, clear}
use Rattle.pixel_core.specs.Canonical.{IsCanonical}
use Rattle.pixel_core.specs.Compose.{compose}
use Rattle.pixel_core.proofs.ComposeLaws.{unseen_leaves, opaque_hides, on_clear, stays_canonical}
use Rattle.pixel_core.proofs.Rounding.{laws_of_mul}
use Rattle.geom_core.specs.Areas.{Area, holds, Point}
use Rattle.geom_core.specs.Place.{across, down}
use Rattle.geom_core.proofs.Tests.{taken, and_right}
use Rattle.tile_core.specs.Pixels.{Pixels, pixel_of}
use Rattle.doc_model.specs.declared.tree.Look.{Look}
use Rattle.doc_model.specs.Picture.{with_look}
use Rattle.compose_core.specs.declared.children.Given.{Given}
use Rattle.compose_core.specs.Children.{given_at, with_child, laid_children, children_on, IsComposed}
use Rattle.compose_core.specs.Spots.{given_on, point_in_tile}
use Rattle.compose_core.specs.Piles.{laid_at, shows_itself, covers}

-- one child more on the pile
on_more : (looks : List Look) (tiles : List Given) (look : Look) (given : Given) (col row : ℕ) → length looks ≡ length tiles
    → children_on (looks ++ look ∷ []) (tiles ++ given ∷ []) col row ≡ children_on looks tiles col row ++ (look, given_at col row given) ∷ []
on_more [] [] look given col row e = refl
on_more [] (t ∷ tiles) look given col row e = absurd (omega arith)
on_more (l ∷ looks) [] look given col row e = absurd (omega arith)
on_more (l ∷ looks) (t ∷ tiles) look given col row e = ap (λ cs. (l, given_at col row t) ∷ cs) (on_more looks tiles look given col row (omega arith))

fold_more : (cs : List (Look × Rgba)) (c : Look × Rgba) (b : Rgba) → fold with_child b (cs ++ c ∷ []) ≡ with_look c.0 c.1 (fold with_child b cs)
fold_more [] c b = refl
fold_more (d ∷ cs) c b = fold_more cs c (with_child b d)

pub laid_more : (looks : List Look) (tiles : List Given) (look : Look) (given : Given) (p : Point) → length looks ≡ length tiles → laid_at (looks ++ look ∷ []) (tiles ++ given ∷ []) p ≡ with_look look (given_on given p) (laid_at looks tiles p)
laid_more looks tiles look given p e = ap laid_children (on_more looks tiles look given (across p % 64) (down p % 64) e)
    ∙ fold_more (children_on looks tiles (across p % 64) (down p % 64)) (look, given_on given p) clear

pub clear_canonical : IsCanonical clear
clear_canonical = record { r = omega arith; g = omega arith; b = omega arith; a = omega arith; clear_where_0 = λ _. refl }

-- a canonical pixel laid on a canonical one
pub look_canonical : (look : Look) (s b : Rgba) → look.opacity ≤ 255 → IsCanonical s → IsCanonical b → IsCanonical (with_look look s b)
look_canonical look s b m h k = go look.visible
  where
    go : (v : Bool) → IsCanonical (cond v (compose look.op s b look.opacity) b)
    go true = stays_canonical look.op s b look.opacity h k m
    go false = k

-- a clear child is passed over
pub clear_passed : (look : Look) (s b : Rgba) → s ≡ clear → IsCanonical b → b ≡ with_look look s b
clear_passed look s b e k = go look.visible
  where
    none : compose look.op s b look.opacity ≡ b
    none = unseen_leaves look.op s b look.opacity (rw e (laws_of_mul.either_way 0 look.opacity ∙ laws_of_mul.nothing look.opacity)) k

    go : (v : Bool) → b ≡ cond v (compose look.op s b look.opacity) b
    go true = sym none
    go false = refl

hidden_by : (op : Op) (v : Bool) (m : ℕ) (s b c : Rgba) → covers (record { opacity = m; op = op; visible = v }) ≡ true → s.a ≡ 255 → IsCanonical b → IsCanonical c → cond v (compose op s b m) b ≡ cond v (compose op s c m) c
hidden_by op false m s b c h o k l = cc
hidden_by Over true m s b c h o k l = let full : m ≡ 255 = grind (arith, nat_tests) in (ap (λ n. compose Over s b n) full ∙ opaque_hides s b o k) ∙ sym (ap (λ n. compose Over s c n) full ∙ opaque_hides s c o l)
hidden_by Erase true m s b c h o k l = let t : false ≡ true = and_right (eqb m 255) false h in cc
hidden_by Multiply true m s b c h o k l = let t : false ≡ true = and_right (eqb m 255) false h in cc
hidden_by Screen true m s b c h o k l = let t : false ≡ true = and_right (eqb m 255) false h in cc
hidden_by Addition true m s b c h o k l = let t : false ≡ true = and_right (eqb m 255) false h in cc

-- what is opaque hides what it covers
pub covered : (look : Look) (s b c : Rgba) → covers look ≡ true → s.a ≡ 255 → IsCanonical b → IsCanonical c → with_look look s b ≡ with_look look s c
covered look s b c h o k l = hidden_by look.op look.visible look.opacity s b c h o k l

alone_by : (op : Op) (v : Bool) (m : ℕ) (s : Rgba) → shows_itself (record { opacity = m; op = op; visible = v }) ≡ true → IsCanonical s → s ≡ cond v (compose op s clear m) clear
alone_by op false m s h k = cc
alone_by Erase true m s h k = let t : false ≡ true = and_right (eqb m 255) false h in cc
alone_by Over true m s h k = let full : m ≡ 255 = grind (arith, nat_tests) in sym (ap (compose Over s clear) full ∙ on_clear Over s (λ e. cc) k)
alone_by Multiply true m s h k = let full : m ≡ 255 = grind (arith, nat_tests) in sym (ap (compose Multiply s clear) full ∙ on_clear Multiply s (λ e. cc) k)
alone_by Screen true m s h k = let full : m ≡ 255 = grind (arith, nat_tests) in sym (ap (compose Screen s clear) full ∙ on_clear Screen s (λ e. cc) k)
alone_by Addition true m s h k = let full : m ≡ 255 = grind (arith, nat_tests) in sym (ap (compose Addition s clear) full ∙ on_clear Addition s (λ e. cc) k)

-- one picture on a clear backdrop, as it is
pub as_it_is : (s : Rgba) → IsCanonical s → with_look (record { opacity = 255; op = Over; visible = true }) s clear ≡ s
as_it_is s k = on_clear Over s (λ e. cc) k

-- one child that is left as it is
pub laid_alone : (looks : List Look) (tiles : List Given) (look : Look) (given g : Given) (p : Point) → length looks ≡ 1 → length tiles ≡ 1 → look ≡ get_or looks 0 look → given ≡ get_or tiles 0 given → true ≡ shows_itself look → IsCanonical (given_on given p) → g ≡ given
    → given_on g p ≡ laid_at looks tiles p
laid_alone [] tiles look given g p m n e f h k same = absurd (omega arith)
laid_alone (l ∷ looks) [] look given g p m n e f h k same = absurd (omega arith)
laid_alone (l ∷ j ∷ looks) (t ∷ tiles) look given g p m n e f h k same = absurd (omega arith)
laid_alone (l ∷ []) (t ∷ s ∷ tiles) look given g p m n e f h k same = absurd (omega arith)
laid_alone (l ∷ []) (t ∷ []) look given g p m n e f h k same =
    ap (λ x. given_on x p) (same ∙ f) ∙ alone_by l.op l.visible l.opacity (given_on t p) (ap shows_itself (sym e) ∙ sym h) (subst (λ x. IsCanonical (given_on x p)) f k)

-- a part of the tile, composed
pub composed_on : (part : Area) (looks : List Look) (tiles : List Given) (tile : Pixels) (p : Point) → IsComposed part looks tiles tile → holds part (point_in_tile p) ≡ true → pixel_of tile (across p % 64) (down p % 64) ≡ laid_at looks tiles p
composed_on part looks tiles tile p is held =
    is (across p % 64) (down p % 64) (omega arith) (omega arith)
    ∙ taken (holds part (point_in_tile p)) _ _ held
