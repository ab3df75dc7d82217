-- What a dab leaves.
use Rattle.std.proofs.Common.{◌≡◌, ℕ, ◌-◌, ◌<◌, true, ◌&&◌, List, [], ◌∷◌, get_or, refl, sym, ap, ◌∙◌, subst, arith}
use Rattle.std.specs.Prelude.{ℤ, pos, ◌+ℤ◌, ◌-ℤ◌, ◌≤ℤ◌, int_le, int_lt, nat_abs}
use borrow.Author.Differences.{ints}
use Rattle.pixel_core.specs.Rgba.{Rgba, clear}
use Rattle.pixel_core.specs.Compose.{compose}
use Rattle.geom_core.specs.Areas.{Area, right, lies_in, world}
use Rattle.geom_core.specs.Rects.{place_in, IsWithin, IsShared}
use Rattle.geom_core.specs.Grid.{Key, tile}
use Rattle.geom_core.proofs.Tests.{and_left, and_right, taken}
use Rattle.tile_core.specs.Blocks.{Piece}
use Rattle.tile_core.specs.Shots.{Sight, sight_at}
use Rattle.tile_core.specs.Pixels.{HasPixels}
use Rattle.doc_model.specs.Jobs.{square, checks}
use Rattle.job_core.specs.declared.ink.Ink.{Ink}
use Rattle.job_core.specs.declared.dabs.Brush.{Brush}
use Rattle.job_core.specs.Paints.{paint, IsPainted}
use Rattle.job_core.specs.Due.{IsDue}
use Rattle.job_core.specs.Dabs.{brushed, brushed_from}
use Rattle.job_core.specs.Laid.{ChangesRows}
use Rattle.tile_core.specs.Parts.{in_part}
use Rattle.std.proofs.lemmas.Bool.Decides.{nat_tests}
use Rattle.job_core.specs.Made.{IsBlock, dabbed, strength_at}
use Rattle.job_core.specs.Tasks.{dab_of}
use Rattle.job_core.proofs.Keys.{due_key}
use Rattle.job_core.proofs.Values.{seen_at, painted_once}

-- a point of a rectangle by its column or row
pub record Steps (a x b d : ℤ) (n : ℕ) : Type 0 where
  pub small : nat_abs (x -ℤ a) < n
  pub at : (d +ℤ pos (nat_abs (x -ℤ a))) ≡ (x -ℤ b)

pub steps : (a x b d : ℤ) (n : ℕ) → d ≡ (a -ℤ b) → (int_le a x && int_lt x (a +ℤ pos n)) ≡ true → Steps a x b d n
steps a x b d n e h = record { small = small a x n h; at = at a x b d n e h }
  where
    small : (a x : ℤ) (n : ℕ) → (int_le a x && int_lt x (a +ℤ pos n)) ≡ true → nat_abs (x -ℤ a) < n
    small a x n h = grind (arith, ints)

    back : (a x : ℤ) (n : ℕ) → (int_le a x && int_lt x (a +ℤ pos n)) ≡ true → pos (nat_abs (x -ℤ a)) ≡ (x -ℤ a)
    back a x n h = grind (arith, ints)

    sum : (a x b d y : ℤ) → d ≡ (a -ℤ b) → y ≡ (x -ℤ a) → (d +ℤ y) ≡ (x -ℤ b)
    sum a x b d y e f = omega (arith, ints)

    at : (a x b d : ℤ) (n : ℕ) → d ≡ (a -ℤ b) → (int_le a x && int_lt x (a +ℤ pos n)) ≡ true → (d +ℤ pos (nat_abs (x -ℤ a))) ≡ (x -ℤ b)
    at a x b d n e h = sum a x b d (pos (nat_abs (x -ℤ a))) e (back a x n h)

in_whole : (w h col row : ℕ) → col < w → row < h → in_part 0 0 w h col row ≡ true
in_whole w h col row p q = grind (arith, nat_tests)

from_first : (n : ℕ) → n - 0 ≡ n
from_first n = omega arith

-- a dab on all rows is its pixels on a rectangle
pub dabbed_pixels : (brush : Brush) (ink : Ink) (a : Area) (s : Sight) (w h : ℕ) (old old' new : List Rgba) → old ≡ old' → w ≡ a.w → h ≡ a.h
    → HasPixels a (sight_at s) old' → ChangesRows (brushed_from brush ink (a.x -ℤ brush.x) (a.y -ℤ brush.y)) w 0 0 w h old new → HasPixels a (dabbed s brush ink) new
dabbed_pixels brush ink a s w h old old' new eo ew eh has laid p held =
    let col : ℕ = nat_abs (p.x -ℤ a.x) in
    let row : ℕ = nat_abs (p.y -ℤ a.y) in
    let i : Steps a.x p.x brush.x (a.x -ℤ brush.x) a.w = steps a.x p.x brush.x (a.x -ℤ brush.x) a.w refl (and_left _ _ held) in
    let j : Steps a.y p.y brush.y (a.y -ℤ brush.y) a.h = steps a.y p.y brush.y (a.y -ℤ brush.y) a.h refl (and_right _ _ held) in
    let rows : ChangesRows (brushed_from brush ink (a.x -ℤ brush.x) (a.y -ℤ brush.y)) a.w 0 0 a.w a.h old new = rw (← ew, ← eh) laid in
    rows col row i.small
    ∙ taken (in_part 0 0 a.w a.h col row) _ _ (in_whole a.w a.h col row i.small j.small)
    ∙ (λ k. brushed_from brush ink (a.x -ℤ brush.x) (a.y -ℤ brush.y) (from_first col k) (from_first row k) ((ap (λ ps. get_or ps (place_in a p) clear) eo ∙ has p held) k))
    ∙ (λ k. brushed brush ink (i.at k) (j.at k) (sight_at s p))

low : (b x : ℤ) → int_le b x ≡ true → b ≤ℤ x
low b x h = grind (arith, ints)

pub lying : (a b : Area) → lies_in a b ≡ true → IsWithin a b
lying a b h =
    let down = and_right (int_le b.x a.x && int_le (right a) (right b)) _ h in
    record {
      left = low _ _ (and_left _ _ (and_left _ _ h));
      right = low _ _ (and_right (int_le b.x a.x) _ (and_left _ _ h));
      top = low _ _ (and_left _ _ down);
      bottom = low _ _ (and_right (int_le b.y a.y) _ down);
    }

-- the square of a dab that checks
pub square_lies : (brush : Brush) (ink : Ink) → checks (dab_of brush ink) ≡ true → IsWithin (square brush.x brush.y brush.r) world
square_lies brush ink h = lying (square brush.x brush.y brush.r) world (and_left _ _ h)

pub dab_painted : (brush : Brush) (ink : Ink) (s : Sight) (key : Key) (a part : Area) (b : Piece) → a ≡ square brush.x brush.y brush.r → IsDue (dab_of brush ink) s key → IsShared a (tile key) part
    → IsBlock key part (dabbed s brush ink) b → IsPainted (paint (dab_of brush ink) s key (b ∷ []))
dab_painted brush ink s key a part b e due shared is =
    painted_once (dab_of brush ink) s key (square brush.x brush.y brush.r) part _ b refl (due_key _ _ _ due) (subst (λ (c : Area). IsShared c (tile key) part) e shared) is
    (λ p h. ap (λ q. compose ink.op ink.colour q (strength_at brush ink (p.x -ℤ brush.x) (p.y -ℤ brush.y))) (sym (seen_at s (square brush.x brush.y brush.r) p (and_left _ _ due.seen) h)))
