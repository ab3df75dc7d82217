-- What was painted with all points of its tile.
use Rattle.std.proofs.Common.{◌≡◌, ℕ, true, false, Some, None, List, [], ◌∷◌, length, refl, sym, ap, subst, ◌∙◌, arith, inl, inr}
use Rattle.std.specs.Prelude.{slice_get, nat_eq, map}
use Rattle.std.proofs.lemmas.Bool.Decides.{nat_tests}
use Rattle.std.proofs.lemmas.Option.{slice_get_cases}
use Rattle.geom_core.specs.Areas.{Area, holds, Point}
use Rattle.geom_core.specs.Rects.{any_holds}
use Rattle.geom_core.specs.Grid.{tile}
use Rattle.geom_core.proofs.Tests.{and_left, and_right, or-false, some_same}
use Rattle.tile_core.specs.Blocks.{Piece, IsPiece}
use Rattle.tile_core.specs.Pixels.{Pixels, pixel_at}
use Rattle.tile_core.proofs.WholeTiles.{whole_rect, whole_pixels}
use Rattle.doc_model.specs.Jobs.{writes}
use Rattle.doc_model.specs.Shots.{in_tile}
use Rattle.job_core.specs.Paints.{Paint, is_whole, HasValue, IsPainted, FillsTile}
use Rattle.job_core.proofs.Values.{tile_held}

pub some_none : {A : Type 0} (x : A) → Some x ≡ None → ⊥
some_none x e = cc

-- each block has the job's value
pub value_of : (w : Paint) (i : ℕ) (b : Piece) → IsPainted w → Some b ≡ slice_get w.blocks i → HasValue w.job w.shot w.key b
value_of w i b known e = elim (slice_get_cases w.blocks i).1 [
  | inl f ↦ subst (HasValue w.job w.shot w.key) (f.3 ∙ some_same f.0 b (sym f.2 ∙ sym e)) (known.values i f.0 f.1)
  | inr f ↦ absurd (some_none b (e ∙ f.1))
]

-- the blocks are this one, which has 64 columns and rows
record IsOnly (bs : List Piece) (b : Piece) : Type 0 where
  is : bs ≡ b ∷ []
  w : b.rect.w ≡ 64
  h : b.rect.h ≡ 64

only : (bs : List Piece) (b : Piece) → is_whole bs ≡ true → Some b ≡ slice_get bs 0 → IsOnly bs b
only [] b whole e = absurd (some_none b e)
only (x ∷ []) b whole e = subst (IsOnly (x ∷ [])) (some_same x b (sym e)) (record { is = refl; w = sixty_four x.rect.w (and_left _ _ whole); h = sixty_four x.rect.h (and_right (nat_eq x.rect.w 64) _ whole) })
  where
    sixty_four : (n : ℕ) → nat_eq n 64 ≡ true → n ≡ 64
    sixty_four n t = grind (arith, nat_tests)
only (x ∷ y ∷ rest) b whole e = absurd (no whole)
  where
    no : false ≡ true → ⊥
    no e = cc

pub whole_filled : (w : Paint) (b : Piece) (pixels : Pixels) → IsPainted w → IsPiece b → is_whole w.blocks ≡ true → Some b ≡ slice_get w.blocks 0 → pixels ≡ b.pixels → FillsTile w pixels
whole_filled w b pixels known is whole first same = record {
  written = λ p h. and_left (any_holds (writes w.job) p) (in_tile w.key p) (sym (known.covers p) ∙ ap (λ (bs : List Piece). any_holds (map (λ (b : Piece). b.rect) bs) p) one.is ∙ or-false (holds b.rect p) ∙ held p h);
  value = λ p h. ap (λ (ps : Pixels). pixel_at ps p) same ∙ whole_pixels b p is all (in_own p h) ∙ value.value_is p (held p h);
}
  where
    one : IsOnly w.blocks b
    one = only w.blocks b whole first

    value : HasValue w.job w.shot w.key b
    value = value_of w 0 b known first

    all : b.rect ≡ tile b.key
    all = whole_rect b.rect b.key is.inside one.w one.h

    in_own : (p : Point) → in_tile w.key p ≡ true → holds (tile b.key) p ≡ true
    in_own p h = ap (λ k. holds (tile k) p) value.key_is ∙ tile_held w.key p ∙ h

    held : (p : Point) → in_tile w.key p ≡ true → holds b.rect p ≡ true
    held p h = ap (λ (a : Area). holds a p) all ∙ in_own p h

pub whole_length : (b : Piece) (bs : List Piece) → IsPiece b → is_whole bs ≡ true → Some b ≡ slice_get bs 0 → length b.pixels ≡ 4096
whole_length b bs is whole first =
    let one : IsOnly bs b = only bs b whole first in
    rw (is.all, one.w, one.h) refl
