-- Rows of a dab, laid on its chord or on places round it.
use Rattle.std.proofs.Common.{◌≡◌, ℕ, ◌+◌, ◌-◌, ◌≤◌, ◌<◌, Bool, true, false, ◌&&◌, cond, List, length, get_or, take, drop, refl, ap, ◌∙◌, sym, subst, arith, ltb, leb}
use Rattle.std.specs.Prelude.{ℤ, pos, ◌+ℤ◌, nat_le, nat_lt, if◌then◌else◌}
use borrow.Author.Differences.{ints}
use borrow.Rule.Slice.PartMut.{put_mid}
use Rattle.std.proofs.lemmas.Bool.Decides.{nat_tests}
use Rattle.pixel_core.specs.Rgba.{Rgba, clear}
use Rattle.pixel_core.specs.Canonical.{IsCanonical}
use Rattle.pixel_core.specs.Compose.{compose, mul}
use Rattle.pixel_core.proofs.Rounding.{laws_of_mul}
use Rattle.pixel_core.proofs.ComposeLaws.{unseen_leaves}
use Rattle.brush_mask.specs.Mask.{mask}
use Rattle.brush_mask.specs.Chords.{IsChord}
use Rattle.brush_mask.proofs.MaskLaws.{laws_of_hardness}
use Rattle.job_core.specs.declared.ink.Ink.{Ink}
use Rattle.job_core.specs.declared.dabs.Brush.{Brush}
use Rattle.job_core.specs.Dabs.{brushed, DabsRow}
use Rattle.job_core.specs.Made.{strength_at}
use Rattle.job_core.proofs.RowChanges.{slice_changed}

-- where a hard dab paints nothing, a soft one paints nothing either
soft_nothing : (r : ℕ) (soft : Bool) (x y : ℤ) → mask r false x y ≡ 0 → mask r soft x y ≡ 0
soft_nothing r true x y z = omega (arith, laws_of_hardness.softer r x y)
soft_nothing r false x y z = z

-- a dab leaves a pixel outside its circle
outside : (brush : Brush) (ink : Ink) (x y : ℤ) (d : Rgba) → mask brush.r false x y ≡ 0 → IsCanonical d → brushed brush ink x y d ≡ d
outside brush ink x y d z known = unseen_leaves ink.op ink.colour d (strength_at brush ink x y) (ap (mul ink.colour.a) none ∙ laws_of_mul.nothing ink.colour.a) known
  where
    none : strength_at brush ink x y ≡ 0
    none = ap (λ m. mul m ink.strength) (soft_nothing brush.r brush.soft x y z) ∙ laws_of_mul.either_way 0 ink.strength ∙ laws_of_mul.nothing ink.strength

-- the columns of a chord, each by its place in the row
abbrev pub DabsColumns : Brush → Ink → ℤ → ℤ → ℕ → ℕ → List Rgba → List Rgba → Type 0
DabsColumns brush ink dx dy first n old new = (j : ℕ) → j < n → get_or new j clear ≡ brushed brush ink (dx +ℤ pos (first + j)) dy (get_or old j clear)

-- along a row, a hard dab paints nothing but the places from one up to another
abbrev pub PaintsWithin : ℕ → ℤ → ℤ → ℕ → ℕ → ℕ → Type 0
PaintsWithin r dx dy places first end = (k : ℕ) → k < places → (nat_le first k && nat_lt k end) ≡ false → mask r false (dx +ℤ pos k) dy ≡ 0

-- a hard dab paints nothing but any places round its chord
pub round_chord : (r : ℕ) (dx dy : ℤ) (places first end from to : ℕ) → IsChord r dx dy places first end → from ≤ first → end ≤ to → PaintsWithin r dx dy places from to
round_chord r dx dy places first end from to chord left right k small out = chord k small ∙ ap (λ b. if b then 255 else 0) beyond
  where
    beyond : (nat_le first k && nat_lt k end) ≡ false
    beyond = grind (arith, nat_tests)

-- a row of which the columns round the chord are laid
pub chord_row : (brush : Brush) (ink : Ink) (dx dy : ℤ) (first end k : ℕ) (old ys : List Rgba) → PaintsWithin brush.r dx dy (length old) first end → first ≤ end → end ≤ length old → k ≡ end - first → length ys ≡ end - first
    → ((i : ℕ) → i < length old → IsCanonical (get_or old i clear)) → DabsColumns brush ink dx dy first (end - first) (take k (drop first old)) ys → DabsRow brush ink dx dy old (put_mid first k old ys)
chord_row brush ink dx dy first end k old ys within order fits ek many known each i small =
    slice_changed (λ j. brushed brush ink (dx +ℤ pos (first + j)) dy) old ys first (end - first) k (omega arith) ek many each i
    ∙ ap (λ n. cond (leb first i && ltb i n) (brushed brush ink (dx +ℤ pos (first + (i - first))) dy d) d) last
    ∙ go (nat_le first i && nat_lt i end) refl
  where
    d : Rgba
    d = get_or old i clear

    last : first + (end - first) ≡ end
    last = omega arith

    from_first : (nat_le first i && nat_lt i end) ≡ true → first + (i - first) ≡ i
    from_first t = grind (arith, nat_tests)

    go : (t : Bool) → (nat_le first i && nat_lt i end) ≡ t → cond t (brushed brush ink (dx +ℤ pos (first + (i - first))) dy d) d ≡ brushed brush ink (dx +ℤ pos i) dy d
    go true t = ap (λ n. brushed brush ink (dx +ℤ pos n) dy d) (from_first t)
    go false t = sym (outside brush ink (dx +ℤ pos i) dy d (within i small t) (known i small))

-- a chord by equal distances from the centre
pub chord_of : (r : ℕ) (dx dx' dy dy' : ℤ) (places first end : ℕ) → dx' ≡ dx → dy' ≡ dy → IsChord r dx' dy' places first end → IsChord r dx dy places first end
chord_of r dx dx' dy dy' places first end ex ey chord = subst (λ x. IsChord r x dy places first end) ex (subst (λ y. IsChord r dx' y places first end) ey chord)

-- columns by their distance from the first
pub soft_columns : (brush : Brush) (ink : Ink) (dx dx' dy dy' : ℤ) (first n : ℕ) (old ys : List Rgba) → dx' ≡ (dx +ℤ pos first) → dy' ≡ dy → n ≤ length old → DabsRow brush ink dx' dy' old ys → DabsColumns brush ink dx dy first n old ys
soft_columns brush ink dx dx' dy dy' first n old ys ex ey fits laid j small = laid j (omega arith) ∙ (λ t. brushed brush ink (at dx dx' first j ex t) (ey t) (get_or old j clear))
  where
    at : (dx dx' : ℤ) (first j : ℕ) → dx' ≡ (dx +ℤ pos first) → (dx' +ℤ pos j) ≡ (dx +ℤ pos (first + j))
    at dx dx' first j e = omega (arith, ints)

-- within its circle a hard dab has the ink's strength
pub hard_columns : (brush : Brush) (ink : Ink) (dx dy : ℤ) (places first end : ℕ) (old ys : List Rgba) → brush.soft ≡ false → IsChord brush.r dx dy places first end → end ≤ places
    → ((j : ℕ) → j < end - first → get_or ys j clear ≡ compose ink.op ink.colour (get_or old j clear) ink.strength) → DabsColumns brush ink dx dy first (end - first) old ys
hard_columns brush ink dx dy places first end old ys hard chord fits laid j small = laid j small ∙ ap (compose ink.op ink.colour (get_or old j clear)) (sym full)
  where
    inside : (nat_le first (first + j) && nat_lt (first + j) end) ≡ true
    inside = grind (arith, nat_tests)

    full : strength_at brush ink (dx +ℤ pos (first + j)) dy ≡ ink.strength
    full = ap (λ s. mul (mask brush.r s (dx +ℤ pos (first + j)) dy) ink.strength) hard
        ∙ ap (λ m. mul m ink.strength) (chord (first + j) (omega arith) ∙ ap (λ b. if b then 255 else 0) inside)
        ∙ laws_of_mul.either_way 255 ink.strength ∙ laws_of_mul.whole ink.strength
