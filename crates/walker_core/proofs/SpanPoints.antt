-- The points of rectangles by their columns and rows.
use Rattle.std.proofs.Common.{◌≡◌, ℕ, ◌+◌, ◌≤◌, Bool, true, false, ◌&&◌, ◌||◌, refl, sym, ◌∙◌, arith}
use Rattle.std.specs.Prelude.{ℤ, pos, ◌+ℤ◌, ◌-ℤ◌, ◌≤ℤ◌, int_le, int_lt}
use borrow.Author.Differences.{ints}
use Rattle.geom_core.specs.Areas.{Area, holds, Point}
use Rattle.geom_core.specs.Rects.{IsWithin}
use Rattle.geom_core.proofs.Tests.{and_left, and_right, both_true}
use Rattle.walker_core.specs.declared.spans.Span.{Span}
use Rattle.walker_core.specs.Spans.{spans, IsAlong, IsPartOf}

-- one axis
along_held : (a b n : ℕ) (x y : ℤ) → (pos a -ℤ pos 16384) ≡ x → b ≡ a + n → (int_le x y && int_lt y (x +ℤ pos n)) ≡ (int_le (pos a -ℤ pos 16384) y && int_lt y (pos b -ℤ pos 16384))
along_held a b n x y e f = grind (arith, ints)

both_same : {a b c d : Bool} → a ≡ b → c ≡ d → (a && c) ≡ (b && d)
both_same e f i = e i && f i

-- the points of a rectangle
spans_held : (a : Area) (across down : Span) (p : Point) → IsAlong across a.x a.w → IsAlong down a.y a.h → holds a p ≡ (spans across p.x && spans down p.y)
spans_held a across down p h k = both_same (along_held across.from across.to a.w a.x p.x h.from h.to) (along_held down.from down.to a.h a.y p.y k.from k.to)

part_along : (a b n m c d : ℕ) (x y : ℤ) → (pos a -ℤ pos 16384) ≡ x → b ≡ a + n → (pos c -ℤ pos 16384) ≡ y → d ≡ c + m → c ≤ a → b ≤ d → (y ≤ℤ x) × ((x +ℤ pos n) ≤ℤ (y +ℤ pos m))
part_along a b n m c d x y e f g h i j = (omega (arith, ints), omega (arith, ints))

pub within_spans : (a b : Area) (ax ay bx by : Span) → IsAlong ax a.x a.w → IsAlong ay a.y a.h → IsAlong bx b.x b.w → IsAlong by b.y b.h → IsPartOf ax bx → IsPartOf ay by → IsWithin a b
within_spans a b ax ay bx by ea fa eb fb across down =
    let h : (b.x ≤ℤ a.x) × ((a.x +ℤ pos a.w) ≤ℤ (b.x +ℤ pos b.w)) = part_along ax.from ax.to a.w b.w bx.from bx.to a.x b.x ea.from ea.to eb.from eb.to across.from across.to in
    let v : (b.y ≤ℤ a.y) × ((a.y +ℤ pos a.h) ≤ℤ (b.y +ℤ pos b.h)) = part_along ay.from ay.to a.h b.h by.from by.to a.y b.y fa.from fa.to fb.from fb.to down.from down.to in
    record { left = h.0; right = h.1; top = v.0; bottom = v.1 }

part_held : (a b c d : ℕ) (x : ℤ) → c ≤ a → b ≤ d → (int_le (pos a -ℤ pos 16384) x && int_lt x (pos b -ℤ pos 16384)) ≡ true → (int_le (pos c -ℤ pos 16384) x && int_lt x (pos d -ℤ pos 16384)) ≡ true
part_held a b c d x h k t = grind (arith, ints)

part_spans : (s t : Span) (x : ℤ) → IsPartOf s t → spans s x ≡ true → spans t x ≡ true
part_spans s t x is h = part_held s.from s.to t.from t.to x is.from is.to h

either : (r y k l : Bool) → y ≡ true → l ≡ true → (r || k) ≡ true → ((r && y) || (k && l)) ≡ true
either true y k l e f g = (λ i. e i || (k && l))
either false y k l e f g = both_true k l g f

-- columns beyond the other's, on rows that the other has
pub lacking_across : (part known rest : Area) (ax ay bx by rx : Span) (p : Point) → IsAlong ax part.x part.w → IsAlong ay part.y part.h → IsAlong bx known.x known.w → IsAlong by known.y known.h → IsAlong rx rest.x rest.w → IsAlong ay rest.y rest.h
    → IsPartOf ay by → ((x : ℤ) → spans ax x ≡ true → (spans rx x || spans bx x) ≡ true) → holds part p ≡ true → (holds rest p || holds known p) ≡ true
lacking_across part known rest ax ay bx by rx p ea fa eb fb er fr down all h =
    let t : (spans ax p.x && spans ay p.y) ≡ true = sym (spans_held part ax ay p ea fa) ∙ h in
    let v : spans ay p.y ≡ true = and_right (spans ax p.x) (spans ay p.y) t in
    (λ i. spans_held rest rx ay p er fr i || spans_held known bx by p eb fb i)
    ∙ either (spans rx p.x) (spans ay p.y) (spans bx p.x) (spans by p.y) v (part_spans ay by p.y down v) (all p.x (and_left (spans ax p.x) (spans ay p.y) t))

turned : (a b c d : Bool) → ((b && a) || (d && c)) ≡ true → ((a && b) || (c && d)) ≡ true
turned true true c d h = refl
turned true false true true h = refl
turned true false true false h = h
turned true false false true h = h
turned true false false false h = h
turned false true true true h = refl
turned false true true false h = h
turned false true false true h = h
turned false true false false h = h
turned false false true true h = refl
turned false false true false h = h
turned false false false true h = h
turned false false false false h = h

-- rows beyond the other's, on columns that the other has
pub lacking_down : (part known rest : Area) (ax ay bx by ry : Span) (p : Point) → IsAlong ax part.x part.w → IsAlong ay part.y part.h → IsAlong bx known.x known.w → IsAlong by known.y known.h → IsAlong ax rest.x rest.w → IsAlong ry rest.y rest.h
    → IsPartOf ax bx → ((y : ℤ) → spans ay y ≡ true → (spans ry y || spans by y) ≡ true) → holds part p ≡ true → (holds rest p || holds known p) ≡ true
lacking_down part known rest ax ay bx by ry p ea fa eb fb er fr across all h =
    let t : (spans ax p.x && spans ay p.y) ≡ true = sym (spans_held part ax ay p ea fa) ∙ h in
    let v : spans ax p.x ≡ true = and_left (spans ax p.x) (spans ay p.y) t in
    (λ i. spans_held rest ax ry p er fr i || spans_held known bx by p eb fb i)
    ∙ turned (spans ax p.x) (spans ry p.y) (spans bx p.x) (spans by p.y) (either (spans ry p.y) (spans ax p.x) (spans by p.y) (spans bx p.x) v (part_spans ax bx p.x across v) (all p.y (and_right (spans ax p.x) (spans ay p.y) t)))

pub part_itself : (s : Span) → IsPartOf s s
part_itself s = record { from = omega arith; to = omega arith }
