-- The least rectangle round the tiles on which two pictures differ, as one more tile is looked at.
use Rattle.std.proofs.Common.{◌≡◌, ◌≢◌, ℕ, suc, ◌+◌, ◌-◌, ◌*◌, ◌/◌, ◌≤◌, ◌<◌, ◌⊎◌, inl, inr, Option, Some, None, true, false, Bool, refl, sym, ap, ◌∙◌, subst, arith}
use Rattle.std.proofs.lemmas.Bool.{cases_lt}
use Rattle.pixel_core.specs.Rgba.{Rgba, same_pixel}
use Rattle.pixel_core.proofs.SamePixels.{same_pixel-Decides, other_pixel}
use Rattle.picture_reading.specs.Pictures.{Shown}
use Rattle.picture_reading.specs.Changes.{Agree, AgreeOn, AgreeOutside, AllBeforeBetween, AllDifferBetween, DifferOn, DiffersAt, DiffersBefore, IsBefore, IsBetween, IsBoth, IsJoined, IsLeastRound, IsOnTile, IsRound, IsRoundOf, IsTile, LiesWithin}
use Rattle.picture_reading.specs.declared.changed.Sides.{Sides}

-- the rectangle is round the same tiles
same_round : (s t : Shown) (c r c' r' : ℕ) (o : Option Sides) → ((x y : ℕ) → DiffersBefore s t c r x y → DiffersBefore s t c' r' x y) → ((x y : ℕ) → DiffersBefore s t c' r' x y → DiffersBefore s t c r x y) → IsRoundOf s t c r o → IsRoundOf s t c' r' o
same_round s t c r c' r' None on back was = λ x y d. was x y (back x y d)
same_round s t c r c' r' (Some p) on back was = record {
  some_columns = was.some_columns;
  columns = was.columns;
  some_rows = was.some_rows;
  rows = was.rows;
  around = λ x y x' y' d at. was.around x y x' y' (back x y d) at;
  least = λ left top right bottom all. was.least left top right bottom (λ x y x' y' d at. all x y x' y' (on x y d) at);
}

-- a tile before one is before the next
later : (s t : Shown) (c r x y : ℕ) → DiffersBefore s t c r x y → DiffersBefore s t (c + 1) r x y
later s t c r x y d = record {
  differs = d.differs;
  before = elim d.before [ inl h ↦ inl h | inr h ↦ inr (h.0, omega (arith, h.1)) ];
}

-- a tile before the next is that one or before it
split : (s t : Shown) (c r x y : ℕ) → DiffersBefore s t (c + 1) r x y → DiffersBefore s t c r x y ⊎ ((x / 64 ≡ c) × (y / 64 ≡ r))
split s t c r x y d =
    elim d.before [
      | inl h ↦ inl (record { differs = d.differs; before = inl h })
      | inr h ↦
          elim (cases_lt (x / 64) c) [
            | inl l ↦ inl (record { differs = d.differs; before = inr (h.0, l) })
            | inr g ↦ inr (omega (arith, h.1, g), h.0)
          ]
    ]

-- the point at which they differ is on its tile
on_tile : (s t : Shown) (c r x y : ℕ) → DiffersAt s t x y → x / 64 ≡ c → y / 64 ≡ r → IsOnTile s c r x y
on_tile s t c r x y d e f = record { in_columns = d.in_columns; in_rows = d.in_rows; across = e; down = f }

-- a tile without a difference adds nothing
pub same_tile : (s t : Shown) (c r : ℕ) (o : Option Sides) → AgreeOn s t c r → IsRoundOf s t c r o → IsRoundOf s t (c + 1) r o
same_tile s t c r o agree was = same_round s t c r (c + 1) r o (later s t c r) back was
  where
    back : (x y : ℕ) → DiffersBefore s t (c + 1) r x y → DiffersBefore s t c r x y
    back x y d =
        elim (split s t c r x y d) [
          | inl b ↦ b
          | inr e ↦ absurd (d.differs.other (agree x y (on_tile s t c r x y d.differs e.0 e.1)))
        ]

-- behind the last tile of a row comes the row below
pub row_end : (s t : Shown) (c r : ℕ) (o : Option Sides) → s.width ≤ 64 * c → IsRoundOf s t c r o → IsRoundOf s t 0 (r + 1) o
row_end s t c r o wide was = same_round s t c r 0 (r + 1) o on back was
  where
    on : (x y : ℕ) → DiffersBefore s t c r x y → DiffersBefore s t 0 (r + 1) x y
    on x y d = record {
      differs = d.differs;
      before = inl (elim d.before [ inl h ↦ omega (arith, h) | inr h ↦ omega (arith, h.0) ]);
    }

    back : (x y : ℕ) → DiffersBefore s t 0 (r + 1) x y → DiffersBefore s t c r x y
    back x y d = record {
      differs = d.differs;
      before = elim d.before [
        | inl h ↦ elim (cases_lt (y / 64) r) [ inl l ↦ inl l | inr g ↦ inr (omega (arith, h, g), omega (arith, wide, d.differs.in_columns)) ]
        | inr h ↦ absurd (omega (arith, h.1))
      ];
    }

-- behind the last row nothing is left
pub all_rows : (s t : Shown) (r : ℕ) (o : Option Sides) → s.height ≤ 64 * r → IsRoundOf s t 0 r o → IsRoundOf s t 0 (s.height / 64 + 1) o
all_rows s t r o high was =
    same_round s t 0 r 0 (s.height / 64 + 1) o
    (λ x y d. record { differs = d.differs; before = inl (omega (arith, d.differs.in_rows)) })
    (λ x y d. record { differs = d.differs; before = inl (omega (arith, high, d.differs.in_rows)) })
    was

-- points of a tile lie between its sides
in_tile : (s : Shown) (c r : ℕ) (q : Sides) (x y : ℕ) → IsTile s c r q → IsOnTile s c r x y → IsBetween q.left q.top q.right q.bottom x y
in_tile s c r q x y tile at = record {
  from_left = omega (arith, tile.left, at.across);
  to_right = omega (arith, tile.right, at.across, at.in_columns);
  from_top = omega (arith, tile.top, at.down);
  to_bottom = omega (arith, tile.bottom, at.down, at.in_rows);
}

-- what lies round a tile with a difference lies round its sides
tile_within : (s t : Shown) (c r : ℕ) (q : Sides) → IsTile s c r q → DifferOn s t c r → (left top right bottom : ℕ) → AllBeforeBetween s t (c + 1) r left top right bottom → LiesWithin q.left q.top q.right q.bottom left top right bottom
tile_within s t c r q tile there left top right bottom all =
    let x = there.0 in
    let y = there.1.0 in
    let on : IsOnTile s c r x y = there.1.1.0 in
    let d : DiffersBefore s t (c + 1) r x y = record { differs = there.1.1.1; before = inr (on.down, omega (arith, on.across)) } in
    let first : IsBetween left top right bottom q.left q.top =
    all x y q.left q.top d (record {
      in_columns = omega (arith, tile.some_columns, tile.columns);
      in_rows = omega (arith, tile.some_rows, tile.rows);
      across = omega (arith, tile.left, on.across);
      down = omega (arith, tile.top, on.down);
    }) in
    let last : IsBetween left top right bottom (q.right - 1) (q.bottom - 1) =
    all x y (q.right - 1) (q.bottom - 1) d (record {
      in_columns = omega (arith, tile.some_columns, tile.columns);
      in_rows = omega (arith, tile.some_rows, tile.rows);
      across = omega (arith, tile.left, tile.right, tile.some_columns, on.across);
      down = omega (arith, tile.top, tile.bottom, tile.some_rows, on.down);
    }) in
    record {
      at_left = first.from_left;
      at_right = omega (arith, last.to_right, tile.some_columns);
      at_top = first.from_top;
      at_bottom = omega (arith, last.to_bottom, tile.some_rows);
    }

-- a tile with a difference is taken in
pub other_tile : (s t : Shown) (c r : ℕ) (o : Option Sides) (q p' : Sides) → IsTile s c r q → DifferOn s t c r → IsJoined o q p' → IsRoundOf s t c r o → IsRoundOf s t (c + 1) r (Some p')
other_tile s t c r None q p' tile there is was = subst (IsRound s t (c + 1) r) (sym is) (record {
  some_columns = tile.some_columns;
  columns = tile.columns;
  some_rows = tile.some_rows;
  rows = tile.rows;
  around = λ x y x' y' d at. elim (split s t c r x y d) [
    | inl b ↦ absurd (was x y b)
    | inr e ↦ in_tile s c r q x' y' tile (record { in_columns = at.in_columns; in_rows = at.in_rows; across = at.across ∙ e.0; down = at.down ∙ e.1 })
  ];
  least = tile_within s t c r q tile there;
})
other_tile s t c r (Some p) q p' tile there is was = record {
  some_columns = omega (arith, is.left, is.right, was.some_columns, tile.some_columns);
  columns = omega (arith, is.right, was.columns, tile.columns);
  some_rows = omega (arith, is.top, is.bottom, was.some_rows, tile.some_rows);
  rows = omega (arith, is.bottom, was.rows, tile.rows);
  around = λ x y x' y' d at. elim (split s t c r x y d) [
    | inl b ↦ wider p x' y' (omega (arith, is.left)) (omega (arith, is.right)) (omega (arith, is.top)) (omega (arith, is.bottom)) (was.around x y x' y' b at)
    | inr e ↦ wider q x' y' (omega (arith, is.left)) (omega (arith, is.right)) (omega (arith, is.top)) (omega (arith, is.bottom))
        (in_tile s c r q x' y' tile (record { in_columns = at.in_columns; in_rows = at.in_rows; across = at.across ∙ e.0; down = at.down ∙ e.1 }))
  ];
  least = λ left top right bottom all.
      let one : LiesWithin p.left p.top p.right p.bottom left top right bottom = was.least left top right bottom (λ x y x' y' d at. all x y x' y' (later s t c r x y d) at) in
      let two : LiesWithin q.left q.top q.right q.bottom left top right bottom = tile_within s t c r q tile there left top right bottom all in
      record {
        at_left = omega (arith, is.left, one.at_left, two.at_left);
        at_right = omega (arith, is.right, one.at_right, two.at_right);
        at_top = omega (arith, is.top, one.at_top, two.at_top);
        at_bottom = omega (arith, is.bottom, one.at_bottom, two.at_bottom);
      };
}
  where
    wider : (v : Sides) (x y : ℕ) → p'.left ≤ v.left → v.right ≤ p'.right → p'.top ≤ v.top → v.bottom ≤ p'.bottom → IsBetween v.left v.top v.right v.bottom x y → IsBetween p'.left p'.top p'.right p'.bottom x y
    wider v x y l r t b at = record {
      from_left = omega (arith, l, at.from_left);
      to_right = omega (arith, r, at.to_right);
      from_top = omega (arith, t, at.from_top);
      to_bottom = omega (arith, b, at.to_bottom);
    }

-- each difference lies above the row below the last
all_before : (s t : Shown) (x y : ℕ) → DiffersAt s t x y → DiffersBefore s t 0 (s.height / 64 + 1) x y
all_before s t x y d = record { differs = d; before = inl (omega (arith, d.in_rows)) }

-- pixels that can't differ are one
not_other : (p q : Rgba) → (p ≢ q → ⊥) → p ≡ q
not_other p q h = go (same_pixel p q) refl
  where
    go : (b : Bool) → same_pixel p q ≡ b → p ≡ q
    go true e = (same_pixel-Decides p q).0 e
    go false e = absurd (h (other_pixel p q e))

-- with nothing to be round the pictures agree
pub none_differ : (s t : Shown) → IsRoundOf s t 0 (s.height / 64 + 1) None → Agree s t
none_differ s t none x y h k = not_other (s.pixel x y) (t.pixel x y) (λ n. none x y (all_before s t x y (record { in_columns = h; in_rows = k; other = n })))

-- the rectangle of the sides
pub all_round : (s t : Shown) (p : Sides) → IsRound s t 0 (s.height / 64 + 1) p → IsLeastRound s t p.left p.top (p.right - p.left) (p.bottom - p.top)
all_round s t p is =
    let across : p.left + (p.right - p.left) ≡ p.right = omega (arith, is.some_columns) in
    let down : p.top + (p.bottom - p.top) ≡ p.bottom = omega (arith, is.some_rows) in
    record {
      around = λ x y x' y' d at. subst (λ v. IsBetween p.left p.top v (p.top + (p.bottom - p.top)) x' y') (sym across) (subst (λ v. IsBetween p.left p.top p.right v x' y') (sym down) (is.around x y x' y' (all_before s t x y d) at));
      least = λ left top right bottom all. subst (λ v. LiesWithin p.left p.top v (p.top + (p.bottom - p.top)) left top right bottom) (sym across) (subst (λ v. LiesWithin p.left p.top p.right v left top right bottom) (sym down)
          (is.least left top right bottom (λ x y x' y' d at. all x y x' y' d.differs at)));
    }

-- outside it they agree
pub agree_outside : (s t : Shown) (x y w h : ℕ) → IsLeastRound s t x y w h → AgreeOutside s t x y w h
agree_outside s t x y w h is col row i j out =
    not_other (s.pixel col row) (t.pixel col row)
    (λ n. out (is.around col row col row (record { in_columns = i; in_rows = j; other = n }) (record { in_columns = i; in_rows = j; across = refl; down = refl })))
