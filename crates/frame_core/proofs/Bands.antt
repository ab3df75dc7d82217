-- Bands of rows that are written tile by tile.
use Rattle.std.proofs.Common.{◌≡◌, ℕ, suc, zero, ◌+◌, ◌-◌, ◌*◌, ◌/◌, ◌≤◌, ◌<◌, ◌⊎◌, inl, inr, false, List, ◌++◌, length, take, drop, min, refl, sym, ap, ◌∙◌, subst, arith, append-nil}
use Rattle.std.specs.List.{flat_map}
use Rattle.std.specs.Prelude.{pos, slice_range}
use borrow.Rule.Slice.PartMut.{put_mid}
use Rattle.std.proofs.Math.ListN.{drop_of_length-le}
use Rattle.std.proofs.Math.Nat.{eq-or-lt_of_le}
use Rattle.std.proofs.Math.Seq.{take-add}
use Rattle.std.proofs.lemmas.List.{length-take, drop-take, take_all}
use Rattle.std.proofs.lemmas.Slice.{take-put_mid_below, drop-put_mid, between-put_mid}
use Rattle.geom_core.specs.Areas.{row}
use Rattle.frame_core.specs.Frames.{Scene, SameCanvas, colours_at, row_colours, rows_colours, band_row, LaysPoints, LaysRows}
use Rattle.frame_core.proofs.FrameRows.{RowSoFar, row_next, row_all}
use Rattle.frame_core.proofs.PictureRows.{rows_more, one_row, row_shown, column_stays, tile_stays}
use Rattle.frame_core.specs.Marks.{Grid, mark_at, place_at}
use Rattle.frame_core.specs.Films.{Renews}

-- a later row begins where an earlier one has ended
below : (w j k : ℕ) → j < k → w * j + w ≤ w * k
below w j k h =
    let e : k ≡ j + 1 + (k - (j + 1)) = omega arith in
    let f : w * k ≡ w * (j + 1 + (k - (j + 1))) = ap (λ i. w * i) e in
    let g : w * (j + 1 + (k - (j + 1))) ≡ w * j + w + w * (k - (j + 1)) = grind arith in
    omega (arith, f, g)

-- a part of the band in the place of a row
pub row_part : (s : Scene) (k at end w : ℕ) (band : List ℕ) → at ≡ 3 * (s.width * k) → w ≡ s.width → end ≡ at + 3 * w → slice_range band at end ≡ band_row s k band
row_part s k at end w band ea ew ee =
    let many : end - at ≡ 3 * s.width = omega (arith, ea, ew, ee) in
    ap (λ i. take i (drop at band)) many ∙ ap (λ i. take (3 * s.width) (drop i band)) ea

-- a row is written in its place
own_row : (s : Scene) (k at end : ℕ) (band new : List ℕ) → at ≡ 3 * (s.width * k) → end ≡ at + 3 * s.width → end ≤ length band → length new ≡ end - at → band_row s k (put_mid at (end - at) band new) ≡ new
own_row s k at end band new ea ee fits n =
    sym (row_part s k at end s.width (put_mid at (end - at) band new) ea refl ee) ∙ between-put_mid at (end - at) band new end (omega arith) n

-- and all others stay
other_row : (s : Scene) (j k at end : ℕ) (band new : List ℕ) → (j < k) ⊎ (k < j) → at ≡ 3 * (s.width * k) → end ≡ at + 3 * s.width → end ≤ length band → length new ≡ end - at → band_row s j (put_mid at (end - at) band new) ≡ band_row s j band
other_row s j k at end band new (inl h) ea ee fits n =
    let b : s.width * j + s.width ≤ s.width * k = below s.width j k h in
    let d : 3 * (s.width * j) + 3 * s.width ≤ at = omega (arith, ea, b) in
    sym (drop-take (3 * (s.width * j)) (3 * s.width) (put_mid at (end - at) band new))
    ∙ ap (drop (3 * (s.width * j))) (take-put_mid_below at (end - at) band new (3 * (s.width * j) + 3 * s.width) d (omega arith))
    ∙ drop-take (3 * (s.width * j)) (3 * s.width) band
other_row s j k at end band new (inr h) ea ee fits n =
    let b : s.width * k + s.width ≤ s.width * j = below s.width k j h in
    ap (take (3 * s.width)) (drop-put_mid at (end - at) band new (3 * (s.width * j)) (omega (arith, ea, ee, b)) (omega arith) n)

-- how far the rows of a column of tiles have come
pub record ColumnSoFar (s : Scene) (top : ℕ) (old new : List ℕ) (x m y at : ℕ) : Type 0 where
  pub at_is : at ≡ 3 * (s.width * y)
  pub laid : (k : ℕ) → k < y → LaysPoints s (top + k) (band_row s k old) (band_row s k new) x m
  pub rest : (k : ℕ) → y ≤ k → band_row s k new ≡ band_row s k old

pub column_begun : (s : Scene) (top : ℕ) (old : List ℕ) (x m : ℕ) → ColumnSoFar s top old old x m 0 0
column_begun s top old x m = record { at_is = grind arith; laid = λ k h. absurd (omega arith); rest = λ k h. refl }

pub column_next : (s : Scene) (top : ℕ) (old mid new : List ℕ) (x m y at end w n : ℕ) → ColumnSoFar s top old mid x m y at → w ≡ s.width → end ≡ at + 3 * w → y < n → length mid ≡ 3 * (s.width * n) → length new ≡ end - at
    → LaysPoints s (top + y) (slice_range mid at end) new x m → ColumnSoFar s top old (put_mid at (end - at) mid new) x m (y + 1) end
column_next s top old mid new x m y at end w n so ew ee h all many laid = record {
  at_is = omega (arith, so.at_is, ends, one);
  laid = λ k l. of k (eq-or-lt_of_le (omega arith));
  rest = λ k l. other_row s k y at end mid new (inr (omega arith)) so.at_is ends fits many ∙ so.rest k (omega arith);
}
  where
    ends : end ≡ at + 3 * s.width
    ends = omega (arith, ew, ee)

    fits : end ≤ length mid
    fits = omega (arith, so.at_is, ends, below s.width y n h, all)

    one : s.width * (y + 1) ≡ s.width * y + s.width
    one = grind arith

    here : band_row s y (put_mid at (end - at) mid new) ≡ new
    here = own_row s y at end mid new so.at_is ends fits many

    was : slice_range mid at end ≡ band_row s y old
    was = row_part s y at end w mid so.at_is ew ee ∙ so.rest y (omega arith)

    own : LaysPoints s (top + y) (band_row s y old) (band_row s y (put_mid at (end - at) mid new)) x m
    own = subst (λ v. LaysPoints s (top + y) (band_row s y old) v x m) (sym here) (subst (λ v. LaysPoints s (top + y) v new x m) was laid)

    of : (k : ℕ) → (k ≡ y) ⊎ (k < y) → LaysPoints s (top + k) (band_row s k old) (band_row s k (put_mid at (end - at) mid new)) x m
    of k (inl e) = subst (λ i. LaysPoints s (top + i) (band_row s i old) (band_row s i (put_mid at (end - at) mid new)) x m) (sym e) own
    of k (inr l) = subst (λ v. LaysPoints s (top + k) (band_row s k old) v x m) (sym (other_row s k y at end mid new (inl l) so.at_is ends fits many)) (so.laid k l)

-- how far the columns of a band have come
abbrev pub BandSoFar : Scene → ℕ → ℕ → List ℕ → List ℕ → ℕ → Type 0
BandSoFar s top n old new cols = (k : ℕ) → k < n → RowSoFar s (top + k) (band_row s k old) (band_row s k new) cols

pub band_begun : (s : Scene) (top n : ℕ) (old : List ℕ) → BandSoFar s top n old old 0
band_begun s top n old k h =
    let z : min (64 * 0) s.width ≡ 0 = omega arith in
    record { laid = sym (ap (λ m. flat_map (colours_at s) (row (pos 0) (pos (top + k)) m) ++ drop (3 * m) (band_row s k old)) z) }

pub band_next : (s : Scene) (top n : ℕ) (old mid new : List ℕ) (i : ℕ) → BandSoFar s top n old mid i → 64 * i < s.width → LaysRows s top n mid new (64 * i) (min 64 (s.width - 64 * i)) → BandSoFar s top n old new (i + 1)
band_next s top n old mid new i so h laid k l = row_next s (top + k) i (band_row s k old) (band_row s k mid) (band_row s k new) (so k l) h (laid k l)

-- rows that are all written make a band
rows_join : (s : Scene) (top n : ℕ) (new : List ℕ) → ((k : ℕ) → k < n → band_row s k new ≡ row_colours s (top + k)) → (k : ℕ) → k ≤ n → take (3 * (s.width * k)) new ≡ rows_colours s top k
rows_join s top n new each zero h =
    let z : 3 * (s.width * 0) ≡ 0 = grind arith in
    ap (λ i. take i new) z
rows_join s top n new each (suc k) h =
    let e : 3 * (s.width * suc k) ≡ 3 * (s.width * k) + 3 * s.width = grind arith in
    let o : k + 1 ≡ suc k = omega arith in
    ap (λ i. take i new) e ∙ take-add (3 * (s.width * k)) (3 * s.width) new ∙ ap (λ v. v ++ band_row s k new) (rows_join s top n new each k (omega arith))
    ∙ ap (λ v. rows_colours s top k ++ v) (each k (omega arith) ∙ one_row s (top + k)) ∙ rows_more s top k 1 ∙ ap (rows_colours s top) o

pub band_all : (s : Scene) (top n : ℕ) (old new : List ℕ) (i : ℕ) → BandSoFar s top n old new i → s.width ≤ 64 * i → length new ≡ 3 * (s.width * n) → new ≡ rows_colours s top n
band_all s top n old new i so h all = sym (take_all (3 * (s.width * n)) new (omega (arith, all))) ∙ rows_join s top n new each n (omega arith)
  where
    each : (k : ℕ) → k < n → band_row s k new ≡ row_colours s (top + k)
    each k l =
        let few : length (band_row s k old) ≤ 3 * s.width = omega (arith, length-take (3 * s.width) (drop (3 * (s.width * k)) old)) in
        row_all s (top + k) i (band_row s k old) (band_row s k new) (so k l) h ∙ ap (λ v. row_colours s (top + k) ++ v) (drop_of_length-le (band_row s k old) few) ∙ append-nil (row_colours s (top + k))

-- a column of tiles that isn't marked stays in all rows of a band
pub band_column_stays : (s b : Scene) (fresh : Grid) (r n i : ℕ) (old mid : List ℕ) → BandSoFar s (64 * r) n old mid i → 64 * i < s.width → SameCanvas s b → Renews s b fresh → n ≤ 64 → 64 * r + n ≤ s.height → length old ≡ 3 * (s.width * n) → old ≡ rows_colours b (64 * r) n
    → mark_at fresh (place_at (pos i) (pos r)) ≡ false → LaysRows s (64 * r) n mid mid (64 * i) (min 64 (s.width - 64 * i))
band_column_stays s b fresh r n i old mid so h alike renews few inside all shown unmarked k l =
    let e : (64 * r + k) / 64 ≡ r = omega arith in
    let here : take (3 * (s.width * n)) old ≡ rows_colours b (64 * r) n = take_all (3 * (s.width * n)) old (omega (arith, all)) ∙ shown in
    let own : band_row s k old ≡ row_colours b (64 * r + k) = row_shown s b old (64 * r) n k alike here l in
    column_stays s b (64 * r + k) i (band_row s k old) (band_row s k mid) (so k l) h alike own
    (tile_stays s b fresh i (64 * r + k) alike renews (omega arith) (subst (λ q. mark_at fresh (place_at (pos i) (pos q)) ≡ false) (sym e) unmarked))
