-- Pixels as bytes.
use Rattle.std.proofs.Common.{◌≡◌, ℕ, suc, zero, ◌+◌, ◌*◌, ◌≤◌, ◌<◌, Option, Some, None, Bor, true, List, [], ◌∷◌, ◌++◌, length, get_or, take, replicate, refl, sym, ap, ◌∙◌, arith}
use Rattle.std.specs.List.{flat_map}
use Rattle.std.specs.Option.{option_copied}
use Rattle.std.specs.Prelude.{IfNone, IfSome}
use borrow.Rule.Slice.PartMut.{put_mid}
use Rattle.std.proofs.Math.Seq.{take-append-add}
use Rattle.std.proofs.lemmas.List.{length-take-le, take_all, take_more}
use Rattle.std.proofs.lemmas.Grind.{flat_map-append}
use Rattle.pixel_core.specs.Rgba.{Rgba, clear}
use Rattle.pixel_core.specs.Words.{bytes_of}
use Rattle.geom_core.specs.Areas.{Point}
use Rattle.geom_core.specs.Grid.{Key}
use Rattle.tile_core.specs.Pixels.{Pixels, pixel_at}
use Rattle.doc_model.specs.Layers.{Layer, at}
use Rattle.doc_model.specs.Shots.{in_tile}
use Rattle.paint_device.proofs.Writes.{pixel_or-tile_or}
use Rattle.host_desk.specs.Tiles.{pixels_of}

-- one more pixel's bytes
pub pixels_next : (old : List ℕ) (ps : List Rgba) (i k : ℕ) (p : Rgba) → take (4 * i) old ≡ flat_map bytes_of (take i ps) → i < length ps → p ≡ get_or ps i p → 4 * i ≤ length old
    → take (4 * (i + 1)) (put_mid (4 * i) k old (bytes_of p)) ≡ flat_map bytes_of (take (i + 1) ps)
pixels_next old ps i k p e h is room =
    let front : length (take (4 * i) old) ≡ 4 * i = length-take-le (4 * i) old room in
    let n : 4 * (i + 1) ≡ length (take (4 * i) old) + 4 = omega arith in
    ap (λ m. take m (put_mid (4 * i) k old (bytes_of p))) n ∙ take-append-add (take (4 * i) old) _ 4 ∙ ap (λ v. v ++ bytes_of p) e
    ∙ sym (ap (flat_map bytes_of) (take_more ps i p h ∙ ap (λ q. take i ps ++ q ∷ []) (sym is)) ∙ flat_map-append bytes_of (take i ps) (p ∷ []))

-- all pixels' bytes
pub pixels_all : (bytes : List ℕ) (ps : List Rgba) (i : ℕ) → take (4 * i) bytes ≡ flat_map bytes_of (take i ps) → length ps ≤ i → length bytes ≡ 4 * length ps → bytes ≡ flat_map bytes_of ps
pixels_all bytes ps i e h all =
    sym (take_all (4 * i) bytes (omega (arith, h, all))) ∙ e ∙ ap (flat_map bytes_of) (take_all i ps h)

-- the bytes of clear pixels are zeros
pub clear_bytes : (n : ℕ) → flat_map bytes_of (replicate n clear) ≡ replicate (4 * n) 0
clear_bytes zero = refl
clear_bytes (suc n) =
    let e : 4 * suc n ≡ suc (suc (suc (suc (4 * n)))) = omega arith in
    ap (λ xs. 0 ∷ 0 ∷ 0 ∷ 0 ∷ xs) (clear_bytes n) ∙ sym (ap (λ k. replicate k 0) e)

-- a tile that may be there shows what the layer has on it
pub tile_shows : (o : Option (Bor Pixels)) (k : Key) (l : Layer) → IfSome o (λ t. (p : Point) → in_tile k p ≡ true → pixel_at t.now p ≡ at l p) → IfNone o ((p : Point) → in_tile k p ≡ true → at l p ≡ clear) → (p : Point) → in_tile k p ≡ true → pixel_at (pixels_of (option_copied o)) p ≡ at l p
tile_shows (Some t) k l some none p h = some p h
tile_shows None k l some none p h = sym (pixel_or-tile_or None clear p) ∙ sym (none p h)
