-- Rows of open groups, the innermost of which changes.
use Rattle.std.proofs.Common.{◌≡◌, ℕ, suc, zero, ◌+◌, ◌-◌, ◌*◌, ◌<◌, ◌≤◌, List, [], ◌∷◌, ◌++◌, length, get_or, take, drop, replicate, refl, sym, ap, ◌∙◌, arith}
use Rattle.std.specs.Prelude.{slice_range}
use borrow.Rule.Slice.PartMut.{put_mid}
use Rattle.std.proofs.lemmas.List.{get_or-take, get_or-drop, get_or_append_left, get_or-append_right, get_or-replicate, length-take-le}
use Rattle.std.proofs.lemmas.List.Edits.{length-between}
use Rattle.pixel_core.specs.Rgba.{Rgba, clear}
use Rattle.pixel_core.specs.Compose.{compose}
use Rattle.pixel_core.specs.declared.blending.Op.{Op}
use Rattle.frame_core.specs.OpenRows.{row_at, innermost_first, column, laid_on, ended}

before_part : (ps new : List Rgba) (at n i : ℕ) → at ≤ length ps → i < at → get_or (put_mid at n ps new) i clear ≡ get_or ps i clear
before_part ps new at n i fits h =
    let front : length (take at ps) ≡ at = length-take-le at ps fits in
    get_or_append_left (take at ps) _ clear i (omega (arith, front)) ∙ get_or-take at ps i clear h

in_part : (ps new : List Rgba) (at n i : ℕ) → at ≤ length ps → i < length new → get_or (put_mid at n ps new) (at + i) clear ≡ get_or new i clear
in_part ps new at n i fits h =
    let back : at + i - at ≡ i = omega arith in
    get_or-append_right (take at ps) _ at (at + i) clear (length-take-le at ps fits) (omega arith) ∙ ap (λ j. get_or (new ++ drop n (drop at ps)) j clear) back ∙ get_or_append_left new _ clear i h

in_row : (ps : List Rgba) (place k : ℕ) → k < 64 → get_or (row_at ps place) k clear ≡ get_or ps (64 * place + k) clear
in_row ps place k h = get_or-take 64 (drop (64 * place) ps) k clear h ∙ get_or-drop (64 * place) ps k clear

-- the pixels of the rows round the last one in a column
abbrev around : ℕ → List Rgba → ℕ → List Rgba
around k ps zero = []
around k ps (suc last) = column k (innermost_first ps last)

-- the last row is the innermost
in_front : (ps : List Rgba) (last k : ℕ) → k < 64 → column k (innermost_first ps last) ≡ get_or ps (64 * last + k) clear ∷ around k ps last
in_front ps zero k h = ap (λ p. p ∷ []) (in_row ps 0 k h)
in_front ps (suc last) k h = ap (λ p. p ∷ column k (innermost_first ps last)) (in_row ps (suc last) k h)

-- rows whose pixels are the same
same_rows : (ps qs : List Rgba) (last k : ℕ) → k < 64 → ((i : ℕ) → i < 64 * suc last → get_or qs i clear ≡ get_or ps i clear) → column k (innermost_first qs last) ≡ column k (innermost_first ps last)
same_rows ps qs zero k h same = ap (λ p. p ∷ []) (in_row qs 0 k h ∙ same (64 * 0 + k) (omega arith) ∙ sym (in_row ps 0 k h))
same_rows ps qs (suc last) k h same =
    ap (λ p. p ∷ column k (innermost_first qs last)) (in_row qs (suc last) k h ∙ same (64 * suc last + k) (omega arith) ∙ sym (in_row ps (suc last) k h))
    ∙ ap (λ v. get_or (row_at ps (suc last)) k clear ∷ v) (same_rows ps qs last k h (λ i l. same i (omega arith)))

same_around : (ps qs : List Rgba) (last k : ℕ) → k < 64 → ((i : ℕ) → i < 64 * last → get_or qs i clear ≡ get_or ps i clear) → around k qs last ≡ around k ps last
same_around ps qs zero k h same = refl
same_around ps qs (suc last) k h same = same_rows ps qs last k h same

-- the last row changes, and none below it
changed : (ps new : List Rgba) (last n k : ℕ) → 64 * last ≤ length ps → length new ≡ 64 → k < 64 → column k (innermost_first (put_mid (64 * last) n ps new) last) ≡ get_or new k clear ∷ around k ps last
changed ps new last n k fits many h =
    in_front (put_mid (64 * last) n ps new) last k h
    ∙ ap (λ p. p ∷ around k (put_mid (64 * last) n ps new) last) (in_part ps new (64 * last) n k fits (omega (arith, many)))
    ∙ ap (λ v. get_or new k clear ∷ v) (same_around ps (put_mid (64 * last) n ps new) last k h (λ i l. before_part ps new (64 * last) n i fits l))

pub how_many : (ps : List Rgba) (last : ℕ) → length (innermost_first ps last) ≡ last + 1
how_many ps zero = refl
how_many ps (suc last) = omega (arith, how_many ps last)

-- the pixel of a column that a copy of the innermost row has
pub front_is : (ps row : List Rgba) (last k : ℕ) → row ≡ slice_range ps (64 * last) (64 * last + 64) → k < 64 → get_or row k clear ≡ get_or (column k (innermost_first ps last)) 0 clear
front_is ps row last k e h =
    let n : 64 * last + 64 - 64 * last ≡ 64 = omega arith in
    ap (λ v. get_or v k clear) e ∙ ap (λ m. get_or (take m (drop (64 * last) ps)) k clear) n ∙ in_row ps last k h ∙ sym (ap (λ v. get_or v 0 clear) (in_front ps last k h))

-- there are 64 in a row
pub row_long : (ps : List Rgba) (last : ℕ) → 64 * last + 64 ≤ length ps → length (slice_range ps (64 * last) (64 * last + 64)) ≡ 64
row_long ps last fits = length-between ps (64 * last) (64 * last + 64) fits ∙ (omega arith)

-- pixels are laid on the innermost row
pub laid_in : (ps new : List Rgba) (last k : ℕ) (op : Op) (s : Rgba) (opacity : ℕ) → 64 * last + 64 ≤ length ps → length new ≡ 64 → k < 64 → get_or new k clear ≡ compose op s (get_or (slice_range ps (64 * last) (64 * last + 64)) k clear) opacity
    → column k (innermost_first (put_mid (64 * last) (64 * last + 64 - 64 * last) ps new) last) ≡ laid_on op opacity s (column k (innermost_first ps last))
laid_in ps new last k op s opacity fits many h e =
    let n : 64 * last + 64 - 64 * last ≡ 64 = omega arith in
    let was : get_or (slice_range ps (64 * last) (64 * last + 64)) k clear ≡ get_or ps (64 * last + k) clear = ap (λ m. get_or (take m (drop (64 * last) ps)) k clear) n ∙ in_row ps last k h in
    changed ps new last (64 * last + 64 - 64 * last) k (omega arith) many h
    ∙ ap (λ p. p ∷ around k ps last) (e ∙ ap (λ d. compose op s d opacity) was)
    ∙ sym (ap (laid_on op opacity s) (in_front ps last k h))

-- a clear row is opened
pub opened : (ps new : List Rgba) (last k : ℕ) → 64 * (last + 1) + 64 ≤ length ps → new ≡ replicate 64 clear → k < 64
    → column k (innermost_first (put_mid (64 * (last + 1)) (64 * (last + 1) + 64 - 64 * (last + 1)) ps new) (last + 1)) ≡ clear ∷ column k (innermost_first ps last)
opened ps new last k fits e h =
    let one : last + 1 ≡ suc last = omega arith in
    changed ps new (last + 1) (64 * (last + 1) + 64 - 64 * (last + 1)) k (omega arith) (ap length e) h
    ∙ ap (λ p. p ∷ around k ps (last + 1)) (ap (λ v. get_or v k clear) e ∙ get_or-replicate 64 k clear clear h)
    ∙ ap (λ m. clear ∷ around k ps m) one

-- the innermost row is laid on the one round it
pub closed : (ps : List Rgba) (last k : ℕ) (op : Op) (s : Rgba) (opacity : ℕ) → 1 ≤ last → s ≡ get_or (column k (innermost_first ps last)) 0 clear → laid_on op opacity s (column k (innermost_first ps (last - 1))) ≡ ended op opacity (column k (innermost_first ps last))
closed ps zero k op s opacity some e = absurd (omega arith)
closed ps (suc last) k op s opacity some e =
    let back : suc last - 1 ≡ last = omega arith in
    ap (λ m. laid_on op opacity s (column k (innermost_first ps m))) back ∙ ap (λ p. laid_on op opacity p (column k (innermost_first ps last))) e

-- the root alone is open, and clear
pub root_clear : (k : ℕ) → k < 64 → column k (innermost_first (replicate 1088 clear) 0) ≡ clear ∷ []
root_clear k h = ap (λ p. p ∷ []) (in_row (replicate 1088 clear) 0 k h ∙ get_or-replicate 1088 (64 * 0 + k) clear clear (omega arith))
