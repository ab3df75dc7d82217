-- Rows of pixels changed one after another.
use Rattle.std.proofs.Common.{◌≡◌, ℕ, ◌+◌, ◌-◌, ◌*◌, ◌≤◌, ◌<◌, Bool, true, false, ◌&&◌, cond, List, ◌++◌, length, get_or, take, drop, refl, sym, ap, subst, ◌∙◌, arith, ltb, leb}
use borrow.Rule.Slice.PartMut.{put_mid}
use Rattle.std.proofs.lemmas.Bool.Decides.{nat_tests}
use Rattle.std.proofs.lemmas.List.{get_or-take, get_or-drop, drop-drop, append_assoc}
use Rattle.pixel_core.specs.Rgba.{Rgba, clear}
use Rattle.tile_core.specs.Parts.{in_part}
use Rattle.tile_core.proofs.LaidRows.{get_or-laid, stretch}
use Rattle.job_core.specs.Laid.{Change, ChangesRows}

-- the first rows of the part are changed, and the next row begins at this place
pub record ChangedSoFar (f : Change) (width left top w rows : ℕ) (old new : List Rgba) (from : ℕ) : Type 0 where
  pub done : ChangesRows f width left top w rows old new
  pub from_is : from ≡ (top + rows) * width + left

-- some pixels from a place on are changed, each by where it stands among them
abbrev pub ChangesFrom : (ℕ → Rgba → Rgba) → ℕ → ℕ → List Rgba → List Rgba → Type 0
ChangesFrom g from n old new = (i : ℕ) → get_or new i clear ≡ cond (leb from i && ltb i (from + n)) (g (i - from) (get_or old i clear)) (get_or old i clear)

put_mid-laid : (old ys : List Rgba) (at k : ℕ) → length ys ≡ k → put_mid at k old ys ≡ take at old ++ ys ++ drop (at + length ys) old
put_mid-laid old ys at k e =
    ap (λ zs. take at old ++ (ys ++ zs)) (drop-drop k at old ∙ ap (λ n. drop (at + n) old) (sym e))
    ∙ sym (append_assoc (take at old) ys (drop (at + length ys) old))

pub within : (t : Bool) (x y z : Rgba) → (t ≡ true → x ≡ y) → cond t x z ≡ cond t y z
within true x y z e = e refl
within false x y z e = refl

pub below : (from i n : ℕ) → (leb from i && ltb i (from + n)) ≡ true → i - from < n
below from i n t = grind (arith, nat_tests)

-- a slice that was changed in place
pub slice_changed : (g : ℕ → Rgba → Rgba) (old ys : List Rgba) (from n k : ℕ) → from + n ≤ length old → k ≡ n → length ys ≡ n
    → ((i : ℕ) → i < n → get_or ys i clear ≡ g i (get_or (take k (drop from old)) i clear)) → ChangesFrom g from n old (put_mid from k old ys)
slice_changed g old ys from n k fits ek many each i =
    ap (λ zs. get_or zs i clear) (put_mid-laid old ys from k (many ∙ sym ek))
    ∙ get_or-laid old ys from i clear (rw many fits)
    ∙ ap (λ m. cond (leb from i && ltb i (from + m)) (get_or ys (i - from) clear) (get_or old i clear)) many
    ∙ within (leb from i && ltb i (from + n)) _ _ _ (λ t.
    let small : i - from < n = below from i n t in
    let back : from + (i - from) ≡ i = above from i n t in
    each (i - from) small ∙ ap (g (i - from)) (get_or-take k (drop from old) (i - from) clear (rw ek small) ∙ get_or-drop from old (i - from) clear ∙ ap (λ j. get_or old j clear) back))
  where
    above : (from i n : ℕ) → (leb from i && ltb i (from + n)) ≡ true → from + (i - from) ≡ i
    above from i n t = grind (arith, nat_tests)

-- one more row, read along that row and along the others
one_more : (left top w rows col row : ℕ) (x y z u : Rgba) → (in_part left (top + rows) w 1 col row ≡ true → x ≡ y)
    → u ≡ cond (in_part left top w rows col row) y z
    → cond (in_part left (top + rows) w 1 col row) x u ≡ cond (in_part left top w (rows + 1) col row) y z
one_more left top w rows col row x y z u same e = grind (arith, nat_tests)

not_yet : (left top w rows col row : ℕ) (y z : Rgba) → in_part left (top + rows) w 1 col row ≡ true → cond (in_part left top w rows col row) y z ≡ z
not_yet left top w rows col row y z t = grind (arith, nat_tests)

-- one more row is changed
pub row_changed : (f : Change) (width left top w rows from : ℕ) (old mid new : List Rgba) → ChangedSoFar f width left top w rows old mid from → left + w ≤ width
    → ChangesFrom (λ i. f i rows) from w mid new → ChangedSoFar f width left top w (rows + 1) old new (from + width)
row_changed f width left top w rows from old mid new so across each = record {
  done = λ col row h.
      let i : ℕ = row * width + col in
      let o : Rgba = get_or mid i clear in
      each i
      ∙ ap (λ t. cond (leb t i && ltb i (t + w)) (f (i - from) rows o) o) so.from_is
      ∙ ap (λ b. cond b (f (i - from) rows o) o) (stretch width left w (top + rows) row col across h)
      ∙ one_more left top w rows col row (f (i - from) rows o) (f (col - left) (row - top) (get_or old i clear)) (get_or old i clear) o
      (λ t. (λ j. f (across_is width left top w rows col row from so.from_is t j) (down_is left top w rows col row t j) ((so.done col row h ∙ not_yet left top w rows col row _ _ t) j)))
      (so.done col row h);
  from_is = next top rows width left from so.from_is;
}
  where
    across_is : (width left top w rows col row from : ℕ) → from ≡ (top + rows) * width + left → in_part left (top + rows) w 1 col row ≡ true → (row * width + col) - from ≡ col - left
    across_is width left top w rows col row from e t =
        let r : row ≡ top + rows = grind (arith, nat_tests) in
        let p : left ≤ col = grind (arith, nat_tests) in
        let m : row * width ≡ (top + rows) * width = ap (λ i. i * width) r in
        omega arith

    down_is : (left top w rows col row : ℕ) → in_part left (top + rows) w 1 col row ≡ true → rows ≡ row - top
    down_is left top w rows col row t = grind (arith, nat_tests)

    next : (top rows width left from : ℕ) → from ≡ (top + rows) * width + left → from + width ≡ (top + (rows + 1)) * width + left
    next top rows width left from e = omega arith

-- all rows of the part are changed
pub all_changed : (f g : Change) (width left top w h rows from : ℕ) (old new : List Rgba) → ChangedSoFar f width left top w rows old new from → rows ≡ h → f ≡ g → ChangesRows g width left top w h old new
all_changed f g width left top w h rows from old new so e same = subst (λ d. ChangesRows d width left top w h old new) same (subst (λ n. ChangesRows f width left top w n old new) e so.done)
