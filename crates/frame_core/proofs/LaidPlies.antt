-- Plies that are laid on the rows of the open groups, one after another.
use Rattle.std.proofs.Common.{◌≡◌, ℕ, ◌+◌, ◌<◌, ◌≤◌, true, List, [], ◌∷◌, length, get_or, take, drop, Option, Some, None, is_some, refl, sym, ap, ◌∙◌}
use Rattle.std.specs.List.{fold}
use Rattle.std.proofs.lemmas.List.{take_all, take-append-drop}
use Rattle.std.proofs.lemmas.List.Sums.{fold_more, fold-append}
use Rattle.pixel_core.specs.Rgba.{Rgba, clear}
use Rattle.frame_core.specs.OpenRows.{column}
use Rattle.frame_core.specs.Plies.{with_ply, open_at, made_at, open_after, then_open, IsStack}
use Rattle.frame_core.specs.declared.ply.Ply.{Ply}

-- how far the plies have come on a row
pub record LaidSoFar (plies : List Ply) (row n : ℕ) (open_rows : List (List Rgba)) : Type 0 where
  pub many : fold then_open (Some 1) (take n plies) ≡ Some (length open_rows)
  pub laid : (k : ℕ) → k < 64 → column k open_rows ≡ open_at k row (take n plies)

never : (plies : List Ply) → fold then_open None plies ≡ Some 1 → ⊥
never [] e = no e
  where
    no : ◌≡◌ {A = Option ℕ} None (Some 1) → ⊥
    no h = cc
never (ply ∷ plies) e = never plies e

some_left : (o : Option ℕ) (plies : List Ply) → fold then_open o plies ≡ Some 1 → is_some o ≡ true
some_left (Some n) plies e = refl
some_left None plies e = absurd (never plies e)

next_open : (plies : List Ply) (i n : ℕ) (ply : Ply) → i < length plies → ply ≡ get_or plies i ply → fold then_open (Some 1) (take i plies) ≡ Some n → fold then_open (Some 1) (take (i + 1) plies) ≡ open_after n ply
next_open plies i n ply h here many = fold_more then_open (Some 1) plies i ply h ∙ ap (λ o. then_open o (get_or plies i ply)) many ∙ ap (open_after n) (sym here)

-- the next ply may be laid
pub ply_fits : (plies : List Ply) (row i : ℕ) (ply : Ply) (open_rows : List (List Rgba)) → IsStack plies → LaidSoFar plies row i open_rows → i < length plies → ply ≡ get_or plies i ply → is_some (open_after (length open_rows) ply) ≡ true
ply_fits plies row i ply open_rows stack so h here =
    some_left (open_after (length open_rows) ply) (drop (i + 1) plies)
    (ap (λ o. fold then_open o (drop (i + 1) plies)) (sym (next_open plies i (length open_rows) ply h here so.many))
    ∙ sym (fold-append then_open (Some 1) (take (i + 1) plies) (drop (i + 1) plies)) ∙ ap (fold then_open (Some 1)) (take-append-drop (i + 1) plies) ∙ stack)

pub one_more : (plies : List Ply) (row i : ℕ) (ply : Ply) (old new : List (List Rgba)) → LaidSoFar plies row i old → i < length plies → ply ≡ get_or plies i ply → ((k : ℕ) → k < 64 → column k new ≡ with_ply k row (column k old) ply) → open_after (length old) ply ≡ Some (length new) → LaidSoFar plies row (i + 1) new
one_more plies row i ply old new so h here laid many = record {
  many = next_open plies i (length old) ply h here so.many ∙ many;
  laid = λ k l. laid k l ∙ ap (λ v. with_ply k row v ply) (so.laid k l) ∙ ap (with_ply k row (open_at k row (take i plies))) here ∙ sym (fold_more (with_ply k row) (clear ∷ []) plies i ply h);
}

-- all plies are laid
pub all_made : (plies : List Ply) (row i k : ℕ) (open_rows : List (List Rgba)) → LaidSoFar plies row i open_rows → length plies ≤ i → k < 64 → get_or (column k open_rows) 0 clear ≡ made_at plies k row
all_made plies row i k open_rows so all h = ap (λ v. get_or v 0 clear) (so.laid k h ∙ ap (open_at k row) (take_all i plies all))
