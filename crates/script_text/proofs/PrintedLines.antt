-- A printed line splits into its fields.
use Rattle.std.proofs.Common.{◌≡◌, ℕ, true, not, List, [], ◌∷◌, ◌++◌, map, filter, refl, ap, ◌∙◌}
use Rattle.std.specs.Prelude.{◌==◌}
use Rattle.std.specs.List.{list_all, slice_split}
use Rattle.std.proofs.lemmas.List.{append-nil}
use Rattle.std.proofs.lemmas.List.Folds.{list_all-append}
use Rattle.script_lines.specs.Lines.{is_blank, fields, lines}
use Rattle.script_lines.specs.Fronts.{is_some_field, is_field}
use Rattle.script_lines.proofs.FieldLemmas.{first, second, both, cut, whole, no_blanks, no_feeds}
use Rattle.script_text.specs.Text.{spaced, line}

pieces : (f : List ℕ) (fs : List (List ℕ)) → is_field f ≡ true → list_all is_field fs ≡ true → slice_split is_blank (f ++ spaced fs) ≡ f ∷ fs
pieces f [] h k = ap (slice_split is_blank) (append-nil f) ∙ whole is_blank f (no_blanks f (second _ _ h))
pieces f (g ∷ gs) h k = cut is_blank f 32 (g ++ spaced gs) (no_blanks f (second _ _ h)) refl ∙ ap (λ l. f ∷ l) (pieces g gs (first _ _ k) (second _ _ k))

kept : (fs : List (List ℕ)) → list_all is_field fs ≡ true → filter is_some_field fs ≡ fs
kept [] h = refl
kept (f ∷ fs) h = rw (first (is_some_field f) _ (first (is_field f) _ h)) (ap (λ l. f ∷ l) (kept fs (second (is_field f) _ h)))

fields_of : (f : List ℕ) (fs : List (List ℕ)) → is_field f ≡ true → list_all is_field fs ≡ true → fields (f ++ spaced fs) ≡ f ∷ fs
fields_of f fs h k = ap (filter is_some_field) (pieces f fs h k) ∙ kept (f ∷ fs) (both _ _ h k)

spaced_feeds : (fs : List (List ℕ)) → list_all is_field fs ≡ true → list_all (λ b. not (b == 10)) (spaced fs) ≡ true
spaced_feeds [] h = refl
spaced_feeds (f ∷ fs) h = list_all-append (λ b. not (b == 10)) f (spaced fs) ∙ both _ _ (no_feeds f (second _ _ (first _ _ h))) (spaced_feeds fs (second _ _ h))

line_feeds : (f : List ℕ) (fs : List (List ℕ)) → is_field f ≡ true → list_all is_field fs ≡ true → list_all (λ b. not (b == 10)) (f ++ spaced fs) ≡ true
line_feeds f fs h k = list_all-append (λ b. not (b == 10)) f (spaced fs) ∙ both _ _ (no_feeds f (second _ _ h)) (spaced_feeds fs k)

regroup : (f s rest : List ℕ) → (f ++ (s ++ 10 ∷ [])) ++ rest ≡ (f ++ s) ++ 10 ∷ rest
regroup [] [] rest = refl
regroup [] (x ∷ s) rest = ap (λ l. x ∷ l) (regroup [] s rest)
regroup (x ∷ f) s rest = ap (λ l. x ∷ l) (regroup f s rest)

-- the first line of a text that begins with a printed one
pub line_first : (f : List ℕ) (fs : List (List ℕ)) (rest : List ℕ) → is_field f ≡ true → list_all is_field fs ≡ true → lines (line f fs ++ rest) ≡ (f ∷ fs) ∷ lines rest
line_first f fs rest h k =
    ap lines (regroup f (spaced fs) rest) ∙ (ap (map fields) (cut (λ b. b == 10) (f ++ spaced fs) 10 rest (line_feeds f fs h k) refl) ∙ ap (λ l. l ∷ lines rest) (fields_of f fs h k))
