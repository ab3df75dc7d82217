-- Lists with the newest item first.
use Rattle.std.proofs.Common.{◌≡◌, [], ◌∷◌, List, ◌++◌, ◌||◌, Bool, true, false, Option, Some, None, length, drop, refl, ap, ◌∙◌, sym, arith}
use Rattle.std.specs.List.{list_any}
use Rattle.std.specs.Option.{MatchOption, option_to_list}
use Rattle.std.proofs.lemmas.List.Folds.{list_any-append}
use Rattle.desk_state.specs.Newest.{newest_first}
use Rattle.geom_core.proofs.Tests.{or-false}

pub newest-last : {A : Type 0} (xs : List A) (x : A) → newest_first (xs ++ x ∷ []) ≡ x ∷ newest_first xs
newest-last [] x = refl
newest-last (y ∷ xs) x = ap (λ zs. zs ++ y ∷ []) (newest-last xs x)

or_comm : (a b : Bool) → (a || b) ≡ (b || a)
or_comm true true = refl
or_comm true false = refl
or_comm false b = sym (or-false b)

-- the order is nothing to whether one fits
pub any-newest : {A : Type 0} (p : A → Bool) (xs : List A) → list_any p (newest_first xs) ≡ list_any p xs
any-newest p [] = refl
any-newest p (x ∷ xs) = list_any-append p (newest_first xs) (x ∷ []) ∙ ap (λ b. list_any p (newest_first xs) || b) (or-false (p x)) ∙ ap (λ b. b || p x) (any-newest p xs) ∙ or_comm (list_any p xs) (p x)

none_left : {A : Type 0} (xs : List A) (key : A) (rest : List A) → length xs ≡ 0 → newest_first xs ≡ key ∷ rest → ⊥
none_left [] key rest n e = cc
none_left (x ∷ xs) key rest n e = omega arith

-- what is left when the last one is taken
pub after_pop : {T : Type 0} (A : Type 0) (B : T → Type 0) (xs ys : List T) (o : Option T) (key : T) (rest : List T) → xs ≡ ys ++ option_to_list o → MatchOption o A B → (A → length xs ≡ 0) → newest_first xs ≡ key ∷ rest → newest_first ys ≡ rest
after_pop A B xs ys (Some k) key rest is m none e = ap (drop 1) (sym (newest-last ys k) ∙ ap newest_first (sym is) ∙ e)
after_pop A B xs ys None key rest is m none e = absurd (none_left xs key rest (none m) e)
