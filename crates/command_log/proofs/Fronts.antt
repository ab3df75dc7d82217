-- Fronts of a list, and the command that is next.
use Rattle.std.proofs.Common.{◌≡◌, ℕ, ◌+◌, ◌<◌, List, [], ◌∷◌, ◌++◌, take, length, Option, Some, None, true, ap, ◌∙◌, refl}
use Rattle.std.specs.Prelude.{slice_get, is_some, IfSome}
use Rattle.std.proofs.lemmas.List.{take_more}
use Rattle.std.proofs.lemmas.Option.{get_or_from_slice_get, slice_get_within}
use Rattle.doc_model.specs.declared.command.Command.{Command}

-- a command that is next lies in the list
pub next_within : (xs : List Command) (i : ℕ) → is_some (slice_get xs i) ≡ true → i < length xs
next_within xs i h = go (slice_get xs i) refl h
  where
    go : (o : Option Command) → slice_get xs i ≡ o → is_some o ≡ true → i < length xs
    go None e h = absurd (cc (h))
    go (Some x) e h = slice_get_within xs i x e

-- a front and the command that is next
pub with_next : (xs : List Command) (i : ℕ) → IfSome (slice_get xs i) (λ x. take (i + 1) xs ≡ take i xs ++ x ∷ [])
with_next xs i = go (slice_get xs i) refl
  where
    go : (o : Option Command) → slice_get xs i ≡ o → IfSome o (λ x. take (i + 1) xs ≡ take i xs ++ x ∷ [])
    go None e = tt
    go (Some x) e = take_more xs i x (slice_get_within xs i x e) ∙ ap (λ y. take i xs ++ y ∷ []) (get_or_from_slice_get xs i x x e)
