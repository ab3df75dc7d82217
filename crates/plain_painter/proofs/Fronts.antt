-- The front of a list, and of lawful commands.
use Rattle.std.proofs.Common.{◌≡◌, ℕ, suc, zero, ◌+◌, true, Some, List, [], ◌∷◌, ◌++◌, take, refl, sym, ap, ◌∙◌}
use Rattle.std.specs.Prelude.{slice_get}
use Rattle.std.proofs.lemmas.List.{take_more}
use Rattle.std.proofs.lemmas.Option.{slice_get_within, get_or_from_slice_get}
use Rattle.geom_core.proofs.Tests.{and_left, and_right, both_true}
use Rattle.doc_model.specs.declared.command.Command.{Command}
use Rattle.doc_model.specs.Strokes.{Entry, fed}
use Rattle.doc_model.specs.Lawful.{may_follow}
use Rattle.doc_model.specs.Feeding.{lawful, lawful_after}

-- one item more from the front
pub item_more : {A : Type 0} (xs : List A) (i : ℕ) (x : A) → slice_get xs i ≡ Some x → take (i + 1) xs ≡ take i xs ++ x ∷ []
item_more xs i x e = take_more xs i x (slice_get_within xs i x e) ∙ ap (λ y. take i xs ++ y ∷ []) (get_or_from_slice_get xs i x x e)

lawful_after_front : (es : List Entry) (cs : List Command) (i : ℕ) → lawful_after es cs ≡ true → lawful_after es (take i cs) ≡ true
lawful_after_front es cs zero h = refl
lawful_after_front es [] (suc i) h = refl
lawful_after_front es (c ∷ cs) (suc i) h = both_true _ _ (and_left (may_follow es c) _ h) (lawful_after_front (fed es c) cs i (and_right (may_follow es c) _ h))

-- the first commands of lawful ones are lawful
pub lawful_next : (cs : List Command) (i : ℕ) (c : Command) → lawful cs ≡ true → slice_get cs i ≡ Some c → lawful (take i cs ++ c ∷ []) ≡ true
lawful_next cs i c h e = ap lawful (sym (item_more cs i c e)) ∙ lawful_after_front [] cs (i + 1) h
