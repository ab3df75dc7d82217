-- An entry that is no stroke does to the story what it means.
use Rattle.std.proofs.Common.{◌≡◌, ℕ, suc, zero, ◌≤◌, true, List, [], ◌∷◌, ◌++◌, Some, length, take, drop, map, refl, sym, ap, ◌∙◌, arith}
use Rattle.std.specs.List.{list_all}
use Rattle.std.specs.Prelude.{Result, Ok, Err}
use Rattle.doc_model.specs.declared.tree.TreeFault.{TreeFault}
use Rattle.doc_model.specs.Picture.{Doc}
use Rattle.doc_model.proofs.DoneLaws.{one_outcome}
use Rattle.doc_model.specs.Layers.{plain}
use Rattle.doc_model.specs.Changes.{changed}
use Rattle.doc_model.specs.declared.canvas.Canvas.{Canvas}
use Rattle.machine_model.specs.Told.{Told}
use Rattle.doc_model.specs.Strokes.{entries, Entry, Strokes, Changes, Undoes, Redoes, Purges, Exports}
use Rattle.doc_model.specs.Meaning.{start, told_all, Story, told, told_change, undone, redone}
use Rattle.machine_model.specs.State.{Reach, Whole, Part, State, head, first}
use Rattle.machine_model.specs.Settled.{story}
use Rattle.geom_core.proofs.Tests.{both_true, and_left, and_right}
use Rattle.doc_model.specs.Feeding.{is_closed_entry}
use Rattle.machine_model.specs.Effects.{after_entry, after_change, after_undo, after_redo}

-- the entry is no stroke
abbrev pub IsPlain : Entry → Type 0
IsPlain (Strokes stroke) = ⊥
IsPlain e = Unit {0}

take_map : {A B : Type 0} (f : A → B) (n : ℕ) (xs : List A) → map f (take n xs) ≡ take n (map f xs)
take_map f zero xs = refl
take_map f (suc n) [] = refl
take_map f (suc n) (x ∷ xs) = ap (λ ys. f x ∷ ys) (take_map f n xs)

story_change : (s : State) (r : Result Doc TreeFault) → story (after_change s r) ≡ told_change (story s) r
story_change s (Ok new) = refl
story_change s (Err fault) = refl

undo_one : (s : State) (d : Doc) (r : Reach) (past : List (Doc × Reach)) → story (after_undo (record s { past = (d, r) ∷ past }) ((d, r) ∷ past)) ≡ undone (story (record s { past = (d, r) ∷ past })) (d ∷ map (λ (e : Doc × Reach). e.0) past)
undo_one s d Whole past = refl
undo_one s d (Part id keys) past = refl

redo_one : (s : State) (d : Doc) (r : Reach) (future : List (Doc × Reach)) → story (after_redo (record s { future = (d, r) ∷ future }) ((d, r) ∷ future)) ≡ redone (story (record s { future = (d, r) ∷ future })) (d ∷ map (λ (e : Doc × Reach). e.0) future)
redo_one s d Whole future = refl
redo_one s d (Part id keys) future = refl

story_undo : (s : State) (past : List (Doc × Reach)) → story (after_undo (record s { past = past }) past) ≡ undone (story (record s { past = past })) (map (λ (e : Doc × Reach). e.0) past)
story_undo s [] = refl
story_undo s (e ∷ past) = undo_one s e.0 e.1 past

story_redo : (s : State) (future : List (Doc × Reach)) → story (after_redo (record s { future = future }) future) ≡ redone (story (record s { future = future })) (map (λ (e : Doc × Reach). e.0) future)
story_redo s [] = refl
story_redo s (e ∷ future) = redo_one s e.0 e.1 future

-- an act does to the story what the entry means
pub story_acts : (s : State) (e : Entry) → IsPlain e → story (after_entry s e) ≡ told s.canvas (story s) e
story_acts s (Strokes stroke) no_stroke = absurd no_stroke
story_acts s (Changes change) no_stroke = story_change s (changed plain change s.base)
story_acts s Undoes no_stroke = story_undo s s.past
story_acts s Redoes no_stroke = story_redo s s.future
story_acts s (Purges n) no_stroke = ap (λ p. record (story (after_entry s (Purges n))) { past = p }) (take_map (λ (e : Doc × Reach). e.0) n s.past)
story_acts s Exports no_stroke = refl

told_all_last : (canvas : Canvas) (s : Story) (es : List Entry) (e : Entry) → told_all canvas s (es ++ e ∷ []) ≡ told canvas (told_all canvas s es) e
told_all_last canvas s [] e = refl
told_all_last canvas s (x ∷ es) e = told_all_last canvas (told canvas s x) es e

-- one item more from the front
pub take_one_more : {A : Type 0} (n : ℕ) (xs : List A) (x : A) → first (drop n xs) ≡ Some x → take (suc n) xs ≡ take n xs ++ x ∷ []
take_one_more zero [] x e = cc
take_one_more zero (y ∷ xs) x e = let same : y ≡ x = cc in ap (λ z. z ∷ []) same
take_one_more (suc n) [] x e = cc
take_one_more (suc n) (y ∷ xs) x e = ap (λ zs. y ∷ zs) (take_one_more n xs x e)

length_more : {A : Type 0} (n : ℕ) (xs : List A) (x : A) → first (drop n xs) ≡ Some x → suc n ≤ length xs
length_more zero [] x e = cc
length_more zero (y ∷ xs) x e = omega arith
length_more (suc n) [] x e = cc
length_more (suc n) (y ∷ xs) x e = let h : suc n ≤ length xs = length_more n xs x e in omega arith

all_closed_last : (es : List Entry) (e : Entry) → list_all is_closed_entry es ≡ true → is_closed_entry e ≡ true → list_all is_closed_entry (es ++ e ∷ []) ≡ true
all_closed_last [] e all h = both_true _ _ h refl
all_closed_last (x ∷ es) e all h = both_true _ _ (and_left (is_closed_entry x) _ all) (all_closed_last es e (and_right (is_closed_entry x) _ all) h)

-- an entry that leaves the queue with what it means
pub told_more : (old new : State) (e : Entry) → Told old → head old ≡ Some e → is_closed_entry e ≡ true → new.fed ≡ old.fed → new.canvas ≡ old.canvas → story new ≡ told old.canvas (story old) e → Told new
told_more old new e t h closed fed canvas is =
    let n : ℕ = length old.outcomes in
    let count : length new.outcomes ≡ suc n = ap (λ (s : Story). length s.outcomes) is ∙ one_outcome old.canvas (story old) e in
    let gone : take (length new.outcomes) (entries new.fed) ≡ take n (entries old.fed) ++ e ∷ [] = rw (count, fed) (take_one_more n (entries old.fed) e h) in
    record {
      lawful = rw fed t.lawful;
      closed = rw gone (all_closed_last (take n (entries old.fed)) e t.closed closed);
      few = rw (count, fed) (length_more n (entries old.fed) e h);
      means = rw gone (ap (λ c. told_all c start (take n (entries old.fed) ++ e ∷ [])) canvas ∙ told_all_last old.canvas start (take n (entries old.fed)) e ∙ ap (λ s. told old.canvas s e) t.means ∙ sym is);
    }
