-- What an entry leaves, done or not.
use Rattle.std.proofs.Common.{◌≡◌, ◌≢◌, ℕ, suc, ◌+◌, length, Bool, true, false, List, [], ◌∷◌, ◌++◌, Option, Some, None, Result, Ok, Err, refl, sym, ap, ◌∙◌, arith, ◌⊎◌, inl, inr}
use Rattle.doc_model.specs.declared.canvas.Canvas.{Canvas}
use Rattle.doc_model.specs.declared.tree.TreeFault.{TreeFault}
use Rattle.doc_model.specs.declared.command.Outcome.{Outcome}
use Rattle.doc_model.specs.declared.command.Outcome.TheVariants as outcome
use Rattle.doc_model.specs.Layers.{Layer, plain}
use Rattle.doc_model.specs.Forest.{content}
use Rattle.doc_model.specs.Picture.{Doc}
use Rattle.doc_model.specs.Changes.{changed}
use Rattle.doc_model.specs.Strokes.{Stroke, Fate, Open, Ended, Cancelled, Entry, Strokes, Changes, Undoes, Redoes, Purges, Exports, conflict}
use Rattle.doc_model.specs.Meaning.{Story, start, meaning, told, told_all, told_stroke, closed_stroke, laid_stroke, told_change, undone, redone, ends_with, advanced}
use Rattle.doc_model.specs.Laws.{is_change, UndoGivesBack, RefusedLeavesNothing, OneOutcomeAnEntry}

-- a story goes on: it advances to a document, or it has one more outcome, which is not Done
abbrev GoesOn : Story → Story → Type 0
GoesOn s t = ((new : Doc) × (t ≡ advanced s new)) ⊎ ((o : Outcome) × (o ≢ outcome.Done) × (t ≡ ends_with s o))

laid : (s : Story) (stroke : Stroke) (o : Option Layer) → GoesOn s (laid_stroke s stroke o)
laid s stroke (Some layer) = inl (_, refl)
laid s stroke None = inr (Rattle.std.proofs.Common.cond (Rattle.doc_model.specs.Changes.there stroke.layer s.document) (outcome.NotPaint stroke.layer) (outcome.NoLayer stroke.layer), not_done (Rattle.doc_model.specs.Changes.there stroke.layer s.document), refl)
  where
    not_done : (b : Bool) → Rattle.std.proofs.Common.cond b (outcome.NotPaint stroke.layer) (outcome.NoLayer stroke.layer) ≢ outcome.Done
    not_done true e = cc
    not_done false e = cc

closed : (s : Story) (stroke : Stroke) (f : Fate) → GoesOn s (closed_stroke s stroke f)
closed s stroke Cancelled = inr (outcome.Cancelled, (λ e. cc), refl)
closed s stroke Open = laid s stroke (content stroke.layer s.document)
closed s stroke Ended = laid s stroke (content stroke.layer s.document)

stroked : (s : Story) (stroke : Stroke) (o : Option (ℕ × ℕ)) → GoesOn s (told_stroke s stroke o)
stroked s stroke (Some pair) = inr (outcome.Overlap pair.0 pair.1, (λ e. cc), refl)
stroked s stroke None = closed s stroke stroke.fate

changes : (s : Story) (r : Result Doc TreeFault) → GoesOn s (told_change s r)
changes s (Ok new) = inl (new, refl)
changes s (Err fault) = inr (outcome.Tree fault, (λ e. cc), refl)

goes_on : (canvas : Canvas) (s : Story) (e : Entry) → is_change e ≡ true → GoesOn s (told canvas s e)
goes_on canvas s (Strokes stroke) h = stroked s stroke (conflict stroke.jobs)
goes_on canvas s (Changes change) h = changes s (changed plain change s.document)
goes_on canvas s Undoes h = cc
goes_on canvas s Redoes h = cc
goes_on canvas s (Purges n) h = cc
goes_on canvas s Exports h = cc

last_same : (xs : List Outcome) (x y : Outcome) → xs ++ x ∷ [] ≡ xs ++ y ∷ [] → x ≡ y
last_same [] x y e = cc
last_same (z ∷ xs) x y e = last_same xs x y (let t : xs ++ x ∷ [] ≡ xs ++ y ∷ [] = cc in t)

abbrev outcomes_of : Story → List Outcome
outcomes_of s = s.outcomes

pub undo_gives_back : UndoGivesBack
undo_gives_back canvas s e h done = elim (goes_on canvas s e h) [
  | inl t ↦ ((λ i. (told canvas (t.1 i) Undoes).document), (λ i. (told canvas (t.1 i) Undoes).past))
  | inr t ↦ absurd (t.1 (last_same s.outcomes t.0 outcome.Done (sym (ap outcomes_of t.2) ∙ done)))
]

-- an entry is done, or it leaves nothing but an outcome, which is not Done
abbrev DoneOrNothing : Story → Story → Type 0
DoneOrNothing s t = (t.outcomes ≡ s.outcomes ++ outcome.Done ∷ []) ⊎ ((o : Outcome) × (o ≢ outcome.Done) × (t ≡ ends_with s o))

done_or_nothing : (s t : Story) → GoesOn s t → DoneOrNothing s t
done_or_nothing s t (inl on) = inl (ap outcomes_of on.1)
done_or_nothing s t (inr on) = inr on

undoes : (s : Story) (past : List Doc) → DoneOrNothing s (undone s past)
undoes s [] = inr (outcome.NothingToUndo, (λ e. cc), refl)
undoes s (d ∷ past) = inl refl

redoes : (s : Story) (future : List Doc) → DoneOrNothing s (redone s future)
redoes s [] = inr (outcome.NothingToRedo, (λ e. cc), refl)
redoes s (d ∷ future) = inl refl

each_entry : (canvas : Canvas) (s : Story) (e : Entry) → DoneOrNothing s (told canvas s e)
each_entry canvas s (Strokes stroke) = done_or_nothing s _ (stroked s stroke (conflict stroke.jobs))
each_entry canvas s (Changes change) = done_or_nothing s _ (changes s (changed plain change s.document))
each_entry canvas s Undoes = undoes s s.past
each_entry canvas s Redoes = redoes s s.future
each_entry canvas s (Purges n) = inl refl
each_entry canvas s Exports = inl refl

pub refused_leaves_nothing : RefusedLeavesNothing
refused_leaves_nothing canvas s e o last other = elim (each_entry canvas s e) [
  | inl done ↦ absurd (other (last_same s.outcomes o outcome.Done (sym last ∙ done)))
  | inr t ↦ t.2 ∙ ap (ends_with s) (last_same s.outcomes t.0 o (sym (ap outcomes_of t.2) ∙ last))
]

length_last : (xs : List Outcome) (x : Outcome) → length (xs ++ x ∷ []) ≡ suc (length xs)
length_last [] x = refl
length_last (y ∷ xs) x = ap suc (length_last xs x)

-- each entry adds one outcome
pub one_outcome : (canvas : Canvas) (s : Story) (e : Entry) → length (told canvas s e).outcomes ≡ suc (length s.outcomes)
one_outcome canvas s e = elim (each_entry canvas s e) [
  | inl done ↦ ap length done ∙ length_last s.outcomes outcome.Done
  | inr t ↦ ap (λ (u : Story). length u.outcomes) t.2 ∙ length_last s.outcomes t.0
]

outcomes_after : (canvas : Canvas) (s : Story) (es : List Entry) → length (told_all canvas s es).outcomes ≡ length s.outcomes + length es
outcomes_after canvas s [] = omega arith
outcomes_after canvas s (e ∷ es) =
    let one : length (told canvas s e).outcomes ≡ suc (length s.outcomes) = one_outcome canvas s e in
    let rest : length (told_all canvas (told canvas s e) es).outcomes ≡ length (told canvas s e).outcomes + length es = outcomes_after canvas (told canvas s e) es in
    omega arith

pub one_outcome_an_entry : OneOutcomeAnEntry
one_outcome_an_entry canvas es =
    let all : length (meaning canvas es).outcomes ≡ 0 + length es = outcomes_after canvas start es in
    omega arith
