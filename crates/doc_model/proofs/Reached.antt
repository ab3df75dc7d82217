-- What layers and changes keep, each document of a story keeps.
use Rattle.std.proofs.Common.{◌≡◌, ℕ, suc, zero, Option, Some, None, Result, Ok, Err, List, [], ◌∷◌, take, refl}
use Rattle.std.specs.List.{AllByRecursion}
use Rattle.doc_model.specs.declared.canvas.Canvas.{Canvas}
use Rattle.doc_model.specs.declared.tree.Change.{Change}
use Rattle.doc_model.specs.declared.tree.TreeFault.{TreeFault}
use Rattle.doc_model.specs.Layers.{Layer, plain}
use Rattle.doc_model.specs.Forest.{content, with_content}
use Rattle.doc_model.specs.Picture.{Doc}
use Rattle.doc_model.specs.Changes.{changed}
use Rattle.doc_model.specs.Strokes.{Stroke, Fate, Open, Ended, Cancelled, Entry, Strokes, Changes, Undoes, Redoes, Purges, Exports, conflict}
use Rattle.doc_model.specs.Meaning.{Story, told, told_all, told_stroke, closed_stroke, laid_stroke, told_change, undone, redone}
use Rattle.doc_model.specs.Laws.{EachDoc}

all_taken : {A : Type 0} (P : A → Type 0) (n : ℕ) (xs : List A) → AllByRecursion P xs → AllByRecursion P (take n xs)
all_taken P zero xs all = tt
all_taken P (suc n) [] all = tt
all_taken P (suc n) (x ∷ xs) all = (all.0, all_taken P n xs all.1)

each_told_change : (P : Doc → Type 0) (s : Story) (r : Result Doc TreeFault) → ((new : Doc) → r ≡ Ok new → P new) → EachDoc P s → EachDoc P (told_change s r)
each_told_change P s (Ok new) is t = record { past = (t.document, t.past); document = is new refl; future = tt }
each_told_change P s (Err fault) is t = record { past = t.past; document = t.document; future = t.future }

each_undone : (P : Doc → Type 0) (s : Story) (past : List Doc) → AllByRecursion P past → EachDoc P s → EachDoc P (undone s past)
each_undone P s [] all t = record { past = t.past; document = t.document; future = t.future }
each_undone P s (d ∷ past) all t = record { past = all.1; document = all.0; future = (t.document, t.future) }

each_redone : (P : Doc → Type 0) (s : Story) (future : List Doc) → AllByRecursion P future → EachDoc P s → EachDoc P (redone s future)
each_redone P s [] all t = record { past = t.past; document = t.document; future = t.future }
each_redone P s (d ∷ future) all t = record { past = (t.document, t.past); document = all.0; future = all.1 }

module _ (P : Doc → Type 0) (layers : (g : ℕ) (new : Layer) (f : Doc) → P f → P (with_content g new f)) where
  each_laid : (s : Story) (stroke : Stroke) (o : Option Layer) → EachDoc P s → EachDoc P (laid_stroke s stroke o)
  each_laid s stroke None t = record { past = t.past; document = t.document; future = t.future }
  each_laid s stroke (Some layer) t = record { past = (t.document, t.past); document = layers stroke.layer _ s.document t.document; future = tt }

  each_closed : (s : Story) (stroke : Stroke) (f : Fate) → EachDoc P s → EachDoc P (closed_stroke s stroke f)
  each_closed s stroke Cancelled t = record { past = t.past; document = t.document; future = t.future }
  each_closed s stroke Open t = each_laid s stroke (content stroke.layer s.document) t
  each_closed s stroke Ended t = each_laid s stroke (content stroke.layer s.document) t

  each_stroke : (s : Story) (stroke : Stroke) (o : Option (ℕ × ℕ)) → EachDoc P s → EachDoc P (told_stroke s stroke o)
  each_stroke s stroke (Some pair) t = record { past = t.past; document = t.document; future = t.future }
  each_stroke s stroke None t = each_closed s stroke stroke.fate t

  module _ (trees : (c : Change) (f new : Doc) → changed plain c f ≡ Ok new → P f → P new) where
    pub each_told : (canvas : Canvas) (s : Story) (e : Entry) → EachDoc P s → EachDoc P (told canvas s e)
    each_told canvas s (Strokes stroke) t = each_stroke s stroke (conflict stroke.jobs) t
    each_told canvas s (Changes change) t = each_told_change P s (changed plain change s.document) (λ new e. trees change s.document new e t.document) t
    each_told canvas s Undoes t = each_undone P s s.past t.past t
    each_told canvas s Redoes t = each_redone P s s.future t.future t
    each_told canvas s (Purges n) t = record { past = all_taken P n s.past t.past; document = t.document; future = t.future }
    each_told canvas s Exports t = record { past = t.past; document = t.document; future = t.future }

    pub each_told_all : (canvas : Canvas) (s : Story) (es : List Entry) → EachDoc P s → EachDoc P (told_all canvas s es)
    each_told_all canvas s [] t = t
    each_told_all canvas s (e ∷ es) t = each_told_all canvas (told canvas s e) es (each_told canvas s e t)
