-- The entries of a queue as those of a document, and what they mean one after another.
use Rattle.std.proofs.Common.{◌≡◌, ℕ, suc, zero, ◌<◌, Bool, true, false, not, Option, Some, None, List, [], ◌∷◌, ◌++◌, map, length, drop, take, refl, sym, ap, ◌∙◌, subst, arith}
use Rattle.std.proofs.lemmas.List.{length-append}
use Rattle.std.specs.Prelude.{slice_get}
use Rattle.std.specs.List.{AllByRecursion}
use Rattle.doc_model.specs.declared.canvas.Canvas.{Canvas}
use Rattle.doc_model.specs.declared.command.Command.{Command}
use Rattle.doc_model.specs.declared.command.Outcome.{Outcome}
use Rattle.doc_model.specs.Layers.{Layer}
use Rattle.doc_model.specs.Forest.{content}
use Rattle.doc_model.specs.Feeding.{is_closed_entry, lawful}
use Rattle.doc_model.specs.Meaning.{Story, start, told, told_all, told_stroke, closed_stroke, laid_stroke, meaning}
use Rattle.doc_model.specs.Strokes as doc
use Rattle.doc_model.specs.Kept as doc_kept
use Rattle.doc_model.specs.Strokes.{Fate, Open, Ended, Cancelled, Stroke, Jobs, conflict, entries, is_open}
use Rattle.stroke_core.specs.Fed.{Closed}
use Rattle.entry_queue.specs.declared.entry.Entry.{Entry}
use Rattle.entry_queue.specs.declared.entry.Entry.TheVariants.{Waiting, Whole, Other}
use Rattle.entry_queue.specs.Pushed.{Pending, StandsFor, kept_of, may_leave, queued, stroke_of}
use Rattle.entry_queue.proofs.Taking.{Fits, kept_fit, lawful_fits}
use Rattle.plain_painter.specs.Tellings.{IsReady, fits}
use Rattle.plain_painter.proofs.Fronts.{item_more}

abbrev pub fate_of : Bool → Fate
fate_of true = Cancelled
fate_of false = Ended

-- a closed stroke of the queue as one of the document's
abbrev pub as_stroke : Closed → Stroke
as_stroke c = record { no = c.stroke.no; layer = c.stroke.layer; exclusive = c.stroke.exclusive; jobs = c.stroke.jobs; fate = fate_of c.cancelled }

same_laid : (story : Story) (s : Stroke) (o : Option Layer) (js : Jobs) (f : Fate) → s.jobs ≡ js → laid_stroke story s o ≡ laid_stroke story (record s { jobs = js; fate = f }) o
same_laid story s None js f e = refl
same_laid story s (Some layer) js f e = ap (λ j. laid_stroke story (record s { jobs = j; fate = f }) (Some layer)) e

same_closed : (story : Story) (s : Stroke) (js : Jobs) (f : Fate) → s.fate ≡ f → is_open f ≡ false → s.jobs ≡ js → closed_stroke story s s.fate ≡ closed_stroke story (record s { jobs = js; fate = f }) f
same_closed story s js Open e o h = cc
same_closed story s js Ended e o h = ap (closed_stroke story s) e ∙ same_laid story s (content s.layer story.document) js Ended h
same_closed story s js Cancelled e o h = ap (closed_stroke story s) e

same_told : (story : Story) (s : Stroke) (f : Fate) (o : Option (ℕ × ℕ)) → conflict s.jobs ≡ o → s.fate ≡ f → is_open f ≡ false → told_stroke story s o ≡ told_stroke story (record s { jobs = doc_kept.kept s.jobs; fate = f }) o
same_told story s f (Some pair) c e n = refl
same_told story s f None c e n = same_closed story s (doc_kept.kept s.jobs) f e n (sym (ap (doc_kept.up_to s.jobs) c))

-- what a closed stroke means
told_whole : (canvas : Canvas) (story : Story) (e : doc.Entry) (c : Closed) → queued e ≡ Whole c → told canvas story e ≡ told_stroke story (as_stroke c) c.stroke.overlap
told_whole canvas story (doc.Strokes s) c h = go s.fate refl h
  where
    go : (f : Fate) → s.fate ≡ f → stroke_of f (kept_of s) ≡ Whole c → told_stroke story s (conflict s.jobs) ≡ told_stroke story (as_stroke c) c.stroke.overlap
    go Open e h = cc
    go Ended e h = let same : record { stroke = kept_of s; cancelled = false } ≡ c = cc in same_told story s Ended (conflict s.jobs) refl e refl ∙ ap (λ (d : Closed). told_stroke story (as_stroke d) d.stroke.overlap) same
    go Cancelled e h = let same : record { stroke = kept_of s; cancelled = true } ≡ c = cc in same_told story s Cancelled (conflict s.jobs) refl e refl ∙ ap (λ (d : Closed). told_stroke story (as_stroke d) d.stroke.overlap) same
told_whole canvas story (doc.Changes change) c h = cc
told_whole canvas story doc.Undoes c h = cc
told_whole canvas story doc.Redoes c h = cc
told_whole canvas story (doc.Purges k) c h = cc
told_whole canvas story doc.Exports c h = cc

-- a closed stroke without a conflict that wasn't cancelled is laid
pub told_laid : (canvas : Canvas) (story : Story) (e : doc.Entry) (c : Closed) → queued e ≡ Whole c → c.stroke.overlap ≡ None → c.cancelled ≡ false → told canvas story e ≡ laid_stroke story (as_stroke c) (content c.stroke.layer story.document)
told_laid canvas story e c h o k = told_whole canvas story e c h ∙ ap (told_stroke story (as_stroke c)) o ∙ ap (λ b. closed_stroke story (record (as_stroke c) { fate = fate_of b }) (fate_of b)) k

told_all-last : (canvas : Canvas) (s : Story) (es : List doc.Entry) (e : doc.Entry) → told_all canvas s (es ++ e ∷ []) ≡ told canvas (told_all canvas s es) e
told_all-last canvas s [] e = refl
told_all-last canvas s (x ∷ es) e = told_all-last canvas (told canvas s x) es e

-- the first entry that is left, as the document has it
pub record IsNext (es : List doc.Entry) (n : ℕ) (x : Entry) : Type 0 where
  pub entry : doc.Entry
  pub at : slice_get es n ≡ Some entry
  pub is : queued entry ≡ x

next_left : (es : List doc.Entry) (n : ℕ) (x : Entry) → slice_get (map queued (drop n es)) 0 ≡ Some x → IsNext es n x
next_left [] zero x h = cc
next_left (e ∷ es) zero x h = record { entry = e; at = refl; is = (let same : queued e ≡ x = cc in same) }
next_left [] (suc n) x h = cc
next_left (e ∷ es) (suc n) x h = let more : IsNext es n x = next_left es n x h in record { entry = more.entry; at = more.at; is = more.is }

-- what holds of all entries holds of each
pub holds_at : (P : doc.Entry → Type 0) (es : List doc.Entry) (n : ℕ) (e : doc.Entry) → slice_get es n ≡ Some e → AllByRecursion P es → P e
holds_at P [] n e h all = cc
holds_at P (x ∷ es) zero e h all = let same : x ≡ e = cc in subst P same all.0
holds_at P (x ∷ es) (suc n) e h all = holds_at P es n e h all.1

queued_fits : (e : doc.Entry) → Fits e → fits (queued e) ≡ true
queued_fits (doc.Strokes s) h = go s.fate
  where
    go : (f : Fate) → fits (stroke_of f (kept_of s)) ≡ true
    go Open = kept_fit s.jobs h
    go Ended = kept_fit s.jobs h
    go Cancelled = kept_fit s.jobs h
queued_fits (doc.Changes c) h = refl
queued_fits doc.Undoes h = refl
queued_fits doc.Redoes h = refl
queued_fits (doc.Purges k) h = refl
queued_fits doc.Exports h = refl

-- the first entry of the queue
pub next_entry : (commands : List Command) (q : Pending) (x : Entry) → StandsFor commands q → Some x ≡ slice_get q.left 0 → IsNext (entries commands) (length q.outcomes) x
next_entry commands q x stands e = next_left (entries commands) (length q.outcomes) x (ap (λ left. slice_get left 0) (sym stands.left_is) ∙ sym e)

-- it is ready, if it is closed
pub ready_next : (commands : List Command) (n : ℕ) (x : Entry) → lawful commands ≡ true → (next : IsNext (entries commands) n x) → is_closed_entry next.entry ≡ true → IsReady x
ready_next commands n x l next closed = record {
  entry = next.entry;
  is = next.is;
  closed = closed;
  fit = ap fits (sym next.is) ∙ queued_fits next.entry (holds_at Fits (entries commands) n next.entry next.at (lawful_fits commands l));
}

closed_leaves : (e : doc.Entry) (es : List Entry) → is_closed_entry e ≡ true → may_leave (queued e ∷ es) ≡ true
closed_leaves (doc.Strokes s) es h = go s.fate h
  where
    go : (f : Fate) → not (is_open f) ≡ true → may_leave (stroke_of f (kept_of s) ∷ es) ≡ true
    go Open h = h
    go Ended h = refl
    go Cancelled h = refl
closed_leaves (doc.Changes change) es h = refl
closed_leaves doc.Undoes es h = refl
closed_leaves doc.Redoes es h = refl
closed_leaves (doc.Purges k) es h = refl
closed_leaves doc.Exports es h = refl

-- whether the first entry may leave is told by that entry
first_leaves : (left : List Entry) (x : Entry) → Some x ≡ slice_get left 0 → may_leave left ≡ may_leave (x ∷ [])
first_leaves [] x e = cc
first_leaves (y ∷ left) x e = let same : x ≡ y = cc in alone y left ∙ ap (λ z. may_leave (z ∷ [])) (sym same)
  where
    alone : (y : Entry) (left : List Entry) → may_leave (y ∷ left) ≡ may_leave (y ∷ [])
    alone (Waiting s) left = refl
    alone (Whole c) left = refl
    alone (Other c) left = refl

-- an entry that is ready may leave
pub ready_leaves : (q : Pending) (x : Entry) → Some x ≡ slice_get q.left 0 → IsReady x → may_leave q.left ≡ true
ready_leaves q x e r = first_leaves q.left x e ∙ ap (λ y. may_leave (y ∷ [])) (sym r.is) ∙ closed_leaves r.entry [] r.closed

-- one entry more is told
pub told_next : (canvas now : Canvas) (es : List doc.Entry) (e : doc.Entry) (outcomes more : List Outcome) (o : Outcome) → slice_get es (length outcomes) ≡ Some e → more ≡ outcomes ++ o ∷ [] → now ≡ canvas
    → told canvas (meaning canvas (take (length outcomes) es)) e ≡ meaning now (take (length more) es)
told_next canvas now es e outcomes more o at is same =
    sym (told_all-last canvas start (take (length outcomes) es) e)
    ∙ ap (told_all canvas start) (sym (item_more es (length outcomes) e at) ∙ ap (λ n. take n es) (sym (ap length is ∙ length-append outcomes (o ∷ []))))
    ∙ ap (λ c. meaning c (take (length more) es)) (sym same)

none_left_over : (n : ℕ) (es : List doc.Entry) → map queued (drop n es) ≡ [] → take n es ≡ es
none_left_over zero [] h = refl
none_left_over zero (e ∷ es) h = cc
none_left_over (suc n) [] h = refl
none_left_over (suc n) (e ∷ es) h = ap (λ ds. e ∷ ds) (none_left_over n es h)

-- all entries were told
pub told_all_left : (canvas : Canvas) (commands : List Command) (q : Pending) → StandsFor commands q → q.left ≡ [] → meaning canvas (take (length q.outcomes) (entries commands)) ≡ meaning canvas (entries commands)
told_all_left canvas commands q stands e = ap (meaning canvas) (none_left_over (length q.outcomes) (entries commands) (sym stands.left_is ∙ e))

-- no entry was told yet
pub told_none : (canvas : Canvas) (es : List doc.Entry) (outcomes : List Outcome) → outcomes ≡ [] → start ≡ meaning canvas (take (length outcomes) es)
told_none canvas es outcomes none = sym (ap (λ os. meaning canvas (take (length os) es)) none)

-- without its first entry a queue is shorter
pub shorter : (left new : List Entry) → may_leave left ≡ true → new ≡ drop 1 left → length new < length left
shorter [] new m e = cc
shorter (x ∷ left) new m e = let same : length new ≡ length left = ap length e in omega arith
