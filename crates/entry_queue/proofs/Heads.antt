-- The stroke at the head, as the queue has it.
use Rattle.std.proofs.Common.{◌≡◌, Option, Some, List, [], ◌∷◌, map, refl, ap, ◌∙◌}
use Rattle.std.specs.Option.{option_map}
use Rattle.doc_model.specs.Strokes as doc
use Rattle.doc_model.specs.Strokes.{Stroke, Fate, Open, Ended, Cancelled, Strokes, Changes, Undoes, Redoes, Purges, Exports}
use Rattle.doc_model.specs.Kept.{kept}
use Rattle.machine_model.specs.State.{first, stroke_of}
use Rattle.machine_model.specs.Guards.{is_closed, is_cancelled, kept_jobs}
use Rattle.entry_queue.specs.declared.entry.Entry.{Entry}
use Rattle.entry_queue.specs.declared.head.HeadStroke.{HeadStroke}
use Rattle.entry_queue.specs.Pushed.{queued, kept_of}
use Rattle.entry_queue.specs.Heads.{head_of, head_in, jobs_in}

-- what is known of a stroke, by what was fed of it
abbrev pub told : Stroke → HeadStroke
told t = head_of (kept_of t) (is_closed t) (is_cancelled t)

fates_head : (f : Fate) (t : Stroke) (es : List Entry) → head_in (queued (Strokes (record t { fate = f })) ∷ es) ≡ Some (told (record t { fate = f }))
fates_head Open t es = refl
fates_head Ended t es = refl
fates_head Cancelled t es = refl

pub head_told : (es : List doc.Entry) → head_in (map queued es) ≡ option_map told (stroke_of (first es))
head_told [] = refl
head_told (Strokes t ∷ es) = fates_head t.fate t (map queued es)
head_told (Changes change ∷ es) = refl
head_told (Undoes ∷ es) = refl
head_told (Redoes ∷ es) = refl
head_told (Purges n ∷ es) = refl
head_told (Exports ∷ es) = refl

fates_jobs : (f : Fate) (t : Stroke) (es : List Entry) → jobs_in (queued (Strokes (record t { fate = f })) ∷ es) ≡ kept t.jobs
fates_jobs Open t es = refl
fates_jobs Ended t es = refl
fates_jobs Cancelled t es = refl

pub jobs_told : (es : List doc.Entry) (t : Stroke) → stroke_of (first es) ≡ Some t → jobs_in (map queued es) ≡ kept_jobs t
jobs_told [] t h = cc
jobs_told (Strokes u ∷ es) t h = let same : u ≡ t = cc in fates_jobs u.fate u (map queued es) ∙ ap kept_jobs same
jobs_told (Changes change ∷ es) t h = cc
jobs_told (Undoes ∷ es) t h = cc
jobs_told (Redoes ∷ es) t h = cc
jobs_told (Purges n ∷ es) t h = cc
jobs_told (Exports ∷ es) t h = cc
