-- A command that is fed keeps the machine orderly.
use Rattle.std.proofs.Common.{◌≡◌, ℕ, suc, zero, ◌≤◌, Bool, true, false, cond, List, [], ◌∷◌, ◌++◌, Option, Some, None, length, take, drop, map, refl, sym, ap, ◌∙◌, arith, eqb, subst}
use Rattle.doc_model.specs.declared.job.Job.{Job}
use Rattle.doc_model.specs.declared.job.Kind.{Kind}
use Rattle.doc_model.specs.declared.command.Command.{Command}
use Rattle.doc_model.specs.declared.command.Command.TheVariants as command
use Rattle.doc_model.specs.Lawful.{may_follow}
use Rattle.doc_model.specs.Strokes.{Jobs, Stroke, Fate, Ended, Cancelled, Entry, Strokes, Changes, Undoes, Redoes, Purges, Exports, with_job, with_fate, fed, entries}
use Rattle.doc_model.specs.Meaning.{meaning}
use Rattle.doc_model.proofs.Feeding.{lawful_differ, lawful_last, entries_last, take_fed, length_fed}
use Rattle.doc_model.proofs.Growing.{kept_more}
use Rattle.machine_model.specs.State.{State, first, head_stroke, stroke_of}
use Rattle.machine_model.specs.Slots.{no_walker}
use Rattle.machine_model.specs.Guards.{is_exclusive, kept_jobs}
use Rattle.machine_model.specs.Told.{Told}
use Rattle.machine_model.specs.UnderWay.{UnderWay, IsOnWay, MayOverlap, PixelsAre}
use Rattle.machine_model.specs.Sound.{IsOrderly}
use Rattle.machine_model.proofs.GrownStroke.{length_front, started_grown, overlap_grown, pixels_grown}

-- a stroke that was fed a command: at most one more job, or a fate
pub record Grows (old new : Stroke) : Type 0 where
  pub layer : new.layer ≡ old.layer
  pub exclusive : new.exclusive ≡ old.exclusive
  pub jobs : (rest : Jobs) × (kept_jobs new ≡ kept_jobs old ++ rest)

append_none : (jobs : Jobs) → jobs ++ [] ≡ jobs
append_none [] = refl
append_none (j ∷ jobs) = ap (λ js. j ∷ js) (append_none jobs)

-- one more entry behind
pub first_last : (k : ℕ) (es : List Entry) (e x : Entry) → first (drop k es) ≡ Some x → first (drop k (es ++ e ∷ [])) ≡ Some x
first_last zero [] e x h = cc
first_last zero (y ∷ es) e x h = h
first_last (suc k) [] e x h = cc
first_last (suc k) (y ∷ es) e x h = first_last k es e x h

-- each entry changed
pub first_map : (k : ℕ) (change : Entry → Entry) (es : List Entry) (x : Entry) → first (drop k es) ≡ Some x → first (drop k (map change es)) ≡ Some (change x)
first_map zero change [] x h = cc
first_map zero change (y ∷ es) x h = let same : y ≡ x = cc in ap (λ e. Some (change e)) same
first_map (suc k) change [] x h = cc
first_map (suc k) change (y ∷ es) x h = first_map k change es x h

stays : (stroke : Stroke) → Grows stroke stroke
stays stroke = record { layer = refl; exclusive = refl; jobs = ([], sym (append_none _)) }

-- a head that is a stroke stays one
abbrev HeadGrows : ℕ → List Entry → Stroke → Type 0
HeadGrows k es stroke = (new : Stroke) × (first (drop k es) ≡ Some (Strokes new)) × Grows stroke new

job_grows : (k n : ℕ) (kind : Kind) (job : Job) (es : List Entry) (stroke : Stroke) → first (drop k es) ≡ Some (Strokes stroke) → HeadGrows k (map (with_job n kind job) es) stroke
job_grows k n kind job es stroke h = go (eqb stroke.no n) (first_map k (with_job n kind job) es (Strokes stroke) h)
  where
    go : (b : Bool) → first (drop k (map (with_job n kind job) es)) ≡ Some (cond b (Strokes (record stroke { jobs = stroke.jobs ++ (kind, job) ∷ [] })) (Strokes stroke)) → HeadGrows k (map (with_job n kind job) es) stroke
    go true e = (record stroke { jobs = stroke.jobs ++ (kind, job) ∷ [] }, e, record { layer = refl; exclusive = refl; jobs = kept_more stroke.jobs (kind, job) })
    go false e = (stroke, e, stays stroke)

fate_grows : (k n : ℕ) (fate : Fate) (es : List Entry) (stroke : Stroke) → first (drop k es) ≡ Some (Strokes stroke) → HeadGrows k (map (with_fate n fate) es) stroke
fate_grows k n fate es stroke h = go (eqb stroke.no n) (first_map k (with_fate n fate) es (Strokes stroke) h)
  where
    go : (b : Bool) → first (drop k (map (with_fate n fate) es)) ≡ Some (cond b (Strokes (record stroke { fate = fate })) (Strokes stroke)) → HeadGrows k (map (with_fate n fate) es) stroke
    go true e = (record stroke { fate = fate }, e, record { layer = refl; exclusive = refl; jobs = ([], sym (append_none _)) })
    go false e = (stroke, e, stays stroke)

head_grows : (k : ℕ) (es : List Entry) (c : Command) (stroke : Stroke) → first (drop k es) ≡ Some (Strokes stroke) → HeadGrows k (fed es c) stroke
head_grows k es (command.Change change) stroke h = (stroke, first_last k es _ _ h, stays stroke)
head_grows k es (command.Stroke number layer exclusive) stroke h = (stroke, first_last k es _ _ h, stays stroke)
head_grows k es (command.Add n kind job) stroke h = job_grows k n kind job es stroke h
head_grows k es (command.End n) stroke h = fate_grows k n Ended es stroke h
head_grows k es (command.Cancel n) stroke h = fate_grows k n Cancelled es stroke h
head_grows k es command.Undo stroke h = (stroke, first_last k es _ _ h, stays stroke)
head_grows k es command.Redo stroke h = (stroke, first_last k es _ _ h, stays stroke)
head_grows k es (command.Purge keep) stroke h = (stroke, first_last k es _ _ h, stays stroke)
head_grows k es command.Export stroke h = (stroke, first_last k es _ _ h, stays stroke)

-- where the head is a stroke it is that entry
pub head_is : (o : Option Entry) (stroke : Stroke) → stroke_of o ≡ Some stroke → o ≡ Some (Strokes stroke)
head_is None stroke e = cc
head_is (Some (Strokes s)) stroke e = cc
head_is (Some (Changes c)) stroke e = cc
head_is (Some Undoes) stroke e = cc
head_is (Some Redoes) stroke e = cc
head_is (Some (Purges n)) stroke e = cc
head_is (Some Exports) stroke e = cc

-- what isn't begun isn't exclusive
pub not_begun : (o : Option Stroke) → is_exclusive o None ≡ false
not_begun None = refl
not_begun (Some s) = refl

-- the state after one more command
abbrev pub after_feed : State → Command → State
after_feed s c = record s { fed = s.fed ++ c ∷ [] }

-- the stroke at the head after one more command
pub head_after : (s : State) (c : Command) (stroke : Stroke) → head_stroke s ≡ Some stroke → (new : Stroke) × (head_stroke (after_feed s c) ≡ Some new) × Grows stroke new
head_after s c stroke h =
    let g : HeadGrows (length s.outcomes) (fed (entries s.fed) c) stroke = head_grows (length s.outcomes) (entries s.fed) c stroke (head_is _ stroke h) in
    (g.0, ap (λ es. stroke_of (first (drop (length s.outcomes) es))) (entries_last s.fed c) ∙ ap stroke_of g.1, g.2)

same_taken : (s : State) (c : Command) → Told s → may_follow (entries s.fed) c ≡ true → take (length s.outcomes) (entries (s.fed ++ c ∷ [])) ≡ take (length s.outcomes) (entries s.fed)
same_taken s c told may = ap (take (length s.outcomes)) (entries_last s.fed c) ∙ take_fed (entries s.fed) c (length s.outcomes) may (lawful_differ s.fed told.lawful) told.few told.closed

told_fed : (s : State) (c : Command) → Told s → may_follow (entries s.fed) c ≡ true → Told (after_feed s c)
told_fed s c told may = record {
  lawful = lawful_last s.fed c told.lawful may;
  closed = rw (same_taken s c told may) told.closed;
  few = longer (length s.outcomes) (length (entries s.fed)) _ told.few (subst (λ es. length (entries s.fed) ≤ length es) (sym (entries_last s.fed c)) (length_fed (entries s.fed) c));
  means = ap (meaning s.canvas) (same_taken s c told may) ∙ told.means;
}
  where
    longer : (a b c : ℕ) → a ≤ b → b ≤ c → a ≤ c
    longer a b c h i = omega arith

way_fed : (s : State) (c : Command) (n : ℕ) → UnderWay s n → UnderWay (after_feed s c) n
way_fed s c n way = record {
  stroke = new;
  at_head = g.1;
  base_layer = way.base_layer;
  was = rw g.2.layer way.was;
  layer = way.layer;
  is = rw g.2.layer way.is;
  few = rw kept (longer n _ _ way.few (length_front (kept_jobs way.stroke) rest));
  started = rw kept (started_grown (kept_jobs way.stroke) rest n s.slots way.few way.started);
  once = way.once;
  overlap = subst (λ jobs. MayOverlap jobs n s.slots) (sym kept) (overlap_grown (kept_jobs way.stroke) rest n s.slots way.few way.overlap);
  painted = subst (λ jobs. PixelsAre jobs way.base_layer way.layer n s.slots) (sym kept) (pixels_grown (kept_jobs way.stroke) rest way.base_layer way.layer n s.slots way.few way.started way.painted);
}
  where
    g : (new : Stroke) × (head_stroke (after_feed s c) ≡ Some new) × Grows way.stroke new
    g = head_after s c way.stroke way.at_head

    new : Stroke
    new = g.0

    rest : Jobs
    rest = g.2.jobs.0

    kept : kept_jobs new ≡ kept_jobs way.stroke ++ rest
    kept = g.2.jobs.1

    longer : (a b c : ℕ) → a ≤ b → b ≤ c → a ≤ c
    longer a b c h i = omega arith

on_way_fed : (s : State) (c : Command) (w : Option ℕ) → IsOnWay s w → IsOnWay (after_feed s c) w
on_way_fed s c None rest = record { same = rest.same; idle = rest.idle }
on_way_fed s c (Some n) way = way_fed s c n way

alone_fed : (s : State) (c : Command) (w : Option ℕ) → IsOnWay s w → (is_exclusive (head_stroke s) w ≡ true → no_walker s ≡ true) → is_exclusive (head_stroke (after_feed s c)) w ≡ true → no_walker s ≡ true
alone_fed s c None way alone e = let t : is_exclusive (head_stroke (after_feed s c)) None ≡ false = not_begun _ in cc
alone_fed s c (Some n) way alone e = alone (same ∙ e)
  where
    g : (new : Stroke) × (head_stroke (after_feed s c) ≡ Some new) × Grows way.stroke new
    g = head_after s c way.stroke way.at_head

    same : is_exclusive (head_stroke s) (Some n) ≡ is_exclusive (head_stroke (after_feed s c)) (Some n)
    same = ap (λ o. is_exclusive o (Some n)) way.at_head ∙ sym g.2.exclusive ∙ sym (ap (λ o. is_exclusive o (Some n)) g.1)

-- a command that is fed keeps the machine orderly
pub feed_keeps : (old new : State) (c : Command) → IsOrderly old → (may_follow (entries old.fed) c ≡ true) × (new ≡ record old { fed = old.fed ++ c ∷ [] }) → IsOrderly new
feed_keeps old new c sound step = subst IsOrderly (sym step.1) (record {
  told = told_fed old c sound.told step.0;
  reached = record { past = sound.reached.past; future = sound.reached.future };
  on_way = on_way_fed old c old.way sound.on_way;
  walking = record {
    queue = sound.walking.queue;
    apart = sound.walking.apart;
    groups = sound.walking.groups;
    walks = sound.walking.walks;
    alone = alone_fed old c old.way sound.on_way sound.walking.alone;
  };
  counted = record {
    canvas = sound.counted.canvas;
    slots = sound.counted.slots;
    below = sound.counted.below;
    differ = sound.counted.differ;
    own = sound.counted.own;
    budget = rw (same_taken old c sound.told step.0) sound.counted.budget;
  };
})
