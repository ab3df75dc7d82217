-- What is known of work that was taken stays known, and is known of what is taken.
use Rattle.std.proofs.Common.{◌≡◌, ℕ, suc, ◌<◌, ◌≤◌, true, Option, Some, None, Result, Ok, Err, OnOk, OnErr, List, [], ◌∷◌, ◌++◌, refl, sym, ap, ◌∙◌, subst, arith}
use Rattle.std.specs.Prelude.{slice_get, IfSome, IfNone, OnSome}
use Rattle.std.specs.List.{All, AllByRecursion, list_any}
use Rattle.std.proofs.lemmas.List.Elements.{All-nil, All-append, All-weaker}
use Rattle.geom_core.specs.Areas.{Point}
use Rattle.geom_core.specs.Grid.{Key, key_of, same_key, all_keys_of}
use Rattle.geom_core.proofs.Tiles.{key_same}
use Rattle.tile_core.specs.Shots.{sight_at}
use Rattle.doc_model.specs.Forest.{content}
use Rattle.doc_model.specs.Jobs.{writes}
use Rattle.doc_model.specs.Layers.{Layer}
use Rattle.doc_model.specs.Shots.{in_tile}
use Rattle.doc_model.specs.Strokes.{Stroke}
use Rattle.job_core.specs.Paints.{layer_of}
use Rattle.whole_tiles.specs.Wholes.{Entire}
use Rattle.doc_model.specs.declared.command.Command.{Command}
use Rattle.machine_model.specs.State.{State, Painter, Walker, Free, Paints, Walks}
use Rattle.machine_model.specs.Settled.{IsSettled}
use Rattle.machine_model.specs.Event.{Event, Feed, Start, WalkStart}
use Rattle.machine_model.specs.Step.{Step, Run}
use Rattle.machine_model.specs.Guards.{kept_jobs}
use Rattle.machine_model.specs.Sound.{IsOrderly}
use Rattle.machine_model.proofs.Continuing.{runs_continue}
use Rattle.machine_model.proofs.RunsOrderly.{step_keeps}
use Rattle.machine_model.proofs.Lists.{all_map, all_get, get_set}
use Rattle.walker_core.specs.Composing.{Composition}
use Rattle.walker_core.specs.Readings.{readings}
use Rattle.walker_core.specs.Sameness.{ReadTheSame}
use Rattle.desk_state.specs.Choices.{IsIdle, DoesAtOnce}
use Rattle.desk_state.specs.Enabled.{IsEnd}
use Rattle.desk_state.specs.Settles.{Settles}
use Rattle.stamped_desk.specs.Marks.{Mark}
use Rattle.slot_work.specs.Lacking.{IsOfJob}
use Rattle.desk_events.specs.declared.tickets.PaintTicket.{PaintTicket}
use Rattle.desk_events.specs.declared.tickets.WalkTicket.{WalkTicket}
use Rattle.desk_events.specs.Commits.{AreOfWork, ReadsAsWork}
use Rattle.desk_events.specs.Tickets.{IsPaintTicket, IsWalkTicket}
use Rattle.desk_events.specs.declared.tickets.SlotId.{SlotId}
use Rattle.desk_core.specs.declared.answers.Ended.{Ended}
use Rattle.desk_core.specs.declared.answers.Ended.TheVariants as ended
use Rattle.desk_core.specs.declared.tickets.Taken.{Taken}
use Rattle.desk_core.specs.declared.tickets.Taken.TheVariants as taken
use Rattle.desk_events.specs.Sparing.{ShowsBefore, IsPrior, ArePrior}
use Rattle.stamped_desk.specs.Drawn.{ShotIsPrior, IsDrawnJob, IsDrawnWalk, IsDrawn, AreDrawn}
use Rattle.stamped_desk.specs.Stamped.{Batch, batch, IsMadeOf, AreMadeOf, AreOne, IsKnown}
use Rattle.stamped_desk.proofs.Standing.{step_stood}
use Rattle.stamped_desk.proofs.Heading.{prior_stays, one_stroke, one_layer}

-- ---- it stays known

below : (n a b : ℕ) → n < a → a ≤ b → n < b
below n a b h k = omega arith

drawn_below : (n m a : ℕ) → m < a → n ≡ m → n < a
drawn_below n m a h e = omega arith

module _ (a b : State) (e : Event) (orderly : IsOrderly a) (step : Step a e b) where
  rises : a.next ≤ b.next
  rises = (runs_continue (e ∷ []) a b (b, step, refl)).serials

  pub job_stays : (t : PaintTicket) → IsDrawnJob a t → IsDrawnJob b t
  job_stays t known = record {
    drawn = below t.slot.serial a.next b.next known.drawn rises;
    own = λ w at serial.
        let old = step_stood a b e step t.slot.place (Paints w) at (drawn_below w.serial t.slot.serial a.next known.drawn serial) in
        let same = known.own old.0 old.1 (old.2 ∙ serial) in
        (sym old.4 ∙ same.0, sym old.5 ∙ same.1);
    prior = λ w at serial.
        let old = step_stood a b e step t.slot.place (Paints w) at (drawn_below w.serial t.slot.serial a.next known.drawn serial) in
        prior_stays a b t.slot.place t.since old.0 w (sight_at t.shot) old.1 old.3 old.4 e orderly step (known.prior old.0 old.1 (old.2 ∙ serial));
  }

  pub walk_stays : (t : WalkTicket) → IsDrawnWalk a t → IsDrawnWalk b t
  walk_stays t known = record {
    drawn = below t.slot.serial a.next b.next known.drawn rises;
    own = λ w at serial.
        let old = step_stood a b e step t.slot.place (Walks w) at (drawn_below w.serial t.slot.serial a.next known.drawn serial) in
        (λ i. readings (sym old.3 i) (sym old.4 i)) ∙ known.own old.0 old.1 (old.2 ∙ serial);
  }

  drawn_stays : (t : Taken) → IsDrawn a t → IsDrawn b t
  drawn_stays (taken.Paint t) known = job_stays t known
  drawn_stays (taken.Walk t) known = walk_stays t known
  drawn_stays taken.Did known = tt
  drawn_stays taken.Idle known = tt
  drawn_stays taken.Settled known = tt

  all_stay : (ts : List Taken) → AllByRecursion (IsDrawn a) ts → AllByRecursion (IsDrawn b) ts
  all_stay ts known = all_map (IsDrawn a) (IsDrawn b) ts drawn_stays known

pub step_draws : (a b : State) (e : Event) (ts : List Taken) → Step a e b → AreDrawn a ts → AreDrawn b ts
step_draws a b e ts step known = record { orderly = step_keeps a b e known.orderly step; each = all_stay a b e known.orderly step ts known.each }

pub run_draws : (es : List Event) (a b : State) (ts : List Taken) → Run a es b → AreDrawn a ts → AreDrawn b ts
run_draws [] a b ts run known = subst (λ s. AreDrawn s ts) (sym run) known
run_draws (e ∷ es) a b ts run known = run_draws es run.0 b ts run.2 (step_draws a run.0 e ts run.1 known)

pub settles_draws : (a b : State) (ts : List Taken) → Settles a b → AreDrawn a ts → AreDrawn b ts
settles_draws a b ts s known = run_draws s.events a b ts s.run known

pub same_draws : (a b : State) (ts : List Taken) → b ≡ a → AreDrawn a ts → AreDrawn b ts
same_draws a b ts e known = subst (λ s. AreDrawn s ts) (sym e) known

-- ---- of what is taken

one_painter : (v w : Painter) → Some (Paints v) ≡ Some (Paints w) → v ≡ w
one_painter v w e = cc

one_walker : (v w : Walker) → Some (Walks v) ≡ Some (Walks w) → v ≡ w
one_walker v w e = cc

just_drawn : (n old new : ℕ) → n ≡ old → new ≡ suc old → n < new
just_drawn n old new e f = omega arith

no_mark : (m : Mark Taken) → ◌≡◌ {A = Option (Mark Taken)} None (Some m) → ⊥
no_mark m e = cc

one_mark : (m n : Mark Taken) → Some m ≡ Some n → m ≡ n
one_mark m n e = cc

one_job : (t u : PaintTicket) → Some (taken.Paint t) ≡ Some (taken.Paint u) → t ≡ u
one_job t u e = cc

-- what a ticket tells, of any stroke that is the head's and any layer that is its base
ticket_prior : (b : State) (t : PaintTicket) (ticket : IsPaintTicket t b) → ShotIsPrior b t.since (record { serial = t.slot.serial; index = ticket.index; job = t.work; shot = layer_of t.shot; published = [] }) (sight_at t.shot)
ticket_prior b t ticket stroke at_head base was =
    let one : ticket.stroke ≡ stroke = one_stroke ticket.stroke stroke (sym ticket.at_head ∙ at_head) in
    let same : ticket.base ≡ base = one_layer ticket.base base (sym ticket.was ∙ ap (λ (s : Stroke). content s.layer b.base) one ∙ was) in
    subst (λ (s : Stroke). ShowsBefore (kept_jobs s) base t.since ticket.index t.work (sight_at t.shot)) one
    (subst (λ (layer : Layer). ShowsBefore (kept_jobs ticket.stroke) layer t.since ticket.index t.work (sight_at t.shot)) same ticket.before)

pub job_drawn : (a b : State) (t : PaintTicket) → Step a (Start t.slot.place) b → IsPaintTicket t b → IsDrawnJob b t
job_drawn a b t step ticket =
    let mine : Painter = record { serial = t.slot.serial; index = ticket.index; job = t.work; shot = layer_of t.shot; published = [] } in
    let begun = get_set a.slots t.slot.place Free _ step.free in
    let serial : t.slot.serial ≡ a.next = ap (λ (w : Painter). w.serial) (one_painter _ _ (sym ticket.runs ∙ ap (λ (s : State). slice_get s.slots t.slot.place) step.new_is ∙ begun)) in
    record {
      drawn = just_drawn t.slot.serial a.next b.next serial (ap (λ (s : State). s.next) step.new_is);
      own = λ w at same. let e : w ≡ mine = one_painter w mine (sym at ∙ ticket.runs) in (ap (λ (v : Painter). v.job) e, ap (λ (v : Painter). v.shot) e);
      prior = λ w at same. subst (λ (v : Painter). ShotIsPrior b t.since v (sight_at t.shot)) (sym (one_painter w mine (sym at ∙ ticket.runs))) (ticket_prior b t ticket);
    }

pub walk_drawn : (a b : State) (t : WalkTicket) → Step a (WalkStart t.slot.place t.inputs.patch) b → IsWalkTicket t b → IsDrawnWalk b t
walk_drawn a b t step ticket =
    let mine : Walker = record { serial = t.slot.serial; patch = t.inputs.patch; shot = t.inputs.groups; published = [] } in
    let begun = get_set a.slots t.slot.place Free _ step.free in
    let serial : t.slot.serial ≡ a.next = ap (λ (w : Walker). w.serial) (one_walker _ _ (sym ticket.runs ∙ ap (λ (s : State). slice_get s.slots t.slot.place) step.new_is ∙ begun)) in
    record {
      drawn = just_drawn t.slot.serial a.next b.next serial (ap (λ (s : State). s.next) step.new_is);
      own = λ w at same. ap (λ (v : Walker). readings v.patch v.shot) (one_walker w mine (sym at ∙ ticket.runs));
    }

-- one more
one_more : (s : State) (ts : List Taken) (t : Taken) → AllByRecursion (IsDrawn s) ts → IsDrawn s t → AllByRecursion (IsDrawn s) (ts ++ t ∷ [])
one_more s [] t known one = (one, tt)
one_more s (u ∷ ts) t known one = (known.0, one_more s ts t known.1 one)

pub more_drawn : (s : State) (ts : List Taken) (t : Taken) → AreDrawn s ts → IsDrawn s t → AreDrawn s (ts ++ t ∷ [])
more_drawn s ts t known one = record { orderly = known.orderly; each = one_more s ts t known.each one }

-- ---- so what was made of it is of the work in its slot

pub tiles_known : (s : State) (ts : List Taken) (n : ℕ) (t : PaintTicket) (tiles : List Entire) → AreDrawn s ts → slice_get ts n ≡ Some (taken.Paint t) → All (IsMadeOf t.work t.shot) tiles → AreOfWork s t.slot.place t.slot.serial tiles
tiles_known s ts n t tiles known at made w runs serial =
    let job : IsDrawnJob s t = all_get (IsDrawn s) ts n (taken.Paint t) known.each at in
    let same = job.own w runs serial in
    let of : All (IsOfJob t.work (layer_of t.shot)) tiles = All-weaker (IsMadeOf t.work t.shot) (IsOfJob t.work (layer_of t.shot)) (λ x made. made.of) tiles made in
    subst (λ job. All (IsOfJob job w.shot) tiles) (sym same.0) (subst (λ shot. All (IsOfJob t.work shot) tiles) (sym same.1) of)

-- a key among some is so by any point in its tile
key_among : (k : Key) (ks : List Key) (p : Point) → in_tile k p ≡ true → list_any (same_key k) ks ≡ true → list_any (same_key (key_of p)) ks ≡ true
key_among k ks p inside there = subst (λ key. list_any (same_key key) ks ≡ true) (sym (key_same (key_of p) k inside)) there

pub tiles_prior : (s : State) (ts : List Taken) (n : ℕ) (t : PaintTicket) (tiles : List Entire) → AreDrawn s ts → slice_get ts n ≡ Some (taken.Paint t) → All (IsMadeOf t.work t.shot) tiles → ArePrior s t.slot.place t.slot.serial t.since tiles
tiles_prior s ts n t tiles known at made w runs serial stroke at_head base was =
    let job : IsDrawnJob s t = all_get (IsDrawn s) ts n (taken.Paint t) known.each at in
    let shows = job.prior w runs serial stroke at_head base was in
    All-weaker (IsMadeOf t.work t.shot) (IsPrior (kept_jobs stroke) base t.since w.index w.job) (λ x of p inside here spared. of.own p inside ∙ shows p (key_among x.key (all_keys_of (writes w.job)) p inside here) spared) tiles made

pub row_known : (s : State) (ts : List Taken) (n : ℕ) (t : WalkTicket) (c : Composition) (key : Key) → AreDrawn s ts → slice_get ts n ≡ Some (taken.Walk t) → c.readings ≡ t.inputs → ReadsAsWork s t.slot.place t.slot.serial c key
row_known s ts n t c key known at made w runs serial =
    let walk : IsDrawnWalk s t = all_get (IsDrawn s) ts n (taken.Walk t) known.each at in
    let e : readings w.patch w.shot ≡ c.readings = walk.own w runs serial ∙ sym made in
    subst (λ r. ReadTheSame (readings w.patch w.shot) r key) e (record { patch = refl; groups = λ p h k. refl })

-- ---- by what the calls say

-- work that was taken is drawn, and all that was drawn before stays so
module _ {E : Type 0} (a b : State) (before now : ℕ) (r : Result Taken E) (ts : List Taken) (known : AreDrawn a ts)
    (paint : (t : PaintTicket) → r ≡ Ok (taken.Paint t) → Step a (Start t.slot.place) b × IsPaintTicket t b)
    (walk : (t : WalkTicket) → r ≡ Ok (taken.Walk t) → Step a (WalkStart t.slot.place t.inputs.patch) b × IsWalkTicket t b)
    (did : r ≡ Ok taken.Did → DoesAtOnce a b before now)
    (idle : r ≡ Ok taken.Idle → IsIdle a × (b ≡ a))
    (settled : r ≡ Ok taken.Settled → IsSettled a × (b ≡ a)) where
  pub taken_drawn : (t : Taken) → r ≡ Ok t → AreDrawn b ts × IsDrawn b t
  taken_drawn (taken.Paint t) e = (step_draws a b (Start t.slot.place) ts (paint t e).0 known, job_drawn a b t (paint t e).0 (paint t e).1)
  taken_drawn (taken.Walk t) e = (step_draws a b (WalkStart t.slot.place t.inputs.patch) ts (walk t e).0 known, walk_drawn a b t (walk t e).0 (walk t e).1)
  taken_drawn taken.Did e = (step_draws a b (did e).event ts (did e).step known, tt)
  taken_drawn taken.Idle e = (same_draws a b ts (idle e).1 known, tt)
  taken_drawn taken.Settled e = (same_draws a b ts (settled e).1 known, tt)

-- with its stamp, or without one
pub stamped_drawn : (s : State) (old new : List Taken) (t : Taken) (o : Option (Mark Taken)) → OnSome o (new ≡ old ++ t ∷ []) → IfNone o (new ≡ old) → AreDrawn s old × IsDrawn s t → AreDrawn s new
stamped_drawn s old new t (Some m) more same known = subst (AreDrawn s) (sym more) (more_drawn s old t known.0 known.1)
stamped_drawn s old new t None more same known = subst (AreDrawn s) (sym same) known.0

-- a command is fed, or none is
pub feed_drawn : {A E : Type 0} (a b : State) (c : Command) (ts : List Taken) (r : Result A E) → OnOk r (Step a (Feed c) b) → OnErr r (b ≡ a) → AreDrawn a ts → AreDrawn b ts
feed_drawn a b c ts (Ok u) ok err known = step_draws a b (Feed c) ts ok known
feed_drawn a b c ts (Err e) ok err known = same_draws a b ts err known

-- work ends, or none does
pub end_drawn : (a b : State) (place : ℕ) (ts : List Taken) (r : Ended) → (r ≡ ended.Done → IsEnd a place b) → (r ≡ ended.Nothing → b ≡ a) → AreDrawn a ts → AreDrawn b ts
end_drawn a b place ts ended.Done done nothing known = let e = done refl in step_draws a b e.0 ts e.2 known
end_drawn a b place ts ended.Nothing done nothing known = same_draws a b ts (nothing refl) known

-- tiles whose stamp is known are of the work in their slot
pub batch_known : (s : State) (ts : List Taken) (o : Option (Mark Taken)) (since : ℕ) (b : Batch) → AreDrawn s ts → IsKnown ts o → IfSome o (λ m. AreMadeOf m since b) → AreOfWork s b.slot.place b.slot.serial b.tiles × ArePrior s b.slot.place b.slot.serial since b.tiles
batch_known s ts None since b known k made = absurd (no_mark k.mark k.there)
batch_known s ts (Some m) since b known k made =
    let same : m ≡ k.mark = one_mark m k.mark k.there in
    let stands : slice_get ts k.mark.number ≡ Some (taken.Paint made.ticket) = k.stands ∙ ap (λ (n : Mark Taken). n.value) (sym same) ∙ made.stamped in (
      subst (λ slot. AreOfWork s slot.place slot.serial b.tiles) made.slot (tiles_known s ts k.mark.number made.ticket b.tiles known stands made.made),
      subst (λ slot. ArePrior s slot.place slot.serial since b.tiles) made.slot
          (subst (λ i. ArePrior s made.ticket.slot.place made.ticket.slot.serial i b.tiles) made.since (tiles_prior s ts k.mark.number made.ticket b.tiles known stands made.made)),
    )

-- what was composed of a walk whose stamp is known read as the walk in its slot
pub walk_known : (s : State) (ts : List Taken) (o : Option (Mark Taken)) (t : WalkTicket) (c : Composition) (key : Key) → AreDrawn s ts → IsKnown ts o → IfSome o (λ m. m.value ≡ Some (taken.Walk t)) → c.readings ≡ t.inputs → ReadsAsWork s t.slot.place t.slot.serial c key
walk_known s ts None t c key known k made read = absurd (no_mark k.mark k.there)
walk_known s ts (Some m) t c key known k made read =
    let same : m ≡ k.mark = one_mark m k.mark k.there in
    row_known s ts k.mark.number t c key known (k.stands ∙ ap (λ (n : Mark Taken). n.value) (sym same) ∙ made) read

-- tiles of one job, and more of it
pub more_made : (a b : Option (Mark Taken)) (slot other : SlotId) (since since' : ℕ) (xs ys : List Entire) → AreOne a b → IfSome a (λ m. AreMadeOf m since (batch slot xs)) → IfSome b (λ m. AreMadeOf m since' (batch other ys)) → IfSome a (λ m. AreMadeOf m since (batch slot (xs ++ ys)))
more_made None b slot other since since' xs ys one made more = tt
more_made (Some m) None slot other since since' xs ys one made more = absurd (no_mark one.other one.second)
more_made (Some m) (Some n) slot other since since' xs ys one made more =
    let values : m.value ≡ n.value = ap (λ (k : Mark Taken). k.value) (one_mark m one.one one.first) ∙ one.same ∙ ap (λ (k : Mark Taken). k.value) (sym (one_mark n one.other one.second)) in
    let jobs : more.ticket ≡ made.ticket = one_job more.ticket made.ticket (sym more.stamped ∙ sym values ∙ made.stamped) in
    record {
      ticket = made.ticket;
      stamped = made.stamped;
      slot = made.slot;
      since = made.since;
      made = All-append (IsMadeOf made.ticket.work made.ticket.shot) xs ys made.made (subst (λ (t : PaintTicket). All (IsMadeOf t.work t.shot) ys) jobs more.made);
    }

-- no tiles are of any job
pub none_made : (o : Option (Mark Taken)) (since : ℕ) (b : Batch) → IfSome o (λ m. AreMadeOf m since b) → IfSome o (λ m. AreMadeOf m since (batch b.slot []))
none_made None since b made = tt
none_made (Some m) since b made = record { ticket = made.ticket; stamped = made.stamped; slot = made.slot; since = made.since; made = All-nil (IsMadeOf made.ticket.work made.ticket.shot) }

-- tiles that a stamped job made
pub job_made : (o : Option (Mark Taken)) (t : PaintTicket) (tiles : List Entire) → IfSome o (λ m. m.value ≡ Some (taken.Paint t)) → All (IsMadeOf t.work t.shot) tiles → IfSome o (λ m. AreMadeOf m t.since (batch t.slot tiles))
job_made None t tiles stamped made = tt
job_made (Some m) t tiles stamped made = record { ticket = t; stamped = stamped; slot = refl; since = refl; made = made }

-- tiles without a stamp
pub unstamped : (o : Option (Mark Taken)) (since : ℕ) (b : Batch) → o ≡ None → IfSome o (λ m. AreMadeOf m since b)
unstamped o since b e = subst (λ x. IfSome x (λ m. AreMadeOf m since b)) (sym e) tt

-- tiles beside others of the same job
pub more_stamped : (a b o : Option (Mark Taken)) (slot other own : SlotId) (since since' i : ℕ) (xs ys us zs : List Entire) → o ≡ a → own ≡ slot → i ≡ since → us ≡ xs → zs ≡ us ++ ys → AreOne a b → IfSome a (λ m. AreMadeOf m since (batch slot xs)) → IfSome b (λ m. AreMadeOf m since' (batch other ys)) → IfSome o (λ m. AreMadeOf m i (batch own zs))
more_stamped a b o slot other own since since' i xs ys us zs stamp place first items all one made more =
    subst (λ x. IfSome x (λ m. AreMadeOf m i (batch own zs))) (sym stamp)
    (subst (λ x. IfSome a (λ m. AreMadeOf m i (batch x zs))) (sym place)
    (subst (λ n. IfSome a (λ m. AreMadeOf m n (batch slot zs))) (sym first)
    (subst (λ ts. IfSome a (λ m. AreMadeOf m since (batch slot ts))) (sym (all ∙ ap (λ ts. ts ++ ys) items)) (more_made a b slot other since since' xs ys one made more))))
