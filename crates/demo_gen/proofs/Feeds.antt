-- The commands may be fed one after another, with their numbers in range, and leave no stroke open.
use Rattle.std.proofs.Common.{◌≡◌, ℕ, suc, zero, ◌+◌, ◌*◌, ◌/◌, ◌%◌, ◌≤◌, ◌<◌, Bool, true, false, ◌&&◌, cond, List, [], ◌∷◌, ◌++◌, map, length, refl, sym, ap, ◌∙◌, subst, arith, eqb, pos, ◌-ℤ◌}
use Rattle.std.specs.Prelude.{◌==◌, nat_le}
use borrow.Author.Differences.{ints}
use Rattle.std.specs.List.{list_any, list_all, filter}
use Rattle.std.proofs.lemmas.Bool.Decides.{nat_tests}
use Rattle.std.proofs.lemmas.Nat.{mod_below}
use Rattle.geom_core.proofs.Tests.{and_left, and_right, both_true, or_left, or_right, none_left, none_right, neither, taken}
use Rattle.pixel_core.specs.Rgba.{Rgba, if_canonical}
use Rattle.doc_model.specs.declared.job.Job.{Job}
use Rattle.doc_model.specs.declared.job.Job.TheVariants.{Dab, Move}
use Rattle.geom_core.specs.Areas.{area}
use Rattle.pixel_core.specs.declared.blending.Op.{Op}
use Rattle.std.proofs.lemmas.List.{length-append}
use Rattle.doc_model.specs.declared.job.Kind.{Kind}
use Rattle.doc_model.specs.declared.job.Kind.TheVariants.{Con}
use Rattle.doc_model.specs.declared.command.Command.{Command}
use Rattle.doc_model.specs.declared.command.Command.TheVariants as command
use Rattle.doc_model.specs.Strokes.{Jobs, Fate, Open, Ended, Cancelled, Entry, Strokes, with_job, with_fate, fed, all_fed, is_stroke, is_open_stroke, has_room, is_export}
use Rattle.doc_model.specs.Lawful.{may_follow, within_limits}
use Rattle.doc_model.specs.Feeding.{is_closed_entry, lawful_after}
use Rattle.doc_model.specs.Jobs.{checks}
use Rattle.doc_model.proofs.Feeding.{Touches, with_job_touches, with_fate_touches}
use Rattle.script_lines.specs.Colours.{is_pixel}
use Rattle.script_forms.specs.Ranges.{in_range, job_in_range}
use Rattle.demo_gen.specs.Demo.{told, later, draw, ink, dab_op, dab_job, dabs, after_dabs}
use Rattle.demo_gen.specs.Adds.{dab}
use Rattle.demo_gen.proofs.Blocks.{more_dabs}

-- commands that lead from some entries to others
pub record Goes (es new : List Entry) (cs : List Command) : Type 0 where
  pub lawful : lawful_after es cs ≡ true
  pub ranges : list_all in_range cs ≡ true
  pub leads : all_fed es cs ≡ new

pub goes_nowhere : (es : List Entry) → Goes es es []
goes_nowhere es = record { lawful = refl; ranges = refl; leads = refl }

pub goes_on : (es mid new : List Entry) (a b : List Command) → Goes es mid a → Goes mid new b → Goes es new (a ++ b)
goes_on es mid new [] b g h = subst (λ e. Goes e new b) (sym g.leads) h
goes_on es mid new (c ∷ a) b g h =
    let front : Goes (fed es c) mid a = record { lawful = and_right (may_follow es c) _ g.lawful; ranges = and_right (in_range c) _ g.ranges; leads = g.leads } in
    let rest : Goes (fed es c) new (a ++ b) = goes_on (fed es c) mid new a b front h in
    record { lawful = both_true _ _ (and_left (may_follow es c) _ g.lawful) rest.lawful; ranges = both_true _ _ (and_left (in_range c) _ g.ranges) rest.ranges; leads = rest.leads }

pub goes_one : (es : List Entry) (c : Command) → may_follow es c ≡ true → in_range c ≡ true → Goes es (fed es c) (c ∷ [])
goes_one es c h k = record { lawful = both_true _ _ h refl; ranges = both_true _ _ k refl; leads = refl }

-- entries of closed strokes with numbers below k, and at most m exports
pub record IsReady (k m : ℕ) (es : List Entry) : Type 0 where
  pub closed : list_all is_closed_entry es ≡ true
  pub fresh : (n : ℕ) → k ≤ n → list_any (is_stroke n) es ≡ false
  pub few : length (filter is_export es) ≤ m

pub same : (n : ℕ) → (n == n) ≡ true
same n = grind (arith, nat_tests)

pub any_last : (p : Entry → Bool) (es : List Entry) (e : Entry) → p e ≡ true → list_any p (es ++ e ∷ []) ≡ true
any_last p [] e h = or_left _ _ h
any_last p (x ∷ es) e h = or_right (p x) _ (any_last p es e h)

pub none_last : (p : Entry → Bool) (es : List Entry) (e : Entry) → list_any p es ≡ false → p e ≡ false → list_any p (es ++ e ∷ []) ≡ false
none_last p [] e h k = neither _ _ k refl
none_last p (x ∷ es) e h k = neither _ _ (none_left (p x) _ h) (none_last p es e (none_right (p x) _ h) k)

pub all_last : (p : Entry → Bool) (es : List Entry) (e : Entry) → list_all p es ≡ true → p e ≡ true → list_all p (es ++ e ∷ []) ≡ true
all_last p [] e h k = both_true _ _ k refl
all_last p (x ∷ es) e h k = both_true _ _ (and_left (p x) _ h) (all_last p es e (and_right (p x) _ h) k)

pub few_last : (es : List Entry) (e : Entry) → length (filter is_export (es ++ e ∷ [])) ≤ suc (length (filter is_export es))
few_last [] e = go (is_export e)
  where
    go : (b : Bool) → length (cond b (e ∷ []) []) ≤ 1
    go true = omega arith
    go false = omega arith
few_last (x ∷ es) e = go (is_export x) (few_last es e)
  where
    go : (b : Bool) → length (filter is_export (es ++ e ∷ [])) ≤ suc (length (filter is_export es)) → length (cond b (x ∷ filter is_export (es ++ e ∷ [])) (filter is_export (es ++ e ∷ []))) ≤ suc (length (cond b (x ∷ filter is_export es) (filter is_export es)))
    go true h = omega arith
    go false h = h

-- a change of the last entry alone
last_changed : (f : Entry → Entry) (k : ℕ) (es : List Entry) (e : Entry) → Touches k f → list_any (is_stroke k) es ≡ false → map f (es ++ e ∷ []) ≡ es ++ f e ∷ []
last_changed f k [] e t h = refl
last_changed f k (x ∷ es) e t h = cons (t.others x (none_left (is_stroke k x) _ h)) (last_changed f k es e t (none_right (is_stroke k x) _ h))
  where
    cons : {x y : Entry} {xs ys : List Entry} → x ≡ y → xs ≡ ys → (x ∷ xs) ≡ (y ∷ ys)
    cons p q i = p i ∷ q i

abbrev pub stroke_of : ℕ → ℕ → Bool → Jobs → Fate → Entry
stroke_of k l x jobs fate = Strokes (record { no = k; layer = l; exclusive = x; jobs = jobs; fate = fate })

-- one job more of the last stroke
pub job_goes : (es : List Entry) (k l : ℕ) (x : Bool) (jobs : Jobs) (kind : Kind) (job : Job) → list_any (is_stroke k) es ≡ false → length jobs < 4096 → k ≤ 64 → (checks job && within_limits job) ≡ true → job_in_range job ≡ true
    → Goes (es ++ stroke_of k l x jobs Open ∷ []) (es ++ stroke_of k l x (jobs ++ (kind, job) ∷ []) Open ∷ []) (command.Add k kind job ∷ [])
job_goes es k l x jobs kind job fresh few small sound range =
    let open_there : list_any (is_open_stroke k) (es ++ stroke_of k l x jobs Open ∷ []) ≡ true = any_last (is_open_stroke k) es _ (both_true _ _ (same k) refl) in
    let room : list_any (has_room k) (es ++ stroke_of k l x jobs Open ∷ []) ≡ true = any_last (has_room k) es _ (both_true _ _ (same k) (grind (arith, nat_tests))) in
    let number : nat_le k 4294967295 ≡ true = grind (arith, nat_tests) in
    let changed : fed (es ++ stroke_of k l x jobs Open ∷ []) (command.Add k kind job) ≡ es ++ stroke_of k l x (jobs ++ (kind, job) ∷ []) Open ∷ []
    = last_changed (with_job k kind job) k es _ (with_job_touches k kind job) fresh ∙ ap (λ e. es ++ e ∷ []) (taken (eqb k k) _ _ (same k)) in
    record { lawful = both_true _ _ (both_true _ _ sound (both_true _ _ open_there room)) refl; ranges = both_true _ _ (both_true _ _ number range) refl; leads = changed }

pub told_below : (s n : ℕ) → 0 < n → told s n < n
unfolding told
told_below s n h = mod_below (s / 8589934592) n h

pub ink_is_pixel : (s : ℕ) → is_pixel (ink s) ≡ true
ink_is_pixel s =
    let r : draw s 1 256 < 256 = told_below _ 256 (omega arith) in
    let g : draw s 2 256 < 256 = told_below _ 256 (omega arith) in
    let b : draw s 3 256 < 256 = told_below _ 256 (omega arith) in
    let a : draw s 4 192 < 192 = told_below _ 192 (omega arith) in
    go (draw s 1 256) (draw s 2 256) (draw s 3 256) (draw s 4 192) r g b a
  where
    go : (r g b a : ℕ) → r < 256 → g < 256 → b < 256 → a < 192 → is_pixel (if_canonical r g b (64 + a)) ≡ true
    go r g b a hr hg hb ha = grind (arith, nat_tests)

checks_dab : (i r : ℕ) (p : Rgba) (op : Op) → i < 24 → r < 60 → checks (Dab (pos (65 + 130 * (i % 6))) (pos (75 + 150 * (i / 6))) r true p op 255) ≡ true
checks_dab i r p op h k = go (i % 6) (i / 6) (mod_below i 6 (omega arith)) (omega arith)
  where
    go : (a b : ℕ) → a < 6 → b < 4 → checks (Dab (pos (65 + 130 * a)) (pos (75 + 150 * b)) r true p op 255) ≡ true
    go a b ha hb = grind (arith, ints, nat_tests)

pub checks_move : (x y dx dy : ℕ) → x < 600 → y < 400 → dx < 201 → dy < 201 → checks (Move (area (pos x) (pos y) 200 200) (pos dx -ℤ pos 100) (pos dy -ℤ pos 100)) ≡ true
checks_move x y dx dy hx hy hdx hdy = grind (arith, ints, nat_tests)

few_radius : (r : ℕ) → r < 60 → nat_le r 128 ≡ true
few_radius r h = grind (arith, nat_tests)

-- a stroke with some jobs, still open
pub record IsDabbed (es : List Entry) (k l : ℕ) (x : Bool) (i : ℕ) (cs : List Command) : Type 0 where
  pub jobs : Jobs
  pub few : length jobs ≤ i
  pub goes : Goes (es ++ stroke_of k l x [] Open ∷ []) (es ++ stroke_of k l x jobs Open ∷ []) cs

no_dab : (k s : ℕ) → dabs k 0 s ≡ []
unfolding dabs
no_dab k s = refl

pub dabbed : (es : List Entry) (k l : ℕ) (x : Bool) (i s : ℕ) → list_any (is_stroke k) es ≡ false → k ≤ 64 → i ≤ 24 → IsDabbed es k l x i (dabs k i s)
dabbed es k l x zero s fresh small h = subst (λ cs. IsDabbed es k l x 0 cs) (sym (no_dab k s)) (record { jobs = []; few = omega arith; goes = goes_nowhere _ })
dabbed es k l x (suc i) s fresh small h =
    let d : IsDabbed es k l x i (dabs k i s) = dabbed es k l x i s fresh small (omega arith) in
    let few : length d.jobs ≤ i = d.few in
    let now : ℕ = after_dabs i s in
    let r : draw now 1 60 < 60 = told_below _ 60 (omega arith) in
    let job : Job = dab_job i now in
    let longer : length (d.jobs ++ (Con, job) ∷ []) ≡ length d.jobs + 1 = length-append d.jobs ((Con, job) ∷ []) in
    let one : Goes (es ++ stroke_of k l x d.jobs Open ∷ []) (es ++ stroke_of k l x (d.jobs ++ (Con, job) ∷ []) Open ∷ []) (dab k i now ∷ [])
    = job_goes es k l x d.jobs Con job fresh (omega arith) small (both_true _ _ (checks_dab i (draw now 1 60) (ink (later 1 now)) (dab_op (draw now 6 8)) (omega arith) r) (few_radius (draw now 1 60) r)) (both_true _ _ (ink_is_pixel (later 1 now)) refl) in
    subst (λ cs. IsDabbed es k l x (suc i) cs) (sym (more_dabs k i s)) (record { jobs = d.jobs ++ (Con, job) ∷ []; few = omega arith; goes = goes_on _ _ _ _ _ d.goes one })

pub close_goes : (es : List Entry) (k l : ℕ) (x : Bool) (jobs : Jobs) (b : Bool) → list_any (is_stroke k) es ≡ false → k ≤ 64
    → Goes (es ++ stroke_of k l x jobs Open ∷ []) (es ++ stroke_of k l x jobs (cond b Cancelled Ended) ∷ []) (cond b (command.Cancel k) (command.End k) ∷ [])
close_goes es k l x jobs b fresh small = go b
  where
    there : list_any (is_open_stroke k) (es ++ stroke_of k l x jobs Open ∷ []) ≡ true
    there = any_last (is_open_stroke k) es _ (both_true _ _ (same k) refl)

    number : nat_le k 4294967295 ≡ true
    number = grind (arith, nat_tests)

    changed : (fate : Fate) → map (with_fate k fate) (es ++ stroke_of k l x jobs Open ∷ []) ≡ es ++ stroke_of k l x jobs fate ∷ []
    changed fate = last_changed (with_fate k fate) k es _ (with_fate_touches k fate) fresh ∙ ap (λ e. es ++ e ∷ []) (taken (eqb k k) _ _ (same k))

    go : (c : Bool) → Goes (es ++ stroke_of k l x jobs Open ∷ []) (es ++ stroke_of k l x jobs (cond c Cancelled Ended) ∷ []) (cond c (command.Cancel k) (command.End k) ∷ [])
    go true = record { lawful = both_true _ _ there refl; ranges = both_true _ _ number refl; leads = changed Cancelled }
    go false = record { lawful = both_true _ _ there refl; ranges = both_true _ _ number refl; leads = changed Ended }
