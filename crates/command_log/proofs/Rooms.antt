-- Room for several jobs in a stroke.
use Rattle.std.proofs.Common.{◌≡◌, ℕ, suc, zero, inl, inr, map, [], ◌∷◌, ◌+◌, ◌-◌, Bool, true, false, ◌&&◌, nat_lt, nat_le, if◌then◌else◌, Option, Some, None, List, refl, sym, ap, ◌∙◌, arith}
use Rattle.std.specs.Prelude.{◌==◌}
use Rattle.std.specs.List.{list_any}
use Rattle.std.specs.Option.{option_or}
use Rattle.std.proofs.lemmas.Bool.Decides.{nat_tests}
use Rattle.geom_core.proofs.Tests.{or_cases, or_left, or_right}
use Rattle.doc_model.specs.declared.command.Command.TheVariants as command
use Rattle.doc_model.specs.declared.job.Job.{Job}
use Rattle.doc_model.specs.declared.job.Kind.{Kind}
use Rattle.doc_model.specs.Strokes.{Entry, Strokes, Changes, Undoes, Redoes, Purges, Exports, fed, with_job, has_room, is_stroke, is_open_stroke}
use Rattle.command_log.specs.declared.refusal.Misfit.{Misfit}
use Rattle.command_log.specs.declared.refusal.Misfit.TheVariants.{ClosedStroke, TooManyJobs}
use Rattle.command_log.specs.declared.table.Fed.{Fed}
use Rattle.command_log.specs.Misfits.{misfit_of, not_open, has_room_for, jobs_misfit}
use Rattle.command_log.specs.Table.{Tells, fewer, kept_misfit}
use Rattle.command_log.proofs.Tables.{same_any, job_started, job_open, job_room, none_fewer}

room_test : (a k : ℕ) → nat_le (a + k) 4096 ≡ nat_lt a (4097 - k)
room_test a k = grind (arith, nat_tests)

room_for_is : (k n : ℕ) (e : Entry) → has_room_for k n e ≡ fewer (4097 - k) n e
room_for_is k n (Strokes s) = ap (λ b. (s.no == n) && b) (room_test _ k)
room_for_is k n (Changes c) = refl
room_for_is k n Undoes = refl
room_for_is k n Redoes = refl
room_for_is k n (Purges keep) = refl
room_for_is k n Exports = refl

room_any : (k n : ℕ) (es : List Entry) → list_any (has_room_for k n) es ≡ list_any (fewer (4097 - k) n) es
room_any k n es = ap (λ p. list_any p es) (λ i e. room_for_is k n e i)

-- why a stroke can't be given so many jobs, by what is kept of it
pub jobs_same : (es : List Entry) (n k : ℕ) (found : Option Fed) → Tells es n found → kept_misfit k found ≡ jobs_misfit es n k
jobs_same es n k None t = rw (t.live, t.started) refl
jobs_same es n k (Some f) t = rw (t.live, t.started, room_any k n es, t.room (4097 - k), sym (room_test f.jobs k)) (go f.live (nat_le (f.jobs + k) 4096))
  where
    go : (b r : Bool) → (if b then (if r then None else Some TooManyJobs) else Some ClosedStroke) ≡ option_or (if b then None else Some ClosedStroke) (if r then None else Some TooManyJobs)
    go true r = refl
    go false r = refl

none_few : (n : ℕ) (es : List Entry) → list_any (fewer 0 n) es ≡ false
none_few n [] = refl
none_few n (e ∷ es) = rw (none_fewer n e, none_few n es) refl

-- after one job, there is room for one less
room_after : (k n : ℕ) (kind : Kind) (j : Job) (es : List Entry) → list_any (has_room_for k n) (map (with_job n kind j) es) ≡ list_any (has_room_for (suc k) n) es
room_after k n kind j es = room_any k n (map (with_job n kind j) es) ∙ go (4097 - k) refl
  where
    go : (m : ℕ) → 4097 - k ≡ m → list_any (fewer m n) (map (with_job n kind j) es) ≡ list_any (has_room_for (suc k) n) es
    go zero e =
        let less : 4097 - suc k ≡ zero = omega arith in
        none_few n (map (with_job n kind j) es) ∙ sym (room_any (suc k) n es ∙ ap (λ m. list_any (fewer m n) es) less ∙ none_few n es)
    go (suc m) e =
        let less : 4097 - suc k ≡ m = omega arith in
        same_any _ _ _ (job_room n m kind j) es ∙ sym (room_any (suc k) n es ∙ ap (λ m. list_any (fewer m n) es) less)

pub fits_after : (es : List Entry) (n k : ℕ) (kind : Kind) (j : Job) → jobs_misfit es n (suc k) ≡ None → jobs_misfit (fed es (command.Add n kind j)) n k ≡ None
fits_after es n k kind j h = rw (same_any (is_stroke n) (is_stroke n) (with_job n kind j) (job_started n n kind j) es, same_any (is_open_stroke n) (is_open_stroke n) (with_job n kind j) (job_open n n kind j) es, room_after k n kind j es) h

-- the parts of what is no misfit
record IsOpen (a : Option Misfit) (b : Bool) : Type 0 where
  open_is : a ≡ None
  room : b ≡ true

no_misfit : (a : Option Misfit) (b : Bool) → option_or a (if b then None else Some TooManyJobs) ≡ None → IsOpen a b
no_misfit None true h = record { open_is = refl; room = refl }
no_misfit None false h = absurd (cc (h))
no_misfit (Some c) b h = absurd (cc (h))

less : (a k : ℕ) → nat_le (a + suc k) 4096 ≡ true → nat_lt a 4096 ≡ true
less a k h = grind (arith, nat_tests)

under : (s b c : Bool) → (b ≡ true → c ≡ true) → (s && b) ≡ true → (s && c) ≡ true
under true b c f h = f h
under false b c f h = h

room_one : (k n : ℕ) (e : Entry) → has_room_for (suc k) n e ≡ true → has_room n e ≡ true
room_one k n (Strokes s) h = under (s.no == n) _ _ (less _ k) h
room_one k n (Changes c) h = h
room_one k n Undoes h = h
room_one k n Redoes h = h
room_one k n (Purges keep) h = h
room_one k n Exports h = h

any_room : (k n : ℕ) (es : List Entry) → list_any (has_room_for (suc k) n) es ≡ true → list_any (has_room n) es ≡ true
any_room k n [] h = h
any_room k n (e ∷ es) h = elim (or_cases _ _ h) [
  | inl here ↦ or_left (has_room n e) (list_any (has_room n) es) (room_one k n e here)
  | inr there ↦ or_right (has_room n e) (list_any (has_room n) es) (any_room k n es there)
]

-- where there is room for several jobs, the first of them fits
pub first_fits : (es : List Entry) (n k : ℕ) (kind : Kind) (j : Job) → jobs_misfit es n (suc k) ≡ None → misfit_of es (command.Add n kind j) ≡ None
unfolding misfit_of
first_fits es n k kind j h =
    let parts : IsOpen (not_open n es) (list_any (has_room_for (suc k) n) es) = no_misfit (not_open n es) (list_any (has_room_for (suc k) n) es) h in
    rw (parts.open_is, any_room k n es parts.room) refl
