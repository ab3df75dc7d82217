-- What became of a line, by what it says.
use Rattle.std.proofs.Common.{◌≡◌, ℕ, ◌≤◌, ◌<◌, ◌+◌, ◌-◌, ◌^◌, length, Option, None, Ok, Err, List, ◌∷◌, [], refl, sym, subst, inl, inr, arith}
use Rattle.std.specs.Prelude.{OnErr, OnOk, Result}
use Rattle.doc_model.specs.declared.command.Command.{Command}
use Rattle.script_lines.specs.declared.cause.Cause.{Cause}
use Rattle.machine_model.specs.State.{State}
use Rattle.host_lines.specs.declared.answer.Answer.{Answer}
use Rattle.host_lines.specs.declared.line.Line.{Line}
use Rattle.host_lines.specs.Lines.{commands_of, fault_of, first_fields, line_fault, said, told_by}
use Rattle.host_lines.proofs.SaidLines.{line_fault_is, said_is}
use Rattle.machine_model.specs.Event.{Feed}
use Rattle.machine_model.specs.Step.{Step}
use Rattle.host_desk.specs.Feeding.{Fed, Feeds, FeedsFront, answer_by}

-- a text's first line was fed, as what it says was
pub fed_line : (s t : State) (a : Answer) (bytes : List ℕ) (l : Line) → l ≡ told_by (first_fields bytes) → Fed s (fault_of s.fed l) (commands_of l) a t → Fed s (line_fault s.canvas s.fed bytes) (said bytes) a t
fed_line s t a bytes l e h =
    subst (λ (o : Option Cause). Fed s o (said bytes) a t) (sym (line_fault_is s.canvas s.fed bytes))
    (subst (λ (cs : List Command). Fed s (fault_of s.fed (told_by (first_fields bytes))) cs a t) (sym (said_is bytes))
    (subst (λ (k : Line). Fed s (fault_of s.fed k) (commands_of k) a t) e h))

-- a command was fed, or not for want of memory
pub one_fed : {E : Type 0} (s t : State) (c : Command) (r : Result (Unit {0}) E) → OnOk r (Step s (Feed c) t) → OnErr r (t ≡ s) → Fed s None (c ∷ []) (answer_by r) t
one_fed s t c (Ok u) ok err = (refl, (t, ok, refl))
one_fed s t c (Err e) ok err = inl err

-- jobs were fed, or some of them
pub some_fed : {E : Type 0} (s t : State) (cs : List Command) (r : Result (Unit {0}) E) → OnOk r (Feeds s cs t) → OnErr r (FeedsFront s cs t) → Fed s None cs (answer_by r) t
some_fed s t cs (Ok u) ok err = (refl, ok)
some_fed s t cs (Err e) ok err = inr (refl, err)

-- there is no room for one more
pub one_full : (fed : List Command) (c : Command) → 4294967294 ≤ length fed → 2 ^ 32 - 2 < length fed + length (c ∷ [])
one_full fed c h = omega arith
