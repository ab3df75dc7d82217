-- Lines of a script that comes in piece by piece.
use Rattle.std.proofs.Common.{◌≡◌, ◌∙◌, ℕ, ◌+◌, ◌≤◌, List, [], ◌∷◌, ◌++◌, length, Some, Result, Err, refl, sym, ap, subst, append_assoc, append-nil, length-append, arith}
use Rattle.script_lines.specs.Lines.{lines}
use Rattle.script_forms.specs.Jobs.{Fields}
use Rattle.script_text.specs.declared.script.ScriptFault.{ScriptFault}
use Rattle.script_text.specs.declared.script.ReadRefusal.{ReadRefusal}
use Rattle.script_text.specs.declared.script.ReadRefusal.TheVariants.{Fault, NoMemory}
use Rattle.script_text.specs.Script.{Contents}
use Rattle.script_text.specs.Reading.{fault, script}
use Rattle.script_text.specs.Read.{Answers}
use Rattle.script_text.specs.Pieces.{fault_in, script_in, HasRead, HasRoom}
use Rattle.script_lines.proofs.Pieces.{lines-append}
use Rattle.script_text.proofs.Scanning.{few_lines}
use Rattle.strokes_top.specs.declared.intake.Intake.{Intake}
use Rattle.strokes_top.specs.Intakes.{HasTaken}

module _ (i : Intake) (got : List ℕ) (t : HasTaken i got) where
  -- the lines, where no byte follows
  all_lines : lines got ≡ t.whole ++ lines i.rest.items
  all_lines = ap lines (sym (append-nil got)) ∙ t.rest [] ∙ ap (λ l. t.whole ++ lines l) (append-nil i.rest.items)

  -- at the end the text is the line that isn't whole
  module _ (text : List ℕ) (text_is : text ≡ i.rest.items) where
    all_with : lines got ≡ t.whole ++ lines text
    all_with = all_lines ∙ ap (λ l. t.whole ++ lines l) (sym text_is)

    pub room_at_end : length got ≤ 1048576 → HasRoom i.reader (lines text)
    room_at_end few = (t.whole, t.read, omega (arith, length-append t.whole (lines text), ap length all_with, few_lines got))

    pub answered : (result : Result Contents ReadRefusal) → Answers result (fault_in (t.whole ++ lines text)) (script_in (t.whole ++ lines text)) → Answers result (fault got) (script got)
    unfolding fault script fault_in script_in
    answered result h = subst (λ ls. Answers result (fault_in ls) (script_in ls)) (sym all_with) h

    pub refused : (e : ReadRefusal) → ((f : ScriptFault) (more : List Fields) → e ≡ Fault f → fault_in (t.whole ++ lines text ++ more) ≡ Some f) → Answers (Err e) (fault got) (script got)
    unfolding fault fault_in
    refused (Fault f) h = ap fault_in (all_with ∙ sym (append-nil (t.whole ++ lines text))) ∙ h f [] refl
    refused NoMemory h = tt

  -- where a line ends in the piece, the text is that line, and those behind it but for the last
  module _ (ended behind piece text : List ℕ) (cut : piece ≡ ended ++ 10 ∷ behind) (text_is : text ≡ i.rest.items ++ ended) where
    lines_cut : (more : List ℕ) → lines (got ++ piece ++ more) ≡ t.whole ++ lines text ++ lines (behind ++ more)
    lines_cut more =
        let tail = ended ++ 10 ∷ (behind ++ more) in
        let as_read : got ++ piece ++ more ≡ got ++ tail = rw cut (simp append_assoc) in
        let as_kept : i.rest.items ++ tail ≡ text ++ 10 ∷ (behind ++ more) = rw text_is (simp append_assoc) in
        ap lines as_read ∙ t.rest tail ∙ ap (λ l. t.whole ++ l) (ap lines as_kept ∙ lines-append text (behind ++ more)) ∙ sym (append_assoc t.whole (lines text) (lines (behind ++ more)))

    pub room : length got + length piece ≤ 1048576 → HasRoom i.reader (lines text)
    room few = (t.whole, t.read, omega (arith, length-append t.whole (lines text), length-append (t.whole ++ lines text) (lines (behind ++ [])), ap length (lines_cut []), few_lines (got ++ piece ++ []), length-append (got ++ piece) [], length-append got piece))

    pub ended_in : (new : Intake) → HasRead new.reader (t.whole ++ lines text) → new.rest.items ≡ behind → HasTaken new (got ++ piece)
    ended_in new read rest = record {
      whole = t.whole ++ lines text;
      read = read;
      rest = λ more. lines_cut more ∙ ap (λ l. t.whole ++ lines text ++ lines (l ++ more)) (sym rest);
    }

    pub faulty_in : (f : ScriptFault) (more : List ℕ) → ((others : List Fields) → fault_in (t.whole ++ lines text ++ others) ≡ Some f) → fault (got ++ piece ++ more) ≡ Some f
    unfolding fault fault_in
    faulty_in f more h = ap fault_in (lines_cut more) ∙ h (lines (behind ++ more))
