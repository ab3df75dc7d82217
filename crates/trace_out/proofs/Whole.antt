-- What was written is the trace of the script.
use Rattle.std.proofs.Common.{◌≡◌, ℕ, ◌≤◌, true, ◌&&◌, nat_le, List, ◌++◌, Ok, refl, sym, ap, ◌∙◌, subst, arith}
use Rattle.std.specs.Prelude.{◌==◌}
use Rattle.std.specs.List.{list_all, flat_map}
use Rattle.std.proofs.lemmas.Bool.Decides.{nat_tests}
use Rattle.doc_model.specs.declared.canvas.Canvas.{Canvas}
use Rattle.doc_model.specs.Canvases.{IsOfLimits}
use Rattle.script_lines.specs.Colours.{is_pixel}
use Rattle.script_lines.proofs.FieldLemmas.{first, second}
use Rattle.script_forms.specs.Ranges.{in_limits, in_range}
use Rattle.script_text.specs.Script.{Contents, contents}
use Rattle.script_text.specs.Closed.{is_script, all_closed}
use Rattle.doc_model.specs.Feeding.{lawful}
use Rattle.machine_model.specs.State.{State, new_state}
use Rattle.machine_model.specs.Settled.{IsSettled}
use Rattle.machine_model.proofs.Turns.{settled_tells}
use Rattle.trace_lines.specs.Replay.{replay, slots_in}
use Rattle.trace_lines.specs.Texts.{head_text, line_text, trace_lines}
use Rattle.trace_lines.specs.PrintLaws.{IsSettlingText}
use Rattle.trace_lines.specs.Leads.{led_to}
use Rattle.trace_lines.proofs.PrintedTraces.{printed_replays}
use Rattle.trace_out.specs.Writing.{Writes}
use Rattle.trace_out.specs.Traces.{IsTraceOf}

-- the canvas of a script is one of the limits, and its commands' numbers are in their ranges
pub canvas_fits : (s : Contents) → is_script s ≡ true → in_limits s.canvas ≡ true
unfolding is_script
canvas_fits s h = first (in_limits s.canvas) (list_all in_range s.commands) (first (in_limits s.canvas && list_all in_range s.commands) (lawful s.commands && all_closed s.commands) h)

pub commands_fit : (s : Contents) → is_script s ≡ true → list_all in_range s.commands ≡ true
unfolding is_script
commands_fit s h = second (in_limits s.canvas) (list_all in_range s.commands) (first (in_limits s.canvas && list_all in_range s.commands) (lawful s.commands && all_closed s.commands) h)

text_is : (n : ℕ) (c : Canvas) (t : State) (bytes : List ℕ) (w : Writes (new_state c n) (head_text n c) t bytes) → bytes ≡ trace_lines n c w.lines
unfolding trace_lines
text_is n c t bytes w = w.text

pub is_trace : (script : Contents) (n : ℕ) (t : State) (bytes : List ℕ) → is_script script ≡ true → 1 ≤ n → n ≤ 17 → Writes (new_state script.canvas n) (head_text n script.canvas) t bytes → IsSettled t → t.fed ≡ script.commands → IsTraceOf script n bytes
is_trace script n t bytes is some few w rests fed = record {
  last = t;
  replays = ap replay text ∙ printed_replays.replays n script.canvas w.lines t settling;
  script_is = λ i. contents (w.canvas i) (fed i);
  slots_are = ap slots_in text ∙ printed_replays.slots n script.canvas w.lines t settling;
}
  where
    settling : IsSettlingText n script.canvas w.lines t
    settling = record { some_slot = some; few_slots = few; canvas_fits = canvas_fits script is; lines_fit = w.fit; leads = w.leads; settled = settled_tells.told t rests }

    text : bytes ≡ trace_lines n script.canvas w.lines
    text = text_is n script.canvas t bytes w

-- what was written since nothing was fed, by the canvas that was given
pub from_new : {s t : State} {a b : List ℕ} (n : ℕ) (c d : Canvas) → c ≡ d → s ≡ new_state c n → a ≡ head_text n c → Writes s a t b → Writes (new_state d n) (head_text n d) t b
from_new n c d same new head w =
    let start = new ∙ ap (λ x. new_state x n) same in
    record {
      lines = w.lines;
      fit = w.fit;
      leads = ap (λ x. led_to x w.lines) (sym start) ∙ w.leads;
      text = w.text ∙ ap (λ l. l ++ flat_map line_text w.lines) (head ∙ ap (head_text n) same);
      canvas = w.canvas ∙ ap (λ (x : State). x.canvas) start;
    }

at_most : (a b : ℕ) → nat_le a b ≡ true → a ≤ b
at_most a b h = grind (arith, nat_tests)

equal : (a b : ℕ) → (a == b) ≡ true → a ≡ b
equal a b h = grind (arith, nat_tests)

-- the canvas of a script, read from it, is one of the limits
pub limits_of : (s : Contents) {c : Canvas} → is_script s ≡ true → c ≡ s.canvas → IsOfLimits c
limits_of s is e = subst IsOfLimits (sym e) (record {
  w = (at_most 1 s.canvas.w (first _ _ columns), at_most s.canvas.w 2048 (second (nat_le 1 s.canvas.w) _ columns));
  h = (at_most 1 s.canvas.h (first _ _ rows), at_most s.canvas.h 2048 (second (nat_le 1 s.canvas.h) _ rows));
  paper = equal s.canvas.paper.a 255 (second (is_pixel s.canvas.paper) (s.canvas.paper.a == 255) (second ((nat_le 1 s.canvas.w && nat_le s.canvas.w 2048) && (nat_le 1 s.canvas.h && nat_le s.canvas.h 2048)) (is_pixel s.canvas.paper && (s.canvas.paper.a == 255)) fits));
})
  where
    fits : in_limits s.canvas ≡ true
    fits = canvas_fits s is

    sides : ((nat_le 1 s.canvas.w && nat_le s.canvas.w 2048) && (nat_le 1 s.canvas.h && nat_le s.canvas.h 2048)) ≡ true
    sides = first ((nat_le 1 s.canvas.w && nat_le s.canvas.w 2048) && (nat_le 1 s.canvas.h && nat_le s.canvas.h 2048)) (is_pixel s.canvas.paper && (s.canvas.paper.a == 255)) fits

    columns : (nat_le 1 s.canvas.w && nat_le s.canvas.w 2048) ≡ true
    columns = first (nat_le 1 s.canvas.w && nat_le s.canvas.w 2048) (nat_le 1 s.canvas.h && nat_le s.canvas.h 2048) sides

    rows : (nat_le 1 s.canvas.h && nat_le s.canvas.h 2048) ≡ true
    rows = second (nat_le 1 s.canvas.w && nat_le s.canvas.w 2048) (nat_le 1 s.canvas.h && nat_le s.canvas.h 2048) sides
