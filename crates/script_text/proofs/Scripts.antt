-- What holds of every script.
use Rattle.std.proofs.Common.{◌≡◌, ◌≤◌, ℕ, true, ◌&&◌, arith, eqb}
use Rattle.std.specs.Prelude.{nat_le}
use Rattle.std.specs.List.{list_all}
use Rattle.std.proofs.lemmas.Bool.Decides.{nat_tests}
use Rattle.geom_core.proofs.Tests.{and_left, and_right}
use Rattle.doc_model.specs.Canvases.{IsOfLimits}
use Rattle.doc_model.specs.Feeding.{lawful, is_closed_entry}
use Rattle.doc_model.specs.Strokes.{entries}
use Rattle.script_lines.specs.Colours.{is_pixel}
use Rattle.script_forms.specs.Ranges.{in_limits, in_range}
use Rattle.script_text.specs.Script.{Contents}
use Rattle.script_text.specs.Closed.{all_closed, is_script}
use Rattle.std.proofs.lemmas.Bool.{eqb-true}

pub record HoldsOfScript (s : Contents) : Type 0 where
  pub canvas : IsOfLimits s.canvas
  pub follows : lawful s.commands ≡ true
  pub closed : list_all is_closed_entry (entries s.commands) ≡ true

at_most : (a b : ℕ) → nat_le a b ≡ true → a ≤ b
at_most a b h = grind (arith, nat_tests)

pub script_holds : (s : Contents) → is_script s ≡ true → HoldsOfScript s
unfolding is_script
script_holds s h =
    let front : (in_limits s.canvas && list_all in_range s.commands) ≡ true = and_left (in_limits s.canvas && list_all in_range s.commands) _ h in
    let rest : (lawful s.commands && all_closed s.commands) ≡ true = and_right (in_limits s.canvas && list_all in_range s.commands) _ h in
    let limits : in_limits s.canvas ≡ true = and_left (in_limits s.canvas) _ front in
    let sides : ((nat_le 1 s.canvas.w && nat_le s.canvas.w 2048) && (nat_le 1 s.canvas.h && nat_le s.canvas.h 2048)) ≡ true = and_left ((nat_le 1 s.canvas.w && nat_le s.canvas.w 2048) && (nat_le 1 s.canvas.h && nat_le s.canvas.h 2048)) _ limits in
    let columns : (nat_le 1 s.canvas.w && nat_le s.canvas.w 2048) ≡ true = and_left (nat_le 1 s.canvas.w && nat_le s.canvas.w 2048) _ sides in
    let rows : (nat_le 1 s.canvas.h && nat_le s.canvas.h 2048) ≡ true = and_right (nat_le 1 s.canvas.w && nat_le s.canvas.w 2048) _ sides in
    record {
      canvas = record {
        w = (at_most 1 s.canvas.w (and_left (nat_le 1 s.canvas.w) _ columns), at_most s.canvas.w 2048 (and_right (nat_le 1 s.canvas.w) _ columns));
        h = (at_most 1 s.canvas.h (and_left (nat_le 1 s.canvas.h) _ rows), at_most s.canvas.h 2048 (and_right (nat_le 1 s.canvas.h) _ rows));
        paper = eqb-true s.canvas.paper.a 255 (and_right (is_pixel s.canvas.paper) _ (and_right ((nat_le 1 s.canvas.w && nat_le s.canvas.w 2048) && (nat_le 1 s.canvas.h && nat_le s.canvas.h 2048)) _ limits));
      };
      follows = and_left (lawful s.commands) _ rest;
      closed = and_right (lawful s.commands) _ rest;
    }
