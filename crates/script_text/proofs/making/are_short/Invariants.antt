use Rattle.std.proofs.Common.{◌≡◌, true, map, take}
use Rattle.std.specs.List.{list_all}
use Rattle.doc_model.specs.Tracks.{point_of}
use Rattle.script_forms.specs.Ranges.{is_short}
use Rattle.script_text.proofs.making.are_short.Given as goal

-- the points so far are in range
abbrev pub invariant-loop-i : goal.invariant-loop-i
invariant-loop-i l = (l.fit ≡ true) × (list_all is_short (map point_of (take l.i l.points)) ≡ true)
