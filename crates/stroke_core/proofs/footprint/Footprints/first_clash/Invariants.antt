use Rattle.std.proofs.Common.{◌≡◌, ◌≤◌, ◌-◌, ◌*◌, drop, length}
use Rattle.std.specs.Prelude.{position}
use Rattle.stroke_core.specs.Fed.{plus}
use Rattle.stroke_core.specs.Marks.{marks_clash}
use Rattle.stroke_core.proofs.footprint.Footprints.first_clash.Given as goal

-- no job of the blocks so far clashes
abbrev pub invariant-loop-i : goal.invariant-loop-i
invariant-loop-i l = record {
  inside : l.i ≤ length l.blocks;
  behind : position (λ f. marks_clash f l.new) l.self ≡ plus (64 * l.i) (position (λ f. marks_clash f l.new) (drop (64 * l.i) l.self));
}

abbrev pub decreases-loop-i : goal.decreases-loop-i
decreases-loop-i l = length l.blocks - l.i
