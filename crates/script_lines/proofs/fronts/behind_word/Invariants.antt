use Rattle.std.proofs.Common.{◌≡◌, ℕ, ◌<◌, ◌≤◌, length, get_or}
use Rattle.script_lines.proofs.fronts.behind_word.Given as goal

abbrev pub invariant-loop-i : goal.invariant-loop-i
invariant-loop-i l = record {
  fits : length l.word ≤ length l.text;
  same : (k : ℕ) → k < l.i → get_or l.text k 0 ≡ get_or l.word k 0;
}
