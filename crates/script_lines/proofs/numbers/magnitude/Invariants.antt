use Rattle.std.proofs.Common.{◌≡◌, ◌<◌, ◌≤◌, ◌^◌, take, length, true}
use Rattle.std.specs.Char.{is_ascii_digit}
use Rattle.std.specs.List.{list_all}
use Rattle.std.specs.Str.Parse.{digits_value}
use Rattle.script_lines.proofs.numbers.magnitude.Given as goal

abbrev pub invariant-loop-b : goal.invariant-loop-b
invariant-loop-b l = record {
  short : length l.bytes ≤ 10;
  some : 1 ≤ length l.bytes;
  small : l.n < 10 ^ l.b-index;
  digits : list_all is_ascii_digit (take l.b-index l.bytes) ≡ true;
  value : l.n ≡ digits_value 10 (take l.b-index l.bytes);
}
