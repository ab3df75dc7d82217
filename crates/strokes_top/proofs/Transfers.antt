-- What several writes and reads in a row do.
use Rattle.std.proofs.Common.{◌≡◌, ℕ, ◌+◌, ◌-◌, ◌≤◌, List, [], ◌++◌, length, length-append, Option, Some, None, Result, Ok, Err, OnOk, OnErr, sym, arith}
use Rattle.std.specs.Io.KnownBytes.{Appends, Consumes, IsAtEnd}
use Rattle.std.proofs.KnownBytes.{Consumes-trans}
use Rattle.std.proofs.lemmas.List.{append-nil}
use Rattle.io_edge.specs.declared.outside.Failed.{Failed}
use Rattle.io_edge.specs.Told.{AppendsPrefix, Rose}
use Rattle.script_text.specs.declared.script.ScriptFault.{ScriptFault}
use Rattle.script_text.specs.Reading.{fault}
use Rattle.strokes_top.specs.declared.transfer.ReadError.{ReadError}
use Rattle.strokes_top.specs.declared.transfer.ReadError.TheVariants as read
use Rattle.strokes_top.specs.Reading.{WasRead, ConsumesAtMost}
use Rattle.strokes_top.specs.Sources.{Takes, ReadsUpTo}
use Rattle.strokes_top.specs.Parts.{HasFault}

-- all of a line is a prefix of it
pub prefix_of_either : (r : Result (Unit {0}) Failed) (old new : Option (List ℕ)) (line : List ℕ) → OnOk r (Appends old new line) → OnErr r (AppendsPrefix old new line) → AppendsPrefix old new line
prefix_of_either (Ok u) old new line all some = (line, [], sym (append-nil line), all)
prefix_of_either (Err e) old new line all some = some

-- with the bytes that were taken a count rose from its start to where it is
pub record IsCounted (start : ℕ) (before now : Option (List ℕ)) (count : ℕ) : Type 0 where
  pub got : List ℕ
  pub consumed : Consumes before now got
  pub size : start + length got ≡ count

module _ (start : ℕ) (before now : Option (List ℕ)) (count : ℕ) (c : IsCounted start before now count) (next : Option (List ℕ)) where
  pub more_counted : (piece : List ℕ) (n : ℕ) → Consumes now next piece → length piece ≡ n → IsCounted start before next (count + n)
  more_counted piece n h e = record { got = c.got ++ piece; consumed = Consumes-trans before now next c.got piece c.consumed h; size = omega (arith, length-append c.got piece, c.size, e) }

  -- what was read up to the rest of a limit was read up to all of it
  pub reads_in_all : (limit faults faults_then faults_now : ℕ) (error : Option ReadError) → count ≤ limit → faults ≤ faults_then
      → ReadsUpTo (limit - count) now next faults_then faults_now error → ReadsUpTo (limit - start) before next faults faults_now error
  reads_in_all limit faults faults_then faults_now error few before_that r = record {
    taken = in_all error r.taken;
    failed = λ e. let rose : Rose faults_then faults_now = r.failed e in omega arith;
    later = omega (arith, r.later);
  }
    where
      in_all : (o : Option ReadError) → Takes (limit - count) now next o → Takes (limit - start) before next o
      in_all None m = (c.got ++ m.0, Consumes-trans before now next c.got m.0 c.consumed m.1, omega (arith, length-append c.got m.0, c.size, m.2))
      in_all (Some read.Failed) m = (c.got ++ m.0, Consumes-trans before now next c.got m.0 c.consumed m.1, omega (arith, length-append c.got m.0, c.size, m.2))
      in_all (Some read.TooLong) m = (
        c.got ++ m.0,
        Consumes-trans before now next c.got m.0 c.consumed m.1,
        omega (arith, length-append c.got m.0, c.size, m.2),
        omega (arith, length-append c.got m.0, c.size, m.3),
      )

-- what was read is so many bytes
pub gathered_counted : (before now : Option (List ℕ)) (bytes : List ℕ) (count : ℕ) → Consumes before now bytes → count ≡ length bytes → IsCounted 0 before now count
gathered_counted before now bytes count h is = record { got = bytes; consumed = h; size = omega (arith, is) }

-- where no read fails, so many bytes more were taken at most
pub reads_counted : (before now : Option (List ℕ)) (count limit faults faults_now : ℕ) → IsCounted 0 before now count → count ≤ limit → faults ≤ faults_now → ReadsUpTo limit before now faults faults_now None
reads_counted before now count limit faults faults_now c few later = record {
  taken = (c.got, c.consumed, omega (arith, c.size));
  failed = λ e. cc;
  later = later;
}

-- what was read of a source, with a fault that stays its first, and then all the rest
pub faulty_source : (before now next : Option (List ℕ)) (got : List ℕ) (limit : ℕ) (f : ScriptFault) → Consumes before now got → ((more : List ℕ) → fault (got ++ more) ≡ Some f) → ConsumesAtMost limit now next → IsAtEnd next → WasRead before next (HasFault f)
faulty_source before now next got limit f h bad m end = (got ++ m.0, Consumes-trans before now next got m.0 h m.1, end, bad m.0)
