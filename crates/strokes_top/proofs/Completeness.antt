-- Where nothing fails an input without fault has an output, if memory suffices.
use Rattle.std.proofs.Common.{◌≡◌, ◌∙◌, ◌⊎◌, inl, inr, ℕ, ◌+◌, ◌≤◌, true, false, List, ◌++◌, length, length-append, append-nil, Option, Some, None, IsSomeAnd, refl, sym, ap, subst, arith}
use Rattle.std.specs.Option.{option_map_or}
use Rattle.io_edge.specs.Told.{Rose}
use Rattle.script_text.specs.Reading.{fault}
use Rattle.script_text.specs.declared.script.ScriptFault.{ScriptFault}
use Rattle.trace_lines.specs.declared.line.TraceFault.{TraceFault}
use Rattle.trace_lines.specs.Replay.{trace_fault}
use Rattle.strokes_top.specs.declared.choice.Choice.{Choice}
use Rattle.strokes_top.specs.declared.status.Status.{Status}
use Rattle.strokes_top.specs.declared.status.Status.TheVariants as status
use Rattle.strokes_top.specs.Choice.{choice}
use Rattle.strokes_top.specs.Status.{is_done}
use Rattle.strokes_top.specs.Reading.{WasRead, IsFaulty, limit_of, limit_for, ConsumesMore, HasScript, IsGivenScript}
use Rattle.strokes_top.specs.Traces.{IsFaultyTrace, IsGivenTrace}
use Rattle.strokes_top.specs.Sources.{ReadsUpTo}
use Rattle.strokes_top.specs.Ends.{Ends, read_end}

-- all bytes were read that were left
read_all : (bytes : List ℕ) (rest : Option (List ℕ)) (P : List ℕ → Type 0) → WasRead (Some bytes) rest P → P bytes
read_all bytes None P r = absurd r.1
read_all bytes (Some behind) P r =
    let all : bytes ≡ r.0 = r.1 ∙ (ap (λ l. r.0 ++ l) r.2 ∙ append-nil r.0) in
    subst P (sym all) r.3

-- no more were read than were left
few_read : (bytes : List ℕ) (rest : Option (List ℕ)) (limit piece : ℕ) → length bytes ≤ limit → ConsumesMore limit piece (Some bytes) rest → ⊥
few_read bytes None limit piece few m = m.1
few_read bytes (Some behind) limit piece few m = omega (arith, ap length m.1, length-append m.0 behind, m.2, few)

-- how a run ends that has an output, or for which memory doesn't suffice
abbrev pub EndsWell : Status → Type 0
EndsWell st = (is_done st ≡ true) ⊎ (st ≡ status.NoMemory)

module _ (words : List (List ℕ)) (left rest before after : Option (List ℕ)) (faults faults_now : ℕ) (WriteRose : Type 0) where
  -- what is known of a status
  pub record IsCaused (st : Status) : Type 0 where
    pub ends : Ends st words left rest before after
    pub reads : ReadsUpTo (limit_for words) left rest faults faults_now (read_end st)
    pub write_fault : st ≡ status.WriteFault → WriteRose

  -- what rules out the status of an input that has a fault
  record Rules : Type 0 where
    some : choice words ≡ None → ⊥
    script : (f : ScriptFault) → IsFaulty f words left rest → ⊥
    trace : (f : TraceFault) → IsFaultyTrace f words left rest → ⊥
    short : IsSomeAnd (choice words) (λ c. c.demo ≡ None) → ConsumesMore (limit_for words) 16384 left rest → ⊥

  ends : (st : Status) → IsCaused st → Rules → (Rose faults faults_now → ⊥) → (WriteRose → ⊥) → EndsWell st
  ends status.Done c r no_read no_write = inl refl
  ends status.DoneWithRefusals c r no_read no_write = inl refl
  ends status.Usage c r no_read no_write = absurd (r.some c.ends)
  ends (status.Script line cause) c r no_read no_write = absurd (r.script _ c.ends)
  ends status.ReadFault c r no_read no_write = absurd (no_read (c.reads.failed refl))
  ends status.WriteFault c r no_read no_write = absurd (no_write (c.write_fault refl))
  ends status.NoMemory c r no_read no_write = inr refl
  ends status.TooLong c r no_read no_write = absurd (r.short c.ends c.reads.taken)
  ends (status.Trace line cause) c r no_read no_write = absurd (r.trace _ c.ends)

  pub script_ends : (st : Status) → IsCaused st → IsGivenScript words left → (Rose faults faults_now → ⊥) → (WriteRose → ⊥) → EndsWell st
  script_ends st c given no_read no_write = ends st c (rules (choice words) refl given) no_read no_write
    where
      no_fault : (number : Option ℕ) (left' : Option (List ℕ)) (f : ScriptFault) → number ≡ None → HasScript number left' → WasRead left' rest (λ bytes. fault bytes ≡ Some f) → ⊥
      no_fault (Some n) left' f none' has r = cc
      no_fault None None f none' has r = has
      no_fault None (Some bytes) f none' has r =
          let wrong : fault bytes ≡ Some f = read_all bytes rest (λ b. fault b ≡ Some f) r in
          let none'' : fault bytes ≡ None = has.1 in
          cc

      few : (number : Option ℕ) (left' : Option (List ℕ)) → number ≡ None → HasScript number left' → ConsumesMore 1048576 16384 left' rest → ⊥
      few (Some n) left' none' has m = cc
      few None None none' has m = has
      few None (Some bytes) none' has m = few_read bytes rest 1048576 16384 has.0 m

      rules : (o : Option Choice) → choice words ≡ o → IsSomeAnd o (λ c. (c.replay ≡ false) × HasScript c.demo left) → Rules
      rules None is h = absurd h
      rules (Some c) is h = record {
        some = λ none'. cc;
        script = λ f k. let k' = subst (λ o. IsSomeAnd o (λ d. (d.demo ≡ None) × (d.replay ≡ false) × WasRead left rest (λ bytes. fault bytes ≡ Some f))) is k in no_fault c.demo left f k'.0 h.1 k'.2;
        trace = λ f k. let k' = subst (λ o. IsSomeAnd o (λ d. (d.replay ≡ true) × WasRead left rest (λ bytes. trace_fault bytes ≡ Some f))) is k in let same : c.replay ≡ true = k'.0 in let other : c.replay ≡ false = h.0 in cc;
        short = λ reads m. few c.demo left (subst (λ o. IsSomeAnd o (λ d. d.demo ≡ None)) is reads) h.1
            (subst (λ b. ConsumesMore (limit_of b) 16384 left rest) h.0 (subst (λ o. ConsumesMore (limit_of (option_map_or (λ d. d.replay) o false)) 16384 left rest) is m));
      }

  pub trace_ends : (st : Status) → IsCaused st → IsGivenTrace words left → (Rose faults faults_now → ⊥) → (WriteRose → ⊥) → EndsWell st
  trace_ends st c given no_read no_write = ends st c (rules (choice words) refl given) no_read no_write
    where
      no_fault : (left' : Option (List ℕ)) (f : TraceFault) → IsSomeAnd left' (λ bytes. (length bytes ≤ 16777216) × (trace_fault bytes ≡ None)) → WasRead left' rest (λ bytes. trace_fault bytes ≡ Some f) → ⊥
      no_fault None f has r = has
      no_fault (Some bytes) f has r =
          let wrong : trace_fault bytes ≡ Some f = read_all bytes rest (λ b. trace_fault b ≡ Some f) r in
          let none' : trace_fault bytes ≡ None = has.1 in
          cc

      few : (left' : Option (List ℕ)) → IsSomeAnd left' (λ bytes. (length bytes ≤ 16777216) × (trace_fault bytes ≡ None)) → ConsumesMore 16777216 16384 left' rest → ⊥
      few None has m = has
      few (Some bytes) has m = few_read bytes rest 16777216 16384 has.0 m

      rules : (o : Option Choice) → choice words ≡ o → IsSomeAnd o (λ c. (c.replay ≡ true) × IsSomeAnd left (λ bytes. (length bytes ≤ limit_of true) × (trace_fault bytes ≡ None))) → Rules
      rules None is h = absurd h
      rules (Some c) is h = record {
        some = λ none'. cc;
        script = λ f k. let k' = subst (λ o. IsSomeAnd o (λ d. (d.demo ≡ None) × (d.replay ≡ false) × WasRead left rest (λ bytes. fault bytes ≡ Some f))) is k in let other : c.replay ≡ false = k'.1 in let same : c.replay ≡ true = h.0 in cc;
        trace = λ f k. let k' = subst (λ o. IsSomeAnd o (λ d. (d.replay ≡ true) × WasRead left rest (λ bytes. trace_fault bytes ≡ Some f))) is k in no_fault left f h.1 k'.1;
        short = λ reads m. few left h.1 (subst (λ b. ConsumesMore (limit_of b) 16384 left rest) h.0 (subst (λ o. ConsumesMore (limit_of (option_map_or (λ d. d.replay) o false)) 16384 left rest) is m));
      }
