-- How a run ends, by how its parts end.
use Rattle.std.proofs.Common.{◌≡◌, ◌⊎◌, inl, inr, ℕ, Bool, true, false, List, Option, Some, None, is_some, IsSomeAnd, refl, sym, ap, subst}
use Rattle.std.specs.Option.{option_map_or}
use Rattle.std.specs.Io.KnownBytes.{Keeps}
use Rattle.script_text.specs.Script.{Contents}
use Rattle.script_text.specs.Reading.{fault}
use Rattle.trace_lines.specs.Replay.{trace_fault}
use Rattle.strokes_top.specs.declared.choice.Choice.{Choice}
use Rattle.strokes_top.specs.declared.source.SourceError.{SourceError}
use Rattle.strokes_top.specs.declared.source.SourceError.TheVariants as source
use Rattle.strokes_top.specs.declared.transfer.ReadError.{ReadError}
use Rattle.strokes_top.specs.declared.transfer.ReadError.TheVariants.{Failed, TooLong}
use Rattle.strokes_top.specs.declared.status.Status.{Status}
use Rattle.strokes_top.specs.declared.status.Status.TheVariants as status
use Rattle.strokes_top.specs.Choice.{choice}
use Rattle.strokes_top.specs.Status.{may_write}
use Rattle.strokes_top.specs.Reading.{WasRead, asks_for_demo, limit_of, limit_for, ConsumesAtMost}
use Rattle.strokes_top.specs.Sources.{Takes, ReadsUpTo, IsNoScript, read_error, of_source}
use Rattle.strokes_top.specs.Run.{IsWritten, IsOf, IsAnswered}
use Rattle.strokes_top.specs.Ends.{is_script, read_end, Paints, Ends}
use Rattle.strokes_top.proofs.Givings.{answered}

some_of : (P : Choice → Type 0) (o : Option Choice) → IsSomeAnd o P → is_some o ≡ true
some_of P None h = absurd h
some_of P (Some c) h = refl

-- the error of a read is told as such
pub read_end_of : (e : SourceError) → read_end (of_source e) ≡ read_error e
read_end_of (source.Script f) = refl
read_end_of (source.Trace line cause) = refl
read_end_of (source.Read Failed) = refl
read_end_of (source.Read TooLong) = refl
read_end_of source.NoMemory = refl

-- the words aren't at fault where there is no script
pub no_usage : (e : SourceError) → of_source e ≡ status.Usage → ⊥
no_usage (source.Script f) h = cc
no_usage (source.Trace line cause) h = cc
no_usage (source.Read Failed) h = cc
no_usage (source.Read TooLong) h = cc
no_usage source.NoMemory h = cc

module _ (before after : Option (List ℕ)) (c : Choice) (s : Contents) where
  -- painting ends neither with the words at fault nor with what was read
  pub no_usage_painted : (st : Status) → Paints st before after c s → st ≡ status.Usage → ⊥
  no_usage_painted st h u = (subst (λ t. Paints t before after c s) u h).writes

  pub unread_painted : (st : Status) → Paints st before after c s → read_end st ≡ None
  unread_painted status.Done h = refl
  unread_painted status.DoneWithRefusals h = refl
  unread_painted status.Usage h = refl
  unread_painted (status.Script line cause) h = refl
  unread_painted status.ReadFault h = absurd h.writes
  unread_painted status.WriteFault h = refl
  unread_painted status.NoMemory h = refl
  unread_painted status.TooLong h = absurd h.writes
  unread_painted (status.Trace line cause) h = refl

  pub nothing_painted : (st : Status) → Paints st before after c s → may_write st ≡ false → Keeps before after
  nothing_painted status.NoMemory h e = h
  nothing_painted status.Done h e = cc
  nothing_painted status.DoneWithRefusals h e = cc
  nothing_painted status.WriteFault h e = cc
  nothing_painted status.Usage h e = absurd h.writes
  nothing_painted (status.Script line cause) h e = absurd h.writes
  nothing_painted status.ReadFault h e = absurd h.writes
  nothing_painted status.TooLong h e = absurd h.writes
  nothing_painted (status.Trace line cause) h e = absurd h.writes

module _ (words : List (List ℕ)) (c : Choice) (is : choice words ≡ Some c) (left rest : Option (List ℕ)) where
  at_choice : (P : Choice → Type 0) → P c → IsSomeAnd (choice words) P
  at_choice P p = subst (λ o. IsSomeAnd o P) (sym is) p

  pub reads_for : (faults faults_now : ℕ) (e : Option ReadError) → ReadsUpTo (limit_of c.replay) left rest faults faults_now e → ReadsUpTo (limit_for words) left rest faults faults_now e
  reads_for faults faults_now e h = subst (λ o. ReadsUpTo (limit_of (option_map_or (λ d. d.replay) o false)) left rest faults faults_now e) (sym is) h

  -- where a script is generated, or the words are at fault
  pub unless_read : (P : Type 0) (st : Status) → (st ≡ status.Usage → ⊥) → (is_some c.demo ≡ true → P) → (st ≡ status.Usage) ⊎ (asks_for_demo words ≡ true) → P
  unless_read P st other f (inl u) = absurd (other u)
  unless_read P st other f (inr asks) = f (subst (λ o. option_map_or (λ d. is_some d.demo) o false ≡ true) is asks)

  module _ (before after : Option (List ℕ)) where
    by_cause : (number : Option ℕ) (replays : Bool) (e : SourceError) → c.demo ≡ number → c.replay ≡ replays → IsNoScript number replays left rest e → Ends (of_source e) words left rest before after
    by_cause number replays source.NoMemory d r h = tt
    by_cause None replays (source.Read Failed) d r h = at_choice (λ d. d.demo ≡ None) d
    by_cause None replays (source.Read TooLong) d r h = at_choice (λ d. d.demo ≡ None) d
    by_cause None false (source.Script f) d r h = at_choice (λ d. (d.demo ≡ None) × (d.replay ≡ false) × WasRead left rest (λ bytes. fault bytes ≡ Some f)) (d, r, h)
    by_cause None true (source.Script f) d r h = absurd h
    by_cause None true (source.Trace line cause) d r h = at_choice (λ d. (d.replay ≡ true) × WasRead left rest (λ bytes. trace_fault bytes ≡ Some (record { line = line; cause = cause }))) (r, h)
    by_cause None false (source.Trace line cause) d r h = absurd h
    by_cause (Some n) replays (source.Read e) d r h = absurd h
    by_cause (Some n) replays (source.Script f) d r h = absurd h
    by_cause (Some n) replays (source.Trace line cause) d r h = absurd h

    -- where there is no script
    pub ends_unscripted : (e : SourceError) → IsNoScript c.demo c.replay left rest e → Ends (of_source e) words left rest before after
    ends_unscripted e h = by_cause c.demo c.replay e refl refl h

    -- where there is one
    pub ends_painted : (st : Status) (s : Contents) → IsOf (λ t. t ≡ s) c.demo c.replay left rest → Paints st before after c s → Ends st words left rest before after
    ends_painted status.Done s given h = answered (IsWritten status.Done before after) words left rest c s is given h
    ends_painted status.DoneWithRefusals s given h = answered (IsWritten status.DoneWithRefusals before after) words left rest c s is given h
    ends_painted status.WriteFault s given h = answered (IsWritten status.WriteFault before after) words left rest c s is given h
    ends_painted status.NoMemory s given h = tt
    ends_painted status.Usage s given h = absurd h.writes
    ends_painted (status.Script line cause) s given h = absurd h.writes
    ends_painted status.ReadFault s given h = absurd h.writes
    ends_painted status.TooLong s given h = absurd h.writes
    ends_painted (status.Trace line cause) s given h = absurd h.writes

-- a status is told as it is, or memory ran out as it was told
pub was : (told st x : Status) → (told ≡ st) ⊎ (told ≡ status.NoMemory) → (x ≡ status.NoMemory → ⊥) → told ≡ x → st ≡ x
was told st x (inl same) other h = cc
was told st x (inr no_memory) other h = let wrong : x ≡ status.NoMemory = cc in absurd (other wrong)

module _ (words : List (List ℕ)) (left rest before after : Option (List ℕ)) (told st : Status) (same : (told ≡ st) ⊎ (told ≡ status.NoMemory)) where
  pub ends_told : Ends st words left rest before after → Ends told words left rest before after
  ends_told h = go same
    where
      go : (told ≡ st) ⊎ (told ≡ status.NoMemory) → Ends told words left rest before after
      go (inl e) = subst (λ t. Ends t words left rest before after) (sym e) h
      go (inr e) = subst (λ t. Ends t words left rest before after) (sym e) tt

  pub reads_told : (faults faults_now : ℕ) → (is_script st ≡ false → told ≡ st) → ReadsUpTo (limit_for words) left rest faults faults_now (read_end st) → ReadsUpTo (limit_for words) left rest faults faults_now (read_end told)
  reads_told faults faults_now others h = go same
    where
      unread : (s : Status) → told ≡ status.NoMemory → (is_script s ≡ false → told ≡ s) → ReadsUpTo (limit_for words) left rest faults faults_now (read_end s) → ReadsUpTo (limit_for words) left rest faults faults_now None
      unread status.ReadFault e f r = let wrong : told ≡ status.ReadFault = f refl in cc
      unread status.TooLong e f r = let wrong : told ≡ status.TooLong = f refl in cc
      unread status.Done e f r = r
      unread status.DoneWithRefusals e f r = r
      unread status.Usage e f r = r
      unread (status.Script line cause) e f r = r
      unread status.WriteFault e f r = r
      unread status.NoMemory e f r = r
      unread (status.Trace line cause) e f r = r

      go : (told ≡ st) ⊎ (told ≡ status.NoMemory) → ReadsUpTo (limit_for words) left rest faults faults_now (read_end told)
      go (inl e) = subst (λ t. ReadsUpTo (limit_for words) left rest faults faults_now (read_end t)) (sym e) h
      go (inr e) = subst (λ t. ReadsUpTo (limit_for words) left rest faults faults_now (read_end t)) (sym e) (unread st e others h)

module _ (words : List (List ℕ)) (left rest before after : Option (List ℕ)) where
  -- where something may have been written
  pub ends_written : (st : Status) → may_write st ≡ true → Ends st words left rest before after → IsAnswered (IsWritten st before after) words left rest
  ends_written status.Done may h = h
  ends_written status.DoneWithRefusals may h = h
  ends_written status.WriteFault may h = h
  ends_written status.Usage may h = cc
  ends_written (status.Script line cause) may h = cc
  ends_written status.ReadFault may h = cc
  ends_written status.NoMemory may h = cc
  ends_written status.TooLong may h = cc
  ends_written (status.Trace line cause) may h = cc

  -- the words were taken
  pub ends_taken : (st : Status) → (st ≡ status.Usage → ⊥) → (st ≡ status.NoMemory → ⊥) → Ends st words left rest before after → is_some (choice words) ≡ true
  ends_taken status.Done u m h = some_of _ (choice words) h
  ends_taken status.DoneWithRefusals u m h = some_of _ (choice words) h
  ends_taken status.WriteFault u m h = some_of _ (choice words) h
  ends_taken (status.Script line cause) u m h = some_of _ (choice words) h
  ends_taken (status.Trace line cause) u m h = some_of _ (choice words) h
  ends_taken status.ReadFault u m h = some_of _ (choice words) h
  ends_taken status.TooLong u m h = some_of _ (choice words) h
  ends_taken status.Usage u m h = absurd (u refl)
  ends_taken status.NoMemory u m h = absurd (m refl)

-- no script is to be generated where the source is to be read
pub unasked : (o : Option Choice) → IsSomeAnd o (λ c. c.demo ≡ None) → option_map_or (λ c. is_some c.demo) o false ≡ false
unasked None h = absurd h
unasked (Some c) h = ap is_some h

-- at most so many bytes were taken, where there weren't too many
pub takes_few : (limit : ℕ) (left rest : Option (List ℕ)) (st : Status) → (st ≡ status.TooLong → ⊥) → Takes limit left rest (read_end st) → ConsumesAtMost limit left rest
takes_few limit left rest status.TooLong short m = absurd (short refl)
takes_few limit left rest status.ReadFault short m = m
takes_few limit left rest status.Done short m = m
takes_few limit left rest status.DoneWithRefusals short m = m
takes_few limit left rest status.Usage short m = m
takes_few limit left rest (status.Script line cause) short m = m
takes_few limit left rest status.WriteFault short m = m
takes_few limit left rest status.NoMemory short m = m
takes_few limit left rest (status.Trace line cause) short m = m
