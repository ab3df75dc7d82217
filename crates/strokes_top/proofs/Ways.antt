-- What a run has read and written, by what its words ask for.
use Rattle.std.proofs.Common.{◌≡◌, ◌∙◌, ℕ, ◌+◌, ◌&&◌, true, false, not, is_some, List, ◌++◌, Option, Some, None, IsSomeAnd, IfSome, refl, ap, subst}
use Rattle.script_lines.proofs.FieldLemmas.{first, second}
use Rattle.script_text.specs.Script.{Contents}
use Rattle.script_text.specs.Text.{text}
use Rattle.script_text.specs.Reading.{script}
use Rattle.trace_out.specs.Traces.{IsTraceOf}
use Rattle.strokes_top.specs.declared.choice.Emit.{Emit}
use Rattle.strokes_top.specs.declared.choice.Emit.TheVariants as emit
use Rattle.strokes_top.specs.declared.choice.Choice.{Choice}
use Rattle.strokes_top.specs.declared.status.Status.{Status}
use Rattle.strokes_top.specs.Choice.{choice, is_fit, is_trace, is_of_artists, lets_draw}
use Rattle.strokes_top.specs.Output.{output}
use Rattle.strokes_top.specs.Reading.{WasRead, Spells, IsOfScript}
use Rattle.strokes_top.specs.Written.{Writes, IsPainted}
use Rattle.strokes_top.specs.Together.{IsDrawnBy, IsPaintedTogether}
use Rattle.strokes_top.specs.Traces.{Replays, IsTraced, IsReplayed}
use Rattle.strokes_top.specs.Run.{IsDrawn, led, IsWhole, IsWritten, Gives, IsOf, IsAnswered}
use Rattle.strokes_top.proofs.Choices.{nothing, choice_fits, fit_draws, draws_of, draws_alone, trace_alone, trace_reads, replay_alone, replay_paints}
use Rattle.geom_core.proofs.Tests.{not_true}

-- what holds of each script that has P
some_weaker : (P Q : Contents → Type 0) → ((s : Contents) → P s → Q s) → (o : Option Contents) → IsSomeAnd o P → IsSomeAnd o Q
some_weaker P Q f None h = h
some_weaker P Q f (Some s) h = f s h

read_weaker : (P Q : List ℕ → Type 0) → ((b : List ℕ) → P b → Q b) → (left rest : Option (List ℕ)) → WasRead left rest P → WasRead left rest Q
read_weaker P Q f left rest r = (r.0, r.1, r.2, f r.0 r.3)

of_script : (P Q : Contents → Type 0) → ((s : Contents) → P s → Q s) → (number : Option ℕ) (left rest : Option (List ℕ)) → IsOf P number false left rest → IsOfScript Q number left rest
of_script P Q f (Some n) left rest h = f _ h
of_script P Q f None left rest h = read_weaker (Gives false P) (Spells Q) (λ b g. (g.0, some_weaker P Q f (script b) g.1)) left rest h

of_trace : (P Q : Contents → Type 0) → ((s : Contents) → P s → Q s) → (left rest : Option (List ℕ)) → IsOf P None true left rest → WasRead left rest (Replays Q)
of_trace P Q f left rest h = read_weaker (Gives true P) (Replays Q) (λ b g. (g.0, g.1, f _ g.2)) left rest h

-- what is no trace is the output behind its preface
whole_output : (e : Emit) (asked : Choice) (drawn : Contents) (bytes : List ℕ) → is_trace e ≡ false → IsWhole e asked drawn bytes → bytes ≡ led asked.artists e drawn
whole_output emit.Picture asked drawn bytes other h = h
whole_output emit.Log asked drawn bytes other h = h
whole_output emit.Sum asked drawn bytes other h = h
whole_output emit.Live asked drawn bytes other h = h
whole_output emit.Trace asked drawn bytes other h = cc

whole_trace : (e : Emit) (asked : Choice) (drawn : Contents) (bytes : List ℕ) → is_trace e ≡ true → IsWhole e asked drawn bytes → IsTraceOf drawn (asked.workers + 1) bytes
whole_trace emit.Trace asked drawn bytes is h = h
whole_trace emit.Picture asked drawn bytes is h = cc
whole_trace emit.Log asked drawn bytes is h = cc
whole_trace emit.Sum asked drawn bytes is h = cc
whole_trace emit.Live asked drawn bytes is h = cc

-- without artists the script itself was painted
alone : (artists : Option ℕ) (s drawn : Contents) → artists ≡ None → IsDrawn artists s drawn → drawn ≡ s
alone artists s drawn is h = subst (λ a. IsDrawn a s drawn) is h

module _ (st : Status) (before after : Option (List ℕ)) (c : Choice) where
  plain_written : c.artists ≡ None → is_trace c.emit ≡ false → (s : Contents) → IsWritten st before after c s → Writes st before after s (output c.emit s)
  plain_written no_artists other s h =
      let same : h.drawn ≡ s = alone c.artists s h.drawn no_artists h.is_drawn in
      let behind : h.bytes ≡ led c.artists c.emit h.drawn = whole_output c.emit c h.drawn h.bytes other h.whole in
      let is : h.bytes ≡ output c.emit h.drawn = behind ∙ ap (λ a. led a c.emit h.drawn) no_artists in
      subst (λ t. Writes st before after t (output c.emit t)) same (subst (λ b. Writes st before after h.drawn b) is h.writes)

  together_written : (n : ℕ) → c.artists ≡ Some n → is_trace c.emit ≡ false → (s : Contents) → IsWritten st before after c s
      → (drawn : Contents) × IsDrawnBy n s drawn × Writes st before after drawn (text drawn ++ output c.emit drawn)
  together_written n is other s h =
      let behind : h.bytes ≡ led c.artists c.emit h.drawn = whole_output c.emit c h.drawn h.bytes other h.whole in
      let whole : h.bytes ≡ text h.drawn ++ output c.emit h.drawn = behind ∙ ap (λ a. led a c.emit h.drawn) is in
      (h.drawn, subst (λ a. IsDrawn a s h.drawn) is h.is_drawn, subst (λ b. Writes st before after h.drawn b) whole h.writes)

  traced_written : c.artists ≡ None → is_trace c.emit ≡ true → (s : Contents) → IsWritten st before after c s → (bytes : List ℕ) × IsTraceOf s (c.workers + 1) bytes × Writes st before after s bytes
  traced_written no_artists is s h =
      let same : h.drawn ≡ s = alone c.artists s h.drawn no_artists h.is_drawn in (
        h.bytes,
        subst (λ t. IsTraceOf t (c.workers + 1) h.bytes) same (whole_trace c.emit c h.drawn h.bytes is h.whole),
        subst (λ t. Writes st before after t h.bytes) same h.writes,
      )

  module _ (left rest : Option (List ℕ)) where
    reads_script : (Q : Contents → Type 0) → c.replay ≡ false → ((s : Contents) → IsWritten st before after c s → Q s) → IsOf (IsWritten st before after c) c.demo c.replay left rest → IsOfScript Q c.demo left rest
    reads_script Q is f h = of_script (IsWritten st before after c) Q f c.demo left rest (subst (λ r. IsOf (IsWritten st before after c) c.demo r left rest) is h)

    plain_of : IsOf (IsWritten st before after c) c.demo c.replay left rest → IsPainted st left rest before after c
    plain_of h = λ plain.
        let rest_of : (not c.replay && not (is_trace c.emit)) ≡ true = second (not (is_some c.artists)) _ plain in
        let artists : c.artists ≡ None = nothing c.artists (not_true (is_some c.artists) (first (not (is_some c.artists)) _ plain)) in
        let reads : c.replay ≡ false = not_true c.replay (first (not c.replay) _ rest_of) in
        let other : is_trace c.emit ≡ false = not_true (is_trace c.emit) (second (not c.replay) _ rest_of) in
        reads_script (λ s. Writes st before after s (output c.emit s)) reads (plain_written artists other) h

    together_of : is_fit c ≡ true → IsOf (IsWritten st before after c) c.demo c.replay left rest → IsPaintedTogether st left rest before after c
    together_of fit h = λ n is.
        let draws : lets_draw c n ≡ true = fit_draws c n is fit in
        reads_script (λ s. (drawn : Contents) × IsDrawnBy n s drawn × Writes st before after drawn (text drawn ++ output c.emit drawn)) (draws_alone c n draws)
        (together_written n is (artists_paint c.emit (draws_of c n draws))) h
      where
        artists_paint : (e : Emit) → is_of_artists e ≡ true → is_trace e ≡ false
        artists_paint emit.Picture h = refl
        artists_paint emit.Log h = refl
        artists_paint emit.Sum h = refl
        artists_paint emit.Live h = refl
        artists_paint emit.Trace h = cc

    traced_of : is_fit c ≡ true → IsOf (IsWritten st before after c) c.demo c.replay left rest → IsTraced st left rest before after c
    traced_of fit h = λ is.
        reads_script (λ s. (bytes : List ℕ) × IsTraceOf s (c.workers + 1) bytes × Writes st before after s bytes) (trace_reads c fit is) (traced_written (trace_alone c fit is) is) h

    replayed_of : is_fit c ≡ true → IsOf (IsWritten st before after c) c.demo c.replay left rest → IsReplayed st left rest before after c
    replayed_of fit h = λ is.
        let no_number : c.demo ≡ None = (replay_alone c fit is).0 in
        let no_artists : c.artists ≡ None = (replay_alone c fit is).1 in
        let as_trace : IsOf (IsWritten st before after c) None true left rest = subst (λ r. IsOf (IsWritten st before after c) None r left rest) is (subst (λ d. IsOf (IsWritten st before after c) d c.replay left rest) no_number h) in
        of_trace (IsWritten st before after c) (λ s. Writes st before after s (output c.emit s)) (plain_written no_artists (replay_paints c fit is)) left rest as_trace

-- by each way that the words may ask for
module _ (st : Status) (before after : Option (List ℕ)) (words : List (List ℕ)) (left rest : Option (List ℕ)) (h : IsAnswered (IsWritten st before after) words left rest) where
  by_choice : (P : Choice → Type 0) → ((c : Choice) → is_fit c ≡ true → IsOf (IsWritten st before after c) c.demo c.replay left rest → P c) → IfSome (choice words) P
  by_choice P f = go (choice words) (choice_fits words) h
    where
      go : (o : Option Choice) → ((c : Choice) → o ≡ Some c → is_fit c ≡ true) → IsSomeAnd o (λ c. IsOf (IsWritten st before after c) c.demo c.replay left rest) → IfSome o P
      go None fit h = tt
      go (Some c) fit h = f c (fit c refl) h

  pub painted_way : IfSome (choice words) (IsPainted st left rest before after)
  painted_way = by_choice (IsPainted st left rest before after) (λ c fit k. plain_of st before after c left rest k)

  pub together_way : IfSome (choice words) (IsPaintedTogether st left rest before after)
  together_way = by_choice (IsPaintedTogether st left rest before after) (λ c fit k. together_of st before after c left rest fit k)

  pub traced_way : IfSome (choice words) (IsTraced st left rest before after)
  traced_way = by_choice (IsTraced st left rest before after) (λ c fit k. traced_of st before after c left rest fit k)

  pub replayed_way : IfSome (choice words) (IsReplayed st left rest before after)
  replayed_way = by_choice (IsReplayed st left rest before after) (λ c fit k. replayed_of st before after c left rest fit k)
