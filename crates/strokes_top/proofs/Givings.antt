-- What holds of the script that is taken holds of what a run is asked for.
use Rattle.std.proofs.Common.{◌≡◌, ℕ, Bool, true, false, List, Option, Some, None, IsSomeAnd, sym, subst}
use Rattle.script_text.specs.Script.{Contents}
use Rattle.script_text.specs.Reading.{script}
use Rattle.strokes_top.specs.declared.choice.Choice.{Choice}
use Rattle.strokes_top.specs.Choice.{choice}
use Rattle.strokes_top.specs.Reading.{WasRead}
use Rattle.strokes_top.specs.Run.{Gives, IsOf, IsAnswered}

some_same : (P : Contents → Type 0) (s : Contents) (o : Option Contents) → IsSomeAnd o (λ t. t ≡ s) → P s → IsSomeAnd o P
some_same P s None h p = h
some_same P s (Some t) h p = subst P (sym h) p

gives_same : (P : Contents → Type 0) (s : Contents) (replays : Bool) (bytes : List ℕ) → Gives replays (λ t. t ≡ s) bytes → P s → Gives replays P bytes
gives_same P s false bytes h p = (h.0, some_same P s (script bytes) h.1 p)
gives_same P s true bytes h p = (h.0, h.1, subst P (sym h.2) p)

read_same : (before after : Option (List ℕ)) (P Q : List ℕ → Type 0) → ((b : List ℕ) → P b → Q b) → WasRead before after P → WasRead before after Q
read_same before after P Q f r = (r.0, r.1, r.2, f r.0 r.3)

of_same : (P : Contents → Type 0) (s : Contents) (number : Option ℕ) (replays : Bool) (before after : Option (List ℕ)) → IsOf (λ t. t ≡ s) number replays before after → P s → IsOf P number replays before after
of_same P s (Some n) replays before after h p = subst P (sym h) p
of_same P s None replays before after h p = read_same before after (Gives replays (λ t. t ≡ s)) (Gives replays P) (λ b k. gives_same P s replays b k p) h

pub answered : (P : Choice → Contents → Type 0) (words : List (List ℕ)) (before after : Option (List ℕ)) (c : Choice) (s : Contents) → choice words ≡ Some c → IsOf (λ t. t ≡ s) c.demo c.replay before after → P c s → IsAnswered P words before after
answered P words before after c s is h p = subst (λ o. IsSomeAnd o (λ asked. IsOf (P asked) asked.demo asked.replay before after)) (sym is) (of_same (P c) s c.demo c.replay before after h p)
