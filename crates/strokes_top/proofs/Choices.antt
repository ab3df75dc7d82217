-- What a parse by the command's options gives.
use Rattle.std.proofs.Common.{◌≡◌, ◌≢◌, ◌<◌, ◌≤◌, ◌+◌, ◌^◌, ◌&&◌, ◌||◌, not, is_some, nat_le, codes, unwrap_or, ℕ, List, [], ◌∷◌, Bool, true, false, Option, Some, None, option_map, Result, Ok, Err, refl, sym, ap, subst, arith}
use Rattle.std.specs.Result.{IfOk, result_ok}
use Rattle.std.specs.Option.{option_map_or}
use Rattle.std.specs.Str.{bytes_eq}
use Rattle.std.specs.Str.Parse.{ParsesUnsigned, ExplainsUnsignedError, HasUnsignedDigitsIfOk, ParsesBool, digits_value, without_leading_plus}
use Rattle.std.specs.declared.str.ParseBoolError.{ParseBoolError}
use Rattle.std.specs.declared.num.ParseIntError.{ParseIntError}
use Rattle.std.proofs.lemmas.Bool.Decides.{nat_tests}
use Rattle.std.proofs.lemmas.Slice.Eq.{bytes_eq-Decides}
use Rattle.script_lines.proofs.FieldLemmas.{first, second}
use Rattle.clap.specs.Matches.{TriesOne}
use Rattle.clap.specs.Kinds.{Kinds, IsAmong}
use Rattle.clap.specs.Walk.{Text, Row, one_of}
use Rattle.clap.specs.Faults.{fault_of, is_free_app, is_simple_and_free}
use Rattle.clap.specs.Simple.{built, is_simple, matches_of}
use Rattle.clap.specs.ValueTests.{is_unsigned_in}
use Rattle.clap.specs.Values.{Accepts}
use Rattle.clap.specs.declared.builder.value_parser.ValueParser.TheVariants as parser
use Rattle.clap.specs.declared.error.kind.ErrorKind.{ErrorKind}
use Rattle.clap.proofs.OnLiterals.{clap_on_literals}
use Rattle.clap.proofs.ValueTestLemmas.{accepts-Accepts, Accepts-accepts}
use Rattle.strokes_top.specs.declared.choice.Emit.{Emit}
use Rattle.strokes_top.specs.declared.choice.Emit.TheVariants.{Picture, Log, Sum, Live, Trace}
use Rattle.strokes_top.specs.declared.choice.UnknownEmit.{UnknownEmit}
use Rattle.strokes_top.specs.declared.asked.Asked.{Asked}
use Rattle.strokes_top.specs.declared.choice.Choice.{Choice}
use Rattle.strokes_top.specs.declared.choice.ChoiceError.{ChoiceError}
use Rattle.strokes_top.specs.Choice.{command, choice, choice_by, emit_of, demo_of, artists_of, workers_of, number_of, number_or_none, flag_of, is_of_artists, is_trace, lets_draw, is_fit, if_fit, choice_of_values, unless_fault}
use Rattle.strokes_top.specs.Named.{IsNamed}
use Rattle.geom_core.proofs.Tests.{not_true}

pub is_free : is_simple_and_free command ≡ true
unfolding clap_on_literals
is_free = refl

pub command_is_simple : is_simple command ≡ true
command_is_simple = first (is_simple command) (is_free_app (built command)) is_free

-- without a fault the choice is that of the matches
pub choice_without_fault : (words : List Text) → fault_of command words ≡ [] → choice words ≡ choice_by (matches_of command words)
unfolding choice
choice_without_fault words e = ap (λ (kinds : Kinds). unless_fault kinds (choice_by (matches_of command words))) e

among_some : (k : ErrorKind) (kinds : Kinds) (c : Option Choice) → IsAmong k kinds → unless_fault kinds c ≡ None
among_some k [] c h = absurd h
among_some k (x ∷ kinds) c h = refl

-- with a fault there is none
pub choice_with_fault : (words : List Text) (k : ErrorKind) → IsAmong k (fault_of command words) → choice words ≡ None
unfolding choice
choice_with_fault words k h = among_some k (fault_of command words) (choice_by (matches_of command words)) h

-- what a reading of an emit's text tells
pub emit_some : (o : Option Text) (emit : Emit) → (o ≡ None → ◌≡◌ {A = Result (Option Emit) UnknownEmit} (Ok (Some emit)) (Ok None)) → ((t : Text) → o ≡ Some t → IsNamed t (Ok emit)) → Some emit ≡ emit_of o
emit_some None emit none value =
    let bad : ◌≡◌ {A = Result (Option Emit) UnknownEmit} (Ok (Some emit)) (Ok None) = none refl in
    cc
emit_some (Some t) emit none value = sym (value t refl)

pub emit_none : (o : Option Text) → ((t : Text) → o ≡ Some t → ⊥) → Some Picture ≡ emit_of o
emit_none None value = refl
emit_none (Some t) value = absurd (value t refl)

pub emit_unknown : (o : Option Text) (e : UnknownEmit) → (o ≡ None → ◌≡◌ {A = Result (Option Emit) UnknownEmit} (Err e) (Ok None)) → ((t : Text) → o ≡ Some t → IsNamed t (Err e)) → None ≡ emit_of o
emit_unknown None e none value =
    let bad : ◌≡◌ {A = Result (Option Emit) UnknownEmit} (Err e) (Ok None) = none refl in
    cc
emit_unknown (Some t) e none value = sym (value t refl)

-- what an unsigned type of so many bits reads from a text
abbrev pub Parses : ℕ → Text → Result ℕ ParseIntError → Type 0
Parses bits t r = ParsesUnsigned bits 10 t r × ExplainsUnsignedError 10 t r × HasUnsignedDigitsIfOk t r

module _ (bits most : ℕ) (top : 2 ^ bits ≡ most + 1) (bound : most ≤ 4294967295) where
  number_read : (t : Text) (n : ℕ) → Parses bits t (Ok n) → number_of most t ≡ Some n
  number_read t n h =
      let small : digits_value 10 (without_leading_plus t) < 2 ^ bits = h.0.0.1 in
      let least : digits_value 10 (without_leading_plus t) ≤ most = omega arith in
      let is : is_unsigned_in 0 most t ≡ true = Accepts-accepts false (parser.Unsigned 0 most) t (h.0.0.0, omega arith, omega arith, least) in
      rw (is, h.0.1) refl

  number_unread : (t : Text) (e : ParseIntError) → Parses bits t (Err e) → number_of most t ≡ None
  number_unread t e h = go (is_unsigned_in 0 most t) refl
    where
      go : (b : Bool) → is_unsigned_in 0 most t ≡ b → number_of most t ≡ None
      go false is = rw is refl
      go true is =
          let all : Accepts false (parser.Unsigned 0 most) t = accepts-Accepts false (parser.Unsigned 0 most) t is in
          let within : digits_value 10 (without_leading_plus t) ≤ most = all.3 in
          absurd (h.0 (all.0, omega arith))

  -- what a reading of a number's text tells
  pub number_told : (o : Option Text) (number : Option ℕ) → (o ≡ None → ◌≡◌ {A = Result (Option ℕ) ParseIntError} (Ok number) (Ok None))
      → ((t : Text) → o ≡ Some t → TriesOne (Parses bits) t (Ok number)) → Some number ≡ number_or_none most o
  number_told None number none value =
      let same : ◌≡◌ {A = Result (Option ℕ) ParseIntError} (Ok number) (Ok None) = none refl in
      let is : number ≡ None = cc in
      ap Some is
  number_told (Some t) None none value = absurd (value t refl)
  number_told (Some t) (Some n) none value = rw (number_read t n (value t refl)) refl

  pub number_untold : (o : Option Text) (e : ParseIntError) → (o ≡ None → ◌≡◌ {A = Result (Option ℕ) ParseIntError} (Err e) (Ok None))
      → ((t : Text) → o ≡ Some t → TriesOne (Parses bits) t (Err e)) → None ≡ number_or_none most o
  number_untold None e none value =
      let bad : ◌≡◌ {A = Result (Option ℕ) ParseIntError} (Err e) (Ok None) = none refl in
      cc
  number_untold (Some t) e none value = rw (number_unread t e (value t refl)) refl

-- a choice, or none
pub told_ok : (r : Result Asked ChoiceError) (o : Option Choice) → o ≡ option_map (λ (a : Asked). a.choice) (result_ok r) → IfOk r (λ a. o ≡ Some a.choice)
told_ok (Ok a) o e = e
told_ok (Err f) o e = tt

-- what a reading of a flag's text tells
pub flag_told : (o : Option Text) (flag : Option Bool) → (o ≡ None → ◌≡◌ {A = Result (Option Bool) ParseBoolError} (Ok flag) (Ok None))
    → ((t : Text) → o ≡ Some t → TriesOne {T = Bool} {E = ParseBoolError} ParsesBool t (Ok flag)) → Some (unwrap_or flag false) ≡ flag_of o
flag_told None flag none value =
    let same : ◌≡◌ {A = Result (Option Bool) ParseBoolError} (Ok flag) (Ok None) = none refl in
    let is : flag ≡ None = cc in
    ap (λ f. Some (unwrap_or f false)) is
flag_told (Some t) None none value = absurd (value t refl)
flag_told (Some t) (Some true) none value = rw (value t refl) refl
flag_told (Some t) (Some false) none value = rw (value t refl) refl

unequal : (a b : Text) → a ≢ b → bytes_eq a b ≡ false
unequal a b h = go (bytes_eq a b) refl
  where
    go : (e : Bool) → bytes_eq a b ≡ e → bytes_eq a b ≡ false
    go false is = is
    go true is = absurd (h ((bytes_eq-Decides a b).0 is))

pub flag_untold : (o : Option Text) (e : ParseBoolError) → (o ≡ None → ◌≡◌ {A = Result (Option Bool) ParseBoolError} (Err e) (Ok None))
    → ((t : Text) → o ≡ Some t → TriesOne {T = Bool} {E = ParseBoolError} ParsesBool t (Err e)) → None ≡ flag_of o
flag_untold None e none value =
    let bad : ◌≡◌ {A = Result (Option Bool) ParseBoolError} (Err e) (Ok None) = none refl in
    cc
flag_untold (Some t) e none value =
    let other = value t refl in
    rw (unequal t (codes "true") other.0, unequal t (codes "false") other.1) refl

-- so many workers fit
pub fit_workers : (c : Choice) → is_fit c ≡ true → c.workers ≤ 16
fit_workers c h = few (first (nat_le c.workers 16) _ (first (nat_le c.workers 16 && option_map_or (lets_draw c) c.artists true) _ h))
  where
    few : nat_le c.workers 16 ≡ true → c.workers ≤ 16
    few e = grind (arith, nat_tests)

drawing : (c : Choice) → is_fit c ≡ true → option_map_or (lets_draw c) c.artists true ≡ true
drawing c h = second (nat_le c.workers 16) _ (first (nat_le c.workers 16 && option_map_or (lets_draw c) c.artists true) _ h)

-- artists that are asked for may draw
pub fit_draws : (c : Choice) (n : ℕ) → c.artists ≡ Some n → is_fit c ≡ true → lets_draw c n ≡ true
fit_draws c n is h = subst (λ a. option_map_or (lets_draw c) a true ≡ true) is (drawing c h)

-- and they are 1 to 16, and draw what may be written of them
pub draws_some : (c : Choice) (n : ℕ) → lets_draw c n ≡ true → 1 ≤ n
draws_some c n h = some (first (nat_le 1 n) _ (first (nat_le 1 n && nat_le n 16) _ (first ((nat_le 1 n && nat_le n 16) && is_of_artists c.emit) _ h)))
  where
    some : nat_le 1 n ≡ true → 1 ≤ n
    some e = grind (arith, nat_tests)

pub draws_few : (c : Choice) (n : ℕ) → lets_draw c n ≡ true → n ≤ 16
draws_few c n h = few (second (nat_le 1 n) _ (first (nat_le 1 n && nat_le n 16) _ (first ((nat_le 1 n && nat_le n 16) && is_of_artists c.emit) _ h)))
  where
    few : nat_le n 16 ≡ true → n ≤ 16
    few e = grind (arith, nat_tests)

pub draws_of : (c : Choice) (n : ℕ) → lets_draw c n ≡ true → is_of_artists c.emit ≡ true
draws_of c n h = second (nat_le 1 n && nat_le n 16) _ (first ((nat_le 1 n && nat_le n 16) && is_of_artists c.emit) _ h)

no_trace : (e : Emit) → is_trace e ≡ true → is_of_artists e ≡ true → ⊥
no_trace Picture h k = cc
no_trace Log h k = cc
no_trace Sum h k = cc
no_trace Live h k = cc
no_trace Trace h k = cc

-- no artist draws where a trace is written
pub trace_alone : (c : Choice) → is_fit c ≡ true → is_trace c.emit ≡ true → c.artists ≡ None
trace_alone c h t = go c.artists refl
  where
    go : (a : Option ℕ) → c.artists ≡ a → c.artists ≡ None
    go None is = is
    go (Some n) is = absurd (no_trace c.emit t (draws_of c n (fit_draws c n is h)))

-- nothing fits that doesn't pass the test
if_fits : (x c : Choice) → if_fit x ≡ Some c → is_fit c ≡ true
if_fits x c h = go (is_fit x) refl
  where
    go : (b : Bool) → is_fit x ≡ b → is_fit c ≡ true
    go true is =
        let given : if_fit x ≡ Some x = rw is refl in
        let same : x ≡ c = cc in
        subst (λ y. is_fit y ≡ true) same is
    go false is =
        let given : if_fit x ≡ None = rw is refl in
        cc

values_fit : (emit : Option Emit) (demo : Option (Option ℕ)) (replay : Option Bool) (artists : Option (Option ℕ)) (workers : Option ℕ) (c : Choice)
    → choice_of_values emit demo replay artists workers ≡ Some c → is_fit c ≡ true
values_fit (Some e) (Some d) (Some r) (Some a) (Some w) c h = if_fits (record { emit = e; demo = d; replay = r; artists = a; workers = w }) c h
values_fit None d r a w c h = cc
values_fit (Some e) None r a w c h = cc
values_fit (Some e) (Some d) None a w c h = cc
values_fit (Some e) (Some d) (Some r) None w c h = cc
values_fit (Some e) (Some d) (Some r) (Some a) None c h = cc

rows_fit : (rows : List Row) (c : Choice) → choice_by rows ≡ Some c → is_fit c ≡ true
rows_fit rows c h = values_fit (emit_of (one_of (codes "emit") rows)) (demo_of (one_of (codes "demo") rows)) (flag_of (one_of (codes "replay") rows))
    (artists_of (one_of (codes "artists") rows)) (workers_of (one_of (codes "workers") rows)) c h

unless_fits : (kinds : Kinds) (o : Option Choice) (c : Choice) → ((d : Choice) → o ≡ Some d → is_fit d ≡ true) → unless_fault kinds o ≡ Some c → is_fit c ≡ true
unless_fits [] o c f h = f c h
unless_fits (k ∷ kinds) o c f h = cc

-- what the words ask for fits together
pub choice_fits : (words : List Text) (c : Choice) → choice words ≡ Some c → is_fit c ≡ true
unfolding choice
choice_fits words c h = unless_fits (fault_of command words) (choice_by (matches_of command words)) c (λ d. rows_fit (matches_of command words) d) h

pub nothing : (o : Option ℕ) → is_some o ≡ false → o ≡ None
nothing None h = refl
nothing (Some n) h = cc

-- artists draw no trace
pub draws_alone : (c : Choice) (n : ℕ) → lets_draw c n ≡ true → c.replay ≡ false
draws_alone c n h = not_true c.replay (second ((nat_le 1 n && nat_le n 16) && is_of_artists c.emit) _ h)

-- where a trace is read no script is generated and none is written
replays : (c : Choice) → is_fit c ≡ true → c.replay ≡ true → (not (is_some c.demo) && not (is_trace c.emit)) ≡ true
replays c h is = go c.replay is (second (nat_le c.workers 16 && option_map_or (lets_draw c) c.artists true) _ h)
  where
    go : (b : Bool) → b ≡ true → (not b || (not (is_some c.demo) && not (is_trace c.emit))) ≡ true → (not (is_some c.demo) && not (is_trace c.emit)) ≡ true
    go true is h = h
    go false is h = cc

pub replay_paints : (c : Choice) → is_fit c ≡ true → c.replay ≡ true → is_trace c.emit ≡ false
replay_paints c h is = not_true (is_trace c.emit) (second (not (is_some c.demo)) _ (replays c h is))

pub trace_reads : (c : Choice) → is_fit c ≡ true → is_trace c.emit ≡ true → c.replay ≡ false
trace_reads c h t = go c.replay refl
  where
    go : (b : Bool) → c.replay ≡ b → c.replay ≡ false
    go false is = is
    go true is =
        let other : is_trace c.emit ≡ false = replay_paints c h is in
        cc

-- and no artists draw
pub replay_alone : (c : Choice) → is_fit c ≡ true → c.replay ≡ true → (c.demo ≡ None) × (c.artists ≡ None)
replay_alone c h is = (nothing c.demo (not_true (is_some c.demo) (first (not (is_some c.demo)) _ (replays c h is))), go c.artists refl)
  where
    go : (a : Option ℕ) → c.artists ≡ a → c.artists ≡ None
    go None with_none = with_none
    go (Some n) with_some =
        let other : c.replay ≡ false = draws_alone c n (fit_draws c n with_some h) in
        cc
