-- What the words of a command line ask for.
use Rattle.std.specs.Prelude.{ℕ, ℤ, ◌&&◌, ◌||◌, Bool, pos, true, false, not, nat_le, Option, Some, None, is_some, option_map, unwrap_or, if◌then◌else◌, List, [], ◌∷◌, codes}
use Rattle.std.specs.Option.{option_map_or}
use Rattle.std.specs.Map.{lookup}
use Rattle.std.specs.Str.{bytes_eq}
use Rattle.std.specs.Str.Parse.{digits_value, without_leading_plus}
use Rattle.clap.specs.declared.builder.value_parser.ValueParser.TheVariants as parser
use Rattle.clap.specs.declared.builder.action.ArgAction.TheVariants.{SetTrue}
use Rattle.clap.specs.Walk.{Text, Rule, Row, one_of}
use Rattle.clap.specs.Simple.{App, new_app, new_rule, on_top, with_rule, matches_of}
use Rattle.clap.specs.Kinds.{Kinds}
use Rattle.clap.specs.Faults.{fault_of}
use Rattle.clap.specs.ValueTests.{is_unsigned_in}
use Rattle.strokes_top.specs.declared.choice.Emit.{Emit}
use Rattle.strokes_top.specs.declared.choice.Emit.TheVariants.{Picture, Log, Sum, Live, Trace}
use Rattle.strokes_top.specs.declared.choice.Choice.{Choice}

-- the option of a long name, which takes one value and may be left out
abbrev pub option : Text → Rule
option name = record (new_rule name) { long = Some name }

-- a word of that name alone, which may be left out
abbrev pub flag : Text → Rule
flag name = record (option name) { action = Some SetTrue }

-- a whole number from the least to the most
abbrev pub number_option : Text → ℤ → ℤ → Rule
number_option name least most = record (option name) { parser = Some (parser.Signed least most) }

-- the command, whose words come without the program's name
abbrev pub named : App
named = on_top (λ s. record s { no_binary_name = true }) (new_app (codes "strokes"))

-- the command with its options
abbrev pub command : App
command = with_rule (with_rule (with_rule (with_rule (with_rule named (number_option (codes "workers") (pos 0) (pos 16))) (option (codes "emit")))
    (number_option (codes "demo") (pos 0) (pos 4294967295))) (number_option (codes "artists") (pos 1) (pos 16))) (flag (codes "replay"))

-- what a text names
abbrev pub emit_named : Text → Option Emit
emit_named text = lookup (bytes_eq text) ((codes "picture", Picture) ∷ (codes "log", Log) ∷ (codes "sum", Sum) ∷ (codes "trace", Trace) ∷ (codes "live", Live) ∷ [])

-- the picture is written where nothing is named
abbrev pub emit_of : Option Text → Option Emit
emit_of text = option_map_or emit_named text (Some Picture)

-- the number up to the most that a text spells in decimal digits
abbrev pub number_of : ℕ → Text → Option ℕ
number_of most text = if is_unsigned_in 0 most text then Some (digits_value 10 (without_leading_plus text)) else None

-- a number that may be left out
abbrev pub number_or_none : ℕ → Option Text → Option (Option ℕ)
number_or_none most text = option_map_or (λ t. option_map Some (number_of most t)) text (Some None)

-- the number of a generated script, where one is asked for
abbrev pub demo_of : Option Text → Option (Option ℕ)
demo_of = number_or_none 4294967295

-- how many artists are to draw, where artists are asked for
abbrev pub artists_of : Option Text → Option (Option ℕ)
artists_of = number_or_none 255

-- how many workers paint beside the caller, 4 where the words don't tell
abbrev pub workers_of : Option Text → Option ℕ
workers_of text = option_map (λ n. unwrap_or n 4) (number_or_none 255 text)

-- whether a flag is set
abbrev pub flag_of : Option Text → Option Bool
flag_of text = option_map_or (λ t. lookup (bytes_eq t) ((codes "true", true) ∷ (codes "false", false) ∷ [])) text (Some false)

-- whether it is written of what artists draw too
abbrev pub is_of_artists : Emit → Bool
is_of_artists Live = false
is_of_artists Trace = false
is_of_artists emit = true

abbrev pub is_trace : Emit → Bool
is_trace Trace = true
is_trace emit = false

-- whether no artists draw, and no trace is read or written
abbrev pub is_plain : Choice → Bool
is_plain c = not (is_some c.artists) && (not c.replay && not (is_trace c.emit))

-- artists are 1 to 16 and draw a script, and there is no live view and no trace of what they draw
abbrev pub lets_draw : Choice → ℕ → Bool
lets_draw c n = ((nat_le 1 n && nat_le n 16) && is_of_artists c.emit) && not c.replay

-- a trace that is checked takes the place of a generated script, and isn't written again
abbrev pub lets_replay : Choice → Bool
lets_replay c = not c.replay || (not (is_some c.demo) && not (is_trace c.emit))

-- whether the values fit together: there are at most 16 workers, artists draw where they may, and a trace is checked where it may be
abbrev pub is_fit : Choice → Bool
is_fit c = (nat_le c.workers 16 && option_map_or (lets_draw c) c.artists true) && lets_replay c

abbrev pub if_fit : Choice → Option Choice
if_fit c = if is_fit c then Some c else None

-- what the values of the options ask for, where each can be read and they fit together
abbrev pub choice_of_values : Option Emit → Option (Option ℕ) → Option Bool → Option (Option ℕ) → Option ℕ → Option Choice
choice_of_values (Some emit) (Some demo) (Some replay) (Some artists) (Some workers) =
    if_fit (record { emit = emit; demo = demo; replay = replay; artists = artists; workers = workers })
choice_of_values emit demo replay artists workers = None

-- what these rows of values ask for
abbrev pub choice_by : List Row → Option Choice
choice_by rows = choice_of_values (emit_of (one_of (codes "emit") rows)) (demo_of (one_of (codes "demo") rows)) (flag_of (one_of (codes "replay") rows))
    (artists_of (one_of (codes "artists") rows)) (workers_of (one_of (codes "workers") rows))

abbrev pub unless_fault : Kinds → Option Choice → Option Choice
unless_fault [] choice = choice
unless_fault (k ∷ kinds) choice = None

-- what the words ask for, where the command takes them
unfoldable pub choice : List Text → Option Choice
choice words = unless_fault (fault_of command words) (choice_by (matches_of command words))
