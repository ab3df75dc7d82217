-- A printed trace is the trace that it says.
use Rattle.std.proofs.Common.{◌≡◌, ℕ, suc, ◌≤◌, true, ◌&&◌, nat_le, codes, List, [], ◌∷◌, ◌++◌, Option, Some, None, Ok, refl, sym, ap, ◌∙◌, arith, append_assoc}
use Rattle.std.specs.List.{list_all, flat_map}
use Rattle.std.specs.Fmt.{decimal}
use Rattle.std.specs.Option.{option_and_then}
use Rattle.std.proofs.lemmas.Bool.Decides.{nat_tests}
use Rattle.std.proofs.lemmas.List.{append-nil, append_cancel_right}
use Rattle.doc_model.specs.declared.canvas.Canvas.{Canvas}
use Rattle.script_lines.specs.Lines.{lines}
use Rattle.script_lines.specs.Fronts.{is_field}
use Rattle.script_lines.proofs.FieldLemmas.{first, second, both}
use Rattle.script_lines.proofs.Pieces.{lines-append}
use Rattle.script_forms.specs.Jobs.{Fields}
use Rattle.script_forms.specs.Forms.{canvas_text}
use Rattle.script_forms.specs.Ranges.{in_limits}
use Rattle.script_text.specs.Text.{line, spaced, canvas_fields, canvas_line as canvas_line_text}
use Rattle.script_text.proofs.PrintedLines.{line_first}
use Rattle.script_text.proofs.PrintedWords.{natural_field, from_one_back}
use Rattle.script_text.proofs.PrintedCommands.{canvas_back, canvas_plain}
use Rattle.machine_model.specs.State.{State, new_state}
use Rattle.machine_model.specs.Replays.{is_settled}
use Rattle.trace_lines.specs.declared.line.Line.{Line}
use Rattle.trace_lines.specs.Forms.{slots, canvas_line}
use Rattle.trace_lines.specs.Replay.{happens, follow, replayed, replay, lines_in, without_feed, slots_in, slots_by}
use Rattle.trace_lines.specs.Texts.{place_line, head_text, line_text, trace_lines}
use Rattle.trace_lines.specs.Ranges.{line_in_range}
use Rattle.trace_lines.specs.Leads.{led_to}
use Rattle.trace_lines.specs.PrintLaws.{IsSettlingText, PrintedReplays}
use Rattle.trace_lines.proofs.ReadRows.{Reads, reads, row, line_read}

-- the state between a line and those behind it
led_through : (o : Option State) (f : State → Option State) (t : State) → option_and_then f o ≡ Some t → (m : State) × (o ≡ Some m) × (f m ≡ Some t)
led_through (Some m) f t e = (m, refl, e)
led_through None f t e = absurd (no e)
  where
    no : {A : Type 0} {t : A} → ◌≡◌ {A = Option A} None (Some t) → ⊥
    no e = cc

-- the rows of a text's lines, which lead from one state to another
record Follows (k : ℕ) (s : State) (text : List ℕ) (t : State) : Type 0 where
  rows : List Fields
  lines : lines text ≡ rows ++ [] ∷ []
  follows : follow k s rows ≡ Ok t

one_more : (k : ℕ) (s m t : State) (l : Line) (r : Reads l) (more : List ℕ) → happens s l ≡ Some m → Follows (suc k) m more t → Follows k s (line_text l ++ more) t
one_more k s m t l r more e f = record {
  rows = row r ∷ f.rows;
  lines = line_read l r more ∙ ap (λ rows. row r ∷ rows) f.lines;
  follows = rw (r.reads, e) f.follows;
}

followed : (k : ℕ) (s t : State) (ls : List Line) → list_all line_in_range ls ≡ true → led_to s ls ≡ Some t → Follows k s (flat_map line_text ls) t
followed k s t [] h e = record { rows = []; lines = refl; follows = (let same : s ≡ t = cc in ap Ok same) }
followed k s t (l ∷ ls) h e =
    let m = led_through (happens s l) (λ u. led_to u ls) t e in
    let rest = followed (suc k) m.0 t ls (second (line_in_range l) (list_all line_in_range ls) h) m.2 in
    one_more k s m.0 t l (reads l (first (line_in_range l) (list_all line_in_range ls) h)) (flat_map line_text ls) m.1 rest

-- the text ends with a line feed
record Ends (text : List ℕ) : Type 0 where
  front : List ℕ
  is : text ≡ front ++ 10 ∷ []

ends_behind : (a b : List ℕ) → Ends b → Ends (a ++ b)
ends_behind a b e = record { front = a ++ e.front; is = ap (λ t. a ++ t) e.is ∙ sym (append_assoc a e.front (10 ∷ [])) }

line_ends : (word : List ℕ) (fields : List (List ℕ)) → Ends (line word fields)
line_ends word fields = ends_behind word (spaced fields ++ 10 ∷ []) (record { front = spaced fields; is = refl })

read_ends : (l : Line) → Reads l → Ends (line_text l)
read_ends l r = let e = line_ends r.word r.fields in record { front = e.front; is = r.text ∙ e.is }

lines_end : (a : List ℕ) (ls : List Line) → Ends a → list_all line_in_range ls ≡ true → Ends (a ++ flat_map line_text ls)
lines_end a [] e h = record { front = e.front; is = append-nil a ∙ e.is }
lines_end a (l ∷ ls) e h =
    let here = ends_behind a (line_text l) (read_ends l (reads l (first (line_in_range l) (list_all line_in_range ls) h))) in
    let rest = lines_end (a ++ line_text l) ls here (second (line_in_range l) (list_all line_in_range ls) h) in
    record { front = rest.front; is = sym (append_assoc a (line_text l) (flat_map line_text ls)) ∙ rest.is }

feed_goes : (xs : List ℕ) → without_feed (xs ++ 10 ∷ []) ≡ xs
feed_goes [] = refl
feed_goes (b ∷ []) = refl
feed_goes (b ∷ c ∷ xs) = ap (λ l. b ∷ l) (feed_goes (c ∷ xs))

lines_whole : (xs : List ℕ) → lines_in (xs ++ 10 ∷ []) ≡ lines xs
lines_whole [] = refl
lines_whole (b ∷ xs) = ap lines (feed_goes (b ∷ xs))

-- the lines of a text that ends with a line feed
told_lines : (text : List ℕ) (rows : List Fields) → Ends text → lines text ≡ rows ++ [] ∷ [] → lines_in text ≡ rows
told_lines text rows e h =
    let back : lines e.front ++ [] ∷ [] ≡ rows ++ [] ∷ [] = sym (lines-append e.front []) ∙ ap lines (sym e.is) ∙ h in
    ap lines_in e.is ∙ lines_whole e.front ∙ append_cancel_right (lines e.front) rows ([] ∷ []) back

-- the first two rows
abbrev slots_row : ℕ → Fields
slots_row n = codes "trace" ∷ decimal n ∷ []

abbrev canvas_row : Canvas → Fields
canvas_row c = canvas_text ∷ canvas_fields c

few : (n : ℕ) → 1 ≤ n → n ≤ 17 → (nat_le 1 n && nat_le n 17) ≡ true
few n a b =
    let low : nat_le 1 n ≡ true = grind (arith, nat_tests) in
    let high : nat_le n 17 ≡ true = grind (arith, nat_tests) in
    both _ _ low high

slots_plain : (n : ℕ) → (nat_le 1 n && nat_le n 17) ≡ true → list_all is_field (decimal n ∷ []) ≡ true
slots_plain n h = both _ _ (natural_field 17 n (omega arith) (second (nat_le 1 n) (nat_le n 17) h)) refl

slots_back : (n : ℕ) → (nat_le 1 n && nat_le n 17) ≡ true → slots (slots_row n) ≡ Ok n
unfolding slots
slots_back n h = rw (from_one_back 17 n (omega arith) h) refl

canvas_told : (c : Canvas) → in_limits c ≡ true → canvas_line (canvas_row c) ≡ Ok c
unfolding canvas_line
canvas_told c h = rw (canvas_back c h) refl

head_lines : (n : ℕ) (c : Canvas) (rest : List ℕ) → (nat_le 1 n && nat_le n 17) ≡ true → in_limits c ≡ true → lines (head_text n c ++ rest) ≡ slots_row n ∷ canvas_row c ∷ lines rest
head_lines n c rest h k =
    ap lines (append_assoc (place_line (codes "trace") n) (canvas_line_text c) rest)
    ∙ (line_first (codes "trace") (decimal n ∷ []) (canvas_line_text c ++ rest) refl (slots_plain n h)
    ∙ ap (λ l. slots_row n ∷ l) (line_first canvas_text (canvas_fields c) rest refl (canvas_plain c k)))

head_ends : (n : ℕ) (c : Canvas) → Ends (head_text n c)
head_ends n c = ends_behind (place_line (codes "trace") n) (canvas_line_text c) (line_ends canvas_text (canvas_fields c))

-- the rows of the whole text
whole_lines : (n : ℕ) (c : Canvas) (ls : List Line) (s : State) (i : IsSettlingText n c ls s) (f : Follows 3 (new_state c n) (flat_map line_text ls) s) → lines_in (trace_lines n c ls) ≡ slots_row n ∷ canvas_row c ∷ f.rows
unfolding trace_lines
whole_lines n c ls s i f =
    told_lines (head_text n c ++ flat_map line_text ls) (slots_row n ∷ canvas_row c ∷ f.rows)
    (lines_end (head_text n c) ls (head_ends n c) i.lines_fit)
    (head_lines n c (flat_map line_text ls) (few n i.some_slot i.few_slots) i.canvas_fits ∙ ap (λ l. slots_row n ∷ canvas_row c ∷ l) f.lines)

rows_replay : (n : ℕ) (c : Canvas) (rows : List Fields) (s : State) → (nat_le 1 n && nat_le n 17) ≡ true → in_limits c ≡ true → follow 3 (new_state c n) rows ≡ Ok s → is_settled s ≡ true → replayed (slots_row n ∷ canvas_row c ∷ rows) ≡ Ok s
unfolding replayed
rows_replay n c rows s h k f e = rw (slots_back n h, canvas_told c k, f, e) refl

abbrev following : (n : ℕ) (c : Canvas) (ls : List Line) (s : State) → IsSettlingText n c ls s → Follows 3 (new_state c n) (flat_map line_text ls) s
following n c ls s i = followed 3 (new_state c n) s ls i.lines_fit i.leads

text_replays : (n : ℕ) (c : Canvas) (ls : List Line) (s : State) → IsSettlingText n c ls s → replay (trace_lines n c ls) ≡ Ok s
text_replays n c ls s i =
    let f = following n c ls s i in
    ap replayed (whole_lines n c ls s i f) ∙ rows_replay n c f.rows s (few n i.some_slot i.few_slots) i.canvas_fits f.follows i.settled

text_slots : (n : ℕ) (c : Canvas) (ls : List Line) (s : State) → IsSettlingText n c ls s → slots_in (trace_lines n c ls) ≡ Ok n
text_slots n c ls s i = ap slots_by (whole_lines n c ls s i (following n c ls s i)) ∙ slots_back n (few n i.some_slot i.few_slots)

pub printed_replays : PrintedReplays
printed_replays = record { replays = text_replays; slots = text_slots }
