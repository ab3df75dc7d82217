-- A printed line of a trace reads back.
use Rattle.std.proofs.Common.{◌≡◌, ℕ, true, ◌&&◌, codes, List, [], ◌∷◌, ◌++◌, Ok, refl, sym, ap, ◌∙◌, arith, append_assoc}
use Rattle.std.specs.Prelude.{pos, negsuc, int_le}
use Rattle.std.specs.List.{list_all}
use Rattle.std.specs.Fmt.{decimal}
use Rattle.geom_core.specs.Areas.{Area, lies_in, world}
use Rattle.geom_core.specs.Grid.{Key}
use Rattle.doc_model.specs.declared.canvas.Walk.{Walk}
use Rattle.doc_model.specs.declared.canvas.Walk.TheVariants.{Up, All}
use Rattle.doc_model.specs.declared.command.Command.{Command}
use Rattle.doc_model.specs.Lawful.{of_limits}
use Rattle.doc_model.specs.Updates.{patch}
use Rattle.script_lines.specs.Fronts.{is_field}
use Rattle.script_lines.specs.Lines.{lines}
use Rattle.script_lines.proofs.FieldLemmas.{first, second, both}
use Rattle.script_forms.specs.Jobs.{Fields}
use Rattle.script_forms.specs.Texts.{word_text}
use Rattle.script_forms.specs.Ranges.{in_range, is_sound}
use Rattle.script_text.specs.Text.{line, spaced, area_fields, command_text}
use Rattle.script_text.proofs.PrintedLines.{line_first}
use Rattle.script_text.proofs.PrintedWords.{words, natural_field, upto_back}
use Rattle.script_text.proofs.PrintedJobs.{Told, IsPlaced, placed_in, outline_back, area_plain, place_field, cell_back}
use Rattle.script_text.proofs.PrintedCommands.{told as told_command}
use Rattle.trace_lines.specs.declared.line.Line.{Line}
use Rattle.trace_lines.specs.declared.line.Line.TheVariants as told
use Rattle.trace_lines.specs.Forms.{line_of, feed, start, publish, publish_at, end, walks, walk_up, walk_all, put, put_at}
use Rattle.trace_lines.specs.Texts.{key_fields, walk_fields, line_text}
use Rattle.trace_lines.specs.Ranges.{is_place, is_key, is_group_number, walk_in_range, patch_in_range, line_in_range}

-- a line, told as a word and fields
pub record Reads (l : Line) : Type 0 where
  pub word : List ℕ
  pub fields : Fields
  pub text : line_text l ≡ line word fields
  pub is_word : is_field word ≡ true
  pub plain : list_all is_field fields ≡ true
  pub reads : line_of (word ∷ fields) ≡ Ok l

place_field_of : (p : ℕ) → is_place p ≡ true → is_field (decimal p) ≡ true
place_field_of p h = natural_field 16 p (omega arith) h

-- the sides of a tile's place are in their ranges
record IsPlacedKey (k : Key) : Type 0 where
  col : (int_le (negsuc 255) k.col && int_le k.col (pos 255)) ≡ true
  row : (int_le (negsuc 255) k.row && int_le k.row (pos 255)) ≡ true

placed_key : (k : Key) → is_key k ≡ true → IsPlacedKey k
placed_key k h = record {
  col = first (int_le (negsuc 255) k.col && int_le k.col (pos 255)) (int_le (negsuc 255) k.row && int_le k.row (pos 255)) h;
  row = second (int_le (negsuc 255) k.col && int_le k.col (pos 255)) (int_le (negsuc 255) k.row && int_le k.row (pos 255)) h;
}

key_plain : (k : Key) → IsPlacedKey k → list_all is_field (key_fields k) ≡ true
key_plain k p = both _ _ (place_field k.col p.col) (both _ _ (place_field k.row p.row) refl)

feed_text : (c : Command) (t : Told c) → codes "feed " ++ command_text c ≡ line (codes "feed") (word_text t.word ∷ t.fields)
feed_text c t = ap (λ l. codes "feed " ++ l) t.text ∙ ap (λ l. codes "feed " ++ l) (sym (append_assoc (word_text t.word) (spaced t.fields) (10 ∷ [])))

feed_back : (c : Command) (t : Told c) → line_of (codes "feed" ∷ word_text t.word ∷ t.fields) ≡ Ok (told.Feed c)
unfolding line_of feed
feed_back c t = let w = words t.word in rw (w.back, t.reads) refl

start_back : (p : ℕ) → is_place p ≡ true → line_of (codes "start" ∷ decimal p ∷ []) ≡ Ok (told.Start p)
unfolding line_of start
start_back p h = rw (upto_back 16 p (omega arith) h) refl

end_back : (p : ℕ) → is_place p ≡ true → line_of (codes "end" ∷ decimal p ∷ []) ≡ Ok (told.End p)
unfolding line_of end
end_back p h = rw (upto_back 16 p (omega arith) h) refl

publish_back : (p : ℕ) (k : Key) → is_place p ≡ true → IsPlacedKey k → line_of (codes "publish" ∷ decimal p ∷ key_fields k) ≡ Ok (told.Publish p k)
unfolding line_of publish publish_at
publish_back p k h i = rw (upto_back 16 p (omega arith) h, cell_back k i.col i.row) refl

put_back : (p g : ℕ) (k : Key) → is_place p ≡ true → is_group_number g ≡ true → IsPlacedKey k → line_of (codes "put" ∷ decimal p ∷ decimal g ∷ key_fields k) ≡ Ok (told.Put p g k)
unfolding line_of put put_at
put_back p g k h i j = rw (upto_back 16 p (omega arith) h, upto_back 65535 g (omega arith) i, cell_back k j.col j.row) refl

walk_back : (p : ℕ) (w : Walk) (a : Area) → is_place p ≡ true → walk_in_range w ≡ true → lies_in a world ≡ true → IsPlaced a → line_of (codes "walk" ∷ (decimal p ∷ walk_fields w ++ area_fields a)) ≡ Ok (told.Walk p (patch w a))
unfolding line_of walks walk_up walk_all
walk_back p (Up g) a h i l b = rw (upto_back 16 p (omega arith) h, upto_back 65535 g (omega arith) i, outline_back a b, l) refl
walk_back p All a h i l b = rw (upto_back 16 p (omega arith) h, outline_back a b, l) refl

walk_plain : (w : Walk) (a : Area) → walk_in_range w ≡ true → IsPlaced a → list_all is_field (walk_fields w ++ area_fields a) ≡ true
walk_plain (Up g) a h b = both _ _ refl (both _ _ (natural_field 65535 g (omega arith) h) (area_plain a [] b refl))
walk_plain All a h b = both _ _ refl (area_plain a [] b refl)

-- a line whose numbers are in their ranges
pub reads : (l : Line) → line_in_range l ≡ true → Reads l
unfolding line_of
reads (told.Feed c) h =
    let t = told_command c (first (in_range c) (is_sound c) h) (second (in_range c) (is_sound c) h) in
    let w = words t.word in
    record { word = codes "feed"; fields = word_text t.word ∷ t.fields; text = feed_text c t; is_word = refl; plain = both _ _ w.is_field t.plain; reads = feed_back c t }
reads told.Outside h = cc
reads told.Step h = record { word = codes "step"; fields = []; text = refl; is_word = refl; plain = refl; reads = refl }
reads (told.Start p) h = record { word = codes "start"; fields = decimal p ∷ []; text = refl; is_word = refl; plain = both _ _ (place_field_of p h) refl; reads = start_back p h }
reads (told.Publish p k) h =
    let a = first (is_place p) (is_key k) h in
    let b = placed_key k (second (is_place p) (is_key k) h) in
    record { word = codes "publish"; fields = decimal p ∷ key_fields k; text = refl; is_word = refl; plain = both _ _ (place_field_of p a) (key_plain k b); reads = publish_back p k a b }
reads (told.End p) h = record { word = codes "end"; fields = decimal p ∷ []; text = refl; is_word = refl; plain = both _ _ (place_field_of p h) refl; reads = end_back p h }
reads (told.Walk p patch) h =
    let a = first (is_place p) (patch_in_range patch) h in
    let b = second (is_place p) (patch_in_range patch) h in
    let w = first (walk_in_range patch.walk) (lies_in patch.rect world && of_limits patch.rect) b in
    let r = second (walk_in_range patch.walk) (lies_in patch.rect world && of_limits patch.rect) b in
    let l = first (lies_in patch.rect world) (of_limits patch.rect) r in
    let i = placed_in patch.rect l (second (lies_in patch.rect world) (of_limits patch.rect) r) in
    record { word = codes "walk"; fields = decimal p ∷ walk_fields patch.walk ++ area_fields patch.rect; text = refl; is_word = refl; plain = both _ _ (place_field_of p a) (walk_plain patch.walk patch.rect w i); reads = walk_back p patch.walk patch.rect a w l i }
reads (told.Put p g k) h =
    let a = first (is_place p) (is_group_number g && is_key k) h in
    let b = second (is_place p) (is_group_number g && is_key k) h in
    let n = first (is_group_number g) (is_key k) b in
    let i = placed_key k (second (is_group_number g) (is_key k) b) in
    record { word = codes "put"; fields = decimal p ∷ decimal g ∷ key_fields k; text = refl; is_word = refl; plain = both _ _ (place_field_of p a) (both _ _ (natural_field 65535 g (omega arith) n) (key_plain k i)); reads = put_back p g k a n i }

-- the fields of a line
abbrev pub row : {l : Line} → Reads l → Fields
row r = r.word ∷ r.fields

-- the first line of a text that begins with a printed one
pub line_read : (l : Line) (r : Reads l) (rest : List ℕ) → lines (line_text l ++ rest) ≡ row r ∷ lines rest
line_read l r rest = ap (λ t. lines (t ++ rest)) r.text ∙ line_first r.word r.fields rest r.is_word r.plain
