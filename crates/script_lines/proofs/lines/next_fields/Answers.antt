use Rattle.std.proofs.Common.{rules, ◌≡◌, ◌==◌, ◌||◌, ◌∙◌, ◌+◌, ◌<◌, ◌≤◌, ◌∷◌, [], ◌++◌, true, false, length, get_or, take, map, ap, sym, subst, arith}
use Rattle.std.proofs.lemmas.List.{take_all}
use Rattle.std.specs.List.{filter}
use Rattle.script_lines.specs.Lines.{fields, lines, is_blank}
use Rattle.script_lines.specs.Fronts.{is_some_field, pointed}
use Rattle.script_lines.proofs.Pieces.{NonePasses, IsDone, piece, none_more, first_piece, only_piece, line_done, piece_done, left_holds, or_false_left, or_false_right}
use Rattle.script_lines.proofs.lines.next_fields.Goals as goal
use Rattle.script_lines.proofs.lines.next_fields.Goals.{then-ends_piece+in_ok-add_piece+else-byte-eq10, else-ends_piece}

pub returns-then-byte-eq10 : goal.returns-then-byte-eq10
returns-then-byte-eq10 c =
    let bytes = c.args.bytes.now in
    let i = c.loop-i.i in
    let start = c.loop-i.start in
    let done = pointed c.loop-i.fields.items in
    let so_far = c.loop-i.invariant in
    let feed : (get_or bytes i 0 == 10) ≡ true = search rules in
    let told : pointed c.add_piece.new.fields.items ≡ done ++ filter is_some_field (piece bytes start i ∷ []) = search rules in
    let line = line_done bytes start i so_far.start so_far.end so_far.blanks done so_far.done in
    ap (map fields) (first_piece (λ b. b == 10) bytes i c.loop-i-test.true so_far.feeds feed)
    ∙ (λ t. (line ∙ sym told) t ∷ lines (sym c.split_at.ensures.back t))

pub loop-i-preserved : goal.loop-i-preserved
loop-i-preserved c =
    let bytes = c.args.bytes.now in
    let i = c.loop-i.i in
    let start = c.loop-i.start in
    let done = pointed c.loop-i.fields.items in
    let so_far = c.loop-i.invariant in
    let inside : i < length bytes = c.loop-i-test.true in
    elim c.if-ends_piece.branch [
      | then-ends_piece+in_ok-add_piece+else-byte-eq10 w ↦
          let ends : (is_blank (get_or bytes i 0) || (get_or bytes i 0 == 10)) ≡ true = search rules in
          let no_feed : (get_or bytes i 0 == 10) ≡ false = search rules in
          let blank = left_holds (is_blank (get_or bytes i 0)) (get_or bytes i 0 == 10) ends no_feed in
          let told : pointed w.add_piece.new.fields.items ≡ done ++ filter is_some_field (piece bytes start i ∷ []) = search rules in
          let more : IsDone bytes (i + 1) (pointed w.add_piece.new.fields.items) = subst (IsDone bytes (i + 1)) (sym told) (piece_done bytes start i so_far.start so_far.end so_far.blanks done inside blank so_far.done) in
          record {
            start = omega (arith, w.start-is);
            end = omega (arith, inside);
            blanks = λ k low high. absurd (omega (arith, w.start-is, low, high));
            feeds = none_more (λ b. b == 10) bytes 0 i so_far.feeds no_feed;
            done = subst (λ s. IsDone bytes s (pointed c.if-ends_piece.fields.items)) (sym w.start-is) (subst (λ fs. IsDone bytes (i + 1) (pointed fs.items)) (sym w.fields-is) more);
          }
      | else-ends_piece w ↦
          let neither : (is_blank (get_or bytes i 0) || (get_or bytes i 0 == 10)) ≡ false = search rules in
          record {
            start = omega (arith, w.start-is, so_far.start);
            end = omega (arith, inside);
            blanks = subst (λ s. NonePasses is_blank bytes s (i + 1)) (sym w.start-is) (none_more is_blank bytes start i so_far.blanks (or_false_left (is_blank (get_or bytes i 0)) (get_or bytes i 0 == 10) neither));
            feeds = none_more (λ b. b == 10) bytes 0 i so_far.feeds (or_false_right (is_blank (get_or bytes i 0)) (get_or bytes i 0 == 10) neither);
            done = subst (λ s. IsDone bytes s (pointed c.if-ends_piece.fields.items)) (sym w.start-is) (subst (λ fs. IsDone bytes start (pointed fs.items)) (sym w.fields-is) so_far.done);
          }
    ]

pub returns : goal.returns
returns c =
    let bytes = c.args.bytes.now in
    let start = c.loop-i.start in
    let done = pointed c.loop-i.fields.items in
    let so_far = c.loop-i.invariant in
    let all : c.loop-i.i ≡ length bytes = omega (arith, so_far.end, c.loop-i-test.false) in
    let low : start ≤ length bytes = omega (arith, so_far.start, so_far.end) in
    let told : pointed c.add_piece-2.new.fields.items ≡ done ++ filter is_some_field (piece bytes start (length bytes) ∷ []) = search rules in
    let line = line_done bytes start (length bytes) low (omega arith) (subst (NonePasses is_blank bytes start) all so_far.blanks) done so_far.done in
    let whole : take (length bytes) bytes ≡ bytes = take_all (length bytes) bytes (omega arith) in
    ap (map fields) (only_piece (λ b. b == 10) bytes (subst (NonePasses (λ b. b == 10) bytes 0) all so_far.feeds))
    ∙ ap (λ l. l ∷ []) (ap fields (sym whole) ∙ (line ∙ sym told))
