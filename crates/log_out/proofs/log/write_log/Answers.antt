use Rattle.std.proofs.Common.{◌≡◌, ◌+◌, ◌<◌, [], length, drop, ap, ◌∙◌, arith}
use Rattle.std.proofs.KnownBytes.{Appends-nil}
use Rattle.doc_model.specs.Strokes.{entries}
use Rattle.io_edge.proofs.Written.{on_err_any}
use Rattle.log_out.specs.Log.{line, lines, log_text}
use Rattle.log_out.specs.Phrases.{phrase_text}
use Rattle.log_out.proofs.Begun.{begun_now, begun_is, begun_next, begun_fails}
use Rattle.log_out.proofs.Names.{names_in, names_are, length_names, names_pass, names_take, outcome_left, fewer_left, lines_at}
use Rattle.log_out.proofs.log.write_log.Goals as goal

pub loop-i-init : goal.loop-i-init
loop-i-init g c =
    let cs = c.args.script.now.commands in
    let os = c.args.outcomes.now in
    record {
      later = omega arith;
      within = omega arith;
      each = c.requires.each ∙ length_names cs;
      begun = begun_now _ _ [] (lines 1 (names_in cs) os) (log_text (entries cs) os) (Appends-nil _) (ap (λ names. lines 1 names os) (names_are cs));
    }

pub loop-i-preserved-in_default : goal.loop-i-preserved-in_default
loop-i-preserved-in_default g c =
    let cs = c.args.script.now.commands in
    let os = c.args.outcomes.now in
    let k = c.loop-i.done in
    let pass : names_in (drop c.loop-i.i cs) ≡ names_in (drop (c.loop-i.i + 1) cs) = names_pass cs c.loop-i.i c.command.result.now c.command.ensures c.in_default.ensures in
    record {
      later = c.loop-i.invariant.later;
      within = c.loop-i.invariant.within;
      each = c.loop-i.invariant.each ∙ ap length pass;
      begun = begun_is _ _ _ _ (log_text (entries cs) os) c.loop-i.invariant.begun (ap (λ names. lines (k + 1) names (drop k os)) pass);
    }

pub bounds-outcomes-done : goal.bounds-outcomes-done
bounds-outcomes-done g c =
    let cs = c.args.script.now.commands in
    let i = c.loop-i.i in
    outcome_left c.args.outcomes.now c.loop-i.done (names_in (drop i cs)) (names_in (drop (i + 1) cs)) (phrase_text c.in-Some.name) c.loop-i.invariant.each
    (names_take cs i c.command.result.now (phrase_text c.in-Some.name) c.command.ensures c.in-Some.ensures)

pub returns-in_err-write_line-clause-err : goal.returns-in_err-write_line-clause-err
returns-in_err-write_line-clause-err g c =
    let cs = c.args.script.now.commands in
    let os = c.args.outcomes.now in
    let i = c.loop-i.i in
    let k = c.loop-i.done in
    let name = phrase_text c.in-Some.name in
    let ending = phrase_text c.ending_of-ending.result in
    let rest = names_in (drop (i + 1) cs) in
    let take_one = names_take cs i c.command.result.now name c.command.ensures c.in-Some.ensures in
    let left : k < length os = outcome_left os k (names_in (drop i cs)) rest name c.loop-i.invariant.each take_one in
    on_err_any c.from_residual.result
    (begun_fails _ _ _ (line (k + 1) name ending) (lines (k + 1 + 1) rest (drop (k + 1) os)) (log_text (entries cs) os)
    (begun_is _ _ _ _ (log_text (entries cs) os) c.loop-i.invariant.begun (lines_at os k (names_in (drop i cs)) rest name ending _ left take_one c.ending_of-ending.ensures)) c.in_err-write_line.ensures.err)

pub loop-i-preserved : goal.loop-i-preserved
loop-i-preserved g c =
    let cs = c.args.script.now.commands in
    let os = c.args.outcomes.now in
    let i = c.loop-i.i in
    let k = c.loop-i.done in
    let name = phrase_text c.in-Some.name in
    let ending = phrase_text c.ending_of-ending.result in
    let rest = names_in (drop (i + 1) cs) in
    let take_one = names_take cs i c.command.result.now name c.command.ensures c.in-Some.ensures in
    let left : k < length os = outcome_left os k (names_in (drop i cs)) rest name c.loop-i.invariant.each take_one in
    record {
      later = omega (arith, c.loop-i.invariant.later, c.write_line.ensures.cause.later);
      within = omega (arith, left);
      each = fewer_left os k (names_in (drop i cs)) rest name c.loop-i.invariant.each take_one;
      begun = begun_next _ _ _ (line (k + 1) name ending) (lines (k + 1 + 1) rest (drop (k + 1) os)) (log_text (entries cs) os)
          (begun_is _ _ _ _ (log_text (entries cs) os) c.loop-i.invariant.begun (lines_at os k (names_in (drop i cs)) rest name ending _ left take_one c.ending_of-ending.ensures)) c.in_ok-write_line.ensures.ok;
    }
