use Rattle.std.proofs.Common.{◌≡◌, ◌∙◌, ap, sym, subst, map, rules}
use Rattle.io_edge.proofs.Written.{prefix_is}
use Rattle.log_out.specs.Summary.{sheet_of}
use Rattle.log_out.specs.Log.{sum_text}
use Rattle.strokes_top.specs.Room.{ShowsFor}
use Rattle.strokes_top.specs.Output.{asked_as, output}
use Rattle.strokes_top.proofs.Outputs.{one_each, pictures_are, room_of, room_suffices, sides_of, summary_is, whole_is}
use Rattle.strokes_top.proofs.writing.write_output.Goals as goal

pub write_log-requires : goal.write_log-requires
write_log-requires g c =
    record { each = one_each _ _ _ (subst (λ f. ShowsFor f c.args.script.now c.args.film.now c.args.outcomes.now) c.in-Log.is c.requires.shows) }

pub write_pictures-requires : goal.write_pictures-requires
write_pictures-requires g c =
    (search rules, room_suffices c.args.script.now.canvas _ _ (room_of c.args.form c.args.script.now.canvas _ _ c.in-Picture.is c.requires.room) (sides_of c.args.form _ _ _ c.in-Picture.is c.requires.shows))

pub returns-in-Picture-clause-ok : goal.returns-in-Picture-clause-ok
returns-in-Picture-clause-ok g c = whole_is _ _ _ _ _ c.write_pictures.ensures.ok (pictures_are c.args.form _ _ _ c.in-Picture.is c.requires.shows)

pub returns-in-Picture-clause-err : goal.returns-in-Picture-clause-err
returns-in-Picture-clause-err g c = prefix_is _ _ _ _ _ c.write_pictures.ensures.err (pictures_are c.args.form _ _ _ c.in-Picture.is c.requires.shows)

pub returns-in-Sum-clause-ok : goal.returns-in-Sum-clause-ok
returns-in-Sum-clause-ok g c =
    let shows = subst (λ f. ShowsFor f c.args.script.now c.args.film.now c.args.outcomes.now) c.in-Sum.is c.requires.shows in
    let is : sum_text (map sheet_of c.frames.result.now) c.args.outcomes.now ≡ output (asked_as c.args.form) c.args.script.now =
    ap (λ frames. sum_text (map sheet_of frames) c.args.outcomes.now) c.frames.ensures ∙ summary_is _ _ _ shows ∙ ap (λ f. output (asked_as f) c.args.script.now) (sym c.in-Sum.is) in
    whole_is _ _ _ _ _ c.write_sum.ensures.ok is

pub returns-in-Sum-clause-err : goal.returns-in-Sum-clause-err
returns-in-Sum-clause-err g c =
    let shows = subst (λ f. ShowsFor f c.args.script.now c.args.film.now c.args.outcomes.now) c.in-Sum.is c.requires.shows in
    let is : sum_text (map sheet_of c.frames.result.now) c.args.outcomes.now ≡ output (asked_as c.args.form) c.args.script.now =
    ap (λ frames. sum_text (map sheet_of frames) c.args.outcomes.now) c.frames.ensures ∙ summary_is _ _ _ shows ∙ ap (λ f. output (asked_as f) c.args.script.now) (sym c.in-Sum.is) in
    prefix_is _ _ _ _ _ c.write_sum.ensures.err is
