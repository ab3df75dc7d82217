use Rattle.std.proofs.Common.{◌≡◌, ◌+◌, ◌++◌, ℕ, suc, take, ap, arith, rules, drop, length, refl, sym, subst, Some, ◌∙◌}
use Rattle.std.specs.Prelude.{slice_get}
use Rattle.std.specs.List.{flat_map}
use Rattle.std.proofs.lemmas.Option.{get_or_from_slice_get, slice_get_read, slice_get_within}
use Rattle.geom_core.proofs.Tests.{some_same}
use Rattle.frame_core.specs.Frames.{Scene, Shows}
use Rattle.io_edge.proofs.Written.{appends_to, flat_more, on_err_any, prefix_behind}
use Rattle.ppm_out.specs.Scenes.{scene_bytes}
use Rattle.ppm_out.proofs.Series.{pixmaps_at}
use Rattle.ppm_out.proofs.picture.write_frames_by.Goals as goal

pub returns-in_err-write_picture-clause-err : goal.returns-in_err-write_picture-clause-err
returns-in_err-write_picture-clause-err g c =
    let film = c.args.film.now in
    let frames = c.frames-frames.result.now in
    let i = c.loop-i.i in
    let s : Scene = c.index-frames-i-in-loop-i.result in
    let at : slice_get film i ≡ Some s = subst (λ scenes. slice_get scenes i ≡ Some s) c.frames-frames.ensures (slice_get_read frames (length frames) i s refl c.loop-i-test.true c.index-frames-i-in-loop-i.is) in
    on_err_any c.from_residual.result
    (prefix_behind _ _ _ _ (scene_bytes s) (flat_map scene_bytes (drop (suc i) film)) (flat_map scene_bytes film) c.loop-i.invariant.so_far c.in_err-write_picture.ensures.err (pixmaps_at film i s at))

pub lay_picture-requires-clause-of : goal.lay_picture-requires-clause-of
lay_picture-requires-clause-of g c = λ κs lives.
    let frames = c.frames-frames.result.now in
    let i = c.loop-i.i in
    let s : Scene = c.index-frames-i.result in
    let at : slice_get c.args.film.now i ≡ Some s = subst (λ scenes. slice_get scenes i ≡ Some s) c.frames-frames.ensures (slice_get_read frames (length frames) i s refl c.loop-i-test.true c.index-frames-i.is) in
    some_same _ s (sym c.rows_of-rows.ensures.of ∙ at)

pub loop-i-preserved : goal.loop-i-preserved
loop-i-preserved g c =
    let film = c.args.film.now in
    let frames = c.frames-frames.result.now in
    let i = c.loop-i.i in
    let s : Scene = c.index-frames-i.result in
    let at : slice_get c.args.film.now c.loop-i.i ≡ Some c.index-frames-i.result = subst (λ scenes. slice_get scenes i ≡ Some s) c.frames-frames.ensures (slice_get_read frames (length frames) i s refl c.loop-i-test.true c.index-frames-i.is) in
    let again : slice_get c.args.film.now c.loop-i.i ≡ Some c.index-frames-i-in-loop-i.result = subst (λ scenes. slice_get scenes i ≡ Some c.index-frames-i-in-loop-i.result) c.frames-frames.ensures (slice_get_read frames (length frames) i c.index-frames-i-in-loop-i.result refl c.loop-i-test.true c.index-frames-i-in-loop-i.is) in
    let next : suc c.loop-i.i ≡ c.loop-i.i + 1 = omega arith in
    let more : flat_map scene_bytes (take c.loop-i.i c.args.film.now) ++ scene_bytes c.index-frames-i-in-loop-i.result ≡ flat_map scene_bytes (take (c.loop-i.i + 1) c.args.film.now)
    = ap (λ v. flat_map scene_bytes (take c.loop-i.i c.args.film.now) ++ scene_bytes v) (sym (get_or_from_slice_get c.args.film.now c.loop-i.i c.index-frames-i-in-loop-i.result c.index-frames-i-in-loop-i.result again))
    ∙ flat_more scene_bytes c.args.film.now c.loop-i.i c.index-frames-i-in-loop-i.result (slice_get_within c.args.film.now c.loop-i.i c.index-frames-i-in-loop-i.result again)
    ∙ ap (λ n. flat_map scene_bytes (take n c.args.film.now)) next in
    let after_one : (k : ℕ) → c.loop-i.i + 1 ≡ suc k → k ≡ c.loop-i.i = λ k e. omega (arith, e) in
    record {
      later = search rules;
      room = search rules;
      shown = λ k before e b.
          subst (λ v. Shows v c.lay_picture.new.picture) (some_same s before (sym at ∙ subst (λ n. slice_get c.args.film.now n ≡ Some before) (after_one k e) b)) c.lay_picture.ensures.shown;
      so_far = appends_to _ _ _ _ (scene_bytes c.index-frames-i-in-loop-i.result) _ c.loop-i.invariant.so_far c.in_ok-write_picture.ensures.ok more;
    }
