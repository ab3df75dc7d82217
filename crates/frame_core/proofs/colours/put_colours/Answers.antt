use Rattle.std.proofs.Common.{◌≡◌, ◌+◌, ◌*◌, ◌++◌, ◌∙◌, sym, ap, refl, arith, take, drop}
use Rattle.std.specs.List.{flat_map}
use Rattle.std.proofs.lemmas.List.{take-take}
use Rattle.frame_core.specs.Frames.{colours}
use Rattle.frame_core.proofs.LaidColours.{put_row, take_colours}
use Rattle.frame_core.proofs.colours.put_colours.Goals as goal

pub returns : goal.returns
returns c =
    let bytes : c.copy_from_slice.new.self ≡ flat_map colours (take c.args.n c.args.pixels.now) =
    c.copy_from_slice.ensures.after ∙ sym (take-take (3 * c.args.n) 192 c.write_colours.new.bytes (omega (arith, c.requires.few))) ∙ ap (take (3 * c.args.n)) c.write_colours.ensures ∙ take_colours c.args.pixels.now c.args.n in
    put_row c.args.row.now c.copy_from_slice.new.self c.args.at (c.args.at + 3 * c.args.n) (3 * c.args.n) refl ∙ ap (λ v. take c.args.at c.args.row.now ++ v ++ drop (c.args.at + 3 * c.args.n) c.args.row.now) bytes
