use Rattle.std.proofs.Common.{◌+◌, ◌*◌, ◌++◌, ◌∙◌, ap, take, drop}
use Rattle.frame_core.proofs.LaidColours.{paper_colours}
use Rattle.frame_core.proofs.colours.lay_paper.Goals as goal

pub returns : goal.returns
returns c = c.put_colours.ensures ∙ ap (λ v. take c.args.at c.args.row.now ++ v ++ drop (c.args.at + 3 * c.args.n) c.args.row.now) (paper_colours c.args.paper c.args.n c.requires.opaque c.requires.few)
