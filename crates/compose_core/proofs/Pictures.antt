-- The picture of a group, from those of its children.
use Rattle.std.proofs.Common.{◌≡◌, refl}
use Rattle.std.specs.Prelude.{fold}
use Rattle.pixel_core.specs.Rgba.{Rgba, clear}
use Rattle.geom_core.specs.Areas.{Point}
use Rattle.doc_model.specs.Forest.{none, paint, group}
use Rattle.doc_model.specs.Layers.{at}
use Rattle.doc_model.specs.Picture.{Doc, laid, with_look}
use Rattle.compose_core.specs.Children.{with_child, children_at, PictureOfPictures}

laid_from : (nodes : Doc) (p : Point) (backdrop : Rgba) → laid nodes p backdrop ≡ fold with_child backdrop (children_at nodes p)
laid_from none p backdrop = refl
laid_from (paint id look layer rest) p backdrop = laid_from rest p (with_look look (at layer p) backdrop)
laid_from (group id look nodes rest) p backdrop = laid_from rest p (with_look look (laid nodes p clear) backdrop)

pub group_from_children : PictureOfPictures
group_from_children nodes p = laid_from nodes p clear
