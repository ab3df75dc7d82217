use Rattle.std.proofs.Common.{◌≡◌, true, is_some, pos, ap, subst, ◌∙◌}
use Rattle.std.specs.FinMap as map
use Rattle.std.specs.Prelude.{None}
use Rattle.geom_core.specs.Grid.{key}
use Rattle.tile_core.specs.Pixels.{Pixels}
use Rattle.memento_core.specs.Planes.{tile_under}
use Rattle.memento_core.specs.Revisions.{noted_under}
use Rattle.memento_core.specs.Books.{Pages}
use Rattle.store_tests.proofs.Noted.{twice_noted, write_keeps}
use Rattle.store_tests.proofs.books.paints.Goals as goal

pub note-requires-2-clause-open : goal.note-requires-2-clause-open
note-requires-2-clause-open c = ap (λ (b : Pages Pixels). is_some b.index) (c.in_ok-note.ensures.ok map.empty (ap (λ (b : Pages Pixels). b.index) c.in_ok-begin.ensures.ok))

pub returns-clause-stand : goal.returns-clause-stand
returns-clause-stand c =
    let k = key (pos 0) (pos 0) in
    let first = c.in_ok-note.ensures.ok map.empty (ap (λ (b : Pages Pixels). b.index) c.in_ok-begin.ensures.ok) in
    twice_noted c.write_region.new.self.tiles k c.note-2.new.self.index (subst (λ q. is_some (tile_under c.write_region.new.self.tiles q) ≡ true) c.requires.key c.in_ok-write_region.ensures.ok.stands)
    (ap (λ (b : Pages Pixels). b.index) (c.in_ok-note-2.ensures.ok (noted_under map.empty k None) (ap (λ (b : Pages Pixels). b.index) first)))

pub returns-clause-open : goal.returns-clause-open
returns-clause-open c =
    let first = c.in_ok-note.ensures.ok map.empty (ap (λ (b : Pages Pixels). b.index) c.in_ok-begin.ensures.ok) in
    ap (λ (b : Pages Pixels). is_some b.index) (c.in_ok-note-2.ensures.ok (noted_under map.empty (key (pos 0) (pos 0)) None) (ap (λ (b : Pages Pixels). b.index) first))

pub returns-clause-redo : goal.returns-clause-redo
returns-clause-redo c =
    let first = c.in_ok-note.ensures.ok map.empty (ap (λ (b : Pages Pixels). b.index) c.in_ok-begin.ensures.ok) in
    ap (λ (b : Pages Pixels). b.redo) (c.in_ok-note-2.ensures.ok (noted_under map.empty (key (pos 0) (pos 0)) None) (ap (λ (b : Pages Pixels). b.index) first)) ∙ ap (λ (b : Pages Pixels). b.redo) first ∙ ap (λ (b : Pages Pixels). b.redo) c.in_ok-begin.ensures.ok

pub returns-clause-past : goal.returns-clause-past
returns-clause-past c =
    let first = c.in_ok-note.ensures.ok map.empty (ap (λ (b : Pages Pixels). b.index) c.in_ok-begin.ensures.ok) in
    ap (λ (b : Pages Pixels). b.past) (c.in_ok-note-2.ensures.ok (noted_under map.empty (key (pos 0) (pos 0)) None) (ap (λ (b : Pages Pixels). b.index) first)) ∙ ap (λ (b : Pages Pixels). b.past) first ∙ ap (λ (b : Pages Pixels). b.past) c.in_ok-begin.ensures.ok

pub returns-clause-keys : goal.returns-clause-keys
returns-clause-keys c = write_keeps c.args.device.now c.write_region.new.self c.args.block.now c.in_ok-write_region.ensures.ok
