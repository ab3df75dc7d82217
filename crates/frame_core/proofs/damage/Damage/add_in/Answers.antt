use Rattle.std.proofs.Common.{rules, ◌∙◌, ap, sym, ◌≡◌, None, slice_index_or, ◌<◌, length}
use Rattle.std.proofs.lemmas.List.{get_or_default}
use Rattle.geom_core.specs.Overlaps.{clipped}
use Rattle.geom_core.specs.Grid.{tile}
use Rattle.frame_core.specs.Damage.{grown, has_all}
use Rattle.frame_core.proofs.DamagedParts.{fit_set, part_added_to, nothing_added_to, grown_as, grown_piece}
use Rattle.frame_core.proofs.damage.Damage.add_in.Goals as goal

inside : (c : goal.After-index-self-place-then-not-has_all) → c.in-Some.place < length c.self.inside.parts
inside c = search rules

grown_is : (c : goal.After-index-self-place-then-not-has_all) → c.grown.result ≡ grown (slice_index_or c.self.inside.parts c.in-Some.place None) (clipped c.args.rect.now (tile c.args.key))
grown_is c = grown_as c.grown.result c.rect_of-part.result (slice_index_or c.self.inside.parts c.in-Some.place None) c.clip.result (clipped c.args.rect.now (tile c.args.key)) c.grown.ensures (c.rect_of-part.ensures ∙ get_or_default c.self.inside.parts c.in-Some.place c.index-self-place.result None (inside c)) (c.clip.ensures.value ∙ ap (clipped c.args.rect.now) c.rect.ensures)

part_is : (c : goal.After-index-self-place-then-not-has_all) → c.piece_of.result ≡ grown (slice_index_or c.self.inside.parts c.in-Some.place None) (clipped c.args.rect.now (tile c.args.key))
part_is c = c.piece_of.ensures ∙ grown_is c

pub piece_of-requires : goal.piece_of-requires
piece_of-requires c = grown_piece c.self.inside.parts c.args.key c.in-Some.place c.args.rect.now c.grown.result c.self.invariant c.in-Some.ensures.value
    (grown_as c.grown.result c.rect_of-part.result (slice_index_or c.self.inside.parts c.in-Some.place None) c.clip.result (clipped c.args.rect.now (tile c.args.key)) c.grown.ensures (c.rect_of-part.ensures ∙ get_or_default c.self.inside.parts c.in-Some.place c.index-self-place.result None (search rules)) (c.clip.ensures.value ∙ ap (clipped c.args.rect.now) c.rect.ensures))

pub invariant_of-self : goal.invariant_of-self
invariant_of-self c = fit_set c.self.inside.parts c.args.key c.in-Some.place c.args.rect.now c.piece_of.result c.self.invariant c.in-Some.ensures.value (inside c) (part_is c)

pub returns-then-not-has_all : goal.returns-then-not-has_all
returns-then-not-has_all c = part_added_to c.args.self.now c.self.inside.parts c.args.key c.in-Some.place c.args.rect.now c.piece_of.result c.self.view_is c.in-Some.ensures.value (inside c) (part_is c)

inside_else : (c : goal.Else-not-has_all) → c.in-Some.place < length c.self.inside.parts
inside_else c = search rules

pub returns-else-not-has_all : goal.returns-else-not-has_all
returns-else-not-has_all c = nothing_added_to c.args.self.now c.self.inside.parts c.args.key c.in-Some.place c.args.rect.now c.self.view_is c.in-Some.ensures.value
    (ap (λ o. has_all o c.args.rect.now) (get_or_default c.self.inside.parts c.in-Some.place None c.index-self-place.result (inside_else c)) ∙ ap (λ o. has_all o c.args.rect.now) (sym c.rect_of-part.ensures) ∙ sym c.has_all.ensures ∙ c.if-not-has_all.false)
