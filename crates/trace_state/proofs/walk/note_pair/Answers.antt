use Rattle.std.proofs.Common.{rules, ◌≡◌, ◌||◌, drop, ◌+◌, length, map, refl, sym, ap, ◌∙◌, arith}
use Rattle.std.proofs.lemmas.Option.{slice_get_read}
use Rattle.std.specs.Prelude.{slice_set}
use Rattle.std.specs.List.{list_any}
use Rattle.trace_state.specs.Walking.{lacks, noted}
use Rattle.trace_state.proofs.Noting.{some_here}
use Rattle.trace_state.proofs.Passes.{changed_here}
use Rattle.trace_state.proofs.walk.note_pair.Goals as goal

pub loop-i-preserved : goal.loop-i-preserved
loop-i-preserved c =
    let groups = c.loop-i.groups in
    let i = c.loop-i.i in
    let x = c.index-groups-i.result in
    let f = noted c.args.group c.args.key in
    let at = slice_get_read groups (length groups) i x refl (omega arith) c.index-groups-i.is in
    let is = ap (slice_set groups i) (c.in_ok-lacked.ensures.noted ∙ ap f (sym c.index-groups-i.is)) in
    let lack = lacks c.args.group c.args.key in
    let joined : c.if-new.new ≡ (c.loop-i.new || c.in_ok-lacked.lacked) = search rules in
    let new : c.if-new.new ≡ (c.loop-i.new || lack x) = joined ∙ ap (λ b. c.loop-i.new || b) (c.in_ok-lacked.ensures.new ∙ ap lack (sym c.index-groups-i.is)) in
    record {
      noted = changed_here f groups _ i x (map f c.args.groups.now) at is c.loop-i.invariant.noted;
      new = ap (λ b. b || list_any lack (drop (i + 1) (slice_set groups i c.note.new.self))) new ∙ some_here lack groups _ i x _ c.loop-i.new (list_any lack c.args.groups.now) at is c.loop-i.invariant.new;
    }
