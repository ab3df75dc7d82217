use Rattle.std.proofs.Common.{◌≡◌, ◌||◌, map, sym, ap, ◌∙◌}
use Rattle.std.specs.List.{list_any}
use Rattle.std.proofs.lemmas.Int.{to_z-of_z}
use Rattle.geom_core.specs.Areas.{point, holds}
use Rattle.doc_model.specs.declared.canvas.Patch.{Patch}
use Rattle.geom_core.proofs.Tests.{or_left}
use Rattle.machine_model.specs.State.{State}
use Rattle.machine_model.specs.Covers.{covered}
use Rattle.desk_state.specs.Choices.{works_on}
use Rattle.desk_state.specs.Parts.{state_of, slot_of}
use Rattle.desk_state.proofs.Looking.{covered_root}
use Rattle.desk_events.specs.Kept.{parts_of}
use Rattle.desk_events.proofs.machine.Machine.is_covered.Goals as goal

pub some_works-requires : goal.some_works-requires
some_works-requires c = c.self.invariant.slots

pub returns-then-some_waits : goal.returns-then-some_waits
returns-then-some_waits c =
    let told : c.some_waits.result ≡ list_any (λ (q : Patch). holds q.rect (point c.args.x c.args.y)) c.self.inside.updates.patches = simp (to_z-of_z, c.ranges.x, c.ranges.y) at c.some_waits.ensures in
    c.if-some_waits.true
    ∙ sym (covered_root (state_of (parts_of c.self.inside)) (point c.args.x c.args.y) c.self.invariant.sound.orderly ∙ or_left _ (list_any (works_on (point c.args.x c.args.y)) (map slot_of c.self.inside.slots)) (sym told ∙ c.if-some_waits.true))
    ∙ ap (λ (s : State). covered s 0 (point c.args.x c.args.y)) c.self.view_is

pub returns-else-some_waits : goal.returns-else-some_waits
returns-else-some_waits c =
    let told : c.some_waits.result ≡ list_any (λ (q : Patch). holds q.rect (point c.args.x c.args.y)) c.self.inside.updates.patches = simp (to_z-of_z, c.ranges.x, c.ranges.y) at c.some_waits.ensures in
    let works : c.some_works.result ≡ list_any (works_on (point c.args.x c.args.y)) (map slot_of c.self.inside.slots) = simp (to_z-of_z, c.ranges.x, c.ranges.y) at c.some_works.ensures in
    works
    ∙ ap (λ b. b || list_any (works_on (point c.args.x c.args.y)) (map slot_of c.self.inside.slots)) (sym (sym told ∙ c.if-some_waits.false))
    ∙ sym (covered_root (state_of (parts_of c.self.inside)) (point c.args.x c.args.y) c.self.invariant.sound.orderly)
    ∙ ap (λ (s : State). covered s 0 (point c.args.x c.args.y)) c.self.view_is
