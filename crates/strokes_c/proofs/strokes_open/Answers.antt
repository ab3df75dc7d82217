use Rattle.std.proofs.Common.{rules, ◌≡◌, Some, None, [], ◌∷◌, inl, inr}
use Rattle.machine_model.specs.State.{new_state}
use Rattle.strokes_c.specs.Calls.{AreSlots}
use Rattle.host_lines.specs.Structs.{canvas_by}
use Rattle.strokes_c.proofs.strokes_open.Goals as goal

pub returns-in-Some : goal.returns-in-Some
returns-in-Some c = inl (c.in-Some.host.value, c.in-Some.ensures.some, c.put.ensures, c.code.ensures)

pub returns-in_default-canvas_within : goal.returns-in_default-canvas_within
returns-in_default-canvas_within c =
    let outside : canvas_by c.args.canvas.now ≡ None = search rules in
    inr (c.in_default.ensures.none, inr (inl (inl outside, c.code-in_default-canvas_within.ensures, c.in_default.ensures.shut)))

pub returns-then-slots-lt1 : goal.returns-then-slots-lt1
returns-then-slots-lt1 c =
    let outside : AreSlots c.args.slots → ⊥ = search rules in
    inr (c.in_default.ensures.none, inr (inl (inr outside, c.code-then-slots-lt1.ensures, c.in_default.ensures.shut)))

pub returns-in-Some-open : goal.returns-in-Some-open
returns-in-Some-open c =
    let canvas : canvas_by c.args.canvas.now ≡ Some c.in-Some-canvas_within.canvas = search rules in
    let slots : AreSlots c.args.slots = search rules in
    let new : c.put-in-Some-open.new.self.value ≡ new_state c.in-Some-canvas_within.canvas c.args.slots ∷ [] = search rules in
    inr (c.in_default.ensures.none, inl (c.in-Some-canvas_within.canvas, canvas, slots, c.code-in-Some-open.ensures, new))

pub returns-in-None : goal.returns-in-None
returns-in-None c =
    let canvas : canvas_by c.args.canvas.now ≡ Some c.in-Some-canvas_within.canvas = search rules in
    let slots : AreSlots c.args.slots = search rules in
    inr (c.in_default.ensures.none, inr (inr (c.in-Some-canvas_within.canvas, canvas, slots, c.code-in-None.ensures, c.in_default.ensures.shut)))
