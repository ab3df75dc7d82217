use Rattle.std.proofs.Common.{rules, ◌≤◌, Ok, Err, [], ◌∷◌, length, refl, subst, inl, inr}
use Rattle.script_text.specs.declared.script.ReadRefusal.TheVariants as refusal
use Rattle.script_text.specs.declared.script.ReadRefusal.{ReadRefusal}
use Rattle.host_desk.specs.Opening.{OpensScript}
use Rattle.strokes_c.specs.Calls.{AreSlots}
use Rattle.strokes_c.proofs.strokes_open_script.Goals as goal

pub returns-in-Some : goal.returns-in-Some
returns-in-Some c = inl (c.in-Some.host.value, c.in-Some.ensures.some, c.put.ensures, c.code.ensures, refl)

pub returns-then-slots-lt1 : goal.returns-then-slots-lt1
returns-then-slots-lt1 c =
    let outside : AreSlots c.args.slots → ⊥ = search rules in
    inr (c.in_default.ensures.none, inl (outside, c.code-then-slots-lt1.ensures, c.in_default.ensures.shut, refl))

pub returns-then-text-ge4294967295 : goal.returns-then-text-ge4294967295
returns-then-text-ge4294967295 c =
    let slots : AreSlots c.args.slots = search rules in
    let long : 4294967295 ≤ length c.args.text.now = search rules in
    inr (c.in_default.ensures.none, inr (inl (slots, long, c.code-then-text-ge4294967295.ensures, c.in_default.ensures.shut, refl)))

pub returns-in-Ok : goal.returns-in-Ok
returns-in-Ok c =
    let slots : AreSlots c.args.slots = search rules in
    inr (c.in_default.ensures.none, inr (inr (Ok (c.in-Ok.host.value ∷ []), slots, (c.in-Ok.host.value, refl, c.in-Ok.ensures.ok), (c.code-in-Ok.ensures, c.put-in-Ok.ensures, refl))))

pub returns-in-Err-Fault : goal.returns-in-Err-Fault
returns-in-Err-Fault c =
    let slots : AreSlots c.args.slots = search rules in
    let why = subst (λ (e : ReadRefusal). OpensScript c.args.text.now c.args.slots (Err e)) c.in-Err-Fault.field-0-is c.in-Err-Fault.ensures.err in
    inr (c.in_default.ensures.none, inr (inr (Err (refusal.Fault c.in-Err-Fault.fault), slots, why, (c.code-in-Err-Fault.ensures, c.in_default.ensures.shut, refl))))

pub returns-in-Err-NoMemory : goal.returns-in-Err-NoMemory
returns-in-Err-NoMemory c =
    let slots : AreSlots c.args.slots = search rules in
    inr (c.in_default.ensures.none, inr (inr (Err refusal.NoMemory, slots, tt, (c.code-in-Err-NoMemory.ensures, c.in_default.ensures.shut, refl))))
