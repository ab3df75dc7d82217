use Rattle.std.proofs.Common.{rules, ◌≡◌, ◌++◌, ◌∷◌, Err, ap}
use Rattle.script_text.specs.declared.script.ReadRefusal.TheVariants.{Fault}
use Rattle.strokes_top.proofs.Intakes.{room, ended_in, faulty_in}
use Rattle.strokes_top.proofs.intake.Intake.take.Goals as goal

pub feed-requires : goal.feed-requires
feed-requires c =
    let text : c.deref.result.now ≡ c.args.self.rest.items ++ c.in-Some.ended.now = search rules in
    let cut : c.args.piece.now ≡ c.in-Some.ended.now ++ 10 ∷ c.in-Some.behind.now = search rules in
    room c.args.self c.requires.0 c.requires.1 c.in-Some.ended.now c.in-Some.behind.now c.args.piece.now c.deref.result.now cut text c.requires.2

pub returns-in_err-reader-clause-fault : goal.returns-in_err-reader-clause-fault
returns-in_err-reader-clause-fault c = λ got more f t e.
    let text : c.deref.result.now ≡ c.args.self.rest.items ++ c.in-Some.ended.now = search rules in
    let cut : c.args.piece.now ≡ c.in-Some.ended.now ++ 10 ∷ c.in-Some.behind.now = search rules in
    let told : c.from_residual-in_err-reader.result ≡ Err c.in_err-reader.field-0.0 = search rules in
    let is : c.in_err-reader.field-0.0 ≡ Fault f = cc in
    faulty_in c.args.self got t c.in-Some.ended.now c.in-Some.behind.now c.args.piece.now c.deref.result.now cut text f more
    (λ others. c.in_err-reader.ensures.fault t.whole others f t.read (ap Err is))

pub returns-clause-ok : goal.returns-clause-ok
returns-clause-ok c = λ got t.
    let text : c.deref.result.now ≡ c.args.self.rest.items ++ c.in-Some.ended.now = search rules in
    let cut : c.args.piece.now ≡ c.in-Some.ended.now ++ 10 ∷ c.in-Some.behind.now = search rules in
    let rest : c.extend_from_slice-3.new.self.items ≡ c.in-Some.behind.now = search rules in
    ended_in c.args.self got t c.in-Some.ended.now c.in-Some.behind.now c.args.piece.now c.deref.result.now cut text
    (record { reader = c.in_ok-reader.reader; rest = c.extend_from_slice-3.new.self }) (c.in_ok-reader.ensures.ok t.whole t.read) rest
