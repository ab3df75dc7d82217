use Rattle.std.proofs.Common.{◌≡◌, ◌-◌, Some, subst, arith}
use Rattle.std.specs.Prelude.{slice_get}
use Rattle.machine_model.specs.State.{State}
use Rattle.host_desk.proofs.WrittenLines.{command_added}
use Rattle.host_desk.proofs.host.Host.add_line.Goals as goal

pub returns-else-i-eq0 : goal.returns-else-i-eq0
returns-else-i-eq0 c =
    command_added c.args.self.now c.args.i c.fed.result.now c.args.text.now.items c.add_command.new.out.items c.add_command.result (omega (arith, c.if-i-eq0.false))
    (subst (λ (s : State). slice_get s.fed (c.args.i - 1) ≡ Some c.fed.result.now) c.self.view_is c.fed.ensures)
    c.add_command.ensures
