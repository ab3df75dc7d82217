use Rattle.host_desk.proofs.FedScripts.{ScriptFed}
use Rattle.host_desk.proofs.opening.feed_script.Given as goal

-- the commands so far are fed
abbrev pub invariant-loop-i : goal.invariant-loop-i
invariant-loop-i l = ScriptFed l.initial.desk l.desk l.script.commands l.i
