use Rattle.trace_out.proofs.trace.trace_of.Given as goal

abbrev pub ghosts-trace_on : goal.ghosts-trace_on
ghosts-trace_on a = record { name = a.blank.name; parts = a.blank.parts }
