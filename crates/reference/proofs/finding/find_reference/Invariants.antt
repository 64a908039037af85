use Rattle.std.proofs.Common.{◌≡◌, ◌+◌, ◌-◌}
use Rattle.tape.specs.Reading.{parse}
use Rattle.reference.specs.Finding.{searched}
use Rattle.reference.proofs.finding.find_reference.Given as goal

abbrev pub invariant-loop-windows : goal.invariant-loop-windows
invariant-loop-windows l =
    searched l.request.symbol.now l.request.close (parse l.tape) l.windows (l.request.windows + 1 - l.windows)
    ≡ searched l.request.symbol.now l.request.close (parse l.tape) 1 l.request.windows
