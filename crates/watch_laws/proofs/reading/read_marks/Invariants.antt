use Rattle.std.proofs.Common.{reverse, take, drop}
use Rattle.watch_laws.proofs.Played.{Sofar}
use Rattle.watch_laws.proofs.reading.read_marks.Given as goal

abbrev pub invariant-loop-mark : goal.invariant-loop-mark
invariant-loop-mark l = Sofar l.levels l.day.state (reverse (take l.mark-index l.marks)) (drop l.mark-index l.marks) l.marks
