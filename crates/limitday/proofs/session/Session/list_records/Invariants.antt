use Rattle.std.proofs.Common.{◌-◌, ◌≤◌, length}
use Rattle.limitday.proofs.session.Session.list_records.Given as goal

abbrev pub invariant-loop-placed : goal.invariant-loop-placed
invariant-loop-placed g l = l.reader.at ≤ length l.reader.tape.now

abbrev pub decreases-loop-placed : goal.decreases-loop-placed
decreases-loop-placed g l = length l.reader.tape.now - l.reader.at
