use Rattle.std.proofs.Common.{◌≡◌, map}
use Rattle.tape.specs.Format.{plain}
use Rattle.tape_laws.proofs.Keepings.{Kept}
use Rattle.tape_laws.proofs.write.write_tape.Given as goal

abbrev pub invariant-loop-item : goal.invariant-loop-item
invariant-loop-item l =
    (l.initial.writer.buffer.ghost_name ≡ l.writer.buffer.ghost_name)
    × Kept l.initial.writer.buffer.now (map plain l.items) l.item-index l.writer.buffer.now l.writer.end l.records
