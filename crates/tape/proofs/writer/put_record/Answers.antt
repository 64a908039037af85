use Rattle.std.proofs.Common.{◌+◌, ◌≤◌, length, arith}
use Rattle.tape.specs.Format.{plain, symbol_of, head, encode}
use Rattle.tape.proofs.Splices.{splice_two, length_head}
use Rattle.tape.proofs.writer.put_record.Goals as goal

pub returns : goal.returns
unfolding encode
returns c =
    let r = plain c.args.item.now in
    let long = length_head r in
    let room : c.args.at + length (head r) ≤ length c.args.buffer.now = omega arith in
    let two = splice_two c.args.at (head r) (symbol_of r) c.args.buffer.now room in
    let a = c.put.ensures in
    let b = c.put-2.ensures in
    let h = c.head_of-head.ensures in
    let s = c.symbol.ensures in
    cc
