use Rattle.std.proofs.Common.{arith}
use Rattle.words.proofs.Reading.{more}
use Rattle.words.proofs.forms.read_forms.Goals as goal

pub loop-byte-smaller : goal.loop-byte-smaller
loop-byte-smaller g c = let law = rw (← c.in-Some.ensures) at (g.met.F.Form.reads c.loop-byte.rest.now) in omega arith

pub loop-byte-preserved : goal.loop-byte-preserved
loop-byte-preserved g c =
    let law = rw (← c.in-Some.ensures) at (g.met.F.Form.reads c.loop-byte.rest.now) in
    more _ _ c.in-Some.byte _ _ _ c.in_ok-push.ensures.items law.1 c.loop-byte.invariant
