use Rattle.std.proofs.Common.{length, refl, ap, arith}
use Rattle.tape.proofs.Steps.{came}
use Rattle.limitday.proofs.session.Session.list_records.Goals as goal

pub loop-placed-preserved : goal.loop-placed-preserved
loop-placed-preserved g c =
    let got = c.in_ok-placed.ensures in
    let k = came _ _ _ _ _ _ _ _ c.loop-placed.invariant refl c.in-Some.is got.gives got.place got.time in
    omega (arith, k.moved, k.fits, ap length got.same)

pub loop-placed-smaller : goal.loop-placed-smaller
loop-placed-smaller g c =
    let got = c.in_ok-placed.ensures in
    let k = came _ _ _ _ _ _ _ _ c.loop-placed.invariant refl c.in-Some.is got.gives got.place got.time in
    omega (arith, k.moved, k.fits, ap length got.same)
