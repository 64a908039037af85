use Rattle.std.proofs.Common.{leb, sym, subst}
use Rattle.std.proofs.lemmas.Bool.{and_parts, leb-true}
use Rattle.watches.specs.Words.{last_moment, timely}
use Rattle.watches.specs.Ends.{none_before, first_end}
use Rattle.watches.proofs.Keeps.{Sound, passed_sound}
use Rattle.watches.proofs.Steps.{passes}
use Rattle.watches.proofs.watches.Watches.pass.Goals as goal

pub invariant_of-self : goal.invariant_of-self
invariant_of-self c =
    let s = c.args.self.now in
    let d = s.state in
    let e = c.args.moment in
    let t = (and_parts (timely d.clock e) (none_before e (first_end d)) (sym c.if-is_next.ensures)).0 in
    let b = and_parts (leb d.clock e) (leb e last_moment) t in
    let k =
    subst Sound (sym c.at_moment-self.ensures)
    (passed_sound e d (leb-true _ _ b.0) (leb-true _ _ b.1) (s.within, (s.upper, (s.lower, (s.halt, tt))))) in
    record { within = k.0; upper = k.1.0; lower = k.1.1.0; halt = k.1.1.1.0 }

pub returns-then-is_next-clause-moves : goal.returns-then-is_next-clause-moves
returns-then-is_next-clause-moves c q =
    passes c.args.moment c.args.self.now.state (and_parts (timely c.args.self.now.state.clock c.args.moment) (none_before c.args.moment (first_end c.args.self.now.state)) q).1
