use Rattle.std.proofs.Common.{◌≤◌, length, refl, rules}
use Rattle.reference.proofs.Cutting.{forward, inside, holds}
use Rattle.reference.proofs.window.Edges.part.Goals as goal

pub slice_bounds-result-count : goal.slice_bounds-result-count
slice_bounds-result-count c = forward c.args.tape.now c.args.self.now c.args.windows _ _ c.requires.edged c.requires.windows_bound c.edge-start.ensures c.edge-end.ensures

pub slice_bounds-result-start : goal.slice_bounds-result-start
slice_bounds-result-start c =
    let le : c.edge-start.result ≤ c.edge-end.result = forward c.args.tape.now c.args.self.now c.args.windows _ _ c.requires.edged c.requires.windows_bound c.edge-start.ensures c.edge-end.ensures in
    let in_tape : c.edge-end.result ≤ length c.args.tape.now = inside c.args.tape.now c.args.self.now c.args.windows _ _ c.requires.edged c.requires.windows_bound c.edge-start.ensures c.edge-end.ensures in
    search rules

pub slice_bounds-result-end : goal.slice_bounds-result-end
slice_bounds-result-end c =
    let le : c.edge-start.result ≤ c.edge-end.result = forward c.args.tape.now c.args.self.now c.args.windows _ _ c.requires.edged c.requires.windows_bound c.edge-start.ensures c.edge-end.ensures in
    let in_tape : c.edge-end.result ≤ length c.args.tape.now = inside c.args.tape.now c.args.self.now c.args.windows _ _ c.requires.edged c.requires.windows_bound c.edge-start.ensures c.edge-end.ensures in
    search rules

pub returns : goal.returns
returns c =
    holds c.args.tape.now c.args.self.now c.args.windows c.edge-start.result c.edge-end.result c.requires.edged c.requires.windows_bound c.edge-start.ensures c.edge-end.ensures _ refl refl
