-- The part between two edges of a tape holds the records between them.
use Rattle.std.proofs.Common.{◌≡◌, ℕ, ◌+◌, ◌-◌, ◌*◌, ◌≤◌, List, length, take, drop, filter, sym, ap, ◌∙◌, arith}
use Rattle.std.specs.List.{flat_map}
use Rattle.tape.specs.Format.{encode}
use Rattle.reference.specs.declared.window.Edges.{Edges}
use Rattle.reference.specs.declared.window.Part.{Part}
use Rattle.reference.specs.Sums.{row_of}
use Rattle.reference.specs.Windows.{within, bytes_of, edge, Holds}
use Rattle.reference.specs.Edges.{lowest, Edged}
use Rattle.reference.proofs.Parts.{part_holds, row_holds, length_row, between, edge_inside}

module _ (b : List ℕ) (e : Edges) (w start end : ℕ) (h : Edged b e) (few : w ≤ 20) (a : start ≡ lowest e.places w) (z : end ≡ lowest e.places 0) where
  low : ℕ
  low = e.close - 30000 * w

  pub starts : start ≡ edge (e.close - 30000 * w) h.records
  starts = a ∙ h.edges w few

  pub ends : end ≡ edge e.close h.records
  ends = let none : e.close - 0 ≡ e.close = omega arith in z ∙ h.edges 0 (omega arith) ∙ ap (λ t. edge t h.records) none

  size : end ≡ start + bytes_of (filter (within (e.close - 30000 * w) e.close) h.records)
  size = omega (arith, starts, ends, between (e.close - 30000 * w) e.close h.records (omega arith))

  pub forward : start ≤ end
  forward = omega (arith, size)

  pub inside : end ≤ length b
  inside = omega (arith, ends, edge_inside b h.records e.close h.whole)

  pub holds : (p : Part) → p.place ≡ start → p.bytes.now ≡ take (end - start) (drop start b) → Holds b (e.close - 30000 * w) e.close p
  holds p place bytes =
      let ws = filter (within (e.close - 30000 * w) e.close) h.records in
      let n : end - start ≡ bytes_of ws = omega (arith, size) in
      let same : p.bytes.now ≡ take (bytes_of ws) (drop (edge (e.close - 30000 * w) h.records) b) =
      bytes ∙ ap (λ k. take k (drop start b)) n ∙ ap (λ k. take (bytes_of ws) (drop k b)) starts in
      let row : p.bytes.now ≡ flat_map encode ws = same ∙ part_holds b h.records (e.close - 30000 * w) e.close (omega arith) h.whole in
      let long : length p.bytes.now ≡ bytes_of ws = ap length row ∙ length_row ws in
      record {
        records = h.records;
        parsed = h.parsed;
        whole = h.whole;
        place = place ∙ starts;
        long = long;
        ends = omega (arith, place, long, size, ends);
        part = bytes ∙ ap (λ k. take k (drop start b)) (n ∙ sym long) ∙ ap (λ k. take (length p.bytes.now) (drop k b)) (sym place);
        bytes = row;
        reads = ap row_of row ∙ row_holds (within (e.close - 30000 * w) e.close) h.records h.whole.inorder;
      }
