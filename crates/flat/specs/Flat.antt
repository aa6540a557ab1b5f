-- What C gets of an answer: flat numbers, 0 where nothing is carried.
use Rattle.std.specs.Prelude as rust
use Rattle.std.specs.Prelude.{cond, ℕ, ◌+◌, ℤ, pos, Some, None, is_some}
use Rattle.std.proofs.Math.Option.{Option, none, some}
use Rattle.air.specs.declared.Logs.{Logs}
use Rattle.fit.specs.declared.Edge.{Edge}
use Rattle.air.specs.declared.Edges.{Edges}
use Rattle.air.specs.declared.Edges.TheVariants.{Unfitted, One, Two}
use Rattle.air.specs.declared.Ends.{Ends}
use Rattle.air.specs.Held.{Held}
use Rattle.flat.specs.declared.CEdge.{CEdge}
use Rattle.flat.specs.declared.CEdges.{CEdges}
use Rattle.flat.specs.declared.CAnswer.{CAnswer}

-- the bits of `carries`: 1 for y and z, 2 for x, 4 for the low edge, 8 for the high one, 16 for the value
abbrev pub log_bits : Option Logs → ℕ
log_bits none = 0
log_bits (some l) = cond (is_some l.x) 3 1

abbrev pub edge_bits : Edges → ℕ
edge_bits Unfitted = 0
edge_bits (One e) = 4
edge_bits (Two e f) = 12

abbrev pub value_bits : Option ℤ → ℕ
value_bits none = 0
value_bits (some v) = 16

abbrev pub logs_or0 : Option Logs → (Logs → ℤ) → ℤ
logs_or0 none f = pos 0
logs_or0 (some l) f = f l

abbrev pub x_or0 : rust.Option ℤ → ℤ
x_or0 None = pos 0
x_or0 (Some x) = x

abbrev pub value_or0 : Option ℤ → ℤ
value_or0 none = pos 0
value_or0 (some v) = v

-- a fit, with its own value where a join shows one
abbrev pub edge_with : Edge → ℤ → CEdge
edge_with e v = record { fit = e.fit; weight = e.weight; value = v }

abbrev pub no_edge : CEdge
no_edge = record { fit = pos 0; weight = pos 0; value = pos 0 }

abbrev pub low_value : rust.Option Ends → ℤ
low_value None = pos 0
low_value (Some s) = s.low

abbrev pub high_value : rust.Option Ends → ℤ
high_value None = pos 0
high_value (Some s) = s.high

abbrev pub low_edge : Edges → ℤ → CEdge
low_edge Unfitted v = no_edge
low_edge (One e) v = edge_with e v
low_edge (Two e f) v = edge_with e v

abbrev pub high_edge : Edges → ℤ → CEdge
high_edge Unfitted v = no_edge
high_edge (One e) v = no_edge
high_edge (Two e f) v = edge_with f v

-- both edges at once
unfoldable pub flat_edges : Edges → ℤ → ℤ → CEdges
flat_edges e v w = record { bits = edge_bits e; low = low_edge e v; high = high_edge e w }

unfoldable pub flat : Held → CAnswer
flat h =
    record {
      number = h.number;
      letter = h.letter;
      carries = log_bits h.logs + edge_bits h.edges + value_bits h.value;
      x = logs_or0 h.logs (λ l. x_or0 l.x);
      y = logs_or0 h.logs (λ l. l.y);
      z = logs_or0 h.logs (λ l. l.z);
      value = value_or0 h.value;
      low = low_edge h.edges (low_value h.ends);
      high = high_edge h.edges (high_value h.ends);
    }

-- the same from its parts, where the logarithms are held
abbrev pub assembled : ℕ → ℕ → Logs → CEdges → ℕ → ℤ → CAnswer
assembled n c l e bit v =
    record {
      number = n;
      letter = c;
      carries = cond (is_some l.x) 3 1 + e.bits + bit;
      x = x_or0 l.x;
      y = l.y;
      z = l.z;
      value = v;
      low = e.low;
      high = e.high;
    }
