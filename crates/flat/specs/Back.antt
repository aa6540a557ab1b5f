-- What a flat answer carries, read back by its bits: nothing is lost on the way to C, and nothing is made up.
use Rattle.std.specs.Prelude as rust
use Rattle.std.specs.Prelude.{Bool, cond, Some, None, ◌≡◌, ℕ, ◌/◌, ◌%◌, eqb}
use Rattle.std.proofs.Math.Option.{none, some}
use Rattle.fit.specs.declared.Edge.{Edge}
use Rattle.air.specs.declared.Edges.TheVariants.{Unfitted, One, Two}
use Rattle.air.specs.declared.Ends.{Ends}
use Rattle.air.specs.declared.Answer.{Answer}
use Rattle.air.specs.Held.{Held, held}
use Rattle.state.specs.State.{IsAnswer}
use Rattle.flat.specs.declared.CEdge.{CEdge}
use Rattle.flat.specs.declared.CAnswer.{CAnswer}
use Rattle.flat.specs.Flat.{flat}

-- whether a number has the bit of a power of two
abbrev pub bit : ℕ → ℕ → Bool
bit power n = eqb (n / power % 2) 1

abbrev pub edge_in : CEdge → Edge
edge_in e = record { fit = e.fit; weight = e.weight }

-- both edges have values of their own where a value is carried beside them
abbrev pub ends_in : CAnswer → rust.Option Ends
ends_in c = cond (bit 16 c.carries) (cond (bit 8 c.carries) (Some (record { low = c.low.value; high = c.high.value })) None) None

abbrev pub held_in : CAnswer → Held
held_in c =
    record {
      number = c.number;
      letter = c.letter;
      logs = cond (bit 1 c.carries) (some (record { x = cond (bit 2 c.carries) (Some c.x) None; y = c.y; z = c.z })) none;
      edges = cond (bit 8 c.carries) (Two (edge_in c.low) (edge_in c.high)) (cond (bit 4 c.carries) (One (edge_in c.low)) Unfitted);
      ends = ends_in c;
      value = cond (bit 16 c.carries) (some c.value) none;
    }

-- all that an answer holds, a join's two edges with their values too
abbrev pub FlatKeepsAll : Type 0
FlatKeepsAll = (kind first second : ℕ) (a : Answer) → IsAnswer kind first second a → held_in (flat (held a)) ≡ held a
