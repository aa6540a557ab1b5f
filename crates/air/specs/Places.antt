-- A fit at its places, for every property that a fit gives: at the state's own Y, or at the two edges of a strip with the same Z.
-- A property says by a rule what is fitted and what refuses.
use Rattle.std.specs.Prelude.{Bool, cond, not, ◌≡◌, Option, Some, None, ℕ, T, ℤ}
use Rattle.fraction.specs.Fraction.{Fraction, Within}
use Rattle.weight.specs.Weight.{tolerance}
use Rattle.fit.specs.declared.Edge.{Edge}
use Rattle.fit.specs.Fit.{Piece, Weighs, fitted}
use Rattle.fit.specs.Edge.{edge_with}
use Rattle.fit.specs.Exact.{Printed, rounded, exact_fit}
use Rattle.proportion.specs.Straight.{straight}
use Rattle.bands.specs.declared.Strip.{Strip}
use Rattle.air.specs.declared.Logs.{Logs}
use Rattle.air.specs.declared.Edges.{Edges}
use Rattle.air.specs.declared.Edges.TheVariants.{Unfitted, One, Two}
use Rattle.air.specs.declared.Ends.{Ends}
use Rattle.air.specs.Held.{Held, judges, shows}
use Rattle.air.specs.Join.{joined, any_place}
use Rattle.air.specs.Choices.{Choices}

-- what a property fits: its letter, and the piece that Y and Z choose, as it is printed
-- what refuses at a place by the logarithms, what refuses by a fit, and the number of each
-- which values a fit that is not refused may have
pub record Rule : Type 1 where
  pub letter : ℕ
  pub piece_at : ℤ → ℤ → Printed
  pub beyond_logs : ℤ → ℤ → Bool
  pub logs_number : ℕ
  pub beyond_fit : ℤ → Bool
  pub fit_number : ℕ
  pub IsValue : ℤ → ℤ → Type 0

-- the fit at a place, with the value that it makes
pub record Point : Type 0 where
  pub edge : Edge
  pub value : ℤ

-- a point that may stand at a place: its weight by free answer two where nothing refuses by the logarithms, its fit by the piece, and a value of that fit
pub record IsPoint (r : Rule) (y z : ℤ) (q : Point) : Type 0 where
  pub weighed : T (not (r.beyond_logs y z)) → Weighs tolerance (rounded (r.piece_at y z)) y z q.edge.weight
  pub fit : q.edge.fit ≡ fitted (rounded (r.piece_at y z)) y z q.edge.weight
  pub made : T (not (r.beyond_fit q.edge.fit)) → r.IsValue q.edge.fit q.value

-- ---- the places of a strip
abbrev pub AtPlaces : Option Strip → (ℤ → Type 0) → ℤ → Type 0
AtPlaces None P y = P y
AtPlaces (Some s) P y = P s.low × P s.high

abbrev pub edges_at : Option Strip → (ℤ → Point) → ℤ → Edges
edges_at None q y = One (q y).edge
edges_at (Some s) q y = Two (q s.low).edge (q s.high).edge

abbrev pub ends_at : Option Strip → (ℤ → Point) → Option Ends
ends_at None q = None
ends_at (Some s) q = Some (record { low = (q s.low).value; high = (q s.high).value })

abbrev pub value_at : Option Strip → (ℤ → Point) → ℤ → ℤ
value_at s q y = joined s (λ v. (q v).value) y

-- ---- what is held
-- a value with every place's fit
abbrev pub shows_at : Rule → Option Strip → Logs → (ℤ → Point) → Held
shows_at r s l q = shows r.letter l (edges_at s q l.y) (ends_at s q) (value_at s q l.y)

-- the steps in order: what refuses by the logarithms at a place, what refuses by a fit, else the value
unfoldable pub held_at : Rule → Option Strip → Logs → (ℤ → Point) → Held
held_at r s l q =
    cond (any_place s (λ v. r.beyond_logs v l.z) l.y) (judges r.logs_number r.letter l Unfitted)
    (cond (any_place s (λ v. r.beyond_fit (q v).edge.fit) l.y) (judges r.fit_number r.letter l (edges_at s q l.y)) (shows_at r s l q))

-- what may be held: free are the points at the places
pub record IsFit (r : Rule) (s : Option Strip) (l : Logs) (h : Held) : Type 0 where
  pub point : ℤ → Point
  pub points : AtPlaces s (λ v. IsPoint r v l.z (point v)) l.y
  pub is : h ≡ held_at r s l point

-- what choices make, where value gives a fit's value
abbrev pub edge_by : Choices → Piece → ℤ → ℤ → Edge
edge_by c k y z = edge_with c.weight k y z

abbrev pub point_of : (ℤ → ℤ) → Edge → Point
point_of value e = record { edge = e; value = value e.fit }

abbrev pub point_by : Choices → Rule → (ℤ → ℤ) → ℤ → ℤ → Point
point_by c r value z y = point_of value (edge_by c (rounded (r.piece_at y z)) y z)

abbrev pub fitted_by : Choices → Rule → (ℤ → ℤ) → Option Strip → Logs → Held
fitted_by c r value s l = held_at r s l (point_by c r value l.z)

-- ---- demand 3 for n terms
-- at a place: the fit is within d of the exact fit, and the value is as claimed of the exact fit and of the carried one
pub record PointClaim (d n : ℕ) (r : Rule) (Claimed : Fraction → ℤ → ℤ → Type 0) (y z : ℤ) (q : Point) : Type 0 where
  pub near : Within d q.edge.fit (exact_fit (r.piece_at y z) n y z)
  pub value : Claimed (exact_fit (r.piece_at y z) n y z) q.edge.fit q.value

-- outside a strip: one fit, claimed at the state's own Y, and its value is shown
pub record OwnClaim (d n : ℕ) (r : Rule) (Claimed : Fraction → ℤ → ℤ → Type 0) (l : Logs) (h : Held) : Type 0 where
  pub point : Point
  pub is : h ≡ shows r.letter l (One point.edge) None point.value
  pub claim : PointClaim d n r Claimed l.y l.z point

-- in a strip: two fits, each claimed at its edge with the state's Z, and the straight line between their values is shown
pub record JoinClaim (d n : ℕ) (r : Rule) (Claimed : Fraction → ℤ → ℤ → Type 0) (s : Strip) (l : Logs) (h : Held) : Type 0 where
  pub low : Point
  pub high : Point
  pub is : h ≡ shows r.letter l (Two low.edge high.edge) (Some (record { low = low.value; high = high.value })) (straight s.low s.high low.value high.value l.y)
  pub low_claim : PointClaim d n r Claimed s.low l.z low
  pub high_claim : PointClaim d n r Claimed s.high l.z high

abbrev pub FitClaim : ℕ → ℕ → Rule → (Fraction → ℤ → ℤ → Type 0) → Option Strip → Logs → Held → Type 0
FitClaim d n r Claimed None l h = OwnClaim d n r Claimed l h
FitClaim d n r Claimed (Some s) l h = JoinClaim d n r Claimed s l h
