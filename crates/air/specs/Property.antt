-- A property that a kind asks for, and what that makes of a state: what may be held, what choices make, which states are accepted, what is claimed.
use Rattle.std.specs.Prelude.{Bool, true, false, not, ◌≡◌, ℕ, T}
use Rattle.std.proofs.Math.Option.{Option, none, some}
use Rattle.fit.specs.declared.Edge.{Edge}
use Rattle.air.specs.declared.Logs.{Logs}
use Rattle.air.specs.declared.Edges.{Edges}
use Rattle.air.specs.declared.Edges.TheVariants.{Unfitted, One, Two}
use Rattle.air.specs.Held.{Held, refuses}
use Rattle.air.specs.Choices.{Choices}

-- a property that a kind asks for
pub record Property : Type 1 where
  -- the ranges of the two values (10, then the second's number), and what refuses by the logarithms (12, 17) and by a fit (13, 17)
  pub is_first : ℕ → Bool
  pub is_second : ℕ → Bool
  pub second_number : ℕ
  pub by_logs : Logs → Bool
  pub by_fit : Edge → Bool
  -- what may be held, what the choices make, and what demand 3 claims for n terms
  pub Is : ℕ → ℕ → Held → Type 0
  pub make : Choices → ℕ → ℕ → Held
  pub Claim : ℕ → ℕ → ℕ → Held → Type 0

abbrev pub Either : Bool → Type 0 → Type 0 → Type 0
Either true A B = A
Either false A B = B

-- 6, then 10, then the second value's number, else what the property says
abbrev pub IsHeld : Option Property → ℕ → ℕ → Held → Type 0
IsHeld none v w h = h ≡ refuses 6
IsHeld (some k) v w h = Either (k.is_first v) (Either (k.is_second w) (k.Is v w h) (h ≡ refuses k.second_number)) (h ≡ refuses 10)

-- ---- what a program with these choices holds
abbrev pub ranged : ℕ → Bool → Bool → Held → Held
ranged n first second h = elim first [ false ↦ refuses 10 | true ↦ elim second [ false ↦ refuses n | true ↦ h ] ]

abbrev pub held_by : Choices → Option Property → ℕ → ℕ → Held
held_by c none v w = refuses 6
held_by c (some k) v w = ranged k.second_number (k.is_first v) (k.is_second w) (k.make c v w)

-- ---- accepted states: no condition of the state row applies, 12, 13 and 17 judged by what the answer holds
abbrev pub refuses_logs : Property → Option Logs → Bool
refuses_logs k none = false
refuses_logs k (some l) = k.by_logs l

pub data NoEdgeRefused (k : Property) : Edges → Type 0 where
  unfitted : NoEdgeRefused k Unfitted
  one : {e : Edge} → T (not (k.by_fit e)) → NoEdgeRefused k (One e)
  two : {e f : Edge} → T (not (k.by_fit e)) → T (not (k.by_fit f)) → NoEdgeRefused k (Two e f)

pub record AcceptedBy (k : Property) (v w : ℕ) (h : Held) : Type 0 where
  pub no_10 : T (k.is_first v)
  pub no_11 : T (k.is_second w)
  pub by_logs_lem : T (not (refuses_logs k h.logs))
  pub by_fit_lem : NoEdgeRefused k h.edges

abbrev pub AcceptedAny : Option Property → ℕ → ℕ → Held → Type 0
AcceptedAny none v w h = ⊥
AcceptedAny (some k) v w h = AcceptedBy k v w h

-- ---- demand 3 on an answer
abbrev pub ClaimAny : ℕ → Option Property → ℕ → ℕ → Held → Type 0
ClaimAny n none v w h = ⊥
ClaimAny n (some k) v w h = k.Claim n v w h
