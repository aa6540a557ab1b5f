-- The free answers as functions. The program's answer is one function of the state, so equal states get equal answers,
-- which the relations alone do not say.
use Rattle.std.specs.Prelude.{ℕ, ◌^◌, ◌≤◌, ◌<◌, ℤ, pos}
use Rattle.logarithm.specs.Log.{IsLog}
use Rattle.power.specs.Power.{IsPower}
use Rattle.weight.specs.Weight.{Sign, IsWeightOf, tolerance}
use Rattle.logarithm.specs.Choice.{log_of}
use Rattle.power.specs.Choice.{power_of}
use Rattle.weight.specs.Choice.{weight_by, Served}
use Rattle.air.specs.Quantities.{T0}

-- a choice for each of document 01's three free answers
pub record Choices : Type 0 where
  pub log : ℕ → ℕ → ℤ
  pub weight : Sign → ℤ → ℤ
  pub power : ℕ → ℕ

-- choices that document 01 allows: one law for each
pub record Lawful (c : Choices) : Type 0 where
  pub log : (n d : ℕ) → 0 < n → n < 2 ^ 64 → 0 < d → d < 2 ^ 64 → IsLog n d (c.log n d)
  pub weight : (s : Sign) (q : ℤ) → Served s q → IsWeightOf s tolerance q (c.weight s q)
  pub power : (g : ℕ) → g ≤ 1960000 → IsPower T0 (pos g) (c.power g)

-- this program's choices
abbrev pub chosen : Choices
chosen = record { log = log_of; weight = weight_by; power = power_of }
