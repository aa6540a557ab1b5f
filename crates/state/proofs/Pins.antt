-- States that demand 3 covers: what the choices make of them is allowed and accepted.
use mathlib.Core.Path.{◌≡◌, refl, sym}
use Prim.Native.Nat.{ℕ}
use lib.Count.{count_leading_zeros}
use lib.IntN.{ℤ, pos}
use Rattle.logarithm.specs.Choice.{factors, factor_logs, points, rises, chord_of, near_one, mantissa_of, lg_of, log_of}
use Rattle.power.specs.Choice.{coarse, middle, fine, stride_of, step_of, power_of}
use Rattle.quotient.specs.Mul.{mul}
use Rattle.bicubic.specs.Bicubic.{gas1, gas2, gas3, gas4, bicubic}
use Rattle.tgas1_temperature_high.specs.Pieces.{high_pieces}
use Rattle.perfect.specs.Perfect.{perfect_gas}
use Rattle.air.specs.declared.Logs.{Logs}
use Rattle.air.specs.declared.Edges.{Edges}
use Rattle.air.specs.declared.Edges.TheVariants.{Unfitted, One}
use Rattle.air.specs.declared.Ends.{Ends}
use Rattle.std.specs.Prelude as rust
use Rattle.std.specs.Prelude.{None}
use Rattle.air.specs.declared.Answer.{Answer}
use Rattle.air.specs.declared.Answer.TheVariants.{Shows}
use Rattle.air.specs.Quantities.{P0, D0, E0}
use Rattle.air.specs.Held.{held, shows}
use Rattle.air.specs.Choices.{chosen}
use Rattle.air.specs.Places.{held_at}
use Rattle.air_temperature.specs.Temperature.{letter_t}
use Rattle.air_entropy.specs.Entropy.{letter_s, entropy_in, entropy_at, perfect_entropy}
use Rattle.state.specs.State.{IsAnswer, answer_by, Accepted}
use Rattle.air_temperature.specs.Property.{temperature_by}
use Rattle.state.proofs.State.{allowed, not_refused_accepted}
use Rattle.air.proofs.Lawful.{lawful}
use Rattle.air.proofs.Pins.{edge, logs, pair}
use Rattle.air_temperature.proofs.AtEdges.{at_edges}
use Rattle.air_entropy.proofs.Pins.{joined}
use Rattle.air_pressure.proofs.PressureAt.{pressure_at}

pub record Covered (kind first second : ℕ) : Type 0 where
  pub answer : Answer
  pub made : held answer ≡ answer_by chosen kind first second
  pub allowed_is : IsAnswer kind first second answer
  pub accepted : Accepted kind first second answer

covered : (kind first second : ℕ) (a : Answer) → held a ≡ answer_by chosen kind first second → (held a).number ≡ 0 → Covered kind first second
covered kind first second a e zero =
    let it = allowed chosen lawful kind first second a e in
    record { answer = a; made = e; allowed_is = it; accepted = not_refused_accepted kind first second a it zero }

-- a state of which it is computed elsewhere what the choices make of it
shown : {kind first second letter : ℕ} {l : Logs} {e : Edges} {s : rust.Option Ends} {v : ℤ} → answer_by chosen kind first second ≡ shows letter l e s v → Covered kind first second
shown {kind} {first} {second} {letter} {l} {e} {s} {v} at = covered kind first second (Shows letter l e s v) (sym at) refl

pub standard_temperature : Covered 1 P0 D0
unfolding answer_by temperature_by log_of lg_of mantissa_of near_one chord_of factors factor_logs points rises count_leading_zeros perfect_gas
standard_temperature =
    covered 1 P0 D0 (Shows letter_t (logs (pos 0) (pos 0) (pos 0)) Unfitted None (pos 273213936)) refl refl

pub standard_entropy : Covered 2 E0 D0
unfolding answer_by log_of lg_of mantissa_of near_one chord_of factors factor_logs points rises count_leading_zeros entropy_in entropy_at perfect_entropy
standard_entropy =
    covered 2 E0 D0 (Shows letter_s (pair (pos 0) (pos 0)) Unfitted None (pos 61182203)) refl refl

pub fitted_temperature : Covered 1 320433595305 D0
unfolding answer_by temperature_by held_at log_of lg_of mantissa_of near_one chord_of factors factor_logs points rises count_leading_zeros bicubic gas1 gas2 gas3 gas4 mul high_pieces power_of step_of stride_of coarse middle fine
fitted_temperature =
    covered 1 320433595305 D0
    (Shows letter_t (logs (pos 500000) (pos 0) (pos 500000)) (One (edge (pos 4961733650) (pos 0))) None (pos 856197990)) refl refl

pub joined_temperature : Covered 1 13083925 4190468
unfolding answer_by
joined_temperature = shown at_edges.wide_strip

pub joined_pressure : Covered 3 1242689394 4190468
unfolding answer_by
joined_pressure = shown pressure_at.joined

-- ---- hot states, in a transition; an entropy in a strip; a G of 1.96, and a Z at each band's limit
pub hot_temperature : Covered 1 56982046482 408566274
unfolding answer_by
hot_temperature = shown at_edges.hot

pub most_temperature : Covered 1 2783918722048 10421279801
unfolding answer_by
most_temperature = shown at_edges.most

pub joined_entropy : Covered 2 24794913169 4085663
unfolding answer_by
joined_entropy = shown joined

pub hot_pressure : Covered 3 5615165897 16265
unfolding answer_by
hot_pressure = shown pressure_at.hot

pub low_limit_pressure : Covered 3 384027735806 324536
unfolding answer_by
low_limit_pressure = shown pressure_at.at_low_limit

pub middle_limit_pressure : Covered 3 196952996076 647533906
unfolding answer_by
middle_limit_pressure = shown pressure_at.at_middle_limit

pub limit_pressure : Covered 3 62282005960 1026272079264
unfolding answer_by
limit_pressure = shown pressure_at.at_limit
