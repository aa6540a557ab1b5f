-- Pressure is sound: what `state` asks of a property.
use mathlib.Core.Path.{◌≡◌, refl, ap}
use Prim.Native.Nat.{ℕ, ◌≤◌}
use native.Mathlib.Omega.{arith}
use lib.Dec.{T}
use Rattle.bands.specs.Bands.{strip_of}
use Rattle.air.specs.declared.Logs.{Logs}
use Rattle.air.specs.Quantities.{is_density, is_energy}
use Rattle.air.specs.Held.{Held}
use Rattle.air.specs.Places.{value_at}
use Rattle.air_pressure.specs.Pressure.{is_warned, pressure_of, pressure_rule, IsPressureOf}
use Rattle.air_pressure.specs.Claim.{gamma_distance, PressureClaim}
use Rattle.air_pressure.specs.Property.{pressure_property, pressure_by}
use Rattle.air.specs.Property.{AcceptedBy}
use Rattle.air.specs.Choices.{Choices, Lawful}
use Rattle.air.specs.Carried.{energy_logs}
use Rattle.air.proofs.Tests.{not_left}
use Rattle.air.proofs.Places.{Measured, shown_claim, fitted_shown, Unrefused, fit_unrefused, ServesAt, fitted_allowed}
use Rattle.air.proofs.Strips.{each_in_range}
use Rattle.air_pressure.proofs.Judged.{judged}
use Rattle.air_pressure.proofs.Fit.{GammaBox, gamma_near, gamma_served}
use Rattle.air.proofs.Ranges.{y_range, z_least}
use Rattle.air.proofs.Sound.{Sound}
use Rattle.air.proofs.Lawful.{energy_logs_lem}

module _ (n : ℕ) (n-least : 128 ≤ n) (e d : ℕ) where
  gamma_measured : Measured gamma_distance n (pressure_rule e d) (λ f g v. v ≡ pressure_of e d g) GammaBox
  gamma_measured =
      record {
        near = λ y z w b t. gamma_near y z b (not_left (is_warned y z) _ t) n n-least w;
        claimed = λ f g v near it. it;
      }

  pressure_claim : (h : Held) → AcceptedBy pressure_property e d h → IsPressureOf e d h → PressureClaim n e d h
  pressure_claim h ok it =
      let l : Logs = it.logs in
      let s = strip_of l.y in
      let c = fitted_shown gamma_distance n (pressure_rule e d) (λ f g v. v ≡ pressure_of e d g) GammaBox gamma_measured pressure_property s l
      (judged e d l)
      (each_in_range l.y (λ v. GammaBox v l.z) (λ v r. record { density = r; least = z_least e l.z ok.no_10 it.taken.z }) (y_range d l.y ok.no_11 it.taken.y))
      e d h ok it.is in
      record {
        logs = l;
        value = value_at s c.point l.y;
        no_refusal = ap (λ (x : Held). x.number) c.is;
        letter = ap (λ (x : Held). x.letter) c.is;
        carries = ap (λ (x : Held). x.logs) c.is;
        shows = ap (λ (x : Held). x.value) c.is;
        taken = it.taken;
        fitted = shown_claim s c;
      }

-- a pressure that is no refusal is accepted
pressure_unrefused : (e d : ℕ) (h : Held) → IsPressureOf e d h → h.number ≡ 0 → Unrefused pressure_property h
pressure_unrefused e d h it zero =
    let l : Logs = it.logs in
    fit_unrefused pressure_property (pressure_rule e d) (strip_of l.y) l (judged e d l) (λ e. omega (arith, e)) (λ e. omega (arith, e)) h it.is zero

is_pressure_lem : (c : Choices) → Lawful c → (e d : ℕ) → T (is_energy e) → T (is_density d) → IsPressureOf e d (pressure_by c e d (energy_logs c e d))
unfolding pressure_by
is_pressure_lem c law e d a b =
    let l : Logs = energy_logs c e d in
    let t = energy_logs_lem c law e d a b in
    record {
      logs = l;
      taken = t;
      is =
          fitted_allowed c law (pressure_rule e d) (pressure_of e d) (λ g t. refl) (strip_of l.y) l
          (each_in_range l.y (ServesAt (pressure_rule e d) l.z)
          (λ v r u. gamma_served v l.z (record { density = r; least = z_least e l.z a t.z }) (not_left (is_warned v l.z) _ u)) (y_range d l.y b t.y));
    }

pub pressure_sound : Sound pressure_property
pressure_sound =
    record {
      allowed = is_pressure_lem;
      claim = pressure_claim;
      no_refusal = λ n v w h c. c.no_refusal;
      unrefused = pressure_unrefused;
      second_number_lem = λ e. omega (arith, e);
    }
