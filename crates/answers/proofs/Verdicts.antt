-- What a property makes of the two cases: its own answer where both values are in range, else the refusal.
use mathlib.Core.Bool.{Bool, true, false}
use mathlib.Core.Path.{◌≡◌, refl, sym, ap, ◌∙◌}
use Prim.Native.Nat.{ℕ}
use native.Mathlib.Omega.{arith}
use lib.Dec.{T}
use Rattle.std.specs.Prelude.{Result, Ok, Err}
use Rattle.refusal.specs.declared.Refusal.{Refusal}
use Rattle.refusal.specs.Numbered.{number_for, numbered}
use Rattle.air.specs.declared.Logs.{Logs}
use Rattle.air.specs.Quantities.{is_pressure, is_density, is_energy}
use Rattle.air.specs.Choices.{chosen}
use Rattle.air.specs.Carried.{PressureLogs, EnergyLogs, pressure_logs, energy_logs}
use Rattle.air.specs.Held.{Held, refuses}
use Rattle.air.specs.Property.{ranged}
use Rattle.air.proofs.Lawful.{lawful, pressure_logs_lem, energy_logs_lem}
use Rattle.answers.specs.Taken.{taken, pressure_taken, energy_taken}

-- ---- a refusal is that of the ranges
refused : (a b : Bool) (l : Logs) {n : ℕ} → Err n ≡ taken a b l → (h : Held) → refuses n ≡ ranged 11 a b h
refused false b l {n} e h = let m : n ≡ 10 = cc in ap refuses m
refused true false l {n} e h = let m : n ≡ 11 = cc in ap refuses m
refused true true l e h = let f : ◌≡◌ {A = ℕ} 0 1 = cc in absurd (omega arith)

pub pressure_refused : (p d : ℕ) {r : Result Logs Refusal} {n : Refusal} → numbered r ≡ pressure_taken p d → r ≡ Err n
    → (h : Held) → refuses (number_for n) ≡ ranged 11 (is_pressure p) (is_density d) h
pressure_refused p d e f = refused (is_pressure p) (is_density d) (pressure_logs chosen p d) (sym (ap numbered f) ∙ e)

pub energy_refused : (e d : ℕ) {r : Result Logs Refusal} {n : Refusal} → numbered r ≡ energy_taken e d → r ≡ Err n
    → (h : Held) → refuses (number_for n) ≡ ranged 11 (is_energy e) (is_density d) h
energy_refused e d h f = refused (is_energy e) (is_density d) (energy_logs chosen e d) (sym (ap numbered f) ∙ h)

-- ---- logarithms are those of values in range, and what a property makes of them is its answer
record InRange (a b : Bool) (l k : Logs) : Type 0 where
  pub first : T a
  pub second : T b
  pub same : k ≡ l
  pub shown : (h : Held) → h ≡ ranged 11 a b h

in_range : (a b : Bool) (l : Logs) {k : Logs} → Ok k ≡ taken a b l → InRange a b l k
in_range false b l e = let f : ◌≡◌ {A = ℕ} 0 1 = cc in absurd (omega arith)
in_range true false l e = let f : ◌≡◌ {A = ℕ} 0 1 = cc in absurd (omega arith)
in_range true true l e = record { first = tt; second = tt; same = cc; shown = λ h. refl }

pub record PressureCarried (p d : ℕ) (k : Logs) : Type 0 where
  pub density : T (is_density d)
  pub same : k ≡ pressure_logs chosen p d
  pub taken : PressureLogs p d k
  pub shown : (h : Held) → h ≡ ranged 11 (is_pressure p) (is_density d) h

pub pressure_carried : (p d : ℕ) {r : Result Logs Refusal} {k : Logs} → numbered r ≡ pressure_taken p d → r ≡ Ok k → PressureCarried p d k
pressure_carried p d e f =
    let i = in_range (is_pressure p) (is_density d) (pressure_logs chosen p d) (sym (ap numbered f) ∙ e) in
    record { density = i.second; same = i.same; taken = rw i.same (pressure_logs_lem chosen lawful p d i.first i.second); shown = i.shown }

pub record EnergyCarried (e d : ℕ) (k : Logs) : Type 0 where
  pub energy : T (is_energy e)
  pub density : T (is_density d)
  pub same : k ≡ energy_logs chosen e d
  pub taken : EnergyLogs e d k
  pub shown : (h : Held) → h ≡ ranged 11 (is_energy e) (is_density d) h

pub energy_carried : (e d : ℕ) {r : Result Logs Refusal} {k : Logs} → numbered r ≡ energy_taken e d → r ≡ Ok k → EnergyCarried e d k
energy_carried e d h f =
    let i = in_range (is_energy e) (is_density d) (energy_logs chosen e d) (sym (ap numbered f) ∙ h) in
    record { energy = i.first; density = i.second; same = i.same; taken = rw i.same (energy_logs_lem chosen lawful e d i.first i.second); shown = i.shown }
