-- What is held for a state has one of five shapes: a fact of all five is one of every allowed answer, and of all that choices make.
use mathlib.Core.Bool.{Bool, true, false, cond}
use mathlib.Core.Path.{◌≡◌, refl, sym, subst}
use Prim.Native.Nat.{ℕ}
use lib.IntN.{ℤ}
use Rattle.std.specs.Prelude as rust
use Rattle.std.specs.Prelude.{Some, None}
use Rattle.refusal.specs.declared.Refusal.{Refusal}
use Rattle.refusal.specs.declared.Refusal.TheVariants.{UnknownKind, FirstValue, SecondValue, OutsideFits, TemperatureFit, Gamma}
use Rattle.refusal.specs.Numbered.{number_for}
use Rattle.fit.specs.declared.Edge.{Edge}
use Rattle.bands.specs.declared.Strip.{Strip}
use Rattle.bands.specs.Bands.{strip_of}
use Rattle.bands.specs.declared.Region.{Region}
use Rattle.bands.specs.declared.Region.TheVariants as r
use Rattle.bands.specs.Region.{region_of}
use Rattle.kind.specs.declared.Kind.{Kind}
use Rattle.kind.specs.declared.Kind.TheVariants.{Temperature, Entropy, Pressure}
use Rattle.air.specs.declared.Logs.{Logs}
use Rattle.air.specs.declared.Edges.{Edges}
use Rattle.air.specs.declared.Edges.TheVariants.{Unfitted, One, Two}
use Rattle.air.specs.declared.Ends.{Ends}
use Rattle.air.specs.Held.{Held, refuses, judges, shows}
use Rattle.air.specs.Quantities.{is_pressure, is_density, is_energy}
use Rattle.air.specs.Choices.{Choices}
use Rattle.air.specs.Join.{any_place}
use Rattle.air.specs.Places.{Rule, Point, shows_at, held_at, point_by}
use Rattle.air.specs.Carried.{pressure_logs, energy_logs}
use Rattle.air.specs.Property.{Either, IsHeld, ranged, held_by}
use Rattle.air_temperature.specs.Temperature.{IsTemperatureIn, temperature_rule}
use Rattle.air_temperature.specs.Property.{kelvin_by, temperature_at, temperature_by}
use Rattle.air_entropy.specs.Entropy.{entropy_in, entropy_from, beyond_entropy}
use Rattle.air_pressure.specs.Pressure.{pressure_of, pressure_rule}
use Rattle.air_pressure.specs.Property.{pressure_by}
use Rattle.state.specs.State.{property_of}

-- a fact of a refusal, alone or judged, and of a value without a fit, with one and with two
pub record Shapes (P : Held → Type 0) : Type 0 where
  pub refused : (r : Refusal) → P (refuses (number_for r))
  pub judged : (r : Refusal) {c : ℕ} {l : Logs} {e : Edges} → P (judges (number_for r) c l e)
  pub unfitted : {c : ℕ} {l : Logs} {v : ℤ} → P (shows c l Unfitted None v)
  pub one : {c : ℕ} {l : Logs} {e : Edge} {v : ℤ} → P (shows c l (One e) None v)
  pub two : {c : ℕ} {l : Logs} {e f : Edge} {s : Ends} {v : ℤ} → P (shows c l (Two e f) (Some s) v)

module _ {P : Held → Type 0} (x : Shapes P) where
  either : {h g : Held} (b : Bool) → P h → P g → P (cond b h g)
  either true p q = p
  either false p q = q

  shown : (r : Rule) (s : rust.Option Strip) (l : Logs) (q : ℤ → Point) → P (shows_at r s l q)
  shown r None l q = x.one
  shown r (Some s) l q = x.two

  pub fit : (r : Rule) (m n : Refusal) → r.logs_number ≡ number_for m → r.fit_number ≡ number_for n → (s : rust.Option Strip) (l : Logs) (q : ℤ → Point) → P (held_at r s l q)
  unfolding held_at
  fit r m n a b s l q =
      either (any_place s (λ v. r.beyond_logs v l.z) l.y) (rw a (x.judged m))
      (either (any_place s (λ v. r.beyond_fit (q v).edge.fit) l.y) (rw b (x.judged n)) (shown r s l q))

  entropy : (l : Logs) → P (entropy_from l)
  unfolding entropy_in
  entropy l = either (beyond_entropy l) (x.judged OutsideFits) x.unfitted

  pressure : (e d : ℕ) (s : rust.Option Strip) (l : Logs) (q : ℤ → Point) → P (held_at (pressure_rule e d) s l q)
  pressure e d s l q = fit (pressure_rule e d) Gamma Gamma refl refl s l q

  temperature : (s : rust.Option Strip) (l : Logs) (q : ℤ → Point) → P (held_at temperature_rule s l q)
  temperature s l q = fit temperature_rule OutsideFits TemperatureFit refl refl s l q

  -- of an allowed answer
  by : {h g : Held} → h ≡ g → P g → P h
  by e p = subst P (sym e) p

  in_region : (g : Region) (p d : ℕ) (l : Logs) (h : Held) → IsTemperatureIn g p d l h → P h
  in_region r.Refused p d l h e = by e (x.judged OutsideFits)
  in_region r.Perfect p d l h e = by e x.unfitted
  in_region (r.Fitted b i) p d l h it = by it.is (temperature _ l it.point)

  in_range : (a b : Bool) (h : Held) (R : Type 0) → (R → P h) → Either a (Either b R (h ≡ refuses 11)) (h ≡ refuses 10) → P h
  in_range true true h R f it = f it
  in_range true false h R f e = by e (x.refused SecondValue)
  in_range false b h R f e = by e (x.refused FirstValue)

  pub allowed_has : (k : rust.Option Kind) (v w : ℕ) (h : Held) → IsHeld (property_of k) v w h → P h
  allowed_has (Some Temperature) v w h it = in_range (is_pressure v) (is_density w) h _ (λ t. in_region (region_of t.logs.y t.logs.z) v w t.logs h t.is) it
  allowed_has (Some Entropy) v w h it = in_range (is_energy v) (is_density w) h _ (λ t. by t.is (entropy t.logs)) it
  allowed_has (Some Pressure) v w h it = in_range (is_energy v) (is_density w) h _ (λ t. by t.is.is (pressure v w _ t.logs t.is.point)) it
  allowed_has None v w h e = by e (x.refused UnknownKind)

  -- of what choices make
  ranges : (a b : Bool) {h : Held} → P h → P (ranged 11 a b h)
  ranges true true p = p
  ranges true false p = x.refused SecondValue
  ranges false b p = x.refused FirstValue

  module _ (c : Choices) where
    region : (g : Region) (p d : ℕ) (l : Logs) → P (temperature_at c g p d l)
    region r.Refused p d l = x.judged OutsideFits
    region r.Perfect p d l = x.unfitted
    region (r.Fitted b i) p d l = temperature (strip_of l.y) l (point_by c temperature_rule (kelvin_by c) l.z)

    pub made_has : (k : rust.Option Kind) (v w : ℕ) → P (held_by c (property_of k) v w)
    unfolding temperature_by pressure_by
    made_has (Some Temperature) v w = let l = pressure_logs c v w in ranges (is_pressure v) (is_density w) (region (region_of l.y l.z) v w l)
    made_has (Some Entropy) v w = ranges (is_energy v) (is_density w) {h = entropy_from (energy_logs c v w)} (entropy (energy_logs c v w))
    made_has (Some Pressure) v w =
        let l = energy_logs c v w in
        ranges (is_energy v) (is_density w) (pressure v w (strip_of l.y) l (point_by c (pressure_rule v w) (pressure_of v w) l.z))
    made_has None v w = x.refused UnknownKind
