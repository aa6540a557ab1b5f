-- Where the numbers of a pressure lie, from its taken logarithms, and what the steps of its answer amount to.
use Prim.Native.Nat.{ℕ, ◌^◌}
use mathlib.Core.Bool.{Bool, true, false, cond}
use mathlib.Core.Path.{◌≡◌, refl, sym, ap, ap₂, ◌∙◌}
use lib.Dec.{leb, leb→le}
use lib.IntN.{ℤ}
use Rattle.integer.specs.Laws.{≤ℤ-trans}
use Rattle.std.specs.Prelude.{Some, None}
use Rattle.bands.specs.declared.Strip.{Strip}
use Rattle.bands.specs.Bands.{strip_of}
use Rattle.air.specs.declared.Logs.{Logs}
use Rattle.fit.specs.declared.Edge.{Edge}
use Rattle.air.specs.declared.Edges.TheVariants.{Unfitted, One}
use Rattle.air.specs.Held.{Held, judges, shows}
use Rattle.air.specs.Choices.{chosen}
use Rattle.air.specs.Places.{edge_by, held_at, fitted_by}
use Rattle.air_pressure.specs.Pressure.{letter_p, gamma_at, is_warned, beyond_gamma_logs, beyond_gamma, pressure_of, pressure_rule}
use Rattle.air_pressure.proofs.Fit.{warned_only}
use Rattle.air.proofs.Tests.{and_right}
use Rattle.air.proofs.Ranges.{YRange}
use Rattle.air.proofs.Strips.{strip_is}
use Rattle.air.proofs.Ranges.{y_range, z_least, place_ready, below_standard}
use Rattle.pressure_fit.specs.Ready.{GammaReady, ValuesReady, StripReady}
use Rattle.pressure.specs.Ready.{PressureReady}

module _ {e d : ℕ} {l : Logs} (h : PressureReady e d l) where
  -- any Y of the plane, with the state's Z
  gamma_ready : (v : ℤ) → YRange v → GammaReady v l.z
  gamma_ready v r =
      record {
        y_least = r.least;
        y_most = r.most;
        z_least = z_least e l.z h.energy h.taken.z;
        z_most = (place_ready e d l.y l.z h.energy h.density h.taken.y h.taken.z).z_most;
      }

  pub own_ready : GammaReady l.y l.z
  own_ready = gamma_ready l.y (y_range d l.y h.density h.taken.y)

  pub values_ready : ValuesReady e d
  values_ready =
      record {
        energy = leb→le e (10 ^ 12) (and_right (leb 7840840 e) (leb e (10 ^ 12)) h.energy);
        density = leb→le d 129200000000000 (and_right (leb 12920 d) (leb d 129200000000000) h.density);
      }

  pub strip_ready : {s : Strip} → strip_of l.y ≡ Some s → StripReady e d s l.y l.z
  strip_ready {s} is =
      let i = strip_is l.y is in
      record {
        between = i.between;
        low = gamma_ready s.low i.low;
        high = gamma_ready s.high i.high;
        energy = values_ready.energy;
        density = below_standard d l.y h.taken.y (≤ℤ-trans i.between.high i.below);
      }

  -- ---- what the steps outside the strips amount to: nothing but the warning refuses by the logarithms
  by_logs : beyond_gamma_logs l.y l.z ≡ is_warned l.y l.z
  by_logs = warned_only l.y l.z (record { density = record { least = own_ready.y_least; most = own_ready.y_most }; least = own_ready.z_least })

  verdict : Bool → Bool → Edge → Held
  verdict t u x = cond t (judges 17 letter_p l Unfitted) (cond u (judges 17 letter_p l (One x)) (shows letter_p l (One x) None (pressure_of e d x.fit)))

  verdict_is : (x : Edge) → x ≡ edge_by chosen (gamma_at l.y l.z) l.y l.z
      → verdict (is_warned l.y l.z) (beyond_gamma x.fit) x ≡ fitted_by chosen (pressure_rule e d) (pressure_of e d) None l
  unfolding verdict held_at
  verdict_is x hx = ap₂ (λ (t : Bool) (x : Edge). verdict t (beyond_gamma x.fit) x) (sym by_logs) hx

  pub warned_is : is_warned l.y l.z ≡ true → judges 17 letter_p l Unfitted ≡ fitted_by chosen (pressure_rule e d) (pressure_of e d) None l
  unfolding verdict
  warned_is t = let x = edge_by chosen (gamma_at l.y l.z) l.y l.z in ap (λ (t : Bool). verdict t (beyond_gamma x.fit) x) (sym t) ∙ verdict_is x refl

  pub beyond_is : (x : Edge) → is_warned l.y l.z ≡ false → x ≡ edge_by chosen (gamma_at l.y l.z) l.y l.z → beyond_gamma x.fit ≡ true
      → judges 17 letter_p l (One x) ≡ fitted_by chosen (pressure_rule e d) (pressure_of e d) None l
  unfolding verdict
  beyond_is x t hx u = ap₂ (λ (t u : Bool). verdict t u x) (sym t) (sym u) ∙ verdict_is x hx

  pub shown_is : (x : Edge) (v : ℤ) → is_warned l.y l.z ≡ false → x ≡ edge_by chosen (gamma_at l.y l.z) l.y l.z → beyond_gamma x.fit ≡ false → v ≡ pressure_of e d x.fit
      → shows letter_p l (One x) None v ≡ fitted_by chosen (pressure_rule e d) (pressure_of e d) None l
  unfolding verdict
  shown_is x v t hx u hv = ap (shows letter_p l (One x) None) hv ∙ ap₂ (λ (t u : Bool). verdict t u x) (sym t) (sym u) ∙ verdict_is x hx
