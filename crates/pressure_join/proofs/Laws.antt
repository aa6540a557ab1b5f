-- What the steps of a join amount to, over the definitions; and how large the numbers of its line are.
use mathlib.Core.Bool.{Bool, true, false, true≢false, cond, ◌||◌}
use mathlib.Core.Path.{◌≡◌, refl, sym, ap, ap₂, ◌∙◌}
use Prim.Native.Nat.{ℕ, ◌^◌, ◌≤◌}
use native.Mathlib.Nat.{lt_of_le_of_lt}
use native.Mathlib.Omega.{arith}
use lib.Dec.{lit<}
use lib.IntN.{ℤ, pos, negsuc}
use Rattle.std.specs.Prelude.{Some}
use Rattle.integer.specs.Z.{zs, ≡-of}
use Rattle.quotient.specs.Range.{In}
use Rattle.fit.specs.declared.Edge.{Edge}
use Rattle.bands.specs.declared.Strip.{Strip}
use Rattle.air.specs.declared.Edges.TheVariants.{Unfitted}
use Rattle.air.specs.declared.Logs.{Logs}
use Rattle.air.specs.Quantities.{D0}
use Rattle.air.specs.Held.{Held, judges}
use Rattle.air.specs.Choices.{chosen}
use Rattle.air.specs.Places.{edge_by, held_at, fitted_by}
use Rattle.air_pressure.specs.Pressure.{letter_p, gamma_at, is_warned, beyond_gamma_logs, beyond_gamma, pressure_of, pressure_rule}
use Rattle.air_pressure.proofs.Fit.{GammaBox, warned_only}
use Rattle.pressure_fit.specs.Ready.{GammaReady}
use Rattle.pressure_fit.proofs.Gammas.{passes, pressure_small}
use Rattle.pressure_join.specs.Line.{line_of}

box : {y z : ℤ} → GammaReady y z → GammaBox y z
box r = record { density = record { least = r.y_least; most = r.y_most }; least = r.z_least }

module _ (e d : ℕ) (s : Strip) (l : Logs) (low : GammaReady s.low l.z) (high : GammaReady s.high l.z) where
  -- nothing but the warning refuses by the logarithms
  by_logs : (beyond_gamma_logs s.low l.z || beyond_gamma_logs s.high l.z) ≡ (is_warned s.low l.z || is_warned s.high l.z)
  by_logs = ap₂ (λ (t u : Bool). t || u) (warned_only s.low l.z (box low)) (warned_only s.high l.z (box high))

  edge : ℤ → Edge
  edge v = edge_by chosen (gamma_at v l.z) v l.z

  verdict : Bool → Held
  verdict t = cond t (judges 17 letter_p l Unfitted) (line_of e d s l (edge s.low) (edge s.high))

  verdict_is : verdict (beyond_gamma_logs s.low l.z || beyond_gamma_logs s.high l.z) ≡ fitted_by chosen (pressure_rule e d) (pressure_of e d) (Some s) l
  unfolding verdict held_at edge
  verdict_is = refl

  pub warned_is : (is_warned s.low l.z || is_warned s.high l.z) ≡ true → judges 17 letter_p l Unfitted ≡ fitted_by chosen (pressure_rule e d) (pressure_of e d) (Some s) l
  unfolding verdict
  warned_is t = ap verdict (sym t ∙ sym by_logs) ∙ verdict_is

  pub line_is : (x y : Edge) → (is_warned s.low l.z || is_warned s.high l.z) ≡ false
      → x ≡ edge_by chosen (gamma_at s.low l.z) s.low l.z → y ≡ edge_by chosen (gamma_at s.high l.z) s.high l.z
      → line_of e d s l x y ≡ fitted_by chosen (pressure_rule e d) (pressure_of e d) (Some s) l
  unfolding verdict edge
  line_is x y t hx hy = ap₂ (λ (a b : Edge). line_of e d s l a b) hx hy ∙ ap verdict (sym t ∙ sym by_logs) ∙ verdict_is

-- in a strip pressures are small enough for the straight line
pub small : (e d : ℕ) (g : ℤ) → e ≤ 10 ^ 12 → d ≤ D0 → beyond_gamma g ≡ false → In 57 (pressure_of e d g)
small e d g he hd t = record { size = lt_of_le_of_lt (pressure_small e d D0 g he hd t) (lit< tt) }

-- and so would gammas be
pub gamma_small : (g : ℤ) → beyond_gamma g ≡ false → In 57 g
gamma_small (pos n) t = let p = passes (pos n) t in record { size = omega (arith, ≡-of (search zs) p.is, p.most) }
gamma_small (negsuc n) t = absurd (true≢false t)
