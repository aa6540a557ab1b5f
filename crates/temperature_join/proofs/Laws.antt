-- What the steps of a join amount to, over the definitions.
use mathlib.Core.Bool.{true, false, ◌||◌}
use mathlib.Core.Path.{◌≡◌, refl, sym, ap, ap₂, ◌∙◌}
use lib.IntN.{ℤ}
use Rattle.std.specs.Prelude.{Some}
use Rattle.fit.specs.declared.Edge.{Edge}
use Rattle.proportion.specs.Straight.{straight}
use Rattle.bands.specs.declared.Strip.{Strip}
use Rattle.air.specs.declared.Edges.TheVariants.{Two}
use Rattle.air.specs.declared.Logs.{Logs}
use Rattle.air.specs.Held.{judges, shows}
use Rattle.air.specs.Choices.{chosen}
use Rattle.air.specs.Places.{Point, point_by, fitted_by}
use Rattle.air.proofs.Places.{fit_refused, fit_shown}
use Rattle.air_temperature.specs.Temperature.{letter_t, beyond_fit, temperature_rule}
use Rattle.air_temperature.specs.Property.{kelvin_by}

-- a place's point, its fit and its temperature
abbrev pub point_at : ℤ → ℤ → Point
point_at z y = point_by chosen temperature_rule (kelvin_by chosen) z y

module _ (s : Strip) (l : Logs) (e f : Edge) (low : e ≡ (point_at l.z s.low).edge) (high : f ≡ (point_at l.z s.high).edge) where
  tested : (beyond_fit e.fit || beyond_fit f.fit) ≡ (beyond_fit (point_at l.z s.low).edge.fit || beyond_fit (point_at l.z s.high).edge.fit)
  tested = ap₂ (λ (x y : Edge). beyond_fit x.fit || beyond_fit y.fit) low high

  pub refused_is : (beyond_fit e.fit || beyond_fit f.fit) ≡ true → judges 13 letter_t l (Two e f) ≡ fitted_by chosen temperature_rule (kelvin_by chosen) (Some s) l
  refused_is t = ap₂ (λ (x y : Edge). judges 13 letter_t l (Two x y)) low high ∙ fit_refused temperature_rule (Some s) l (point_at l.z) refl (sym tested ∙ t)

  pub shown_is : (p q v : ℤ) → (beyond_fit e.fit || beyond_fit f.fit) ≡ false → p ≡ kelvin_by chosen e.fit → q ≡ kelvin_by chosen f.fit → v ≡ straight s.low s.high p q l.y
      → shows letter_t l (Two e f) (Some (record { low = p; high = q })) v ≡ fitted_by chosen temperature_rule (kelvin_by chosen) (Some s) l
  shown_is p q v t hp hq hv =
      let kp : p ≡ (point_at l.z s.low).value = hp ∙ ap (λ (x : Edge). kelvin_by chosen x.fit) low in
      let kq : q ≡ (point_at l.z s.high).value = hq ∙ ap (λ (x : Edge). kelvin_by chosen x.fit) high in
      let kv = hv ∙ ap₂ (λ (x y : ℤ). straight s.low s.high x y l.y) kp kq in
      (λ i. shows letter_t l (Two (low i) (high i)) (Some (record { low = kp i; high = kq i })) (kv i))
      ∙ fit_shown temperature_rule (Some s) l (point_at l.z) refl (sym tested ∙ t)
