-- The temperature of the standards, for every choice of the free answers.
use Rattle.std.specs.Prelude.{Some}
use mathlib.Core.Option.{some}
use mathlib.Core.Path.{◌≡◌, ap, ◌∙◌, subst}
use lib.IntN.{pos, ◌-ℤ◌}
use Rattle.bands.specs.Region.{region_of}
use Rattle.logarithm.proofs.Exact.{exact_power}
use Rattle.perfect.specs.Perfect.{perfect_gas}
use Rattle.air.specs.declared.Logs.{Logs}
use Rattle.air.specs.Quantities.{P0, D0}
use Rattle.air.specs.Held.{Held}
use Rattle.air_temperature.specs.Temperature.{IsTemperatureIn, IsTemperature}

logs_are : (l : Logs) → l.x ≡ Some (pos 0) → l.y ≡ pos 0 → l.z ≡ pos 0 → l ≡ record { x = Some (pos 0); y = pos 0; z = pos 0 }
logs_are l x y z = λ i. record { x = x i; y = y i; z = z i }

pub standard_value : (h : Held) → IsTemperature P0 D0 h → h.value ≡ some (pos (perfect_gas P0 D0))
standard_value h t =
    let x = exact_power P0 0 t.taken.x t.taken.x_log in
    let y = exact_power D0 0 t.logs.y t.taken.y in
    let z : t.logs.z ≡ pos 0 = t.taken.z ∙ (λ i. x i -ℤ y i) in
    let same = logs_are t.logs (t.taken.carries_x ∙ ap Some x) y z in
    ap (λ (g : Held). g.value) (subst (λ (l : Logs). IsTemperatureIn (region_of l.y l.z) P0 D0 l h) same t.is)
