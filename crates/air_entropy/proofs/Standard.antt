-- Entropies at D0 and at E0 times a power of ten, for every choice of the free answers.
use Rattle.std.specs.Prelude.{None}
use mathlib.Core.Option.{some}
use mathlib.Core.Path.{◌≡◌, refl, ap, ◌∙◌}
use Prim.Native.Nat.{ℕ, ◌*◌, ◌^◌}
use lib.IntN.{ℤ, pos}
use Rattle.quotient.specs.Mul.{mul}
use Rattle.bicubic.specs.Bicubic.{gas1, gas2, gas3, gas4, bicubic}
use Rattle.tgas2_entropy.specs.Entropy.{entropy_coefficients}
use Rattle.logarithm.proofs.Exact.{exact_power}
use Rattle.air.specs.declared.Logs.{Logs}
use Rattle.air.specs.Quantities.{D0, E0}
use Rattle.air.specs.Held.{Held}
use Rattle.air_entropy.specs.Entropy.{IsEntropy, entropy_in, entropy_from, entropy_at, perfect_entropy, fitted_entropy}

logs_are : (z : ℕ) (l : Logs) → l.x ≡ None → l.y ≡ pos 0 → l.z ≡ pos z → l ≡ record { x = None; y = pos 0; z = pos z }
logs_are z l x y e = λ i. record { x = x i; y = y i; z = e i }

-- at E0 times ten to the k
entropy_row : (k : ℕ) (v : ℤ) (h : Held) → IsEntropy (E0 * 10 ^ k) D0 h
    → (entropy_from (record { x = None; y = pos 0; z = pos (k * 1000000) })).value ≡ some v → h.value ≡ some v
entropy_row k v h t e =
    let same = logs_are (k * 1000000) t.logs t.taken.x (exact_power D0 0 t.logs.y t.taken.y) (exact_power E0 k t.logs.z t.taken.z) in
    ap (λ (g : Held). g.value) t.is ∙ ap (λ (l : Logs). (entropy_from l).value) same ∙ e

pub standard_value : (h : Held) → IsEntropy E0 D0 h → h.value ≡ some (pos 61182203)
unfolding entropy_in entropy_at perfect_entropy fitted_entropy
standard_value h t = entropy_row 0 (pos 61182203) h t refl

pub ten_times_value : (h : Held) → IsEntropy 784084000 D0 h → h.value ≡ some (pos 77879435)
unfolding entropy_in entropy_at perfect_entropy fitted_entropy bicubic gas1 gas2 gas3 gas4 mul entropy_coefficients
ten_times_value h t = entropy_row 1 (pos 77879435) h t refl
