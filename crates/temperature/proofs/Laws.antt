-- What the steps of a temperature's answer amount to, over the definitions.
use mathlib.Core.Bool.{false}
use mathlib.Core.Path.{◌≡◌, subst}
use Prim.Native.Nat.{ℕ, ◌≤◌}
use native.Mathlib.Omega.{arith}
use lib.Dec.{lit≤}
use lib.IntN.{ℤ, pos, negsuc, nat_abs}
use lib.Signed.{◌≤ℤ◌, lt_z}
use Rattle.integer.specs.Tests.{test_le, test_not_lt}
use Rattle.integer.specs.Laws.{≤ℤ-trans}
use Rattle.logarithm.proofs.Quotient.{ratio_small}
use Rattle.bands.specs.Region.{beyond_window}
use Rattle.bands.proofs.Regions.{IsPerfect}
use Rattle.perfect.specs.Perfect.{Dividable}
use Rattle.air.specs.declared.Logs.{Logs}
use Rattle.air.specs.Quantities.{P0, D0}
use Rattle.air.proofs.Tests.{and_left, and_right, abs_of}
use Rattle.air.proofs.Tests.{or_left, or_right}
use Rattle.temperature.specs.Ready.{TemperatureReady}

pub window_most : (z : ℤ) → beyond_window z ≡ false → nat_abs z ≤ 3000000
window_most z e =
    abs_of 999999 3000000 z
    (test_not_lt (or_left (lt_z z (negsuc 999999)) (lt_z (pos 3000000) z) e)) (test_not_lt (or_right (lt_z z (negsuc 999999)) (lt_z (pos 3000000) z) e))
    3000000 (omega arith) (omega arith)

pub dividable : (p d : ℕ) (l : Logs) → TemperatureReady p d l → IsPerfect l.z → Dividable p d
dividable p d l h r =
    let lo : 12920 ≤ d = lib.Dec.leb→le 12920 d (and_left (lib.Dec.leb 12920 d) (lib.Dec.leb d 129200000000000) h.density) in
    let hi : d ≤ 129200000000000 = lib.Dec.leb→le d 129200000000000 (and_right (lib.Dec.leb 12920 d) (lib.Dec.leb d 129200000000000) h.density) in
    let z : l.z ≤ℤ pos 999998 = ≤ℤ-trans {b = pos 250000} (test_le r.perfect) (record { le = tt }) in
    record {
      some = omega arith;
      most = hi;
      ratio = ratio_small 1 999998 p P0 d D0 h.taken.x l.y (lit≤ tt) h.taken.x_log h.taken.y (subst (λ (x : ℤ). x ≤ℤ pos 999998) h.taken.z z);
    }
