-- The tables' rules: one test at each entry, which antt computes. Assumes nothing.
use mathlib.Core.Bool.{Bool}
use Prim.Native.Nat.{ℕ, ◌+◌, ◌*◌, ◌≤◌, ◌<◌}
use native.Mathlib.Nat.{le_trans}
use lib.Dec.{T, leb, leb→le, lit<, lit≤}
use lib.ListN.{get_or}
use Rattle.logarithm.proofs.Table.{both, both_left, both_right, at}
use Rattle.logarithm.proofs.Digits.{lows, highs}
use Rattle.logarithm.proofs.Bounds.{Lo, Hi, lo_test, hi_test}
use Rattle.power.specs.Choice.{coarse, middle, fine}
use Rattle.power.proofs.Near.{Near, near_entry}

-- one more, from 273150000 on
pub unit : Hi 10000000000 16 273150001 273150000
unfolding highs
unit = hi_test 10 15 273150001 273150000 1000000000000 (lit< tt) (lit< tt) tt

-- the straight line: its end and its slope
pub line_end : Lo 10000000000 640000 434326 434262
unfolding lows
line_end = lo_test 10 640000 434326 434262 1000000000000000 (lit< tt) (lit< tt) tt

pub line_slope : Hi 10000000000 10001 434263 434262
unfolding highs
line_slope = hi_test 10 10000 434263 434262 1000000000000000 (lit< tt) (lit< tt) tt

-- v is s times ten to w i units of 10 ^ -10, rounded down
pub record Entry (s w most i v : ℕ) : Type 0 where
  pub least : s ≤ v
  pub most_is : v ≤ most
  pub near : Near 10000000000 (w * i) 16 1 v s

unfoldable good : ℕ → ℕ → ℕ → ℕ → ℕ → Bool
good s w most i v =
    both (both (leb s v) (leb v most))
    (both (lows (s * 1000000000000) 10 (w * i) ((v + 1) * 1000000000000)) (highs (s * 1000000000000) 10 (w * i) (v * 1000000000000)))

entry : (s w most i v : ℕ) → 273150000 ≤ s → T (good s w most i v) → Entry s w most i v
unfolding good
entry s w most i v o h =
    let a = leb s v in
    let b = leb v most in
    let c = lows (s * 1000000000000) 10 (w * i) ((v + 1) * 1000000000000) in
    let d = highs (s * 1000000000000) 10 (w * i) (v * 1000000000000) in
    let p = both_left (both a b) (both c d) h in
    let q = both_right (both a b) (both c d) h in
    let l = leb→le s v (both_left a b p) in
    let sp : 0 < s = le_trans (lit< tt) o in
    record {
      least = l;
      most_is = leb→le v most (both_right a b p);
      near = near_entry 10000000000 16 273150000 (lit< tt) unit (w * i) v s (le_trans o l)
          (lo_test 10 (w * i) (v + 1) s 1000000000000 (lit< tt) sp (both_left c d q))
          (hi_test 10 (w * i) v s 1000000000000 (lit< tt) sp (both_right c d q));
    }

pub coarse_at : (i : ℕ) → i < 30 → Entry 273150000 655360000 22000000000 i (get_or coarse i 0)
unfolding good lows highs coarse
coarse_at i h = entry 273150000 655360000 22000000000 i (get_or coarse i 0) (lit≤ tt) (at (good 273150000 655360000 22000000000) coarse tt i h)

pub middle_at : (i : ℕ) → i < 32 → Entry 536870912 20480000 630000000 i (get_or middle i 0)
unfolding good lows highs middle
middle_at i h = entry 536870912 20480000 630000000 i (get_or middle i 0) (lit≤ tt) (at (good 536870912 20480000 630000000) middle tt i h)

pub fine_at : (i : ℕ) → i < 32 → Entry 536870912 640000 540000000 i (get_or fine i 0)
unfolding good lows highs fine
fine_at i h = entry 536870912 640000 540000000 i (get_or fine i 0) (lit≤ tt) (at (good 536870912 640000 540000000) fine tt i h)
