-- The tables' rules: one test at each entry, which antt computes. Assumes nothing.
use mathlib.Core.Bool.{Bool}
use Prim.Native.Nat.{ℕ, ◌+◌, ◌*◌, ◌≤◌, ◌<◌}
use lib.Dec.{T, leb, ltb, leb→le, ltb→lt, lit<, lit≤}
use lib.ListN.{get_or}
use Rattle.logarithm.specs.Choice.{factors, factor_logs, points, rises}
use Rattle.logarithm.proofs.Table.{both, both_left, both_right, at}
use Rattle.logarithm.proofs.Digits.{lows, highs}
use Rattle.logarithm.proofs.Bounds.{Lo, Hi, lo_test, hi_test, hi_over}

-- t is 10 ^ 10 times the logarithm of v / d, rounded down
unfoldable is_log : ℕ → ℕ → ℕ → ℕ → Bool
is_log v d u t = both (both (ltb 0 u) (ltb 0 d)) (both (lows (d * u) 10 t (v * u)) (highs (d * u) 10 t (v * u)))

log_of_lem : (v d u t : ℕ) → T (is_log v d u t) → Lo 10000000000 t v d × Hi 10000000000 (t + 1) v d
unfolding is_log
log_of_lem v d u t h =
    let a = both (ltb 0 u) (ltb 0 d) in
    let p = lows (d * u) 10 t (v * u) in
    let q = highs (d * u) 10 t (v * u) in
    let up = ltb→lt 0 u (both_left (ltb 0 u) (ltb 0 d) (both_left a (both p q) h)) in
    let dp = ltb→lt 0 d (both_right (ltb 0 u) (ltb 0 d) (both_left a (both p q) h)) in
    let r = both_right a (both p q) h in
    (lo_test 10 t v d u up dp (both_left p q r), hi_test 10 t v d u up dp (both_right p q r))

-- ---- the factors

-- c is 2 ^ 36 / (32 + i), rounded up, and t is the logarithm of 2 ^ 31 / c, rounded down
pub record First (i c t : ℕ) : Type 0 where
  pub least : 68719476736 ≤ c * (32 + i)
  pub room : c * (33 + i) ≤ 70866960384
  pub low : Lo 10000000000 t 2147483648 c
  pub high : Hi 10000000000 (t + 1) 2147483648 c
  pub most : t ≤ 3000000000

unfoldable good_first : ℕ → ℕ → ℕ → Bool
good_first i c t =
    both (is_log 2147483648 c 1000000000 t) (both (leb t 3000000000) (both (leb 68719476736 (c * (32 + i))) (leb (c * (33 + i)) 70866960384)))

first_good : (i c t : ℕ) → T (good_first i c t) → First i c t
unfolding good_first
first_good i c t h =
    let x = is_log 2147483648 c 1000000000 t in
    let y = leb t 3000000000 in
    let z = leb 68719476736 (c * (32 + i)) in
    let w = leb (c * (33 + i)) 70866960384 in
    let h₁ = both_right x (both y (both z w)) h in
    let h₂ = both_right y (both z w) h₁ in
    let l = log_of_lem 2147483648 c 1000000000 t (both_left x (both y (both z w)) h) in
    record {
      least = leb→le _ _ (both_left z w h₂);
      room = leb→le _ _ (both_right z w h₂);
      low = l.0;
      high = l.1;
      most = leb→le _ _ (both_left y (both z w) h₁);
    }

pub first_at : (i : ℕ) → i < 32 → First i (get_or factors i 0) (get_or factor_logs i 0)
unfolding good_first is_log lows highs factors factor_logs
first_at i h = first_good i (get_or factors i 0) (get_or factor_logs i 0) (at (λ j c. good_first j c (get_or factor_logs j 0)) factors tt i h)

-- ---- the points

-- a and a + d are the logarithms of two neighbours of the table, rounded down
pub record Segment (i a d : ℕ) : Type 0 where
  pub left_low : Lo 10000000000 a (1024 + i) 1024
  pub left_high : Hi 10000000000 (a + 1) (1024 + i) 1024
  pub right_low : Lo 10000000000 (a + d) (1024 + i + 1) 1024
  pub right_high : Hi 10000000000 (a + d + 1) (1024 + i + 1) 1024
  pub small : d ≤ 10000000
  pub most : a + d ≤ 200000000

unfoldable good_segment : ℕ → ℕ → ℕ → Bool
good_segment j a d =
    both (both (is_log (1024 + j) 1024 976562500000000 a) (is_log (1024 + j + 1) 1024 976562500000000 (a + d)))
    (both (leb d 10000000) (leb (a + d) 200000000))

segment_good : (j a d : ℕ) → T (good_segment j a d) → Segment j a d
unfolding good_segment
segment_good j a d h =
    let x = is_log (1024 + j) 1024 976562500000000 a in
    let y = is_log (1024 + j + 1) 1024 976562500000000 (a + d) in
    let v = leb d 10000000 in
    let w = leb (a + d) 200000000 in
    let h₀ = both_left (both x y) (both v w) h in
    let h₁ = both_right (both x y) (both v w) h in
    let p = log_of_lem (1024 + j) 1024 976562500000000 a (both_left x y h₀) in
    let q = log_of_lem (1024 + j + 1) 1024 976562500000000 (a + d) (both_right x y h₀) in
    record {
      left_low = p.0;
      left_high = p.1;
      right_low = q.0;
      right_high = q.1;
      small = leb→le d 10000000 (both_left v w h₁);
      most = leb→le (a + d) 200000000 (both_right v w h₁);
    }

pub segment_at : (j : ℕ) → j < 32 → Segment j (get_or points j 0) (get_or rises j 0)
unfolding good_segment is_log lows highs points rises
segment_at j h = segment_good j (get_or points j 0) (get_or rises j 0) (at (λ i a. good_segment i a (get_or rises i 0)) points tt j h)

-- ---- 2, the room that a chord needs, and a unit of 2 ^ 31

pub two : Lo 10000000000 3010299956 2 1 × Hi 10000000000 3010299957 2 1
unfolding is_log lows highs
two = log_of_lem 2 1 1000000000000000000 3010299956 tt

pub room : Hi 10000000000 1036 4194304 4194303
unfolding highs
room = hi_over 10 1035 1000000238418635945 1000000000000000000 4194304 4194303 (lit< tt) (lit≤ tt) tt

pub unit : Hi 10000000000 3 2147483649 2147483648
unfolding is_log lows highs
unit = (log_of_lem 2147483649 2147483648 1000000000 2 tt).1
