-- The strip around a Y: where its edges lie.
use mathlib.Core.Bool.{Bool, true, false, cond, ◌&&◌}
use Rattle.std.specs.Prelude.{Option, Some, None}
use mathlib.Core.Path.{◌≡◌, refl, subst}
use Prim.Native.Nat.{ℕ, ◌≤◌}
use native.Mathlib.Omega.{arith}
use lib.Dec.{le→leb, lit≤}
use lib.IntN.{ℤ, negsuc, nat_abs}
use lib.Signed.{◌≤ℤ◌, ◌<ℤ◌, lt_z, le_z_yes, lt_z_yes}
use Rattle.integer.specs.Z.{<→, →≤}
use Rattle.quotient.specs.Range.{Between}
use Rattle.bands.specs.declared.Strip.{Strip}
use Rattle.bands.specs.Bands.{low_edge, high_edge, inside, around, strip_of}
use Rattle.air.specs.Ready.{JoinReady}
use Rattle.air.specs.Places.{AtPlaces}
use Rattle.air.proofs.Tests.{and_left, and_right, is_true, abs_of}
use Rattle.air.proofs.Ranges.{YRange}

lt_le : {p q : ℤ} → p <ℤ q → p ≤ℤ q
lt_le h = →≤ (omega (arith, <→ h))

-- a strip whose edges a density in range can have, below 0, with Y between them
pub record IsStrip (s : Strip) (y : ℤ) : Type 0 where
  pub between : Between s.low s.high y
  pub low : YRange s.low
  pub high : YRange s.high
  pub below : s.high ≤ℤ negsuc 0

edges : (s : Strip) (y : ℤ) → lt_z s.low y && lt_z y s.high ≡ true → YRange s.low → YRange s.high → s.low <ℤ s.high → s.high ≤ℤ negsuc 0 → IsStrip s y
edges s y e hp hq h l =
    let in_low = lt_z_yes (and_left (lt_z s.low y) (lt_z y s.high) (is_true e)) in
    let in_high = lt_z_yes (and_right (lt_z s.low y) (lt_z y s.high) (is_true e)) in
    record { between = record { apart = h; low = lt_le in_low; high = lt_le in_high }; low = hp; high = hq; below = l }

pub strip_is : (y : ℤ) {s : Strip} → strip_of y ≡ Some s → IsStrip s y
strip_is y {s} e = go (inside low_edge 25000 y) (inside high_edge 5000 y) refl refl e
  where
    range : {n : ℕ} → n ≤ 6999999 → YRange (negsuc n)
    range {n} h = record { least = le_z_yes (le→leb n 6999999 h); most = le_z_yes tt }

    go : (p q : Bool) → inside low_edge 25000 y ≡ p → inside high_edge 5000 y ≡ q
        → cond p (Some (around low_edge 25000)) (cond q (Some (around high_edge 5000)) None) ≡ Some s → IsStrip s y
    go true q h k t =
        let is : around low_edge 25000 ≡ s = cc in
        subst (λ (v : Strip). IsStrip v y) is (edges (around low_edge 25000) y h (range (lit≤ tt)) (range (lit≤ tt)) (lt_z_yes tt) (le_z_yes tt))
    go false true h k t =
        let is : around high_edge 5000 ≡ s = cc in
        subst (λ (v : Strip). IsStrip v y) is (edges (around high_edge 5000) y k (range (lit≤ tt)) (range (lit≤ tt)) (lt_z_yes tt) (le_z_yes tt))
    go false false h k t = let f : ◌≡◌ {A = ℕ} 0 1 = cc in absurd (omega arith)

-- what holds wherever a density in range can be holds at every place
pub each_in_range : (y : ℤ) (P : ℤ → Type 0) → ((v : ℤ) → YRange v → P v) → YRange y → AtPlaces (strip_of y) P y
each_in_range y P f r = go (strip_of y) refl
  where
    go : (s : Option Strip) → strip_of y ≡ s → AtPlaces s P y
    go None e = f y r
    go (Some s) e = let i = strip_is y e in (f s.low i.low, f s.high i.high)

-- how far an edge is from 0
pub strip_ready : (y z : ℤ) {s : Strip} → nat_abs z ≤ 5000000 → strip_of y ≡ Some s → JoinReady s y z
strip_ready y z {s} hz e =
    let i = strip_is y e in
    record { between = i.between; low = record { y_most = y_abs s.low i.low; z_most = hz }; high = record { y_most = y_abs s.high i.high; z_most = hz } }
  where
    y_abs : (v : ℤ) → YRange v → nat_abs v ≤ 7000000
    y_abs v r = abs_of 6999999 3000000 v r.least r.most 7000000 (lit≤ tt) (lit≤ tt)
