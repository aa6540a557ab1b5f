-- The distance of a fitted value from its exact fit: over any piece as it is printed, of either sign, kept or not, any box and any tolerance of the weight.
use mathlib.Core.Bool.{Bool, false, ◌&&◌}
use mathlib.Core.List.{List, [], ◌∷◌}
use mathlib.Core.Path.{sym, subst}
use Prim.Native.Nat.{ℕ, zero, suc, ◌+◌, ◌*◌, ◌/◌, ◌≤◌, ◌<◌}
use native.Mathlib.Nat.{mul-le-mul_right, le_trans, lt-div-mul-add}
use native.Mathlib.Omega.{arith}
use lib.Dec.{T, leb, leb→le, lit<}
use lib.IntN.{ℤ, nat_abs, ◌*ℤ◌}
use lib.ListN.{get_or}
use lib.Signed.{shr_z}
use Rattle.fraction.specs.Fraction.{Fraction, Within, plus, times, over}
use Rattle.weight.specs.Weight.{units, Sign, one_plus, one_minus, ideal_of}
use Rattle.weight.specs.Choice.{Served}
use Rattle.weight.proofs.Either.{factor_of, Settled, ideal_near}
use Rattle.bicubic.specs.Bicubic.{coefficient, bicubic, exponent}
use Rattle.fit.specs.Fit.{Transition, Piece, alone, joint, exponent_of, Weighs, fitted}
use Rattle.bicubic.specs.Exact.{exactly, exact_bicubic, exact_exponent}
use Rattle.fit.specs.Exact.{Printed, in_units, in_hundredths, nearest_of, rounded, exact_kept, in_parts, exact_of, exact_fit}
use Rattle.fit.specs.Edge.{ServedAt}
use Rattle.bicubic.proofs.Near.{near_plus, near_more, bicubic_loss, exponent_loss, Stands, stands, bicubic_near, exponent_near}
use Rattle.bicubic.proofs.Size.{ceiling, ceiling_holds, size, bicubic_size}
use Rattle.quotient.proofs.Machine.{both}
use Rattle.fit.proofs.Weighted.{near_weighted}
use Rattle.fit.proofs.Clamp.{kept_near}
use Rattle.fit.proofs.Nearest.{off, reads}
use Rattle.fit.proofs.Box.{Box, InBox, nowhere, y_reach, z_reach, y_within, z_within}
use Rattle.fit.proofs.Corners.{serves, served}

-- what the weight costs a B of at most s, in whole units: s·(k + e / 2) / U, where the exponent loses at most e
abbrev pub weight_loss : ℕ → ℕ → ℕ → ℕ
weight_loss s k e = s * (2 * k + e) / (2 * units) + 1

-- so much is enough
enough : (s c u b : ℕ) → 0 < u → b ≤ s → b * c ≤ 2 * (u * (s * c / (2 * u) + 1))
enough s c u b hu h =
    let d : 0 < 2 * u = omega arith in
    omega (arith, mul-le-mul_right c h, lt-div-mul-add {a = s * c} {b = 2 * u} d)

-- ---- any two bicubics and any transition, for |Y| up to m and |Z| up to n in whole units, |B| up to s, and a weight that is within k and at most r in size;
-- the numbers of A, B and the exponent are a, b and q off
abbrev joint_loss : ℕ → ℕ → ℕ → ℕ → ℕ → ℕ → ℕ → ℕ → ℕ
joint_loss a b q m n s k r = bicubic_loss a m n + (weight_loss s k (exponent_loss q m n) + 1 + r * bicubic_loss b m n)

module _ (m n s k N a b q : ℕ) (A B : List ℤ) (t : Transition) (f g h : ℕ → Fraction) (fa : Stands a A f) (gb : Stands b B g) (hq : Stands q t.terms h) (y z w : ℤ) where
  joint_near : 128 ≤ N → nat_abs y ≤ m * 1000000 → nat_abs z ≤ n * 1000000 → nat_abs (bicubic B y z) ≤ s
      → Settled t.sign (exponent_loss q m n) (exponent_of t y z) → Weighs k (joint A B t) y z w
      → Within (joint_loss a b q m n s k (factor_of t.sign)) (fitted (joint A B t) y z w)
      (plus (exact_bicubic f y z) (times (exact_bicubic g y z) (ideal_of t.sign N (over units (exact_kept t.limit (exact_exponent h y z))))))
  joint_near most hy hz hs far weighs =
      let e : ℕ = exponent_loss q m n in
      let x : Fraction = exact_kept t.limit (exact_exponent h y z) in
      let near : Within e (exponent_of t y z) x = kept_near e t.limit (exponent t.terms y z) (exact_exponent h y z) (exponent_near q m n y z hy hz t.terms h hq) in
      let i = ideal_near t.sign N k e w (exponent_of t y z) x most near far weighs in
      near_plus (bicubic_near a m n y z hy hz A f fa)
      (subst (λ (v : Fraction). Within (weight_loss s k e + 1 + factor_of t.sign * bicubic_loss b m n) (shr_z (w *ℤ bicubic B y z) units) (times (exact_bicubic g y z) v)) (sym i.is)
      (near_weighted (2 * k + e) units w i.top i.bottom (factor_of t.sign) (weight_loss s k e) (lit< tt) i.some i.most i.weighed
      (enough s (2 * k + e) units (nat_abs (bicubic B y z)) (lit< tt) hs)
      (bicubic_near b m n y z hy hz B g gb)))

-- ---- over a box
-- the distance of a piece, of which A, B and the exponent are so much off; B is the rounded one
unfoldable pub distance_of : Box → ℕ → (List ℤ → ℕ) → (List ℤ → List ℤ) → Piece → ℕ
distance_of b k off round (alone A) = bicubic_loss (off A) (ceiling (y_reach b)) (ceiling (z_reach b))
distance_of b k off round (joint A B t) =
    joint_loss (off A) (off B) (off t.terms) (ceiling (y_reach b)) (ceiling (z_reach b)) (size (y_reach b) (z_reach b) (λ i. nat_abs (coefficient (round B) i))) k (factor_of t.sign)

-- whole units are not off, and rounding leaves them
abbrev none : List ℤ → ℕ
none k = 0

abbrev same : List ℤ → List ℤ
same k = k

abbrev pub distance : Box → ℕ → Printed → ℕ
distance b k (in_units p) = distance_of b k none same p
distance b k (in_hundredths p) = distance_of b k off nearest_of p

-- of each piece of a table, in its own box; print says how the table's numbers are printed
unfoldable pub distances : (Piece → Printed) → ℕ → List Box → List Piece → List ℕ
distances print k (b ∷ bs) (p ∷ ps) = distance b k (print p) ∷ distances print k bs ps
distances print k [] ps = []
distances print k (b ∷ bs) [] = []

-- what a rounded exponent has lost is little beside how far from 0 it is
abbrev loss_of : Box → (List ℤ → ℕ) → Piece → ℕ
loss_of b off (alone A) = 0
loss_of b off (joint A B t) = exponent_loss (off t.terms) (ceiling (y_reach b)) (ceiling (z_reach b))

abbrev exponent_loss_in : Box → Printed → ℕ
exponent_loss_in b (in_units p) = loss_of b none p
exponent_loss_in b (in_hundredths p) = loss_of b off p

settled : (s : Sign) (e : ℕ) (q : ℤ) → e ≤ 4000000000 → Served s q → Settled s e q
settled one_plus e q h k = tt
settled one_minus e q h k = omega (arith, k)

module _ (b : Box) (k N : ℕ) (y z w : ℤ) (most : 128 ≤ N) (i : InBox b y z) where
  y_ok : nat_abs y ≤ ceiling (y_reach b) * 1000000
  y_ok = le_trans (y_within i) (ceiling_holds (y_reach b))

  z_ok : nat_abs z ≤ ceiling (z_reach b) * 1000000
  z_ok = le_trans (z_within i) (ceiling_holds (z_reach b))

  -- any piece in s-th parts of a unit
  part_near : (s : ℕ) (off : List ℤ → ℕ) (round : List ℤ → List ℤ) (reads : (c : List ℤ) → Stands (off c) (round c) (in_parts s c)) (A B : List ℤ) (t : Transition)
      → let p = joint (round A) (round B) (record { sign = t.sign; limit = t.limit; terms = round t.terms }) in
      exponent_loss (off t.terms) (ceiling (y_reach b)) (ceiling (z_reach b)) ≤ 4000000000 → ServedAt p y z → Weighs k p y z w
      → Within (distance_of b k off round (joint A B t)) (fitted p y z w) (exact_of s (joint A B t) N y z)
  unfolding distance_of
  part_near s off round reads A B t few serves weighs =
      joint_near (ceiling (y_reach b)) (ceiling (z_reach b)) (size (y_reach b) (z_reach b) (λ i. nat_abs (coefficient (round B) i))) k N (off A) (off B) (off t.terms)
      (round A) (round B) (record { sign = t.sign; limit = t.limit; terms = round t.terms }) (in_parts s A) (in_parts s B) (in_parts s t.terms) (reads A) (reads B) (reads t.terms) y z w
      most y_ok z_ok (bicubic_size (y_reach b) (z_reach b) y z (y_within i) (z_within i) (round B))
      (settled t.sign _ _ few serves) weighs

  -- the general theorem
  pub fit_near : (p : Printed) → exponent_loss_in b p ≤ 4000000000 → ServedAt (rounded p) y z → Weighs k (rounded p) y z w
      → Within (distance b k p) (fitted (rounded p) y z w) (exact_fit p N y z)
  unfolding distance_of
  fit_near (in_units (alone A)) few serves weighs = bicubic_near 0 (ceiling (y_reach b)) (ceiling (z_reach b)) y z y_ok z_ok A (exactly A) (stands A)
  fit_near (in_hundredths (alone A)) few serves weighs =
      bicubic_near (off A) (ceiling (y_reach b)) (ceiling (z_reach b)) y z y_ok z_ok (nearest_of A) (in_parts 100 A) (reads A)
  fit_near (in_units (joint A B t)) few serves weighs = part_near 1 none same stands A B t few serves weighs
  fit_near (in_hundredths (joint A B t)) few serves weighs = part_near 100 off nearest_of reads A B t few serves weighs

-- ---- one computed test over a table of pieces, each with its box; what chooses a piece is left open
abbrev passes : ℕ → ℕ → Box → Printed → Bool
passes d k b p = leb (distance b k p) d && (leb (exponent_loss_in b p) 4000000000 && serves b (rounded p))

-- print says how the table's numbers are printed
unfoldable pub all_pass : (Piece → Printed) → ℕ → ℕ → List Box → List Piece → Bool
all_pass print d k [] [] = passes d k nowhere (print (alone []))
all_pass print d k [] (p ∷ ps) = false
all_pass print d k (b ∷ bs) [] = false
all_pass print d k (b ∷ bs) (p ∷ ps) = passes d k b (print p) && all_pass print d k bs ps

passes_at : (print : Piece → Printed) (d k : ℕ) (bs : List Box) (ps : List Piece) → T (all_pass print d k bs ps) → (i : ℕ)
    → T (passes d k (get_or bs i nowhere) (print (get_or ps i (alone []))))
unfolding all_pass
passes_at print d k [] [] t i = t
passes_at print d k [] (p ∷ ps) t i = absurd t
passes_at print d k (b ∷ bs) [] t i = absurd t
passes_at print d k (b ∷ bs) (p ∷ ps) t zero = (both (passes d k b (print p)) (all_pass print d k bs ps) t).0
passes_at print d k (b ∷ bs) (p ∷ ps) t (suc i) = passes_at print d k bs ps (both (passes d k b (print p)) (all_pass print d k bs ps) t).1 i

-- every piece of a table that passes, wherever Y and Z lie in its box
module _ (print : Piece → Printed) (d k : ℕ) (bs : List Box) (ps : List Piece) (t : T (all_pass print d k bs ps)) (i : ℕ) (y z : ℤ) (inside : InBox (get_or bs i nowhere) y z) where
  abbrev p : Printed
  p = print (get_or ps i (alone []))

  abbrev b : Box
  b = get_or bs i nowhere

  tests : T (leb (distance b k p) d) × (T (leb (exponent_loss_in b p) 4000000000) × T (serves b (rounded p)))
  tests =
      let u = both (leb (distance b k p) d) (leb (exponent_loss_in b p) 4000000000 && serves b (rounded p)) (passes_at print d k bs ps t i) in
      (u.0, both (leb (exponent_loss_in b p) 4000000000) (serves b (rounded p)) u.1)

  -- a weight serves it
  pub table_serves : ServedAt (rounded p) y z
  table_serves = served b (rounded p) tests.1.1 y z inside

  -- each piece is within its own distance, and so within the table's
  pub own_near : (N : ℕ) (w : ℤ) → 128 ≤ N → Weighs k (rounded p) y z w → Within (distance b k p) (fitted (rounded p) y z w) (exact_fit p N y z)
  own_near N w most h = fit_near b k N y z w most inside p (leb→le _ _ tests.1.0) table_serves h

  pub table_near : (N : ℕ) (w : ℤ) → 128 ≤ N → Weighs k (rounded p) y z w → Within d (fitted (rounded p) y z w) (exact_fit p N y z)
  table_near N w most h = near_more (leb→le _ _ tests.0) (own_near N w most h)
