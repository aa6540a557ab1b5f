-- Where the carried logarithms of values in range lie, and in which piece's box.
use mathlib.Core.Bool.{Bool, true, false}
use mathlib.Core.List.{List}
use mathlib.Core.Path.{◌≡◌, refl}
use Prim.Native.Nat.{ℕ, ◌≤◌, suc}
use native.Mathlib.Omega.{arith}
use lib.Dec.{T, leb, leb→le, le→leb, nleb→lt, lit≤}
use lib.IntN.{ℤ, pos, neg_ℤ, negsuc, nat_abs}
use lib.ListN.{get_or}
use lib.Signed.{◌≤ℤ◌, le_z_yes}
use Rattle.fit.proofs.Box.{Box, InBox, nowhere}
use Rattle.bands.specs.Units.{index_in}
use Rattle.bands.specs.declared.Band.{Band}
use Rattle.bands.specs.Bands.{band_of}
use Rattle.logarithm.specs.Log.{IsLog}
use Rattle.integer.specs.Z.{up, dn, ≤→}
use Rattle.integer.specs.Laws.{apart}
use Rattle.logarithm.proofs.Range.{log_least, log_most}
use Rattle.air.specs.Quantities.{D0, E0, is_density, is_energy}
use Rattle.air.specs.Ready.{PlaceReady}
use Rattle.air.proofs.Boxes.{boxes, in_box, band_from, band_to, in_band}
use Rattle.air.proofs.Tests.{and_left, and_right, is_false, is_true, abs_of}

-- where Y lies for a density in range
pub record YRange (y : ℤ) : Type 0 where
  pub least : neg_ℤ (pos 7000000) ≤ℤ y
  pub most : y ≤ℤ pos 3000000

-- ---- where Y and Z can be in each piece: from a Z on, by a band's ends, up to a last Z
abbrev pub reach : ℤ → (Band → List ℤ) → (Band → ℤ) → Band → List Box
reach from ends last b = boxes (band_from b) (band_to b) from (ends b) (last b)

pub placed : (from : ℤ) (ends : Band → List ℤ) (last : Band → ℤ) (y z : ℤ) → YRange y → from ≤ℤ z → z ≤ℤ last (band_of y)
    → InBox (get_or (reach from ends last (band_of y)) (index_in (ends (band_of y)) z) nowhere) y z
placed from ends last y z r h k =
    let b : Band = band_of y in
    let i = in_band y r.least r.most in
    in_box (band_from b) (band_to b) from (ends b) (last b) y z i.least i.most h k

le_of_dn : (k : ℕ) (l : ℤ) → dn l ≤ suc k → negsuc k ≤ℤ l
le_of_dn k (pos n) h = le_z_yes tt
le_of_dn k (negsuc n) h = le_z_yes (le→leb n k (omega arith))

le_of_up : (k : ℕ) (l : ℤ) → up l ≤ k → l ≤ℤ pos k
le_of_up k (pos n) h = le_z_yes (le→leb n k h)
le_of_up k (negsuc n) h = le_z_yes tt

pub y_range : (d : ℕ) (y : ℤ) → T (is_density d) → IsLog d D0 y → YRange y
y_range d y t h =
    let a : 12920 ≤ d = leb→le 12920 d (and_left (leb 12920 d) (leb d 129200000000000) t) in
    let b : d ≤ 129200000000000 = leb→le d 129200000000000 (and_right (leb 12920 d) (leb d 129200000000000) t) in
    record {
      least = le_of_dn 6999999 y (log_least d D0 7 y (omega arith) h);
      most = le_of_up 3000000 y (log_most d D0 3 y (omega arith) h);
    }

-- and how far it is from 0
pub y_most : (d : ℕ) (y : ℤ) → T (is_density d) → IsLog d D0 y → nat_abs y ≤ 7000000
y_most d y t h = let r = y_range d y t h in abs_of 6999999 3000000 y r.least r.most 7000000 (lit≤ tt) (lit≤ tt)

pub z_least : (e : ℕ) (z : ℤ) → T (is_energy e) → IsLog e E0 z → neg_ℤ (pos 1000000) ≤ℤ z
z_least e z t h =
    let a : 7840840 ≤ e = leb→le 7840840 e (and_left (leb 7840840 e) (leb e 1000000000000) t) in
    le_of_dn 999999 z (log_least e E0 1 z (omega arith) h)

-- a logarithm below 0 is that of a density of at most D0
pub below_standard : (d : ℕ) (y : ℤ) → IsLog d D0 y → y ≤ℤ negsuc 0 → d ≤ D0
below_standard d y h l = go (leb D0 d) refl
  where
    go : (b : Bool) → leb D0 d ≡ b → d ≤ D0
    go true e = let f : ⊥ = omega (arith, ≤→ l, log_least d D0 0 y (omega (arith, leb→le D0 d (is_true e))) h) in absurd f
    go false e = omega (arith, nleb→lt D0 d (is_false e))

-- the logarithms of an energy and a density in range
pub place_ready : (e d : ℕ) (y z : ℤ) → T (is_energy e) → T (is_density d) → IsLog d D0 y → IsLog e E0 z → PlaceReady y z
place_ready e d y z te td hy hz =
    let a : 7840840 ≤ e = leb→le 7840840 e (and_left (leb 7840840 e) (leb e 1000000000000) te) in
    let b : e ≤ 1000000000000 = leb→le e 1000000000000 (and_right (leb 7840840 e) (leb e 1000000000000) te) in
    record {
      y_most = y_most d y td hy;
      z_most = apart z 5000000 (omega (arith, log_most e E0 5 z (omega arith) hz)) (omega (arith, log_least e E0 1 z (omega arith) hz));
    }
