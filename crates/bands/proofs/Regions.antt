-- What a region says of Y and Z.
use mathlib.Core.Bool.{Bool, true, false, cond}
use mathlib.Core.Path.{◌≡◌, refl}
use Prim.Native.Nat.{ℕ, ◌<◌}
use native.Mathlib.Omega.{arith}
use lib.IntN.{ℤ}
use Rattle.bands.specs.declared.Band.{Band}
use Rattle.bands.specs.declared.Region.TheVariants.{Refused, Perfect, Fitted}
use Rattle.bands.specs.Bands.{band_of}
use Rattle.bands.specs.Region.{temperature_index, piece_count, beyond_window, is_perfect, region_of}
use Rattle.bands.proofs.Index.{index_is_piece}

pub record IsPerfect (z : ℤ) : Type 0 where
  pub window : beyond_window z ≡ false
  pub perfect : is_perfect z ≡ true

pub perfect_region : (y z : ℤ) → region_of y z ≡ Perfect → IsPerfect z
perfect_region y z e = go (beyond_window z) (is_perfect z) refl refl e
  where
    go : (p q : Bool) → beyond_window z ≡ p → is_perfect z ≡ q
        → cond p Refused (cond q Perfect (Fitted (band_of y) (temperature_index (band_of y) z))) ≡ Perfect → IsPerfect z
    go true q h k e = let f : ◌≡◌ {A = ℕ} 0 1 = cc in absurd (omega arith)
    go false true h k e = record { window = h; perfect = k }
    go false false h k e = let f : ◌≡◌ {A = ℕ} 0 1 = cc in absurd (omega arith)

pub record IsFitted (y z : ℤ) (b : Band) (i : ℕ) : Type 0 where
  pub window : beyond_window z ≡ false
  pub fitted : is_perfect z ≡ false
  pub band : b ≡ band_of y
  pub index : i ≡ temperature_index (band_of y) z
  pub piece : i < piece_count b

pub fitted_region : (y z : ℤ) {b : Band} {i : ℕ} → region_of y z ≡ Fitted b i → IsFitted y z b i
fitted_region y z {b} {i} e = go (beyond_window z) (is_perfect z) refl refl e
  where
    go : (p q : Bool) → beyond_window z ≡ p → is_perfect z ≡ q
        → cond p Refused (cond q Perfect (Fitted (band_of y) (temperature_index (band_of y) z))) ≡ Fitted b i → IsFitted y z b i
    go true q h k e = let f : ◌≡◌ {A = ℕ} 0 1 = cc in absurd (omega arith)
    go false true h k e = let f : ◌≡◌ {A = ℕ} 0 1 = cc in absurd (omega arith)
    go false false h k e =
        let hb : b ≡ band_of y = cc in
        let hi : i ≡ temperature_index (band_of y) z = cc in
        record {
          window = h;
          fitted = k;
          band = hb;
          index = hi;
          piece = rw (hb, hi) (index_is_piece (band_of y) z);
        }
