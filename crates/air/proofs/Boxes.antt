-- Where Y and Z lie in the piece that they choose.
use mathlib.Core.Bool.{Bool, true, false, not, cond}
use mathlib.Core.List.{List, [], ◌∷◌}
use mathlib.Core.Path.{◌≡◌, refl, sym, subst}
use Prim.Native.Nat.{suc}
use native.Mathlib.Omega.{arith}
use lib.Dec.{T, nleb→lt}
use lib.IntN.{ℤ, pos, negsuc, neg_ℤ}
use lib.ListN.{get_or}
use lib.Signed.{◌≤ℤ◌, le_z, le_z_yes}
use Rattle.integer.specs.Z.{→≤}
use Rattle.fit.proofs.Box.{Box, InBox, nowhere}
use Rattle.bands.specs.Units.{index_in}
use Rattle.bands.specs.declared.Band.{Band}
use Rattle.bands.specs.declared.Band.TheVariants.{Low, Middle, High}
use Rattle.bands.specs.Bands.{band_of, low_edge, high_edge}

-- a test that fails says the other order
below : (a b : ℤ) → le_z a b ≡ false → b ≤ℤ a
below a b e = go a b (subst (λ (c : Bool). T (not c)) (sym e) tt)
  where
    go : (a b : ℤ) → T (not (le_z a b)) → b ≤ℤ a
    go (pos a) (pos b) t = →≤ (omega (arith, nleb→lt a b t))
    go (pos a) (negsuc b) t = le_z_yes tt
    go (negsuc a) (pos b) t = absurd t
    go (negsuc a) (negsuc b) t = →≤ (omega (arith, nleb→lt b a t))

upto : (a b : ℤ) → le_z a b ≡ true → a ≤ℤ b
upto a b e = le_z_yes (subst T (sym e) tt)

-- ---- each part's box: Y from a to b, Z from the part's lower end to its upper, the first lower and the last upper end being given
unfoldable pub boxes : ℤ → ℤ → ℤ → List ℤ → ℤ → List Box
boxes a b from [] last = record { y_from = a; y_to = b; z_from = from; z_to = last } ∷ []
boxes a b from (e ∷ es) last = record { y_from = a; y_to = b; z_from = from; z_to = e } ∷ boxes a b e es last

-- a place lies in the box of the part that its Z falls to
pub in_box : (a b from : ℤ) (es : List ℤ) (last y z : ℤ) → a ≤ℤ y → y ≤ℤ b → from ≤ℤ z → z ≤ℤ last → InBox (get_or (boxes a b from es last) (index_in es z) nowhere) y z
unfolding boxes
in_box a b from [] last y z h k l m = record { y_least = h; y_most = k; z_least = l; z_most = m }
in_box a b from (e ∷ es) last y z h k l m = go (le_z z e) refl (λ i. in_box a b e es last y z h k i m)
  where
    go : (c : Bool) → le_z z e ≡ c → (e ≤ℤ z → InBox (get_or (boxes a b e es last) (index_in es z) nowhere) y z)
        → InBox (get_or (record { y_from = a; y_to = b; z_from = from; z_to = e } ∷ boxes a b e es last) (cond c 0 (suc (index_in es z))) nowhere) y z
    go true eq r = record { y_least = h; y_most = k; z_least = l; z_most = upto z e eq }
    go false eq r = r (below z e eq)

-- ---- where Y lies in a band, for Y from -7,000,000 to 3,000,000
abbrev pub band_from : Band → ℤ
band_from Low = neg_ℤ (pos 7000000)
band_from Middle = low_edge
band_from High = high_edge

abbrev pub band_to : Band → ℤ
band_to Low = low_edge
band_to Middle = high_edge
band_to High = pos 3000000

pub record InBand (b : Band) (y : ℤ) : Type 0 where
  pub least : band_from b ≤ℤ y
  pub most : y ≤ℤ band_to b

pub in_band : (y : ℤ) → neg_ℤ (pos 7000000) ≤ℤ y → y ≤ℤ pos 3000000 → InBand (band_of y) y
in_band y h l = go (le_z y low_edge) (le_z y high_edge) refl refl
  where
    go : (p q : Bool) → le_z y low_edge ≡ p → le_z y high_edge ≡ q → InBand (cond p Low (cond q Middle High)) y
    go true q e f = record { least = h; most = upto y low_edge e }
    go false true e f = record { least = below y low_edge e; most = upto y high_edge f }
    go false false e f = record { least = below y high_edge f; most = l }
