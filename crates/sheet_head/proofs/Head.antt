-- The mark at the front of a sheet, byte by byte.
use mathlib.Core.Bool.{true, ◌&&◌}
use mathlib.Core.List.{List, [], ◌∷◌}
use mathlib.Core.Path.{◌≡◌, refl}
use Prim.Native.Nat.{ℕ, ◌≤◌}
use native.Mathlib.Omega.{arith}
use lib.Dec.{eqb}
use lib.ListN.{length, get_or}
use Rattle.std.specs.List.{starts_with}
use Rattle.sheet_head.specs.Head.{is_marked}

pub mark_bytes : (s : List ℕ) → 7 ≤ length s → is_marked s ≡ eqb (get_or s 0 0) 69 && (eqb (get_or s 1 0) 65 && (eqb (get_or s 2 0) 83 && true))
mark_bytes [] h = absurd (omega arith)
mark_bytes (a ∷ []) h = absurd (omega arith)
mark_bytes (a ∷ (b ∷ [])) h = absurd (omega arith)
mark_bytes (a ∷ (b ∷ (c ∷ s))) h = refl

pub mark_starts : (s : List ℕ) → 7 ≤ length s → starts_with eqb s (69 ∷ 65 ∷ 83 ∷ []) ≡ is_marked s
mark_starts [] h = absurd (omega arith)
mark_starts (a ∷ []) h = absurd (omega arith)
mark_starts (a ∷ (b ∷ [])) h = absurd (omega arith)
mark_starts (a ∷ (b ∷ (c ∷ s))) h = grind arith
