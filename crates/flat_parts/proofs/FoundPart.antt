-- The start and the length that C gets, of a name and of a remark, are those of the part of the sheet that holds it, which lies in the sheet.
use Rattle.std.specs.Prelude.{Ok, Err, Result}
use mathlib.Core.List.{List}
use mathlib.Core.Path.{◌≡◌, refl}
use Prim.Native.Nat.{ℕ, ◌+◌, ◌≤◌}
use native.Mathlib.Omega.{arith}
use lib.ListN.{length}
use Rattle.octets.specs.Bytes.{part}
use Rattle.sheet_search.specs.Find.{Lookup, handed_back, Inside}
use Rattle.sheet_remark.specs.declared.Part.{Part}
use Rattle.sheet_remark.specs.Remark.{remark_bytes, RemarkInside}
use Rattle.flat_parts.specs.Flat.{flat_found, flat_remark}

pub found_part : (s : List ℕ) (f : Lookup) → part s (flat_found f).start (flat_found f).length ≡ handed_back s f
unfolding flat_found
found_part s (Err n) = refl
found_part s (Ok r) = refl

pub found_inside : (s : List ℕ) (f : Lookup) → Inside s f → (flat_found f).start + (flat_found f).length ≤ length s
unfolding flat_found
found_inside s (Err n) h = omega arith
found_inside s (Ok r) h = omega (arith, h.fits)

pub remark_bytes_lem : (s : List ℕ) (m : Result Part ℕ) → part s (flat_remark m).start (flat_remark m).length ≡ remark_bytes s m
unfolding flat_remark
remark_bytes_lem s (Err n) = refl
remark_bytes_lem s (Ok p) = refl

pub remark_part : (s : List ℕ) (m : Result Part ℕ) → RemarkInside s m → (flat_remark m).start + (flat_remark m).length ≤ length s
unfolding flat_remark
remark_part s (Err n) h = omega arith
remark_part s (Ok p) h = h
