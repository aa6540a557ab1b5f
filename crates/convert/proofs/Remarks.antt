-- Sheets that differ only in remarks are of version 2: forward refuses both by their header.
use mathlib.Core.Bool.{Bool, true, false, cond, not}
use mathlib.Core.List.{List, ◌++◌}
use mathlib.Core.Path.{◌≡◌, refl, sym, ap, subst, ◌∙◌}
use Prim.Native.Nat.{ℕ, ◌≤◌}
use native.Mathlib.Omega.{arith}
use borrow.Author.Tests.{le-ltb}
use lib.ListN.{length, length-append}
use lib.Seq.{take-append-le}
use Rattle.octets.specs.Bytes.{number_at}
use Rattle.octets.specs.Room
use Rattle.sheet_record.proofs.Local.{number_append}
use Rattle.sheet_head.specs.Head.{is_marked}
use Rattle.sheet.specs.Sheet.{Sheet, refused, sheet_by}
use Rattle.sheet_version.specs.Version.{sheet_in}
use Rattle.sheet_search.specs.Remarks.{DifferInRemarks}
use Rattle.convert.specs.Convert.{forward_by, forward}

-- 2 or 3, by the mark
module _ (header u : List ℕ) (seven : length header ≡ 7) (version : number_at 2 header 3 ≡ 2) (most : length (header ++ u) ≤ 65536) where
  by_header : sheet_in 1 (header ++ u) ≡ cond (not (is_marked header)) (refused 2) (refused 3)
  unfolding sheet_by
  by_header =
      let a : 7 ≤ length (header ++ u) = omega (arith, length-append header u) in
      let b : 3 ≤ length header = omega arith in
      rw (
        le-ltb 65536 (length (header ++ u)) most,
        le-ltb (length (header ++ u)) 7 a,
        take-append-le 3 header u b,
        number_append 2 3 header u (omega arith),
        version,
      )

  pub forward_refused : (room : ℕ) → forward (header ++ u) room ≡ cond (not (is_marked header)) (Room.refused 2) (Room.refused 3)
  unfolding forward
  forward_refused room = ap (λ (x : Sheet). forward_by x (header ++ u) room) by_header ∙ go (not (is_marked header))
    where
      go : (b : Bool) → forward_by (cond b (refused 2) (refused 3)) (header ++ u) room ≡ cond b (Room.refused 2) (Room.refused 3)
      go true = refl
      go false = refl

pub forward_aside : (s t : List ℕ) → DifferInRemarks s t → (room : ℕ) → forward s room ≡ forward t room
forward_aside s t d room = refuses s d.left d.first d.first_most ∙ sym (refuses t d.right d.second d.second_most)
  where
    refuses : (x u : List ℕ) → x ≡ d.header ++ u → length x ≤ 65536 → forward x room ≡ cond (not (is_marked d.header)) (Room.refused 2) (Room.refused 3)
    refuses x u e m =
        ap (λ (z : List ℕ). forward z room) e ∙ forward_refused d.header u d.seven d.version (subst (λ (z : List ℕ). length z ≤ 65536) e m) room
