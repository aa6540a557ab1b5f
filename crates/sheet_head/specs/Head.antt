-- Document 01, State sheet: the header, with the refusals of the sheet as a whole.
use Rattle.std.specs.Prelude.{Bool, cond, not, ◌||◌, List, [], ◌∷◌, ℕ, ltb, length}
use Rattle.std.proofs.Math.Option.{Option, none, some}
use Rattle.octets.specs.Bytes.{number_at, part, same}
use Rattle.sheet_record.specs.Layout.{Layout, layout_of}

-- the mark: the letters E, A, S
abbrev pub is_marked : List ℕ → Bool
is_marked s = same (part s 0 3) (69 ∷ 65 ∷ 83 ∷ [])

-- 3 for a version without a layout, or 0
abbrev pub version_fault : Option Layout → ℕ
version_fault none = 3
version_fault (some y) = 0

-- the refusal of the sheet as a whole, or 0
unfoldable pub head_fault : List ℕ → ℕ
head_fault s =
    cond (ltb 65536 (length s)) 1
    (cond (ltb (length s) 7 || not (is_marked s)) 2
    (version_fault (layout_of (number_at 2 s 3))))
