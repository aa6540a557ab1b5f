-- Request 7: the bytes of a sheet with one record more.
use Rattle.std.specs.Prelude.{List, [], ◌∷◌, ◌++◌, ℕ, suc, length, drop}
use Rattle.octets.specs.Bytes.{number_at, bytes_of, part}

-- "appends one record, in version 2 with an empty remark": the length byte, the name, the kind, the two values and a remark's length of 0
abbrev pub new_record : List ℕ → ℕ → ℕ → ℕ → List ℕ
new_record name kind first second = length name ∷ (name ++ (kind ∷ (bytes_of 8 first ++ (bytes_of 8 second ++ (0 ∷ [])))))

-- a sheet with some bytes behind it: its count is one higher, and all else in front is as it was
abbrev pub grown : List ℕ → List ℕ → List ℕ
grown s r = part s 0 5 ++ (bytes_of 2 (suc (number_at 2 s 5)) ++ (drop 7 s ++ r))
