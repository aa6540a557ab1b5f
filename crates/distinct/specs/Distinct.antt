-- Whether two records of a sheet have the same name. A record is given by its start, the place of its length byte.
use Rattle.std.specs.Prelude.{Bool, false, ◌||◌, List, [], ◌∷◌, ℕ, ◌<◌, get_or}
use Rattle.octets.specs.Bytes.{same}
use Rattle.sheet_name.specs.Name.{name_at, NameFits}

-- so it is at each of the first n starts
abbrev pub NamesFit : List ℕ → List ℕ → ℕ → Type 0
NamesFit s starts n = (i : ℕ) → i < n → NameFits s (get_or starts i 0)

-- whether a record of the list has this name
abbrev pub seen_in : List ℕ → List ℕ → List ℕ → Bool
seen_in s [] name = false
seen_in s (p ∷ ps) name = same name (name_at s p) || seen_in s ps name

-- document 01, State sheet and refusal 16: whether two records of the list have the same name
abbrev pub repeats : List ℕ → List ℕ → Bool
repeats s [] = false
repeats s (p ∷ ps) = seen_in s ps (name_at s p) || repeats s ps
