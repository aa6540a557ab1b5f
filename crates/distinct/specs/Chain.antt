-- Chained hashing of names: the table that `repeats` leaves and `place_of` reads, and what the functions behind them promise each other.
-- Record j of the list of starts is linked by the number j + 1; the link 0 ends a chain.
use Rattle.std.specs.Prelude.{Bool, true, false, List, ◌≡◌, ℕ, suc, ◌≤◌, ◌<◌, length, get_or}
use Rattle.std.specs.Prelude.{Option, Some, None}
use Rattle.octets.specs.Bytes.{same}
use Rattle.sheet_name.specs.Name.{name_at, hash_of}
use Rattle.distinct.specs.Distinct.{NamesFit}
use Rattle.distinct.specs.declared.Index.{Index}

-- record j is met on the way from a link
pub data Reaches (next : List ℕ) : ℕ → ℕ → Type 0 where
  here : {j : ℕ} → Reaches next (suc j) j
  there : {k j : ℕ} → Reaches next (get_or next k 0) j → Reaches next (suc k) j

-- a record's link goes to an earlier record, or ends the chain
abbrev pub Falling : List ℕ → Type 0
Falling next = (j : ℕ) → get_or next j 0 ≤ j

-- the name of record j
abbrev pub name_of : List ℕ → List ℕ → ℕ → List ℕ
name_of s starts j = name_at s (get_or starts j 0)

-- whether record j has a name
abbrev pub has_name : List ℕ → List ℕ → List ℕ → ℕ → Bool
has_name s starts name j = same (name_of s starts j) name

-- no record on the way from a link has the name
abbrev pub Missed : List ℕ → List ℕ → List ℕ → List ℕ → ℕ → Type 0
Missed s starts next name k = (j : ℕ) → Reaches next k j → has_name s starts name j ≡ false

-- a walk from a link: either it meets a record with the name, or there is none on the way
pub data Walked (s starts next name : List ℕ) (from : ℕ) : Option ℕ → Type 0 where
  met : {j : ℕ} → j < from → has_name s starts name j ≡ true → Walked s starts next name from (Some j)
  missed : Missed s starts next name from → Walked s starts next name from None

-- n links, all of them 0
pub record NoLinks (n : ℕ) (links : List ℕ) : Type 0 where
  pub long : length links ≡ n
  pub none : (j : ℕ) → get_or links j 0 ≡ 0

-- an index before its records are known: all its chains are empty
pub record Blank (i : Index) : Type 0 where
  pub no_heads : NoLinks 4096 i.heads
  pub no_links : NoLinks 3449 i.next

-- a table of the first n records: each of them is met on the way from the head of its name's chain
pub record Table (s starts heads next : List ℕ) (n : ℕ) : Type 0 where
  pub most : n ≤ 3449
  pub fit : NamesFit s starts n
  pub heads_long : length heads ≡ 4096
  pub next_long : length next ≡ 3449
  pub low : (h : ℕ) → get_or heads h 0 ≤ n
  pub falling : Falling next
  pub linked : (j : ℕ) → j < n → Reaches next (get_or heads (hash_of (name_of s starts j)) 0) j

-- the place of a name among the first n records: the number of one that has it, or none where none has it
pub record Placed (s starts : List ℕ) (n : ℕ) (name : List ℕ) (r : Option ℕ) : Type 0 where
  pub found : (j : ℕ) → r ≡ Some j → (j < n) × (has_name s starts name j ≡ true)
  pub absent : r ≡ None → (j : ℕ) → j < n → has_name s starts name j ≡ false
