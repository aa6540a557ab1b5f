-- Document 01, State sheet: a record, by the bytes that it begins with and by its place in the sheet.
use Rattle.std.specs.Prelude.{Bool, false, cond, ◌||◌, List, [], ◌∷◌, ◌≡◌, ℕ, zero, suc, ◌+◌, ◌-◌, ◌≤◌, leb, ltb, eqb, length, get_or, drop}
use Rattle.std.proofs.Math.Option.{Option, none, some}
use Rattle.kind.specs.Kind.{kind_of, is_known}
use Rattle.octets.specs.Bytes.{number_at, part}
use Rattle.sheet_record.specs.Layout.{Layout, layout_in}
use Rattle.sheet_record.specs.declared.Record.{Record}

-- what a record says, wherever it stands: the length of its name, its kind byte, its two values, and the length of its tail
pub record Fields : Type 0 where
  pub len : ℕ
  pub kind : ℕ
  pub first : ℕ
  pub second : ℕ
  pub tail : ℕ

-- what some bytes begin with: a refusal's number, or a record
pub data Front : Type 0 where
  bad : ℕ → Front
  front : Fields → Front

-- a record whose name length is n, from the bytes u after its length byte: 6 for an unknown kind
abbrev pub fields_of : ℕ → List ℕ → Option ℕ → Front
fields_of n u none = bad 4
fields_of n u (some t) =
    cond (is_known (kind_of (get_or u n 0)))
    (front (record { len = n; kind = get_or u n 0; first = number_at 8 u (n + 1); second = number_at 8 u (n + 9); tail = t }))
    (bad 6)

-- document 01, table, each record: 4 without a length byte, 5 for a length of 0 or over 40, 4 where the rest is cut short, 6
unfoldable pub front_of : Layout → List ℕ → Front
front_of y [] = bad 4
front_of y (n ∷ u) =
    cond (eqb n 0 || ltb 40 n) (bad 5)
    (cond (ltb (length u) (n + 17)) (bad 4) (fields_of n u (y.tail (drop (n + 17) u))))

-- a record that stands at a place, with the place of its name
abbrev pub record_at : ℕ → Fields → Record
record_at at f = record { start = at + 1; len = f.len; kind = f.kind; first = f.first; second = f.second }

-- the place behind it
abbrev pub past : ℕ → Fields → ℕ
past at f = at + 18 + f.len + f.tail

-- where its second value ends
abbrev pub values_end : Record → ℕ
values_end r = r.start + r.len + 17

-- the name of a record: the part of the sheet that holds it
abbrev pub name_in : List ℕ → Record → List ℕ
name_in s r = part s r.start r.len

-- the refusal of a record, or 0
abbrev pub fault_of : Front → ℕ
fault_of (bad k) = k
fault_of (front f) = 0

-- r bytes follow a second value that ends at a place, or would if the sheet were not cut short
pub record Tailed (s : List ℕ) (end r : ℕ) : Type 0 where
  pub is : (layout_in s).tail (drop end s) ≡ cond (leb r (length s - end)) (some r) none
  pub most : r ≤ 256

-- what follows a second value that ends at a place lies in the sheet
pub record Whole (y : Layout) (s : List ℕ) (end : ℕ) : Type 0 where
  pub tail : ℕ
  pub tailed : y.tail (drop end s) ≡ some tail
  pub fits : end + tail ≤ length s

-- the place behind a record at a place; its own where it is refused
abbrev pub behind : ℕ → Front → ℕ
behind at (bad k) = at
behind at (front f) = past at f

-- the record whose length byte stands at a place
abbrev pub entry_at : List ℕ → ℕ → Record
entry_at s at =
    let n : ℕ = get_or s at 0 in
    record {
      start = at + 1;
      len = n;
      kind = get_or s (at + 1 + n) 0;
      first = number_at 8 s (at + 1 + n + 1);
      second = number_at 8 s (at + 1 + n + 9);
    }

-- where so many records are left: whether one stands at a place
unfoldable pub stands_at : Layout → List ℕ → ℕ → ℕ → Bool
stands_at y s at zero = false
stands_at y s at (suc left) = eqb (fault_of (front_of y (drop at s))) 0

-- the refusal where none stands; after the records 4 for bytes left over, or 0
unfoldable pub end_at : Layout → List ℕ → ℕ → ℕ → ℕ
end_at y s at zero = cond (eqb at (length s)) 0 4
end_at y s at (suc left) = fault_of (front_of y (drop at s))
