-- Each number that refuses a sheet, a name or a search is that of a refusal.
use mathlib.Core.Bool.{Bool, true, false, cond, ◌||◌}
use mathlib.Core.List.{List, [], ◌∷◌, ◌++◌}
use mathlib.Core.Option.{Option, none, some}
use mathlib.Core.Path.{◌≡◌, refl}
use Prim.Native.Nat.{ℕ, zero, suc, ◌+◌}
use lib.Dec.{eqb, ltb}
use lib.ListN.{length, get_or, drop}
use Rattle.std.specs.Prelude.{not, Ok, Err}
use Rattle.refusal.specs.declared.Refusal.{Refusal}
use Rattle.refusal.specs.declared.Refusal.TheVariants.{SheetTooLong, NoMark, UnknownVersion, CutShort, NameLengthByte, UnknownKind, WrongSpelling, NameLength, NoSuchName, NameTwice}
use Rattle.refusal.specs.Numbered.{number_for}
use Rattle.octets.specs.Bytes.{number_at, same}
use Rattle.octets.specs.Room.{Text, text}
use Rattle.octets.specs.Room as room
use Rattle.kind.specs.Kind.{kind_of, is_known}
use Rattle.name.specs.Spelling.{Reading, wrong, bytes, reading}
use Rattle.name.specs.Name.{is_length, judged, name_of}
use Rattle.sheet_record.specs.Layout.{Layout, layout_of}
use Rattle.sheet_record.specs.Front.{Fields, Front, bad, front, front_of, fields_of, record_at, past, name_in}
use Rattle.sheet_record.specs.declared.Record.{Record}
use Rattle.sheet_head.specs.Head.{is_marked}
use Rattle.sheet.specs.Sheet.{Sheet, records, seen, walk, with_layout, sheet_by, sheet_of}
use Rattle.sheet_search.specs.Find.{Lookup, find_in}
use Rattle.calculator.specs.Search.{locate_name, locate_in, locate}

-- the number of a refusal
pub record Named (n : ℕ) : Type 0 where
  pub refusal : Refusal
  pub is : number_for refusal ≡ n

pub by : (r : Refusal) → Named (number_for r)
by r = record { refusal = r; is = refl }

-- ---- a record
data FrontNamed : Front → Type 0 where
  is_bad : (r : Refusal) → FrontNamed (bad (number_for r))
  is_front : {f : Fields} → FrontNamed (front f)

front_either : {x y : Front} (b : Bool) → FrontNamed x → FrontNamed y → FrontNamed (cond b x y)
front_either true p q = p
front_either false p q = q

fields_named : (n : ℕ) (u : List ℕ) (t : Option ℕ) → FrontNamed (fields_of n u t)
fields_named n u none = is_bad CutShort
fields_named n u (some t) = front_either (is_known (kind_of (get_or u n 0))) is_front (is_bad UnknownKind)

front_named : (y : Layout) (u : List ℕ) → FrontNamed (front_of y u)
unfolding front_of
front_named y [] = is_bad CutShort
front_named y (n ∷ u) =
    front_either (eqb n 0 || ltb 40 n) (is_bad NameLengthByte) (front_either (ltb (length u) (n + 17)) (is_bad CutShort) (fields_named n u (y.tail (drop (n + 17) u))))

-- ---- a sheet
data SheetNamed : Sheet → Type 0 where
  is_refused : (r : Refusal) → SheetNamed (Sheet.refused (number_for r))
  is_read : {rs : List Record} → SheetNamed (records rs)

sheet_either : {x y : Sheet} (b : Bool) → SheetNamed x → SheetNamed y → SheetNamed (cond b x y)
sheet_either true p q = p
sheet_either false p q = q

walk_named : (y : Layout) (s : List ℕ) (n at : ℕ) (before : List Record) → SheetNamed (walk y s n at before)
unfolding walk
walk_named y s zero at before = sheet_either (eqb at (length s)) is_read (is_refused CutShort)
walk_named y s (suc n) at before = go (front_named y (drop at s)) (walk_named y s n)
  where
    among : {x : Sheet} (b : Bool) → SheetNamed x → SheetNamed (elim b as (λ x. Sheet) [ true ↦ Sheet.refused 16 | false ↦ x ])
    among true q = is_refused NameTwice
    among false q = q

    go : {t : Front} → FrontNamed t → ((at : ℕ) (before : List Record) → SheetNamed (walk y s n at before))
        → SheetNamed (elim t as (λ x. Sheet) [
          | bad k ↦ Sheet.refused k
          | front f ↦ elim (seen s before (name_in s (record_at at f))) as (λ x. Sheet) [ true ↦ Sheet.refused 16 | false ↦ walk y s n (past at f) (before ++ (record_at at f ∷ [])) ]
        ])
    go (is_bad r) later = is_refused r
    go (is_front {f}) later = among (seen s before (name_in s (record_at at f))) (later (past at f) (before ++ (record_at at f ∷ [])))

layout_named : (s : List ℕ) (y : Option Layout) → SheetNamed (with_layout s y)
layout_named s none = is_refused UnknownVersion
layout_named s (some y) = walk_named y s (number_at 2 s 5) 7 []

sheet_named : (s : List ℕ) → SheetNamed (sheet_of s)
unfolding sheet_by
sheet_named s =
    sheet_either (ltb 65536 (length s)) (is_refused SheetTooLong)
    (sheet_either (ltb (length s) 7 || not (is_marked s)) (is_refused NoMark) (layout_named s (layout_of (number_at 2 s 3))))

-- ---- a name, and a search
pub data LookupNamed : Lookup → Type 0 where
  is_err : (r : Refusal) → LookupNamed (Err (number_for r))
  is_ok : {r : Record} → LookupNamed (Ok r)

lookup_either : {x y : Lookup} (b : Bool) → LookupNamed x → LookupNamed y → LookupNamed (cond b x y)
lookup_either true p q = p
lookup_either false p q = q

find_named : (s : List ℕ) (rs : List Record) (name : List ℕ) → LookupNamed (find_in s rs name)
unfolding find_in
find_named s [] name = is_err NoSuchName
find_named s (r ∷ rs) name = lookup_either (same (name_in s r) name) is_ok (find_named s rs name)

judged_named : (s : List ℕ) (rs : List Record) (r : Reading) → LookupNamed (locate_name s rs (judged r))
judged_named s rs wrong = is_err WrongSpelling
judged_named s rs (bytes bs) = go (is_length (length bs))
  where
    go : (b : Bool) → LookupNamed (locate_name s rs (cond b (text bs) (room.refused 8)))
    go true = find_named s rs bs
    go false = is_err NameLength

pub located : (s spelling : List ℕ) → LookupNamed (locate s spelling)
unfolding locate name_of
located s spelling = go (sheet_named s)
  where
    go : {x : Sheet} → SheetNamed x → LookupNamed (locate_in s spelling x)
    go (is_refused r) = is_err r
    go (is_read {rs}) = judged_named s rs (reading spelling)
