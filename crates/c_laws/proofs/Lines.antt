-- A line takes at most `line_room` bytes: of a record, and of any search; and a listing as many for each name.
use Rattle.std.specs.Prelude.{Ok, Err}
use mathlib.Core.Bool.{Bool, true, false, cond, not, ◌||◌}
use mathlib.Core.List.{List, [], ◌∷◌, ◌++◌, Memᴰ}
use mathlib.Core.Option.{Option, none, some}
use mathlib.Core.Path.{◌≡◌, ap, ◌∙◌}
use Prim.Native.Nat.{ℕ, zero, suc, ◌+◌, ◌*◌, ◌≤◌}
use native.Mathlib.Nat.{le_trans}
use native.Mathlib.Omega.{arith}
use lib.Dec.{eqb, ltb, lit≤}
use lib.IntN.{ℤ, nat_abs}
use lib.ListN.{length, get_or, drop, length-append, length-drop}
use lib.Seq.{length-take-le}
use Rattle.octets.specs.Bytes.{number_at}
use Rattle.octets.specs.Room
use Rattle.octets.specs.Room.{Text, text}
use Rattle.octets.proofs.Told.{fits}
use Rattle.kind.specs.Kind.{kind_of, is_known}
use Rattle.name.specs.Spelling.{Reading, wrong, bytes, reading, spelled}
use Rattle.name.specs.Name.{is_length, judged, name_of}
use Rattle.name.proofs.Written.{short}
use Rattle.air.specs.declared.Logs.{Logs}
use Rattle.air.specs.Held.{Held}
use Rattle.air.specs.Choices.{chosen}
use Rattle.air.proofs.Tests.{abs_of}
use Rattle.state.specs.State.{answer_by}
use Rattle.drawable.proofs.Answers.{SizedFrom, IsSized, answer_sized}
use Rattle.sheet_record.specs.Layout.{Layout, layout_of, layout_in}
use Rattle.sheet_record.specs.Front.{Fields, Front, bad, front, front_of, fields_of, fault_of, record_at, past, name_in}
use Rattle.sheet_record.specs.declared.Record.{Record}
use Rattle.sheet_head.specs.Head.{is_marked}
use Rattle.sheet.specs.Sheet.{Sheet, refused, records, seen, walk, with_layout, sheet_by, sheet_of, number_of}
use Rattle.sheet_search.specs.Find.{Lookup, find_in}
use Rattle.sheet_search.proofs.Locate.{Fit, finds}
use Rattle.sheet_search.proofs.Searching.{Finding, miss, finding}
use Rattle.calculator.specs.Search.{locate_name, locate_in, locate, answer_at, search_by}
use Rattle.line.specs.Line.{line_room, shown_name, refusal_rest, rest_by, line_of, line}
use Rattle.line.proofs.Names.{shown_short}
use Rattle.line.proofs.Short.{value_short, refusal_short}
use Rattle.walk.specs.Walk.{line_of_record}
use Rattle.walk.proofs.Steps.{fit_named}
use Rattle.name_list.specs.Lines.{lines_of}
use Rattle.report_refusal.specs.Refusal.{sheet_word, list_word, listing_for}
use Rattle.report.specs.Listing.{lines_by, listing_by}
use Rattle.c_laws.specs.Texts.{LineFits, ListingFits}

-- ---- what follows the name
rest_short : (n letter : ℕ) (l : Option Logs) (v : Option ℤ) → SizedFrom n letter l v → length (rest_by n letter l v) ≤ 66
rest_short n letter (some l) (some v) h =
    let y : nat_abs l.y ≤ 7000000 = abs_of 6999999 3000000 l.y h.y.least h.y.most 7000000 (lit≤ tt) (lit≤ tt) in
    value_short letter l.y l.z v (omega arith) (omega (arith, h.z)) (omega (arith, h.value.value))
rest_short n letter (some l) none h = refusal_short n (omega arith)
rest_short n letter none v h = refusal_short n (omega arith)

-- the line of a state under any name
pub line_short : (name : List ℕ) (kind first second : ℕ) → is_length (length name) ≡ true → length (line_of (spelled name) (answer_by chosen kind first second)) ≤ line_room
line_short name kind first second e =
    let h = answer_by chosen kind first second in
    omega (
      arith,
      length-append (spelled name) (rest_by h.number h.letter h.logs h.value),
      short name e,
      rest_short h.number h.letter h.logs h.value (answer_sized kind first second),
    )

pub fit_short : (s : List ℕ) (r : Record) → Fit (layout_in s) s r → length (line_of_record chosen s r) ≤ line_room
fit_short s r f =
    let n = fit_named s r f in
    let e : length (name_in s r) ≡ r.len = length-take-le r.len (drop r.start s) (omega (arith, length-drop r.start s, n.inside)) in
    line_short (name_in s r) r.kind r.first r.second (ap is_length e ∙ n.sized)

-- the line of each record of an accepted sheet
pub record_short : (s : List ℕ) (rs : List Record) → sheet_of s ≡ records rs → (r : Record) → Memᴰ r rs → length (line_of_record chosen s r) ≤ line_room
unfolding layout_in
record_short s rs e r m = fit_short s r (finds layout_of s rs r e m).fit

-- ---- any search
-- a refused one has a number of at most 16
abbrev Few : Lookup → Type 0
Few (Err n) = n ≤ 16
Few (Ok r) = Unit

front_few : (y : Layout) (u : List ℕ) → fault_of (front_of y u) ≤ 16
unfolding front_of
front_few y [] = omega arith
front_few y (n ∷ u) = go (eqb n 0 || ltb 40 n) (ltb (length u) (n + 17)) (y.tail (drop (n + 17) u))
  where
    known : (b : Bool) (f : Fields) → fault_of (cond b (front f) (bad 6)) ≤ 16
    known true f = omega arith
    known false f = omega arith

    go : (a b : Bool) (o : Option ℕ) → fault_of (cond a (bad 5) (cond b (bad 4) (fields_of n u o))) ≤ 16
    go true b o = omega arith
    go false true o = omega arith
    go false false none = omega arith
    go false false (some t) = known (is_known (kind_of (get_or u n 0))) _

walk_few : (y : Layout) (s : List ℕ) (n at : ℕ) (before : List Record) → number_of (walk y s n at before) ≤ 16
unfolding walk
walk_few y s zero at before = go (eqb at (length s))
  where
    go : (b : Bool) → number_of (cond b (records before) (refused 4)) ≤ 16
    go true = omega arith
    go false = omega arith
walk_few y s (suc n) at before = go (walk_few y s n) (front_of y (drop at s)) (front_few y (drop at s))
  where
    next : (f : Fields) → number_of (walk y s n (past at f) (before ++ (record_at at f ∷ []))) ≤ 16 → (b : Bool)
        → number_of (elim b as (λ c. Sheet) [ true ↦ refused 16 | false ↦ walk y s n (past at f) (before ++ (record_at at f ∷ [])) ]) ≤ 16
    next f h true = omega arith
    next f h false = h

    go : ((at : ℕ) (more : List Record) → number_of (walk y s n at more) ≤ 16) → (t : Front) → fault_of t ≤ 16
        → number_of
        (elim t as (λ c. Sheet) [
          | bad k ↦ refused k
          | front f ↦ elim (seen s before (name_in s (record_at at f))) as (λ c. Sheet) [ true ↦ refused 16 | false ↦ walk y s n (past at f) (before ++ (record_at at f ∷ [])) ]
        ]) ≤ 16
    go ih (bad k) h = h
    go ih (front f) h = next f (ih (past at f) (before ++ (record_at at f ∷ []))) (seen s before (name_in s (record_at at f)))

sheet_few : (s : List ℕ) → number_of (sheet_of s) ≤ 16
unfolding sheet_by
sheet_few s = go (ltb 65536 (length s)) (ltb (length s) 7 || not (is_marked s)) (layout_of (number_at 2 s 3))
  where
    go : (a b : Bool) (o : Option Layout) → number_of (cond a (refused 1) (cond b (refused 2) (with_layout s o))) ≤ 16
    go true b o = omega arith
    go false true o = omega arith
    go false false none = omega arith
    go false false (some y) = walk_few y s (number_at 2 s 5) 7 []

name_few : (x : Reading) (s : List ℕ) (rs : List Record) → Few (locate_name s rs (judged x))
name_few wrong s rs = lit≤ tt
name_few (bytes bs) s rs = sized (is_length (length bs))
  where
    found : (f : Lookup) → Finding s rs bs f → Few f
    found (Ok r) v = tt
    found (Err k) miss = lit≤ tt

    sized : (b : Bool) → Few (locate_name s rs (cond b (text bs) (Room.refused 8)))
    sized true = found (find_in s rs bs) (finding s rs bs)
    sized false = lit≤ tt

located_few : (s spelling : List ℕ) → Few (locate s spelling)
unfolding locate name_of
located_few s spelling = go (sheet_of s) (sheet_few s)
  where
    go : (x : Sheet) → number_of x ≤ 16 → Few (locate_in s spelling x)
    go (refused n) h = h
    go (records rs) h = name_few (reading spelling) s rs

search_sized : (s spelling : List ℕ) → IsSized (search_by chosen s spelling)
unfolding search_by
search_sized s spelling = go (locate s spelling) (located_few s spelling)
  where
    go : (f : Lookup) → Few f → IsSized (answer_at chosen f)
    go (Err n) h = le_trans h (lit≤ tt)
    go (Ok r) h = answer_sized r.kind r.first r.second

search_short : (s spelling : List ℕ) → length (line spelling (search_by chosen s spelling)) ≤ line_room
unfolding line
search_short s spelling =
    let x : Held = search_by chosen s spelling in
    omega (
      arith,
      length-append (shown_name (name_of spelling)) (rest_by x.number x.letter x.logs x.value),
      shown_short spelling,
      rest_short x.number x.letter x.logs x.value (search_sized s spelling),
    )

pub line_fits : LineFits
line_fits s spelling room h = fits room (line spelling (search_by chosen s spelling)) (le_trans (search_short s spelling) h)

-- ---- a listing
lines_short : (s : List ℕ) (names : List (List ℕ)) → length (lines_by chosen s names) ≤ length names * line_room
unfolding lines_by
lines_short s [] = omega arith
lines_short s (n ∷ names) =
    omega (arith, length-append (line n (search_by chosen s n)) (lines_by chosen s names), search_short s n, lines_short s names)

-- the line of a refused sheet or list
word_short : (word : List ℕ) (n : ℕ) → length word ≤ 5 → n ≤ 16 → length (word ++ refusal_rest n) ≤ line_room
word_short word n h k = omega (arith, length-append word (refusal_rest n), refusal_short n (omega (arith, k)), h)

pub listing_fits : ListingFits
unfolding listing_by
listing_fits s names room one all =
    fits room (listing_for (number_of (sheet_of s)) names (lines_by chosen s (lines_of names)))
    (go (eqb (number_of (sheet_of s)) 0) (ltb 65536 (length names)))
  where
    go : (a b : Bool) → length (cond a (cond b (list_word ++ refusal_rest 15) (lines_by chosen s (lines_of names))) (sheet_word ++ refusal_rest (number_of (sheet_of s)))) ≤ room
    go true true = le_trans (word_short list_word 15 (lit≤ tt) (lit≤ tt)) one
    go true false = le_trans (lines_short s (lines_of names)) all
    go false b = le_trans (word_short sheet_word (number_of (sheet_of s)) (lit≤ tt) (sheet_few s)) one
