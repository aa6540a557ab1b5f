-- A sheet without the places of its records follows from its header and its entries, and so do its number and what a search finds.
use mathlib.Core.Bool.{Bool, true, false, cond}
use mathlib.Core.List.{List, [], ◌∷◌, ◌++◌}
use mathlib.Core.Path.{◌≡◌, refl, sym, ap, ◌∙◌}
use Prim.Native.Nat.{ℕ, zero, suc, ◌+◌, ◌≤◌}
use native.Mathlib.Omega.{arith}
use borrow.Author.Tests.{le-ltb}
use lib.Dec.{eqb}
use lib.ListN.{length, drop, length-append}
use lib.Seq.{take-append-le, drop_at}
use Rattle.octets.specs.Bytes.{number_at, same}
use Rattle.sheet_search.specs.Find.{find_in, find_by, handed_back}
use Rattle.sheet_record.specs.Layout.{layout_in, layout_of, or_plain}
use Rattle.sheet_record.specs.Front.{name_in}
use Rattle.sheet.specs.Sheet.{Sheet, refused, records, sheet_of, number_of}
use Rattle.sheet_head.specs.Head.{head_fault}
use Rattle.sheet_search.specs.Find.{Lookup}
use Rattle.std.specs.Prelude.{Ok, Err}
use Rattle.sheet_record.specs.declared.Record.{Record}
use Rattle.sheet.proofs.Accept.{read, fault, by_head, sheet_verdict, headed}
use Rattle.sheet.proofs.Entries.{Entry, Entries, entries_from, said_by, said, walk_said, entries_are}
use Rattle.sheet_record.proofs.Local.{number_append}
use Rattle.sheet.proofs.Walk.{twice, names, verdict}

-- a sheet's entries, or the number of its first refusal
pub data Page : Type 0 where
  without : ℕ → Page
  with : List Entry → Page

abbrev pub page_of : List ℕ → Sheet → Page
page_of s (refused k) = without k
page_of s (records rs) = with (said s rs)

-- the entries of a sheet behind its header
abbrev pub entries_in : List ℕ → Entries
entries_in s = entries_from (layout_in s) (number_at 2 s 5) (drop 7 s)

abbrev names_of : List Entry → List (List ℕ)
names_of [] = []
names_of (e ∷ es) = e.name ∷ names_of es

-- by the number of the header: 16 where two entries share a name, else what ends them
abbrev pub page_by : ℕ → Entries → Page
page_by zero es = cond (twice (names_of es.list)) (without 16) (cond (eqb es.end 0) (with es.list) (without es.end))
page_by (suc k) es = without (suc k)

names_said : (s : List ℕ) (rs : List Record) → names s rs ≡ names_of (said s rs)
names_said s [] = refl
names_said s (r ∷ rs) = ap (λ (l : List (List ℕ)). name_in s r ∷ l) (names_said s rs)

verdict_page : (s : List ℕ) (rs : List Record) (k : ℕ) → page_of s (verdict s rs k) ≡ page_by zero (walk_said s rs k)
verdict_page s rs k = rw (names_said s rs) (apart (twice (names_of (said s rs))))
  where
    end : (b : Bool) → page_of s (cond b (records rs) (refused k)) ≡ cond b (with (said s rs)) (without k)
    end true = refl
    end false = refl

    apart : (b : Bool) → page_of s (cond b (refused 16) (cond (eqb k 0) (records rs) (refused k))) ≡ cond b (without 16) (cond (eqb k 0) (with (said s rs)) (without k))
    apart true = refl
    apart false = end (eqb k 0)

pub page_is : (s : List ℕ) → page_of s (sheet_of s) ≡ page_by (head_fault s) (entries_in s)
page_is s = ap (page_of s) (sheet_verdict s) ∙ go (head_fault s) refl
  where
    go : (k : ℕ) → head_fault s ≡ k → page_of s (by_head k (verdict s (read s) (fault s))) ≡ page_by k (entries_in s)
    go zero e = verdict_page s (read s) (fault s) ∙ sym (ap (page_by zero) (entries_are (layout_in s) s (number_at 2 s 5) 7 (headed s e).least))
    go (suc k) e = refl

-- a sheet by its header and what follows it
module _ (header u : List ℕ) (seven : length header ≡ 7) where
  number_in : (k at : ℕ) → at + k ≤ 7 → number_at k (header ++ u) at ≡ number_at k header at
  number_in k at l = number_append k at header u (omega arith)

  layout_in_lem : layout_in (header ++ u) ≡ layout_in header
  unfolding layout_in
  layout_in_lem = ap (λ (v : ℕ). or_plain (layout_of v)) (number_in 2 3 (omega arith))

  module _ (most : length (header ++ u) ≤ 65536) where
    head_in : head_fault (header ++ u) ≡ head_fault header
    unfolding head_fault
    head_in =
        let a : 7 ≤ length (header ++ u) = omega (arith, length-append header u) in
        let b : 7 ≤ length header = omega arith in
        let c : length header ≤ 65536 = omega arith in
        let d : 3 ≤ length header = omega arith in
        rw (
          le-ltb 65536 (length (header ++ u)) most,
          le-ltb (length (header ++ u)) 7 a,
          le-ltb 65536 (length header) c,
          le-ltb (length header) 7 b,
          take-append-le 3 header u d,
          number_in 2 3 (omega arith),
        )

    pub page_behind : page_of (header ++ u) (sheet_of (header ++ u)) ≡ page_by (head_fault header) (entries_from (layout_in header) (number_at 2 header 5) u)
    page_behind = page_is (header ++ u) ∙ rw (head_in, layout_in_lem, number_in 2 5 (omega arith), drop_at header u 7 seven)

-- what a search finds, without its place
pub data Reply : Type 0 where
  missed : ℕ → Reply
  found : Entry → Reply

abbrev pub reply_of : List ℕ → Lookup → Reply
reply_of s (Err k) = missed k
reply_of s (Ok r) = found (said_by s r)

abbrev find_among : List Entry → List ℕ → Reply
find_among [] name = missed 9
find_among (e ∷ es) name = cond (same e.name name) (found e) (find_among es name)

abbrev pub find_on : Page → List ℕ → Reply
find_on (without k) name = missed k
find_on (with es) name = find_among es name

find_among_lem : (s : List ℕ) (rs : List Record) (name : List ℕ) → reply_of s (find_in s rs name) ≡ find_among (said s rs) name
unfolding find_in
find_among_lem s [] name = refl
find_among_lem s (r ∷ rs) name = go (find_among_lem s rs name) (same (name_in s r) name)
  where
    go : reply_of s (find_in s rs name) ≡ find_among (said s rs) name → (b : Bool)
        → reply_of s (cond b (Ok r) (find_in s rs name)) ≡ cond b (found (said_by s r)) (find_among (said s rs) name)
    go ih true = refl
    go ih false = ih

pub find_page : (s name : List ℕ) (t : Sheet) → reply_of s (find_by t s name) ≡ find_on (page_of s t) name
find_page s name (refused k) = refl
find_page s name (records rs) = find_among_lem s rs name

abbrev pub page_number : Page → ℕ
page_number (without k) = k
page_number (with es) = 0

pub number_page : (s : List ℕ) (t : Sheet) → number_of t ≡ page_number (page_of s t)
number_page s (refused k) = refl
number_page s (records rs) = refl

-- the found name's bytes
abbrev pub reply_name : Reply → List ℕ
reply_name (missed k) = []
reply_name (found e) = e.name

pub name_reply : (s : List ℕ) (l : Lookup) → handed_back s l ≡ reply_name (reply_of s l)
name_reply s (Err k) = refl
name_reply s (Ok r) = refl
