-- Structure first, names second: the records in turn, with 16 as it comes, end as a walk that does not look at names says, unless two of
-- the records before that end share a name. Holds for any layout.
use mathlib.Core.Bool.{Bool, true, false, cond, ◌||◌, or-true}
use mathlib.Core.List.{List, [], ◌∷◌, ◌++◌, append-nil}
use mathlib.Core.Path.{◌≡◌, refl, sym, ap, ap₂, ◌∙◌}
use Prim.Native.Nat.{ℕ, zero, suc, ◌+◌}
use borrow.Author.Tests.{ne_eqb}
use lib.Dec.{eqb}
use lib.ListN.{length, drop}
use lib.Seq.{append_snoc}
use Rattle.sheet_name.specs.Name.{name_at}
use Rattle.distinct.specs.Distinct.{seen_in, repeats}
use Rattle.octets.specs.Bytes.{same, part}
use Rattle.sheet_record.specs.Layout.{Layout}
use Rattle.sheet_record.specs.Front.{Fields, Front, bad, front, front_of, record_at, past, name_in}
use Rattle.sheet.specs.Sheet.{Sheet, refused, records, seen, walk}
use Rattle.sheet.specs.Structure.{places_from, fault_from}
use Rattle.sheet_record.specs.declared.Record.{Record}
use Rattle.sheet_record.proofs.Places.{View, refuses, reads, view, or_false}

-- the records that the walk reads
unfoldable pub records_from : Layout → List ℕ → ℕ → ℕ → List Record
records_from y s zero at = []
records_from y s (suc n) at = elim (front_of y (drop at s)) [ bad k ↦ [] | front f ↦ record_at at f ∷ records_from y s n (past at f) ]

-- whether a name is one of a list, and whether a list has a name twice
abbrev occurs : List ℕ → List (List ℕ) → Bool
occurs name [] = false
occurs name (x ∷ xs) = same name x || occurs name xs

abbrev pub twice : List (List ℕ) → Bool
twice [] = false
twice (x ∷ xs) = occurs x xs || twice xs

abbrev pub names : List ℕ → List Record → List (List ℕ)
names s [] = []
names s (r ∷ rs) = name_in s r ∷ names s rs

abbrev place_names : List ℕ → List ℕ → List (List ℕ)
place_names s [] = []
place_names s (p ∷ ps) = name_at s p ∷ place_names s ps

seen_occurs : (s ps name : List ℕ) → seen_in s ps name ≡ occurs name (place_names s ps)
seen_occurs s [] name = refl
seen_occurs s (p ∷ ps) name = ap (λ (b : Bool). same name (name_at s p) || b) (seen_occurs s ps name)

repeats_twice : (s ps : List ℕ) → repeats s ps ≡ twice (place_names s ps)
repeats_twice s [] = refl
repeats_twice s (p ∷ ps) = ap₂ (λ (a b : Bool). a || b) (seen_occurs s ps (name_at s p)) (repeats_twice s ps)

-- the names at the places are those of the records
place_names_lem : (y : Layout) (s : List ℕ) (n at : ℕ) → place_names s (places_from y s n at) ≡ names s (records_from y s n at)
unfolding places_from records_from
place_names_lem y s zero at = refl
place_names_lem y s (suc n) at = go (λ at'. place_names_lem y s n at') (front_of y (drop at s)) (view y s at)
  where
    go : ((at' : ℕ) → place_names s (places_from y s n at') ≡ names s (records_from y s n at')) → (t : Front) → View y s at t
        → place_names s (elim t as (λ x. List ℕ) [ bad k ↦ [] | front f ↦ at ∷ places_from y s n (past at f) ])
        ≡ names s (elim t as (λ x. List Record) [ bad k ↦ [] | front f ↦ record_at at f ∷ records_from y s n (past at f) ])
    go ih (bad k) v = refl
    go ih (front f) (reads e) =
        ap₂ (λ (x : List ℕ) (xs : List (List ℕ)). x ∷ xs) (ap (part s (at + 1)) (sym e.len_is)) (ih (past at f))

-- two records share a name exactly where two of the places do
pub repeats_names : (y : Layout) (s : List ℕ) (n at : ℕ) → repeats s (places_from y s n at) ≡ twice (names s (records_from y s n at))
repeats_names y s n at = repeats_twice s (places_from y s n at) ∙ ap twice (place_names_lem y s n at)

-- a sheet's records or refusal, from the records read, and the number that ended their reading or 0
abbrev pub verdict : List ℕ → List Record → ℕ → Sheet
verdict s rs k = cond (twice (names s rs)) (refused 16) (cond (eqb k 0) (records rs) (refused k))

occurs_later : (s name : List ℕ) (rs : List Record) (r : Record) (rest : List Record) → same name (name_in s r) ≡ true
    → occurs name (names s (rs ++ (r ∷ rest))) ≡ true
occurs_later s name [] r rest e = rw e
occurs_later s name (q ∷ rs) r rest e = rw (occurs_later s name rs r rest e) (or-true (same name (name_in s q)))

-- a name that was seen is there twice, whatever follows
seen_twice : (s : List ℕ) (rs : List Record) (r : Record) (rest : List Record) → seen s rs (name_in s r) ≡ true
    → twice (names s (rs ++ (r ∷ rest))) ≡ true
seen_twice s [] r rest e = cc
seen_twice s (q ∷ rs) r rest e = go (seen_twice s rs r rest) (same (name_in s q) (name_in s r)) refl e
  where
    go : (seen s rs (name_in s r) ≡ true → twice (names s (rs ++ (r ∷ rest))) ≡ true) → (b : Bool) → same (name_in s q) (name_in s r) ≡ b
        → b || seen s rs (name_in s r) ≡ true → twice (names s ((q ∷ rs) ++ (r ∷ rest))) ≡ true
    go ih true p h = rw (occurs_later s (name_in s q) rs r rest p)
    go ih false p h = rw (ih h) (or-true (occurs (name_in s q) (names s (rs ++ (r ∷ rest)))))

occurs_last : (s name : List ℕ) (rs : List Record) (r : Record) → occurs name (names s rs) ≡ false → same name (name_in s r) ≡ false
    → occurs name (names s (rs ++ (r ∷ []))) ≡ false
occurs_last s name [] r h e = rw e
occurs_last s name (q ∷ rs) r h e =
    let o = or_false (same name (name_in s q)) (occurs name (names s rs)) h in
    rw o.0 (occurs_last s name rs r o.1 e)

-- a name that was not seen keeps the names apart
pub fresh : (s : List ℕ) (rs : List Record) (r : Record) → twice (names s rs) ≡ false → seen s rs (name_in s r) ≡ false
    → twice (names s (rs ++ (r ∷ []))) ≡ false
fresh s [] r h e = refl
fresh s (q ∷ rs) r h e =
    let o = or_false (occurs (name_in s q) (names s rs)) (twice (names s rs)) h in
    let p = or_false (same (name_in s q) (name_in s r)) (seen s rs (name_in s r)) e in
    rw (occurs_last s (name_in s q) rs r o.0 p.0) (fresh s rs r o.1 p.1)

-- the records in turn end as the walk without names does, unless two records share a name
pub walk_verdict : (y : Layout) (s : List ℕ) (n at : ℕ) (before : List Record) → twice (names s before) ≡ false
    → walk y s n at before ≡ verdict s (before ++ records_from y s n at) (fault_from y s n at)
unfolding walk records_from fault_from
walk_verdict y s zero at before h = rw (append-nil before, h) (go (eqb at (length s)))
  where
    go : (b : Bool) → cond b (records before) (refused 4) ≡ cond (eqb (cond b 0 4) 0) (records before) (refused (cond b 0 4))
    go true = refl
    go false = refl
walk_verdict y s (suc n) at before h = go (walk_verdict y s n) (front_of y (drop at s)) (view y s at)
  where
    Below : Type 0
    Below = (at' : ℕ) (more : List Record) → twice (names s more) ≡ false → walk y s n at' more ≡ verdict s (more ++ records_from y s n at') (fault_from y s n at')

    next : Below → (f : Fields) (b : Bool) → seen s before (name_in s (record_at at f)) ≡ b
        → elim b as (λ c. Sheet) [ true ↦ refused 16 | false ↦ walk y s n (past at f) (before ++ (record_at at f ∷ [])) ]
        ≡ verdict s (before ++ (record_at at f ∷ records_from y s n (past at f))) (fault_from y s n (past at f))
    next ih f true p = rw (seen_twice s before (record_at at f) (records_from y s n (past at f)) p)
    next ih f false p =
        ih (past at f) (before ++ (record_at at f ∷ [])) (fresh s before (record_at at f) h p)
        ∙ ap (λ (l : List Record). verdict s l (fault_from y s n (past at f))) (append_snoc before (record_at at f) (records_from y s n (past at f)))

    go : Below → (t : Front) → View y s at t
        → elim t as (λ x. Sheet) [
          | bad k ↦ refused k
          | front f ↦ elim (seen s before (name_in s (record_at at f))) as (λ c. Sheet) [ true ↦ refused 16 | false ↦ walk y s n (past at f) (before ++ (record_at at f ∷ [])) ]
        ]
        ≡ verdict s (before ++ elim t as (λ x. List Record) [ bad k ↦ [] | front f ↦ record_at at f ∷ records_from y s n (past at f) ])
        (elim t as (λ x. ℕ) [ bad k ↦ k | front f ↦ fault_from y s n (past at f) ])
    go ih (bad k) (refuses z) = rw (append-nil before, h, ne_eqb k 0 z)
    go ih (front f) v = next ih f (seen s before (name_in s (record_at at f))) refl
