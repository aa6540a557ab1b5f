-- What a search hands back is the found record's name, or nothing where it refuses.
use Rattle.std.specs.Prelude.{Ok, Err}
use mathlib.Core.Bool.{Bool, true, false, cond}
use mathlib.Core.List.{List}
use mathlib.Core.Path.{◌≡◌, refl, sym, ap, ◌∙◌}
use Prim.Native.Nat.{ℕ}
use native.Mathlib.Omega.{arith}
use lib.ListN.{length}
use Rattle.octets.specs.Room.{Text, text}
use Rattle.octets.specs.Room
use Rattle.name.specs.Spelling.{Reading, wrong, bytes, reading}
use Rattle.name.specs.Name.{is_length, judged, name_of}
use Rattle.sheet_record.specs.declared.Record.{Record}
use Rattle.sheet.specs.Sheet.{Sheet, records, sheet_of, number_of}
use Rattle.sheet.proofs.Counted.{accepted_records}
use Rattle.sheet_search.specs.Find.{Lookup, find_in, handed_back}
use Rattle.sheet_search.proofs.Searching.{Finding, hit, miss, finding}
use Rattle.air.specs.declared.Answer.{Answer}
use Rattle.air.specs.Held.{Held}
use Rattle.calculator.specs.Search.{locate, locate_in, locate_name, AnswerAt, IsSearch}
use Rattle.calculator.specs.FoundName.{FoundName, NamedAnswer, found, refused, SearchName}
use Rattle.calculator.specs.Demand3.{FoundAnswered, UnlessRefused}
use Rattle.calculator.proofs.Demand3.{locates, unless_refused_lem}

pub found_name : FoundName
found_name s rs r spelling e m k = ap (handed_back s) (locates s rs r spelling e m k)

-- no refusal has the number 0: neither a sheet's nor a name's
sheet_never : (s : List ℕ) → sheet_of s ≡ Sheet.refused 0 → ⊥
sheet_never s e = apart (sym e ∙ accepted_records s (ap number_of e))
  where
    apart : {rs : List Record} → Sheet.refused 0 ≡ records rs → ⊥
    apart h = let f : ◌≡◌ {A = ℕ} 0 1 = cc in omega arith

name_never : (spelling : List ℕ) {k : ℕ} → name_of spelling ≡ Room.refused k → k ≡ 0 → ⊥
unfolding name_of
name_never spelling {k} e z = go (reading spelling) (e ∙ ap Room.refused z)
  where
    go : (x : Reading) → judged x ≡ Room.refused 0 → ⊥
    go wrong h = let f : ◌≡◌ {A = ℕ} 7 0 = cc in omega arith
    go (bytes bs) h = sized (is_length (length bs)) h
      where
        sized : (b : Bool) → cond b (text bs) (Room.refused 8) ≡ Room.refused 0 → ⊥
        sized true h = let f : ◌≡◌ {A = ℕ} 0 1 = cc in omega arith
        sized false h = let f : ◌≡◌ {A = ℕ} 8 0 = cc in omega arith

module _ (s spelling : List ℕ) (a : Answer) where
  abbrev Named : Lookup → Type 0
  Named f = NamedAnswer s spelling a (handed_back s f)

  named : (rs : List Record) → sheet_of s ≡ records rs → (t : Text) → name_of spelling ≡ t → AnswerAt (locate_name s rs t) a → Named (locate_name s rs t)
  named rs e (Room.refused k) p h = refused _ h (name_never spelling p)
  named rs e (text name) p h = go (find_in s rs name) (finding s rs name) h
    where
      go : (f : Lookup) → Finding s rs name f → AnswerAt f a → Named f
      go (Ok r) (hit m q) l = found e m (p ∙ ap text (sym q)) l
      go (Err n) miss l = refused _ l (λ z. omega arith)

  searched : (x : Sheet) → sheet_of s ≡ x → AnswerAt (locate_in s spelling x) a → Named (locate_in s spelling x)
  searched (Sheet.refused n) e h = refused _ h (λ z. sheet_never s (e ∙ ap Sheet.refused z))
  searched (records rs) e h = named rs e (name_of spelling) refl h

pub search_name : SearchName
unfolding IsSearch locate
search_name s spelling a h = searched s spelling a (sheet_of s) refl h

-- what a search answers with number 0 is as demand 3 says
pub search_answered : UnlessRefused
search_answered s spelling a h zero = go (search_name s spelling a h)
  where
    go : {part : List ℕ} → NamedAnswer s spelling a part → FoundAnswered s spelling a
    go (found {rs} {r} e m k it) = record { rs = rs; r = r; reads = e; member = m; named = k; answered = unless_refused_lem r.kind r.first r.second a it zero }
    go (refused n is never) = absurd (never (sym (ap (λ (i : Held). i.number) is) ∙ zero))
