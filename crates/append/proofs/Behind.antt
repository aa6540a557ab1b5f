-- Bytes behind a sheet whose count is raised: what is in front is read as before, and then what they say.
use mathlib.Core.Bool.{Bool, true, false, cond}
use mathlib.Core.List.{List, [], ◌∷◌, ◌++◌, append_assoc}
use mathlib.Core.Path.{◌≡◌, refl, sym, ap, subst, ◌∙◌}
use Prim.Native.Nat.{ℕ, zero, suc, ◌+◌, ◌-◌, ◌≤◌, ◌<◌}
use native.Mathlib.Omega.{arith}
use borrow.Author.Tests.{le-ltb, eqb-true, eq-eqb}
use lib.Dec.{eqb}
use lib.ListN.{length, take, drop, length-append, length-drop, take-append-drop, drop_of_length-le}
use lib.Seq.{length-take-le, take-append-le, drop-append-le, drop_at, drop-drop}
use Rattle.octets.specs.Bytes.{number_at, bytes_of, part}
use Rattle.octets.proofs.Numbers.{bytes_length, bytes_number, number_drop}
use Rattle.sheet_record.specs.Layout.{Layout, layout_in, layout_of, or_plain}
use Rattle.sheet_record.specs.Front.{Fields, Front, bad, front, front_of, record_at, past}
use Rattle.sheet_record.specs.declared.Record.{Record}
use Rattle.sheet_record.proofs.Local.{number_append, front_stays}
use Rattle.sheet_record.proofs.Places.{View, refuses, reads, view}
use Rattle.sheet_head.specs.Head.{head_fault}
use Rattle.sheet.specs.Structure.{fault_from}
use Rattle.sheet.proofs.Accept.{headed}
use Rattle.sheet.proofs.Walk.{records_from}
use Rattle.append_record.specs.Grown.{grown}
use Rattle.append_record.proofs.Lengths.{grown_length}

-- the record that stands at a place, and what is read behind it
read_one : (y : Layout) (t : List ℕ) (m at : ℕ) (f : Fields) → front_of y (drop at t) ≡ front f
    → (records_from y t (suc m) at ≡ record_at at f ∷ records_from y t m (past at f)) × (fault_from y t (suc m) at ≡ fault_from y t m (past at f))
unfolding records_from fault_from
read_one y t m at f e = (
  ap (λ (x : Front). elim x as (λ z. List Record) [ bad k ↦ [] | front g ↦ record_at at g ∷ records_from y t m (past at g) ]) e,
  ap (λ (x : Front). elim x as (λ z. ℕ) [ bad k ↦ k | front g ↦ fault_from y t m (past at g) ]) e,
)

module _ (s r : List ℕ) (least : 7 ≤ length s) where
  abbrev m : ℕ
  m = suc (number_at 2 s 5)

  five : length (part s 0 5) ≡ 5
  five = length-take-le 5 s (omega arith)

  -- what is behind the header
  rest : drop 7 (grown s r) ≡ drop 7 s ++ r
  rest =
      let front : List ℕ = part s 0 5 ++ bytes_of 2 m in
      ap (drop 7) (sym (append_assoc (part s 0 5) (bytes_of 2 m) (drop 7 s ++ r)))
      ∙ drop_at front (drop 7 s ++ r) 7 (omega (arith, length-append (part s 0 5) (bytes_of 2 m), five, bytes_length 2 m))

  pub behind : (at : ℕ) → 7 ≤ at → at ≤ length s → drop at (grown s r) ≡ drop at s ++ r
  behind at l h =
      let k : ℕ = at - 7 in
      let e : 7 + k ≡ at = omega arith in
      ap (λ (i : ℕ). drop i (grown s r)) (sym e)
      ∙ sym (drop-drop k 7 (grown s r))
      ∙ ap (drop k) rest
      ∙ drop-append-le k (drop 7 s) r (omega (arith, length-drop 7 s))
      ∙ ap (λ (x : List ℕ). x ++ r) (drop-drop k 7 s ∙ ap (λ (i : ℕ). drop i s) e)

  pub behind_all : drop (length s) (grown s r) ≡ r
  behind_all = behind (length s) least (omega arith) ∙ ap (λ (x : List ℕ). x ++ r) (drop_of_length-le s {i = length s} (omega arith))

  pub parts : (start n : ℕ) → 7 ≤ start → start + n ≤ length s → part (grown s r) start n ≡ part s start n
  parts start n l h =
      ap (take n) (behind start l (omega arith)) ∙ take-append-le n (drop start s) r (omega (arith, length-drop start s))

  -- the header is as it was but for the count
  pub version : number_at 2 (grown s r) 3 ≡ number_at 2 s 3
  version =
      number_append 2 3 (part s 0 5) (bytes_of 2 m ++ (drop 7 s ++ r)) (omega (arith, five))
      ∙ sym (number_append 2 3 (part s 0 5) (drop 5 s) (omega (arith, five)))
      ∙ ap (λ (x : List ℕ). number_at 2 x 3) (take-append-drop 5 s)

  pub layout : layout_in (grown s r) ≡ layout_in s
  unfolding layout_in
  layout = ap (λ (v : ℕ). or_plain (layout_of v)) version

  mark : part (grown s r) 0 3 ≡ part s 0 3
  mark =
      take-append-le 3 (part s 0 5) (bytes_of 2 m ++ (drop 7 s ++ r)) (omega (arith, five))
      ∙ sym (take-append-le 3 (part s 0 5) (drop 5 s) (omega (arith, five)))
      ∙ ap (take 3) (take-append-drop 5 s)

  pub count : suc (number_at 2 s 5) < 65536 → number_at 2 (grown s r) 5 ≡ suc (number_at 2 s 5)
  count h =
      sym (number_drop 2 (grown s r) 5 0)
      ∙ ap (λ (x : List ℕ). number_at 2 x 0) (drop_at (part s 0 5) (bytes_of 2 m ++ (drop 7 s ++ r)) 5 five)
      ∙ number_append 2 0 (bytes_of 2 m) (drop 7 s ++ r) (omega (arith, bytes_length 2 m))
      ∙ bytes_number 2 m h

  pub head : head_fault s ≡ 0 → length (grown s r) ≤ 65536 → head_fault (grown s r) ≡ 0
  unfolding head_fault
  head e h =
      let k = headed s e in
      let a : 7 ≤ length (grown s r) = omega (arith, grown_length s r least) in
      let same : head_fault (grown s r) ≡ head_fault s =
      rw (
        le-ltb 65536 (length (grown s r)) h,
        le-ltb (length (grown s r)) 7 a,
        le-ltb 65536 (length s) k.most,
        le-ltb (length s) 7 least,
        mark,
        version,
      ) in
      same ∙ e

  -- the records are those that were there, and the one that the bytes say
  module _ (y : Layout) (f : Fields) (is : front_of y r ≡ front f) (whole : length r ≡ 18 + f.len + f.tail) where
    abbrev Grows : ℕ → ℕ → Type 0
    Grows n at = (records_from y (grown s r) (suc n) at ≡ records_from y s n at ++ (record_at (length s) f ∷ [])) × (fault_from y (grown s r) (suc n) at ≡ 0)

    last : Grows 0 (length s)
    unfolding records_from fault_from
    last =
        let o = read_one y (grown s r) 0 (length s) f (ap (front_of y) behind_all ∙ is) in
        let e : past (length s) f ≡ length (grown s r) = omega (arith, grown_length s r least) in
        (o.0, o.1 ∙ rw (eq-eqb (past (length s) f) (length (grown s r)) e))

    pub grows : (n at : ℕ) → 7 ≤ at → fault_from y s n at ≡ 0 → Grows n at
    unfolding records_from fault_from
    grows zero at l e = go (eqb at (length s)) refl e
      where
        go : (b : Bool) → eqb at (length s) ≡ b → ◌≡◌ {A = ℕ} (cond b 0 4) 0 → Grows 0 at
        go true p h = subst (Grows 0) (sym (eqb-true at (length s) p)) last
        go false p h = absurd (omega arith)
    grows (suc n) at l e = go (grows n) (front_of y (drop at s)) refl (view y s at) e
      where
        go : ((at : ℕ) → 7 ≤ at → fault_from y s n at ≡ 0 → Grows n at) → (x : Front) → front_of y (drop at s) ≡ x → View y s at x
            → ◌≡◌ {A = ℕ} (elim x as (λ z. ℕ) [ bad k ↦ k | front g ↦ fault_from y s n (past at g) ]) 0
            → Grows (suc n) at
        go ih (bad k) p (refuses z) h = absurd (z h)
        go ih (front g) p (reads v) h =
            let j = ih (past at g) (omega arith) h in
            let here : at ≤ length s = omega (arith, v.fits) in
            let o = read_one y (grown s r) (suc n) at g (ap (front_of y) (behind at l here) ∙ front_stays y (drop at s) r g p) in
            let q = read_one y s n at g p in (
              o.0 ∙ ap (λ (rs : List Record). record_at at g ∷ rs) j.0 ∙ sym (ap (λ (rs : List Record). rs ++ (record_at (length s) f ∷ [])) q.0),
              o.1 ∙ j.1,
            )
