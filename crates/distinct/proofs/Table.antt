-- The table of chains, one record more at a time. Assumes nothing.
use mathlib.Core.List.{List}
use mathlib.Core.Logic.{⊎_elim}
use mathlib.Core.Path.{◌≡◌, ◌∙◌}
use Prim.Native.Nat.{ℕ, ◌+◌, ◌≤◌, ◌<◌}
use native.Mathlib.Nat.{eq-or-lt_of_le}
use native.Mathlib.Numerals.{add-one}
use native.Mathlib.Omega.{arith}
use lib.ListN.{length, get_or, set, length-set}
use lib.Seq.{get_or-set_same, get_or-set_other}
use Rattle.distinct.specs.Distinct.{NamesFit}
use Rattle.sheet_name.specs.Name.{hash_of}
use Rattle.distinct.specs.Chain.{Reaches, here, there, Falling, name_of, Missed, NoLinks, Table}
use Rattle.distinct.proofs.Pairs.{Apart}
use Rattle.distinct.proofs.Store.{after_store}
use Rattle.distinct.proofs.Walk.{not_there}

-- a store at i leaves the chains of records below i as they are
reaches_set : {next : List ℕ} (i v : ℕ) {k j : ℕ} → Falling next → k ≤ i → Reaches next k j → Reaches (set next i v) k j
reaches_set i v f l here = here
reaches_set {next} i v {j} f l (there {k = k} r) =
    there {k = k} {j = j} (rw (get_or-set_other next i k v 0 (omega arith)) (reaches_set i v f (omega (arith, f k)) r))

pub table_start : (s starts : List ℕ) {heads next : List ℕ} → NoLinks 4096 heads → NoLinks 3449 next → Table s starts heads next 0
table_start s starts g k =
    record {
      most = omega arith;
      fit = λ j l. absurd (omega arith);
      heads_long = g.long;
      next_long = k.long;
      low = λ h. omega (arith, g.none h);
      falling = λ j. omega (arith, k.none j);
      linked = λ j l. absurd (omega arith);
    }

module _ (s starts heads next : List ℕ) (i h : ℕ) (t : Table s starts heads next i) (i-low : i < 3449) (h-low : h < 4096)
    (h-is : h ≡ hash_of (name_of s starts i)) (none : Missed s starts next (name_of s starts i) (get_or heads h 0)) where
  pub apart_next : Apart s starts i → Apart s starts (i + 1)
  apart_next q a b l m =
      ⊎_elim (λ e. rw e (not_there s starts heads next i t (name_of s starts i) (rw h-is at none) a (omega arith))) (λ k. q a b l k)
      (eq-or-lt_of_le {n = b} {m = i} (omega arith))

  h_inside : h < length heads
  h_inside = omega (arith, t.heads_long)

  i_inside : i < length next
  i_inside = omega (arith, t.next_long)

  linked_new : Reaches (set next i (get_or heads h 0)) (get_or (set heads h (i + 1)) (hash_of (name_of s starts i)) 0) i
  linked_new = rw (← h-is, get_or-set_same heads h (i + 1) 0 h_inside, add-one) here

  linked_old : (j : ℕ) → j < i → Reaches (set next i (get_or heads h 0)) (get_or (set heads h (i + 1)) (hash_of (name_of s starts j)) 0) j
  linked_old j l =
      after_store (λ k. Reaches (set next i (get_or heads h 0)) k j) heads h (i + 1) (hash_of (name_of s starts j)) h_inside
      (λ e. rw add-one
      (there {k = i} {j = j}
      (rw (get_or-set_same next i (get_or heads h 0) 0 i_inside) (reaches_set i (get_or heads h 0) t.falling (t.low h) (rw e at (t.linked j l))))))
      (λ ne. reaches_set i (get_or heads h 0) t.falling (t.low (hash_of (name_of s starts j))) (t.linked j l))

  pub table_next : NamesFit s starts (i + 1) → Table s starts (set heads h (i + 1)) (set next i (get_or heads h 0)) (i + 1)
  table_next fits =
      record {
        most = omega arith;
        fit = fits;
        heads_long = length-set heads h (i + 1) ∙ t.heads_long;
        next_long = length-set next i (get_or heads h 0) ∙ t.next_long;
        low = λ k. after_store (λ x. x ≤ i + 1) heads h (i + 1) k h_inside (λ e. omega arith) (λ ne. omega (arith, t.low k));
        falling = λ j. after_store (λ x. x ≤ j) next i (get_or heads h 0) j i_inside (λ e. omega (arith, t.low h)) (λ ne. t.falling j);
        linked = λ j l. ⊎_elim (λ e. rw e linked_new) (λ k. linked_old j k) (eq-or-lt_of_le {n = j} {m = i} (omega arith));
      }
