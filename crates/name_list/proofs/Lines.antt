-- The first line of a list, up to its newline.
use Rattle.std.proofs.Common.{◌≡◌, ℕ, suc, ◌+◌, ◌-◌, ◌≤◌, ◌<◌, Bool, true, false, cond, eqb, ltb, not, Option, Some, None, MatchOption, List, [], ◌∷◌, ◌++◌, length, take, drop, refl, sym, ap, ap₂, ◌∙◌, one-add, arith, length-drop, length-append, append_assoc, append-nil}
use Rattle.std.specs.List.{position_or_len}
use Rattle.std.proofs.lemmas.List.Sums.{prefix_len-le-length}
use Rattle.std.proofs.Math.Seq.{drop-drop}
use borrow.Author.Tests.{ltb-false}
use Rattle.name_list.specs.Lines.{lines_from, lines_of, FirstLine}

abbrev pub is_newline : ℕ → Bool
is_newline byte = eqb byte 10

one_more : (before t : List ℕ) (x : ℕ) → lines_from before (x ∷ t) ≡ cond (eqb x 10) (before ∷ lines_from [] t) (lines_from (before ++ (x ∷ [])) t)
unfolding lines_from
one_more [] t x = refl
one_more (b ∷ bs) t x = refl

-- what a line has so far, and what is left of the list
first : (before t : List ℕ) → 0 < length before + length t
    → lines_from before t ≡ (before ++ take (position_or_len is_newline t) t) ∷ lines_of (drop (suc (position_or_len is_newline t)) t)
unfolding lines_from
first [] [] h = absurd (omega arith)
first (b ∷ before) [] h = ap (λ (l : List ℕ). l ∷ []) (sym (append-nil (b ∷ before)))
first before (x ∷ t) h = one_more before t x ∙ go (is_newline x) (first (before ++ (x ∷ [])) t (omega (arith, length-append before (x ∷ []))))
  where
    n : ℕ
    n = position_or_len is_newline t

    go : (b : Bool)
        → lines_from (before ++ (x ∷ [])) t ≡ ((before ++ (x ∷ [])) ++ take n t) ∷ lines_of (drop (suc n) t)
        → cond b (before ∷ lines_from [] t) (lines_from (before ++ (x ∷ [])) t) ≡ (before ++ take (cond (not b) (1 + n) 0) (x ∷ t)) ∷ lines_of (drop (cond (not b) (1 + n) 0) t)
    go true ih = ap (λ (l : List ℕ). l ∷ lines_of t) (sym (append-nil before))
    go false ih = ih ∙ rw one-add (ap (λ (l : List ℕ). l ∷ lines_of (drop (suc n) t)) (append_assoc before (x ∷ []) (take n t)))

pub first_line : (list : List ℕ) (start end : ℕ) → start < length list → end ≡ start + position_or_len is_newline (drop start list) → FirstLine list start end
first_line list start end h e =
    let t : List ℕ = drop start list in
    let n : ℕ = position_or_len is_newline t in
    let l : n ≤ length t = prefix_len-le-length (λ b. not (is_newline b)) t in
    let k : n ≡ end - start = omega arith in
    let d : drop (suc n) t ≡ drop (end + 1) list = drop-drop (suc n) start list ∙ ap (λ (i : ℕ). drop i list) (omega arith) in
    record {
      from = omega arith;
      inside = omega (arith, length-drop start list);
      first = first [] t (omega (arith, length-drop start list)) ∙ ap₂ (λ (i : ℕ) (r : List ℕ). take i t ∷ lines_of r) k d;
    }

-- the line that a search for a newline finds
pub found_line : (list : List ℕ) (start : ℕ) (found : Option ℕ)
    → start < length list
    → found ≡ cond (ltb (position_or_len is_newline (drop start list)) (length (drop start list))) (Some (position_or_len is_newline (drop start list))) None
    → MatchOption found (FirstLine list start (length list)) (λ i. FirstLine list start (start + i))
found_line list start found h e = go (ltb n (length (drop start list))) refl
  where
    n : ℕ
    n = position_or_len is_newline (drop start list)

    go : (b : Bool) → ltb n (length (drop start list)) ≡ b → MatchOption found (FirstLine list start (length list)) (λ i. FirstLine list start (start + i))
    go true f = rw (e, f) (first_line list start (start + n) h refl)
    go false f =
        let l = ltb-false n (length (drop start list)) f in
        let m : n ≤ length (drop start list) = prefix_len-le-length (λ b. not (is_newline b)) (drop start list) in
        rw (e, f) (first_line list start (length list) h (omega (arith, length-drop start list)))
