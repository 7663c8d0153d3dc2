-- A list that is read turn by turn, as a loop does.
use Rattle.std.proofs.Common.{◌≡◌, ℕ, zero, suc, ◌≤◌, ◌<◌, Bool, true, false, List, [], ◌∷◌, ◌++◌, length, Result, Ok, Err, refl, sym, ap, ◌∙◌, append_assoc, arith}
use Rattle.std.proofs.lemmas.List.{append-nil}
use Rattle.cob_lex.specs.declared.token.Token.{Token}
use Rattle.cob_forms.specs.declared.stop.Stop.{Stop}
use Rattle.cob_forms.specs.declared.stop.Stop.TheVariants as stops
use Rattle.cob_forms.specs.Readers.{Reader, Stops, go_on, begins, found, turns, more}

-- what was read before, and what is still read
abbrev pub with_front : {A : Type 0} → List A → Result (List A × List Token) ℕ → Result (List A × List Token) ℕ
with_front front read = go_on (λ xs. found (front ++ xs)) read

-- What is in front of the rest was found, and what is left is read from the rest.
pub record Left {A : Type 0} (test : Token → Bool) (r : Reader A) (front : List A) (rest : List Token) (total : Result (List A × List Token) ℕ) : Type 0 where
  pub fuel : ℕ
  pub enough : length rest ≤ fuel
  pub so_far : with_front front (turns fuel test r rest) ≡ total

regroup : {A : Type 0} (front : List A) (x : A) (read : Result (List A × List Token) ℕ) → with_front front (go_on (λ xs. found (x ∷ xs)) read) ≡ with_front (front ++ x ∷ []) read
regroup front x (Ok y) = ap (λ xs. Ok (xs, y.1)) (simp append_assoc)
regroup front x (Err left) = refl

module _ {A : Type 0} (test : Token → Bool) (r : Reader A) where
  pub begin : (x : A) (rest : List Token) → Left test r (x ∷ []) rest (more test r x rest)
  begin x rest = record { fuel = length rest; enough = omega arith; so_far = refl }

  all_front : (read : Result (List A × List Token) ℕ) → with_front [] read ≡ read
  all_front (Ok x) = refl
  all_front (Err left) = refl

  pub begin_any : (ts : List Token) → Left test r [] ts (turns (length ts) test r ts)
  begin_any ts = record { fuel = length ts; enough = omega arith; so_far = all_front (turns (length ts) test r ts) }

  one_more : (n : ℕ) (front : List A) (x : A) (rest after : List Token) → begins test rest ≡ true → r rest ≡ Ok (x, after)
      → with_front front (turns (suc n) test r rest) ≡ with_front (front ++ x ∷ []) (turns n test r after)
  unfolding turns
  one_more n front x rest after b h = rw (b, h) (regroup front x (turns n test r after))

  go_on_from : (n : ℕ) (front : List A) (x : A) (rest after : List Token) (total : Result (List A × List Token) ℕ) → begins test rest ≡ true → r rest ≡ Ok (x, after) → length after < length rest → length rest ≤ n
      → with_front front (turns n test r rest) ≡ total → Left test r (front ++ x ∷ []) after total
  go_on_from zero front x rest after total b h lt le e = absurd (omega arith)
  go_on_from (suc n) front x rest after total b h lt le e = record { fuel = n; enough = omega arith; so_far = sym (one_more n front x rest after b h) ∙ e }

  pub goes_on : (front : List A) (x : A) (rest after : List Token) (total : Result (List A × List Token) ℕ) → begins test rest ≡ true → r rest ≡ Ok (x, after) → length after < length rest → Left test r front rest total
      → Left test r (front ++ x ∷ []) after total
  goes_on front x rest after total b h lt l = go_on_from l.fuel front x rest after total b h lt l.enough l.so_far

  end_from : (n : ℕ) (front : List A) (rest : List Token) (total : Result (List A × List Token) ℕ) → begins test rest ≡ false → with_front front (turns n test r rest) ≡ total → total ≡ Ok (front, rest)
  unfolding turns
  end_from zero front rest total b e = sym e ∙ ap (λ xs. Ok (xs, rest)) (append-nil front)
  end_from (suc n) front rest total b e =
      let one : with_front front (turns (suc n) test r rest) ≡ Ok (front ++ [], rest) = rw b refl in
      sym e ∙ one ∙ ap (λ xs. Ok (xs, rest)) (append-nil front)

  -- no further turn is entered
  pub ends : (front : List A) (rest : List Token) (total : Result (List A × List Token) ℕ) → begins test rest ≡ false → Left test r front rest total → total ≡ Ok (front, rest)
  ends front rest total b l = end_from l.fuel front rest total b l.so_far

  fail_from : (n left : ℕ) (front : List A) (rest : List Token) (total : Result (List A × List Token) ℕ) → begins test rest ≡ true → r rest ≡ Err left → 0 < n → with_front front (turns n test r rest) ≡ total → total ≡ Err left
  unfolding turns
  fail_from zero left front rest total b h lt e = absurd (omega arith)
  fail_from (suc n) left front rest total b h lt e =
      let one : with_front front (turns (suc n) test r rest) ≡ Err left = rw (b, h) refl in
      sym e ∙ one

  some_left : (rest : List Token) → begins test rest ≡ true → 0 < length rest
  some_left [] b = cc
  some_left (t ∷ ts) b = omega arith

  -- a turn that stops stops the list
  pub fails : (stop : Stop) (front : List A) (rest : List Token) (total : Result (List A × List Token) ℕ) → begins test rest ≡ true → Left test r front rest total → Stops stop (r rest) → Stops stop total
  fails (stops.Memory error) front rest total b l h = tt
  fails (stops.Wanted left) front rest total b l h =
      let more : 0 < length rest = some_left rest b in
      let enough : length rest ≤ l.fuel = l.enough in
      fail_from l.fuel left front rest total b h (omega arith) l.so_far
