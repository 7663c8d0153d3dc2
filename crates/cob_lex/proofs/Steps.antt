-- The tokens of a text, by what stands at its front.
use Rattle.std.proofs.Common.{◌≡◌, ℕ, zero, suc, ◌+◌, ◌-◌, ◌≤◌, List, [], ◌∷◌, ◌++◌, length, take, drop, Result, Ok, Err, refl, ap, sym, ◌∙◌, arith, append_assoc, append-nil}
use Rattle.cob_lex.specs.declared.fault.SourceFault.{SourceFault}
use Rattle.cob_lex.specs.declared.fault.SourceKind.{SourceKind}
use Rattle.cob_lex.specs.declared.token.Token.{Token}
use Rattle.cob_lex.specs.declared.token.TokenKind.{TokenKind}
use Rattle.cob_lex.specs.declared.lines.Place.{Place}
use Rattle.cob_lex.specs.declared.front.Awaited.{Awaited}
use Rattle.cob_lex.specs.declared.front.Front.TheVariants as fronts
use Rattle.cob_lex.specs.Fronts.{front_of, awaited_behind}
use Rattle.cob_lex.specs.Lexing.{Taken, taken, with_token, by_front, fault_at, text_tokens, token_of, ◌>>=◌}
use Rattle.cob_lex.specs.Answers.{with_front}

-- bytes that belong to the token before are passed over
pub skips : (awaits : Awaited) (n : ℕ) (place : Place) (at : ℕ) (bytes : List ℕ) → text_tokens awaits n place at bytes ≡ text_tokens awaits 0 place (at + n) (drop n bytes)
unfolding text_tokens
skips awaits zero place at [] = refl
skips awaits zero place at (x ∷ xs) = ap (λ m. text_tokens awaits 0 place m (x ∷ xs)) (omega arith)
skips awaits (suc n) place at [] = refl
skips awaits (suc n) place at (x ∷ xs) =
    let e : at + 1 + n ≡ at + suc n = omega arith in
    skips awaits n place (at + 1) xs ∙ ap (λ m. text_tokens awaits 0 place m (drop n xs)) e

-- the tokens of bytes that stand there
abbrev pub fronted : Awaited → Place → ℕ → List ℕ → Result Taken SourceFault
fronted awaits place at bytes = text_tokens awaits 0 place at bytes

pub spacing : (awaits : Awaited) (place : Place) (at : ℕ) (bytes : List ℕ) → 1 ≤ length bytes → front_of awaits bytes ≡ fronts.Spacing → fronted awaits place at bytes ≡ fronted awaits place (at + 1) (drop 1 bytes)
unfolding text_tokens
spacing awaits place at [] some h = absurd (omega arith)
spacing awaits place at (x ∷ xs) some h = ap (λ f. by_front awaits place at (x ∷ xs) f (λ next behind. text_tokens next behind place (at + 1) xs)) h

pub refused : (awaits : Awaited) (place : Place) (at : ℕ) (bytes : List ℕ) (kind : SourceKind) → 1 ≤ length bytes → front_of awaits bytes ≡ fronts.Fault kind → fronted awaits place at bytes ≡ Err (fault_at place at kind)
unfolding text_tokens
refused awaits place at [] kind some h = absurd (omega arith)
refused awaits place at (x ∷ xs) kind some h = ap (λ f. by_front awaits place at (x ∷ xs) f (λ next behind. text_tokens next behind place (at + 1) xs)) h

-- a token, and what comes after it
pub token_and_others : (read : Result Token SourceFault) (others : Result Taken SourceFault) (token : Token) → read ≡ Ok token → (read >>= (λ token. others >>= (λ others. Ok (with_token token others)))) ≡ with_front (token ∷ []) others
token_and_others read (Ok others) token h = ap (λ r. r >>= (λ token. Ok (with_token token others))) h
token_and_others read (Err fault) token h = ap (λ r. r >>= (λ token. Err fault)) h

pub bad_token : (read : Result Token SourceFault) (others : Result Taken SourceFault) (fault : SourceFault) → read ≡ Err fault → (read >>= (λ token. others >>= (λ others. Ok (with_token token others)))) ≡ Err fault
bad_token read others fault h = ap (λ r. r >>= (λ token. others >>= (λ others. Ok (with_token token others)))) h

-- what comes after a token at the front
behind_token : (awaits : Awaited) (place : Place) (at n : ℕ) (x : ℕ) (xs : List ℕ) → 1 ≤ n → text_tokens awaits (n - 1) place (at + 1) xs ≡ fronted awaits place (at + n) (drop n (x ∷ xs))
behind_token awaits place at zero x xs some = absurd (omega arith)
behind_token awaits place at (suc n) x xs some =
    let same : suc n - 1 ≡ n = omega arith in
    let e : at + 1 + n ≡ at + suc n = omega arith in
    ap (λ m. text_tokens awaits m place (at + 1) xs) same ∙ skips awaits n place (at + 1) xs ∙ ap (λ m. text_tokens awaits 0 place m (drop n xs)) e

abbrev pub token_step : Awaited → Place → ℕ → TokenKind → List ℕ → ℕ → Result Taken SourceFault → Result Taken SourceFault
token_step awaits place at kind bytes n others = token_of place at kind (take n bytes) >>= (λ token. others >>= (λ others. Ok (with_token token others)))

pub at_token : (awaits : Awaited) (place : Place) (at : ℕ) (bytes : List ℕ) (kind : TokenKind) (n : ℕ) → 1 ≤ length bytes → 1 ≤ n → front_of awaits bytes ≡ fronts.Token kind n
    → fronted awaits place at bytes ≡ token_step awaits place at kind bytes n (fronted (awaited_behind awaits kind (take n bytes)) place (at + n) (drop n bytes))
unfolding text_tokens
at_token awaits place at [] kind n some long h = absurd (omega arith)
at_token awaits place at (x ∷ xs) kind n some long h =
    ap (λ f. by_front awaits place at (x ∷ xs) f (λ next behind. text_tokens next behind place (at + 1) xs)) h
    ∙ ap (token_step awaits place at kind (x ∷ xs) n) (behind_token (awaited_behind awaits kind (take n (x ∷ xs))) place at n x xs long)

pub token_taken : (awaits : Awaited) (place : Place) (at : ℕ) (bytes : List ℕ) (kind : TokenKind) (n : ℕ) (token : Token) → 1 ≤ length bytes → 1 ≤ n → front_of awaits bytes ≡ fronts.Token kind n → token_of place at kind (take n bytes) ≡ Ok token
    → fronted awaits place at bytes ≡ with_front (token ∷ []) (fronted (awaited_behind awaits kind (take n bytes)) place (at + n) (drop n bytes))
token_taken awaits place at bytes kind n token some long h read =
    at_token awaits place at bytes kind n some long h
    ∙ token_and_others (token_of place at kind (take n bytes)) (fronted (awaited_behind awaits kind (take n bytes)) place (at + n) (drop n bytes)) token read

pub token_refused : (awaits : Awaited) (place : Place) (at : ℕ) (bytes : List ℕ) (kind : TokenKind) (n : ℕ) (fault : SourceFault) → 1 ≤ length bytes → 1 ≤ n → front_of awaits bytes ≡ fronts.Token kind n → token_of place at kind (take n bytes) ≡ Err fault
    → fronted awaits place at bytes ≡ Err fault
token_refused awaits place at bytes kind n fault some long h read =
    at_token awaits place at bytes kind n some long h
    ∙ bad_token (token_of place at kind (take n bytes)) (fronted (awaited_behind awaits kind (take n bytes)) place (at + n) (drop n bytes)) fault read

pub with_front-with_front : (xs ys : List Token) (others : Result Taken SourceFault) → with_front xs (with_front ys others) ≡ with_front (xs ++ ys) others
with_front-with_front xs ys (Ok others) = ap (λ ts. Ok (taken ts others.awaited)) (sym (append_assoc xs ys others.tokens))
with_front-with_front xs ys (Err fault) = refl

-- nothing is left of a text
pub text_ends : (ts : List Token) (awaits : Awaited) (place : Place) (at : ℕ) (rest : List ℕ) (whole : Result Taken SourceFault) → length rest ≡ 0 → with_front ts (fronted awaits place at rest) ≡ whole → whole ≡ Ok (taken ts awaits)
unfolding text_tokens
text_ends ts awaits place at [] whole none same = sym same ∙ ap (λ us. Ok (taken us awaits)) (append-nil ts)
text_ends ts awaits place at (x ∷ xs) whole none same = absurd (omega arith)
