-- A statement of at most so many tokens, by what it begins with.
use Rattle.std.proofs.Common.{◌≡◌, ℕ, zero, suc, ◌-◌, ◌<◌, true, false, List, Err, length, refl, arith, codes}
use Rattle.cob_lex.specs.declared.token.Token.{Token}
use Rattle.cob_forms.specs.Sorts.{is, reserved}
use Rattle.cob_forms.specs.Readers.{begins}
use Rattle.cob_proc.specs.StatementReaders.{read_plain, stated}
use Rattle.cob_proc.specs.DivisionReaders.{branch, read_statement, read_statements, receive}

pub no_statement : (ts : List Token) → read_statement 0 ts ≡ Err (length ts)
unfolding read_statement
no_statement ts = refl

if_at : (n : ℕ) (ts : List Token) → begins (is (reserved (codes "IF"))) ts ≡ true → read_statement (suc n) ts ≡ branch (read_statements n) ts
unfolding read_statement read_statements
if_at n ts b = rw b refl

pub if_statement : (n : ℕ) (ts : List Token) → 0 < n → begins (is (reserved (codes "IF"))) ts ≡ true → read_statement n ts ≡ branch (read_statements (n - 1)) ts
if_statement zero ts lt b = absurd (omega arith)
if_statement (suc n) ts lt b = let same : suc n - 1 ≡ n = omega arith in rw same (if_at n ts b)

pub receive_statement : (n : ℕ) (ts : List Token) → 0 < n → begins (is (reserved (codes "IF"))) ts ≡ false → begins (is (reserved (codes "RECEIVE"))) ts ≡ true → read_statement n ts ≡ receive ts
unfolding read_statement
receive_statement zero ts lt a b = absurd (omega arith)
receive_statement (suc n) ts lt a b = rw (a, b) refl

pub plain_statement : (n : ℕ) (ts : List Token) → 0 < n → begins (is (reserved (codes "IF"))) ts ≡ false → begins (is (reserved (codes "RECEIVE"))) ts ≡ false → read_statement n ts ≡ stated read_plain ts
unfolding read_statement
plain_statement zero ts lt a b = absurd (omega arith)
plain_statement (suc n) ts lt a b = rw (a, b) refl

pub ruleset statement_steps = (no_statement, if_statement, receive_statement, plain_statement)
