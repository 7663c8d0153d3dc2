-- Clauses one by one, and the words by which they are told.
use Rattle.std.proofs.Common.{◌≡◌, ◌<◌, ◌+◌, ℕ, Bool, true, false, not, List, [], ◌∷◌, ◌++◌, length, drop, get_or, filter, Option, refl, sym, ap, ◌∙◌}
use Rattle.std.specs.Prelude.{cond, flat_map, if◌then◌else◌}
use Rattle.std.specs.List.{list_any}
use Rattle.std.specs.Str.{bytes_eq}
use Rattle.cob_lex.specs.declared.fault.SourceFault.{SourceFault}
use Rattle.cob_lex.specs.declared.fault.SourceKind.TheVariants as faults
use Rattle.cob_lex.specs.declared.token.Token.{Token}
use Rattle.cob_forms.specs.Faults.{earlier, first}
use Rattle.cob_data.specs.Clauses.{clause_word, clauses_of, is_input}
use Rattle.cob_data.specs.Entries.{first_token, is_cd}
use Rattle.cob_data.specs.Faults.{clause_faults, clauses_twice, unless}
use Rattle.cob_data.proofs.Firsts.{one_more, own_tokens, step_at}
use Rattle.cob_data.proofs.SeenTexts.{SameTexts, more_texts}

-- which words stood before is all that counts of them
pub same_clause_faults : (input : Bool) (clauses : List (List Token)) (xs ys : List (List ℕ)) → SameTexts xs ys → clause_faults input xs clauses ≡ clause_faults input ys clauses
same_clause_faults input [] xs ys same = refl
same_clause_faults input (c ∷ cs) xs ys same =
    ap (λ b. unless (not b) faults.TwiceDeclared (first_token c) ++ clause_faults input (clause_word input c ∷ xs) cs) (same (clause_word input c))
    ∙ ap (λ others. unless (not (list_any (bytes_eq (clause_word input c)) ys)) faults.TwiceDeclared (first_token c) ++ others)
    (same_clause_faults input cs (clause_word input c ∷ xs) (clause_word input c ∷ ys) (more_texts (clause_word input c) xs ys same))

pub clause_next : (input : Bool) (clauses rest : List (List Token)) (clause : List Token) (found : Option SourceFault) (texts next : List (List ℕ)) → clauses ≡ clause ∷ rest → SameTexts next (clause_word input clause ∷ texts)
    → earlier (earlier found (first (unless (not (list_any (bytes_eq (clause_word input clause)) texts)) faults.TwiceDeclared (first_token clause)))) (first (clause_faults input next rest)) ≡ earlier found (first (clause_faults input texts clauses))
clause_next input clauses rest clause found texts next split same =
    let here = unless (not (list_any (bytes_eq (clause_word input clause)) texts)) faults.TwiceDeclared (first_token clause) in
    ap (λ fs. earlier (earlier found (first here)) (first fs)) (same_clause_faults input rest next (clause_word input clause ∷ texts) same)
    ∙ one_more found here (clause_faults input (clause_word input clause ∷ texts) rest)
    ∙ ap (λ cs. earlier found (first (clause_faults input texts cs))) (sym split)

-- entries one by one: one that is of no CD has no clauses
abbrev own_faults : List Token → List SourceFault
own_faults entry = clause_faults (is_input entry) [] (clauses_of entry)

front_by : (b : Bool) (e : List Token) (others : List (List Token)) → flat_map own_faults (cond b (e ∷ others) others) ≡ own_faults (if b then e else []) ++ flat_map own_faults others
front_by true e others = refl
front_by false e others = refl

pub clauses_at : (found : Option SourceFault) (entries : List (List Token)) (i : ℕ) (e : List Token) → i < length entries → e ≡ get_or entries i e
    → earlier (earlier found (first (own_faults (own_tokens e)))) (first (clauses_twice (drop (i + 1) entries))) ≡ earlier found (first (clauses_twice (drop i entries)))
clauses_at found entries i e within at_place =
    step_at clauses_twice (own_faults (own_tokens e)) found entries i e within at_place (front_by (is_cd e) e (filter is_cd (drop (i + 1) entries)))
