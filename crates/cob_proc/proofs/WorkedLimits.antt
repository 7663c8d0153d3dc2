-- How many paragraphs a division may have, and how deep IFs may nest.
use Rattle.std.proofs.Common.{◌≡◌, ◌^◌, List, [], ◌++◌, None, refl}
use Rattle.cob_lex.specs.declared.token.Token.{Token}
use Rattle.cob_proc.specs.Faults.{bad_columns, deep_ifs, named_again, paragraph_names, read_faults, too_many, without_identifier}

-- the limits of every division: 1,000 paragraphs, and 64 IFs in one another
limits_are : (ts : List Token) → read_faults ts ≡
    bad_columns None ts ++ named_again [] (paragraph_names None ts) ++ too_many (10 ^ 3) (paragraph_names None ts)
    ++ deep_ifs (2 ^ 6) [] ts ++ without_identifier ts
limits_are ts = refl
