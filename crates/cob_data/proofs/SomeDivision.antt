-- Tokens without a fault have a division.
use Rattle.std.proofs.Common.{◌≡◌, suc, ◌+◌, ◌-◌, List, [], ◌∷◌, length, take, drop, get_or, None, codes, refl, ap, ◌∙◌, arith}
use Rattle.std.specs.Prelude.{option_map}
use Rattle.std.proofs.lemmas.Option.{slice_get-get_or}
use Rattle.cob_lex.specs.declared.token.Token.{Token}
use Rattle.cob_forms.specs.Forms.{Part, Reading, ends, next, reading, wanted}
use Rattle.cob_forms.specs.Sorts.{is, reserved}
use Rattle.cob_forms.specs.Written.{name_of}
use Rattle.cob_data.specs.declared.tree.DataDivision.{DataDivision}
use Rattle.cob_data.specs.Divisions.{communication_of, word_behind, working_storage_of}
use Rattle.cob_data.specs.Faults.{data_fault, data_faults, faults_by, limits, with_procedure}
use Rattle.cob_data.specs.HasDivision.{HasDivision}
use Rattle.cob_data.specs.Forms.{Form, alternatives_of, data_division}
use Rattle.cob_data.proofs.HeaderLaws.{has_name, step_by}
use Rattle.cob_data.proofs.NoFaults.{behind_none, no_fault, some_fault}
use Rattle.cob_data.proofs.ReadParts.{end_of_reading}

-- what the tokens say, where this one names the program
abbrev division_by : Token → List Token → DataDivision
division_by named before = record {
  program = name_of named;
  source_computer = word_behind (codes "SOURCE-COMPUTER") before;
  object_computer = word_behind (codes "OBJECT-COMPUTER") before;
  working_storage = working_storage_of before;
  communication = communication_of before;
}

-- what stands behind the first token, which the forms want
abbrev behind_first : List (Part Form)
behind_first = drop 1 data_division

first_read : (t : Token) (us rest : List Token) → reading alternatives_of data_division (t ∷ us) ≡ ends rest → reading alternatives_of behind_first us ≡ ends rest
unfolding reading next
first_read t us rest h = step_by (is (reserved (codes "IDENTIFICATION")) t) behind_first us rest _ h

some_place : (ts rest : List Token) → reading alternatives_of data_division ts ≡ ends rest → HasDivision ts
some_place [] rest h = absurd (omega (arith, has_name [] rest h))
some_place (t ∷ us) rest h =
    let end = end_of_reading behind_first us rest (first_read t us rest h) in
    let place = length us - length rest in
    let next_place : place + 1 ≡ suc place = omega arith in
    let whole : rest ≡ drop (place + 1) (t ∷ us) = rw next_place end.1 in
    record {
      place = place;
      division = division_by (get_or (t ∷ us) 5 t) (take place (t ∷ us));
      is_division = record {
        complete = h ∙ ap ends whole;
        within = omega (arith, end.0);
        program = ap (option_map name_of) (slice_get-get_or (t ∷ us) 5 t (has_name (t ∷ us) rest h));
        source_computer = refl;
        object_computer = refl;
        working_storage = refl;
        communication = refl;
      };
    }

by_reading : (ts : List Token) (read : Reading) → reading alternatives_of data_division ts ≡ read → faults_by limits ts (with_procedure read) ≡ [] → HasDivision ts
by_reading ts (ends rest) is none = some_place ts rest is
by_reading ts (wanted left) is none = absurd (some_fault _ (behind_none _ _ none))

pub some_division : (ts : List Token) → data_fault ts ≡ None → HasDivision ts
some_division ts none = by_reading ts (reading alternatives_of data_division ts) refl (no_fault (data_faults ts) none)
