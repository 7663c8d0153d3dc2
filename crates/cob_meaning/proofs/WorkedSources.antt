-- Whole sources: the programs that they are, and the faults that they have.
use Rattle.std.proofs.Common.{◌≡◌, ℕ, true, List, [], ◌∷◌, ◌++◌, drop, take, Option, Some, None, refl, codes, arith, inl, inr}
use Rattle.cob_lex.specs.declared.fault.SourceKind.TheVariants as faults
use Rattle.cob_lex.specs.declared.token.Token.{Token}
use Rattle.cob_lex.specs.Fronts.{front_of}
use Rattle.com_text.specs.Name.{spaces}
use Rattle.cob_lex.specs.Lines.{place}
use Rattle.cob_forms.specs.Sorts.{is, name}
use Rattle.cob_lex.specs.Lexing.{lines_tokens, text_tokens}
use Rattle.cob_lex.proofs.Programs.{echo, leaver, orders, source}
use Rattle.cob_lex.proofs.Written.{on, word, period}
use Rattle.cob_lex.proofs.WorkedPrograms.{echo_list, echo_tokens, orders_list, orders_tokens}
use Rattle.cob_forms.specs.declared.written.Name.{Name}
use Rattle.cob_forms.specs.Forms.{next, reading}
use Rattle.cob_forms.specs.Faults.{fault}
use Rattle.cob_data.specs.declared.tree.DataDivision.{DataDivision}
use Rattle.cob_data.specs.Clauses.{input_field_of, output_field_of}
use Rattle.cob_data.specs.Divisions.{IsDivisionOf, communication_of, working_storage_of}
use Rattle.cob_proc.specs.declared.tree.Repetition.TheVariants as repetitions
use Rattle.cob_proc.specs.Spelled.{IsProcedure}
use Rattle.cob_meaning.specs.Meaning.{Program}
use Rattle.cob_meaning.specs.Sources.{IsProgramOf, IsSourceFaultOf, Spells, of_trees, tokens_fault}
use Rattle.cob_meaning.proofs.Trees.{go_of, perform_of, stop_of}
use Rattle.cob_meaning.proofs.Placed.{name_at, paragraph_at}
use Rattle.cob_meaning.proofs.WorkedPrograms.{echo as echo_program, orders as orders_program}
use Rattle.cob_meaning.proofs.RangeFaults.{fault_of_ranges, free_of_faults}

-- the divisions that tokens tell before a place, under a name
abbrev told : Name → Option Name → Option Name → List Token → DataDivision
told program source_computer object_computer ts = record {
  program = program;
  source_computer = source_computer;
  object_computer = object_computer;
  working_storage = working_storage_of ts;
  communication = communication_of ts;
}

echo_has_trees : IsProcedure echo_program.text (drop 55 echo_list)
echo_has_trees = (
  _,
  (_, (refl, refl)),
  (
    _,
    (_, (refl, refl)),
    (
      _,
      (_, (refl, refl)),
      (
        _,
        (
          _,
          (_, refl, (refl, refl)),
          (
            _,
            (_, (refl, refl)),
            (
              _,
              (_, (_, (_, (_, (refl, refl)), (_, (_, refl, (refl, refl)), (_, (_, (refl, refl)), (_, (_, (_, refl, (refl, refl)), (refl, refl)), (refl, refl))))), (refl, refl)), (_, (refl, refl))),
              (
                _,
                (_, (_, (_, (_, (refl, refl)), (_, (_, refl, (refl, refl)), (_, (_, (refl, refl)), (_, (_, (_, refl, (refl, refl)), (refl, refl)), (refl, refl))))), (refl, refl)), (_, (refl, refl))),
                (refl, refl),
              ),
            ),
          ),
        ),
        (
          _,
          (
            _,
            (_, refl, (refl, refl)),
            (
              _,
              (_, (refl, refl)),
              (
                _,
                (_, (_, (_, (_, (_, (refl, refl)), (_, (_, refl, (refl, refl)), (_, (_, (refl, refl)), (_, (_, (refl, refl)), (_, (_, refl, (refl, refl)), (refl, refl)))))), (refl, refl)), (refl, refl)), (_, (refl, refl))),
                (
                  _,
                  (_, (_, (_, (_, (refl, refl)), (_, (_, (_, refl, (refl, refl)), (refl, refl)), (_, (_, (refl, refl)), (_, (_, (_, refl, (refl, refl)), (refl, refl)), (refl, refl))))), (refl, refl)), (_, (refl, refl))),
                  (
                    _,
                    (_, (_, (_, (_, (refl, refl)), (_, (_, (_, refl, (refl, refl)), (refl, refl)), (_, (_, (refl, refl)), (_, (_, (_, refl, (refl, refl)), (refl, refl)), (refl, refl))))), (refl, refl)), (_, (refl, refl))),
                    (
                      _,
                      (_, (_, (_, (_, (refl, refl)), (_, (_, refl, (refl, refl)), (_, (_, (refl, refl)), (_, (_, (_, refl, (refl, refl)), (refl, refl)), (_, (_, (inr (_, (refl, refl))), (_, (refl, refl))), (refl, refl)))))), (refl, refl)), (_, (refl, refl))),
                      (
                        _,
                        (_, (_, (_, (_, (refl, refl)), (_, (inr (_, (refl, refl))), (_, refl, (refl, refl)))), (refl, refl)), (_, (refl, refl))),
                        (refl, refl),
                      ),
                    ),
                  ),
                ),
              ),
            ),
          ),
          (refl, refl),
        ),
      ),
    ),
  ),
)

echo_is_divided : IsDivisionOf echo_list 55 (told (name_at 2 20 (codes "ECHO")) None None (take 55 echo_list))
unfolding next reading input_field_of output_field_of
echo_is_divided = record {
  complete = refl;
  within = omega arith;
  program = refl;
  source_computer = refl;
  object_computer = refl;
  working_storage = refl;
  communication = refl;
}

-- ECHO is the program whose calls are worked out
pub echo_is_program : IsProgramOf echo echo_program
unfolding next reading input_field_of output_field_of
echo_is_program = record {
  few = omega arith;
  tokens = echo_list;
  are_tokens = echo_tokens;
  spells = record {
    no_fault = refl;
    place = 55;
    division = told (name_at 2 20 (codes "ECHO")) None None (take 55 echo_list);
    is_division = echo_is_divided;
    is_procedure = echo_has_trees;
    layout = refl;
  };
  no_fault = free_of_faults echo_program refl refl;
}

orders_has_trees : IsProcedure orders_program.text (drop 131 orders_list)
orders_has_trees = (
  _,
  (_, (refl, refl)),
  (
    _,
    (_, (refl, refl)),
    (
      _,
      (_, (refl, refl)),
      (
        _,
        (
          _,
          (_, refl, (refl, refl)),
          (
            _,
            (_, (refl, refl)),
            (
              _,
              (_, (_, (_, (_, (refl, refl)), (_, (_, refl, (refl, refl)), (_, (_, (refl, refl)), (_, (_, (_, refl, (refl, refl)), (refl, refl)), (refl, refl))))), (refl, refl)), (_, (refl, refl))),
              (
                _,
                (_, (_, (_, (_, (refl, refl)), (_, (_, refl, (refl, refl)), (_, (_, (refl, refl)), (_, (_, (_, refl, (refl, refl)), (refl, refl)), (refl, refl))))), (refl, refl)), (_, (refl, refl))),
                (
                  _,
                  (_, (_, (_, (_, (refl, refl)), (_, (_, refl, (refl, refl)), (_, (_, (inl (_, (refl, refl))), (_, refl, (refl, refl))), (_, (_, (refl, refl)), (_, (_, (_, (_, refl, (refl, refl)), (refl, refl)), (_, (_, (inl (refl, refl)), (refl, refl)), (_, (inl (_, (refl, refl))), (_, refl, (refl, refl))))), (refl, refl)))))), (refl, refl)), (_, (refl, refl))),
                  (
                    _,
                    (_, (_, (_, (_, (refl, refl)), (_, (_, (_, refl, (refl, refl)), (refl, refl)), (_, (_, (refl, refl)), (_, (_, (_, refl, (refl, refl)), (refl, refl)), (refl, refl))))), (refl, refl)), (_, (refl, refl))),
                    (
                      _,
                      (_, (_, (_, (_, (refl, refl)), (_, (_, refl, (refl, refl)), (_, (_, (refl, refl)), (_, (_, (_, refl, (refl, refl)), (refl, refl)), (refl, refl))))), (refl, refl)), (_, (refl, refl))),
                      (
                        _,
                        (_, (_, (_, (_, (refl, refl)), (_, (_, refl, (refl, refl)), (_, (_, (refl, refl)), (_, (_, (_, refl, (refl, refl)), (refl, refl)), (_, (_, (inr (_, (refl, refl))), (_, (refl, refl))), (refl, refl)))))), (refl, refl)), (_, (refl, refl))),
                        (
                          _,
                          (_, (_, (_, (_, (refl, refl)), (_, (refl, refl))), (refl, refl)), (_, (refl, refl))),
                          (refl, refl),
                        ),
                      ),
                    ),
                  ),
                ),
              ),
            ),
          ),
        ),
        (
          _,
          (
            _,
            (_, refl, (refl, refl)),
            (
              _,
              (_, (refl, refl)),
              (
                _,
                (_, (_, (_, (_, (refl, refl)), (_, (inr (inl (_, refl, (refl, refl)))), (_, (_, (refl, refl)), (_, (_, (_, refl, (refl, refl)), (refl, refl)), (refl, refl))))), (refl, refl)), (_, (refl, refl))),
                (
                  _,
                  (_, (_, (_, (_, (_, (refl, refl)), (_, (_, refl, (refl, refl)), (_, (_, (refl, refl)), (_, (_, (refl, refl)), (_, (_, refl, (refl, refl)), (refl, refl)))))), (refl, refl)), (refl, refl)), (_, (refl, refl))),
                  (
                    _,
                    (_, (_, (_, (_, (refl, refl)), (_, (_, (_, refl, (refl, refl)), (refl, refl)), (_, (_, (refl, refl)), (_, (_, (_, refl, (refl, refl)), (refl, refl)), (refl, refl))))), (refl, refl)), (_, (refl, refl))),
                    (
                      _,
                      (_, (_, (_, (_, refl, (refl, refl)), (_, (_, (_, (_, (_, refl, (refl, refl)), (refl, refl)), (_, (_, (inl (refl, refl)), (refl, refl)), (_, (inl (_, (refl, refl))), (_, refl, (refl, refl))))), (refl, refl)), (_, (_, (_, (_, (refl, refl)), (_, (inr (_, (refl, refl))), (_, refl, (refl, refl)))), (refl, refl)), (refl, refl)))), (refl, refl)), (_, (refl, refl))),
                      (
                        _,
                        (_, (_, (_, (_, (refl, refl)), (_, (_, (_, refl, (refl, refl)), (refl, refl)), (_, (_, (refl, refl)), (_, (_, (_, refl, (refl, refl)), (refl, refl)), (refl, refl))))), (refl, refl)), (_, (refl, refl))),
                        (
                          _,
                          (_, (_, (_, (_, refl, (refl, refl)), (_, (_, (_, (_, (_, refl, (refl, refl)), (refl, refl)), (_, (_, (inr (_, (refl, refl))), (refl, refl)), (_, (refl, refl)))), (refl, refl)), (_, (_, (_, (_, (refl, refl)), (_, (_, (_, refl, (refl, refl)), (refl, refl)), (_, (_, (refl, refl)), (_, (_, refl, (refl, refl)), (refl, refl))))), (_, (_, (_, (refl, refl)), (_, (_, refl, (refl, refl)), (_, (_, (refl, refl)), (_, (_, (_, refl, (refl, refl)), (refl, refl)), (refl, refl))))), (refl, refl))), (_, (_, (refl, refl)), (_, (_, (_, (refl, refl)), (_, (_, refl, (refl, refl)), (_, (_, (refl, refl)), (_, (_, (_, refl, (refl, refl)), (refl, refl)), (refl, refl))))), (refl, refl)))))), (refl, refl)), (_, (refl, refl))),
                          (
                            _,
                            (_, (_, (_, (_, (refl, refl)), (_, (_, refl, (refl, refl)), (_, (_, (refl, refl)), (_, (_, (_, refl, (refl, refl)), (refl, refl)), (refl, refl))))), (refl, refl)), (_, (refl, refl))),
                            (
                              _,
                              (_, (_, (_, (_, (refl, refl)), (_, (_, refl, (refl, refl)), (_, (_, (refl, refl)), (_, (_, (_, refl, (refl, refl)), (refl, refl)), (_, (_, (inr (_, (refl, refl))), (_, (refl, refl))), (_, (_, (refl, refl)), (_, (inr (_, (refl, refl))), (_, (_, refl, (refl, refl)), (inr (inl (_, (refl, refl)))))))))))), (refl, refl)), (_, (refl, refl))),
                              (refl, refl),
                            ),
                          ),
                        ),
                      ),
                    ),
                  ),
                ),
              ),
            ),
          ),
          (
            _,
            (
              _,
              (_, refl, (refl, refl)),
              (
                _,
                (_, (refl, refl)),
                (
                  _,
                  (_, (_, (_, (refl, refl)), (refl, refl)), (_, (refl, refl))),
                  (refl, refl),
                ),
              ),
            ),
            (refl, refl),
          ),
        ),
      ),
    ),
  ),
)

orders_is_divided : IsDivisionOf orders_list 131 (told (name_at 2 20 (codes "ORDERS")) (Some (name_at 6 25 (codes "ANY-MACHINE"))) (Some (name_at 7 25 (codes "ANY-MACHINE"))) (take 131 orders_list))
unfolding next reading input_field_of output_field_of
orders_is_divided = record {
  complete = refl;
  within = omega arith;
  program = refl;
  source_computer = refl;
  object_computer = refl;
  working_storage = refl;
  communication = refl;
}

-- ORDERS is the program whose calls are worked out
orders_is_program : IsProgramOf orders orders_program
unfolding next reading input_field_of output_field_of
orders_is_program = record {
  few = omega arith;
  tokens = orders_list;
  are_tokens = orders_tokens;
  spells = record {
    no_fault = refl;
    place = 131;
    division = told (name_at 2 20 (codes "ORDERS")) (Some (name_at 6 25 (codes "ANY-MACHINE"))) (Some (name_at 7 25 (codes "ANY-MACHINE"))) (take 131 orders_list);
    is_division = orders_is_divided;
    is_procedure = orders_has_trees;
    layout = refl;
  };
  no_fault = free_of_faults orders_program refl refl;
}

-- LEAVER, by the paragraph to which its last line goes
abbrev first_lines : List Token
first_lines =
    on 1 0 (word 8 (codes "IDENTIFICATION") ∷ word 23 (codes "DIVISION") ∷ period 31 (codes ".") ∷ []) ++
    on 2 32 (word 8 (codes "PROGRAM-ID") ∷ period 18 (codes ".") ∷ word 20 (codes "LEAVER") ∷ period 26 (codes ".") ∷ []) ++
    on 3 59 (word 8 (codes "DATA") ∷ word 13 (codes "DIVISION") ∷ period 21 (codes ".") ∷ []) ++
    on 4 81 (word 8 (codes "PROCEDURE") ∷ word 18 (codes "DIVISION") ∷ period 26 (codes ".") ∷ []) ++
    on 5 108 (word 8 (codes "A1") ∷ period 10 (codes ".") ∷ []) ++
    on 6 119 (word 12 (codes "PERFORM") ∷ word 20 (codes "B1") ∷ period 22 (codes ".") ∷ []) ++
    on 7 142 (word 12 (codes "STOP") ∷ word 17 (codes "RUN") ∷ period 20 (codes ".") ∷ []) ++
    on 8 163 (word 8 (codes "B1") ∷ period 10 (codes ".") ∷ [])

abbrev leaver_tokens : List ℕ → List Token
leaver_tokens target = first_lines ++ on 9 174 (word 12 (codes "GO") ∷ word 15 (codes "TO") ∷ word 18 target ∷ period 20 (codes ".") ∷ [])

abbrev leaver_program : List ℕ → Program
leaver_program target = record {
  layout = record { names = []; opening = []; initial = None };
  text =
      paragraph_at 5 (codes "A1") ((perform_of (name_at 6 20 (codes "B1")) None repetitions.Once ∷ []) ∷ (stop_of ∷ []) ∷ [])
      ∷ paragraph_at 8 (codes "B1") ((go_of (name_at 9 18 target) ∷ []) ∷ []) ∷ [];
}

abbrev leaver_division : DataDivision
leaver_division = record {
  program = name_at 2 20 (codes "LEAVER");
  source_computer = None;
  object_computer = None;
  working_storage = [];
  communication = [];
}

leaver_is_divided : (target : List ℕ) → IsDivisionOf (leaver_tokens target) 10 leaver_division
unfolding next reading input_field_of output_field_of
leaver_is_divided target = record {
  complete = refl;
  within = omega arith;
  program = refl;
  source_computer = refl;
  object_computer = refl;
  working_storage = refl;
  communication = refl;
}

leaver_has_trees : (target : List ℕ) → is name (word 18 target (place 9 174)) ≡ true → IsProcedure (leaver_program target).text (drop 10 (leaver_tokens target))
leaver_has_trees target named = (
  _,
  (_, (refl, refl)),
  (
    _,
    (_, (refl, refl)),
    (
      _,
      (_, (refl, refl)),
      (
        _,
        (
          _,
          (_, refl, (refl, refl)),
          (
            _,
            (_, (refl, refl)),
            (
              _,
              (_, (_, (_, (_, (refl, refl)), (_, (_, refl, (refl, refl)), (_, (refl, refl), (refl, refl)))), (refl, refl)), (_, (refl, refl))),
              (
                _,
                (_, (_, (_, (_, (refl, refl)), (_, (refl, refl))), (refl, refl)), (_, (refl, refl))),
                (refl, refl),
              ),
            ),
          ),
        ),
        (
          _,
          (
            _,
            (_, refl, (refl, refl)),
            (
              _,
              (_, (refl, refl)),
              (
                _,
                (_, (_, (_, (_, (refl, refl)), (_, (inr (_, (refl, refl))), (_, refl, (named, refl)))), (refl, refl)), (_, (refl, refl))),
                (refl, refl),
              ),
            ),
          ),
          (refl, refl),
        ),
      ),
    ),
  ),
)

leaver_is_spelled : (target : List ℕ) → is name (word 18 target (place 9 174)) ≡ true → tokens_fault (leaver_tokens target) ≡ None → Spells (leaver_tokens target) (leaver_program target)
leaver_is_spelled target named right = record {
  no_fault = right;
  place = 10;
  division = leaver_division;
  is_division = leaver_is_divided target;
  is_procedure = leaver_has_trees target named;
  layout = refl;
}

leaver_to_a1 : Spells (leaver_tokens (codes "A1")) (leaver_program (codes "A1"))
unfolding next reading input_field_of output_field_of
leaver_to_a1 = leaver_is_spelled (codes "A1") refl refl

leaver_to_b1 : Spells (leaver_tokens (codes "B1")) (leaver_program (codes "B1"))
unfolding next reading input_field_of output_field_of
leaver_to_b1 = leaver_is_spelled (codes "B1") refl refl

-- LEAVER: the GO of line 9 leaves the range that line 6 performs
leaver_is_refused : IsSourceFaultOf leaver (fault 9 18 faults.LeavesRange)
unfolding lines_tokens text_tokens front_of
leaver_is_refused =
    of_trees (leaver_tokens (codes "A1")) (leaver_program (codes "A1")) (omega arith) refl leaver_to_a1 (fault_of_ranges (leaver_program (codes "A1")) _ refl refl)

-- LEAVER with another line 9
abbrev leaver_with : List ℕ → List ℕ
leaver_with last = source (
    codes "       IDENTIFICATION DIVISION." ∷
    codes "       PROGRAM-ID. LEAVER." ∷
    codes "       DATA DIVISION." ∷
    codes "       PROCEDURE DIVISION." ∷
    codes "       A1." ∷
    codes "           PERFORM B1." ∷
    codes "           STOP RUN." ∷
    codes "       B1." ∷ last ∷ [])

-- in which the GO stays in its range
leaver_repaired : IsProgramOf (leaver_with (codes "           GO TO B1.")) (leaver_program (codes "B1"))
unfolding lines_tokens text_tokens front_of
leaver_repaired = record { few = omega arith; tokens = leaver_tokens (codes "B1"); are_tokens = refl; spells = leaver_to_b1; no_fault = free_of_faults (leaver_program (codes "B1")) refl refl }

-- what stands in column 73 is not read
leaver_with_column_73 : IsProgramOf (leaver_with (codes "           GO TO B1." ++ spaces 52 ++ 200 ∷ [])) (leaver_program (codes "B1"))
unfolding lines_tokens text_tokens front_of
leaver_with_column_73 = record { few = omega arith; tokens = leaver_tokens (codes "B1"); are_tokens = refl; spells = leaver_to_b1; no_fault = free_of_faults (leaver_program (codes "B1")) refl refl }

-- each of two paragraphs performs the other, and the first PERFORM of the text is told
abbrev circle : List ℕ
circle = leaver_with (codes "           PERFORM A1.")

abbrev circle_tokens : List Token
circle_tokens = first_lines ++ on 9 174 (word 12 (codes "PERFORM") ∷ word 20 (codes "A1") ∷ period 22 (codes ".") ∷ [])

abbrev circle_program : Program
circle_program = record {
  layout = record { names = []; opening = []; initial = None };
  text =
      paragraph_at 5 (codes "A1") (
      (perform_of (name_at 6 20 (codes "B1")) None repetitions.Once ∷ []) ∷
      (stop_of ∷ []) ∷ [])
      ∷ paragraph_at 8 (codes "B1") (
      (perform_of (name_at 9 20 (codes "A1")) None repetitions.Once ∷ []) ∷ []) ∷ [];
}

circle_has_trees : IsProcedure circle_program.text (drop 10 circle_tokens)
circle_has_trees = (
  _,
  (_, (refl, refl)),
  (
    _,
    (_, (refl, refl)),
    (
      _,
      (_, (refl, refl)),
      (
        _,
        (
          _,
          (_, refl, (refl, refl)),
          (
            _,
            (_, (refl, refl)),
            (
              _,
              (_, (_, (_, (_, (refl, refl)), (_, (_, refl, (refl, refl)), (_, (refl, refl), (refl, refl)))), (refl, refl)), (_, (refl, refl))),
              (
                _,
                (_, (_, (_, (_, (refl, refl)), (_, (refl, refl))), (refl, refl)), (_, (refl, refl))),
                (refl, refl),
              ),
            ),
          ),
        ),
        (
          _,
          (
            _,
            (_, refl, (refl, refl)),
            (
              _,
              (_, (refl, refl)),
              (
                _,
                (_, (_, (_, (_, (refl, refl)), (_, (_, refl, (refl, refl)), (_, (refl, refl), (refl, refl)))), (refl, refl)), (_, (refl, refl))),
                (refl, refl),
              ),
            ),
          ),
          (refl, refl),
        ),
      ),
    ),
  ),
)

circle_is_spelled : Spells circle_tokens circle_program
unfolding next reading input_field_of output_field_of
circle_is_spelled = record {
  no_fault = refl;
  place = 10;
  division = leaver_division;
  is_division = record {
    complete = refl;
    within = omega arith;
    program = refl;
    source_computer = refl;
    object_computer = refl;
    working_storage = refl;
    communication = refl;
  };
  is_procedure = circle_has_trees;
  layout = refl;
}

circle_is_refused : IsSourceFaultOf circle (fault 6 20 faults.PerformsItself)
unfolding lines_tokens text_tokens front_of
circle_is_refused = of_trees circle_tokens circle_program (omega arith) refl circle_is_spelled (fault_of_ranges circle_program _ refl refl)
