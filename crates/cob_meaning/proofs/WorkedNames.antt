-- Names and ranges of what control never reaches, and one name for two things, worked out by hand.
use Rattle.std.proofs.Common.{inl, [], ◌∷◌, refl, codes}
use Rattle.cob_lex.specs.declared.fault.SourceKind.TheVariants as faults
use Rattle.cob_forms.specs.Faults.{fault}
use Rattle.cob_meaning.specs.Sources.{HasNoTreesFault}
use Rattle.cob_meaning.proofs.RangeFaults.{first_fault, free_of_faults}
use Rattle.cob_meaning.proofs.Placed.{item_at}
use Rattle.cob_meaning.proofs.SmallPrograms.{program}
use Rattle.cob_meaning.proofs.Trees.{paragraph, exit_of, stop_of}
use Rattle.cob_meaning.proofs.WorkedPasses.{Finds, HasRangesFault, goes, moves, of, performs, performs_thru}

-- a PERFORM behind STOP RUN counts like any other
perform_behind_stop : HasRangesFault (paragraph (codes "A1") (stop_of ∷ performs 4 20 (codes "A1") ∷ []) ∷ []) (fault 4 20 faults.PerformsItself)
perform_behind_stop = first_fault _ _ refl

-- so its range binds a GO
range_behind_stop : HasRangesFault (paragraph (codes "A1") (stop_of ∷ performs 4 20 (codes "B1") ∷ []) ∷ paragraph (codes "B1") (goes 6 18 (codes "A1") ∷ []) ∷ []) (fault 6 18 faults.LeavesRange)
range_behind_stop = first_fault _ _ refl

-- and a GO behind STOP RUN is bound
go_behind_stop : HasRangesFault (paragraph (codes "A1") (performs 3 20 (codes "B1") ∷ stop_of ∷ []) ∷ paragraph (codes "B1") (stop_of ∷ goes 7 18 (codes "A1") ∷ []) ∷ []) (fault 7 18 faults.LeavesRange)
go_behind_stop = first_fault _ _ refl

-- as it is in a paragraph that is never reached
go_in_unreached : HasRangesFault (paragraph (codes "A1") (stop_of ∷ []) ∷ paragraph (codes "B1") (performs 5 20 (codes "C1") ∷ stop_of ∷ []) ∷ paragraph (codes "C1") (goes 8 18 (codes "B1") ∷ []) ∷ []) (fault 8 18 faults.LeavesRange)
go_in_unreached = first_fault _ _ refl

-- a THRU behind STOP RUN that ends before it begins
backward_behind_stop : HasRangesFault (paragraph (codes "A1") (exit_of ∷ []) ∷ paragraph (codes "B1") (stop_of ∷ performs_thru 6 20 (codes "B1") 28 (codes "A1") ∷ []) ∷ []) (fault 6 28 faults.LeavesRange)
backward_behind_stop = first_fault _ _ refl

-- such a THRU binds no GO
backward_binds_none : HasRangesFault (paragraph (codes "A1") (exit_of ∷ []) ∷ paragraph (codes "B1") (goes 5 18 (codes "A1") ∷ []) ∷ paragraph (codes "C1") (goes 7 18 (codes "A1") ∷ []) ∷ paragraph (codes "D1") (performs_thru 9 20 (codes "C1") 28 (codes "B1") ∷ []) ∷ []) (fault 9 28 faults.LeavesRange)
backward_binds_none = first_fault _ _ refl

-- and leads to no paragraph
backward_is_no_circle : HasRangesFault (paragraph (codes "A1") (exit_of ∷ []) ∷ paragraph (codes "B1") (performs_thru 5 20 (codes "B1") 28 (codes "A1") ∷ []) ∷ []) (fault 5 28 faults.LeavesRange)
backward_is_no_circle = first_fault _ _ refl

-- a name that is not declared, behind STOP RUN
go_to_unknown : Finds (stop_of ∷ goes 4 18 (codes "Z1") ∷ []) (fault 4 18 faults.UnknownName)
go_to_unknown = inl refl

-- also of PERFORM
perform_unknown : Finds (stop_of ∷ performs 4 20 (codes "Z1") ∷ []) (fault 4 20 faults.UnknownName)
perform_unknown = inl refl

-- the second name of a THRU
perform_thru_unknown : Finds (performs_thru 3 20 (codes "MAIN") 30 (codes "Z1") ∷ []) (fault 3 30 faults.UnknownName)
perform_thru_unknown = inl refl

-- a paragraph and an item may have one name
one_name : HasNoTreesFault (program (codes "ABC") (codes "042") (codes "XY12") (paragraph (codes "A") (moves (of 3 17 (codes "A")) (item_at 3 22 (codes "B")) ∷ goes 4 18 (codes "A") ∷ []) ∷ []))
one_name = free_of_faults _ refl refl

-- and a paragraph and a CD
one_name_of_cd : HasNoTreesFault (program (codes "ABC") (codes "042") (codes "XY12") (paragraph (codes "D") (goes 3 18 (codes "D") ∷ []) ∷ []))
one_name_of_cd = free_of_faults _ refl refl
