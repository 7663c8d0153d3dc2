-- Which of several faults is told, worked out by hand.
use Rattle.std.proofs.Common.{◌≡◌, [], ◌∷◌, Option, Some, None, refl}
use Rattle.cob_lex.specs.declared.fault.SourceFault.{SourceFault}
use Rattle.cob_lex.specs.declared.fault.SourceKind.{SourceKind}
use Rattle.cob_lex.specs.declared.fault.SourceKind.TheVariants as faults
use Rattle.cob_forms.specs.Faults.{fault, first}

-- no fault
none : first [] ≡ None
none = refl

-- an earlier line goes before an earlier column
line_first : first (fault 3 8 faults.BadColumn ∷ fault 2 40 faults.OverLimit ∷ fault 3 1 faults.BadWord ∷ []) ≡ Some (fault 2 40 faults.OverLimit)
line_first = refl

-- an earlier column before an earlier kind
column_first : first (fault 2 12 faults.BadCharacter ∷ fault 2 9 faults.OverLimit ∷ fault 2 10 faults.BadWord ∷ []) ≡ Some (fault 2 9 faults.OverLimit)
column_first = refl

-- two kinds at one place
abbrev of_two : SourceKind → SourceKind → Option SourceFault
of_two kind other = first (fault 2 9 kind ∷ fault 2 9 other ∷ [])

-- each kind goes before the next one
bad_character_first : of_two faults.BadColumn faults.BadCharacter ≡ Some (fault 2 9 faults.BadCharacter)
bad_character_first = refl

bad_column_first : of_two faults.BadWord faults.BadColumn ≡ Some (fault 2 9 faults.BadColumn)
bad_column_first = refl

bad_word_first : of_two faults.BadPicture faults.BadWord ≡ Some (fault 2 9 faults.BadWord)
bad_word_first = refl

bad_picture_first : of_two faults.WantedWord faults.BadPicture ≡ Some (fault 2 9 faults.BadPicture)
bad_picture_first = refl

wanted_word_first : of_two faults.TwiceDeclared faults.WantedWord ≡ Some (fault 2 9 faults.WantedWord)
wanted_word_first = refl

twice_declared_first : of_two faults.UnknownName faults.TwiceDeclared ≡ Some (fault 2 9 faults.TwiceDeclared)
twice_declared_first = refl

unknown_name_first : of_two faults.WrongKind faults.UnknownName ≡ Some (fault 2 9 faults.UnknownName)
unknown_name_first = refl

wrong_kind_first : of_two faults.WrongLength faults.WrongKind ≡ Some (fault 2 9 faults.WrongKind)
wrong_kind_first = refl

wrong_length_first : of_two faults.LeavesRange faults.WrongLength ≡ Some (fault 2 9 faults.WrongLength)
wrong_length_first = refl

leaves_range_first : of_two faults.PerformsItself faults.LeavesRange ≡ Some (fault 2 9 faults.LeavesRange)
leaves_range_first = refl

performs_itself_first : of_two faults.TwoInitial faults.PerformsItself ≡ Some (fault 2 9 faults.PerformsItself)
performs_itself_first = refl

two_initial_first : of_two faults.OverLimit faults.TwoInitial ≡ Some (fault 2 9 faults.TwoInitial)
two_initial_first = refl
