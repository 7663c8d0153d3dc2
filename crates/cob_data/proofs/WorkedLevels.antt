-- Levels: which numbers are one, and those that count before a wanted word, worked out by hand.
use Rattle.std.proofs.Common.{◌≡◌, ℕ, List, [], ◌∷◌, Option, Some, None, refl, codes}
use Rattle.cob_lex.specs.declared.fault.SourceFault.{SourceFault}
use Rattle.cob_lex.specs.declared.fault.SourceKind.TheVariants as faults
use Rattle.cob_lex.specs.Fronts.{front_of}
use Rattle.cob_lex.specs.Lexing.{lines_tokens, text_tokens, tokens_of}
use Rattle.cob_forms.specs.Forms.{next, reading}
use Rattle.cob_forms.specs.Faults.{fault}
use Rattle.cob_lex.proofs.Programs.{source}
use Rattle.cob_data.specs.Faults.{data_fault}
use Rattle.cob_data.proofs.Sources.{tokens_in, items, entries}

-- the fault of a source
abbrev told_in : List ℕ → Option SourceFault
told_in source = data_fault (tokens_in (tokens_of source))

-- a level may end with 0
level_10 : told_in (items (codes "       01  A." ∷ codes "           10 B PIC X." ∷ [])) ≡ None
unfolding lines_tokens text_tokens front_of next reading
level_10 = refl

-- 77 has no leading zero
level_077 : told_in (items (codes "           077 A PIC X." ∷ [])) ≡ Some (fault 5 12 faults.WrongKind)
unfolding lines_tokens text_tokens front_of next reading
level_077 = refl

-- so it is not in its place in area A
level_077_in_area_a : told_in (items (codes "       077 A PIC X." ∷ [])) ≡ Some (fault 5 8 faults.BadColumn)
unfolding lines_tokens text_tokens front_of next reading
level_077_in_area_a = refl

-- 49 is the last level under 01
level_49 : told_in (items (codes "       01  A." ∷ codes "           49 B PIC X." ∷ [])) ≡ None
unfolding lines_tokens text_tokens front_of next reading
level_49 = refl

-- a level counts where it stands before the wanted word: here below an elementary item
below_elementary_before_stop : told_in (items (codes "       01  A PIC X." ∷ codes "           02 PIC X." ∷ [])) ≡ Some (fault 6 12 faults.WrongKind)
unfolding lines_tokens text_tokens front_of next reading
below_elementary_before_stop = refl

-- without a group
no_record_before_stop : told_in (items (codes "           02 PIC X." ∷ [])) ≡ Some (fault 5 12 faults.WrongKind)
unfolding lines_tokens text_tokens front_of next reading
no_record_before_stop = refl

-- of another level than the item before it
other_level_before_stop : told_in (items (codes "       01  A." ∷ codes "           03 B PIC X." ∷ codes "           02 PIC X." ∷ [])) ≡ Some (fault 7 12 faults.WrongKind)
unfolding lines_tokens text_tokens front_of next reading
other_level_before_stop = refl

-- 77 over a CD
level_77_before_stop : told_in (entries (codes "       CD  C INPUT." ∷ codes "       77  PIC X." ∷ [])) ≡ Some (fault 6 8 faults.WrongKind)
unfolding lines_tokens text_tokens front_of next reading
level_77_before_stop = refl

-- and a number that is no level
no_level_before_stop : told_in (items (codes "           50 PIC X." ∷ [])) ≡ Some (fault 5 12 faults.WrongKind)
unfolding lines_tokens text_tokens front_of next reading
no_level_before_stop = refl

-- a level that is right leaves the wanted word
right_level_before_stop : told_in (items (codes "       01  A." ∷ codes "           02 PIC X." ∷ [])) ≡ Some (fault 6 15 faults.WantedWord)
unfolding lines_tokens text_tokens front_of next reading
right_level_before_stop = refl

-- where the tokens end too early, the last of them does not count
level_at_early_end : told_in (source (codes "       IDENTIFICATION DIVISION." ∷ codes "       PROGRAM-ID. P." ∷ codes "       DATA DIVISION." ∷ codes "       WORKING-STORAGE SECTION." ∷ codes "       01  A PIC X." ∷ codes "           02" ∷ [])) ≡ Some (fault 6 12 faults.WantedWord)
unfolding lines_tokens text_tokens front_of next reading
level_at_early_end = refl
