-- ECHO is sound, so that its calls are well formed: the premises of the law, met.
use Rattle.std.proofs.Common.{[], ◌∷◌, None, refl, codes, arith}
use Rattle.com_cd.specs.InputArea.{IsInputArea, opening_area}
use Rattle.com_cd.specs.OutputArea.{IsOutputArea, opening_output}
use Rattle.com_events.specs.declared.reply.Reply.TheVariants as reply
use Rattle.cob_meaning.specs.Meaning.{meaning, unit_limits}
use Rattle.cob_meaning.specs.Checked.{IsCheckedText}
use Rattle.cob_meaning.specs.Sound.{AreFit, AreWellFormed, IsSound}
use Rattle.cob_lex.proofs.Programs.{echo as echo_source}
use Rattle.cob_meaning.proofs.CheckedText.{checked}
use Rattle.cob_meaning.proofs.WellFormedRuns.{calls_well}
use Rattle.cob_meaning.proofs.WorkedPrograms.{echo, hello, to_t1}
use Rattle.cob_meaning.proofs.WorkedSources.{echo_is_program}

is_input : IsInputArea opening_area
is_input = record { length = refl; text = refl }

is_output : IsOutputArea (opening_output 1)
is_output = record { some = omega arith; few = omega arith; whole = refl; text = refl }

echo_is_sound : IsSound echo.layout
echo_is_sound = record {
  names = (
    record { some = omega arith; few = omega arith; few_digits = λ e. absurd cc; within = omega arith },
    (
      is_input,
      (
        record { some = omega arith; few = omega arith; few_digits = λ e. omega arith; within = omega arith },
        (
          record { some = omega arith; few = omega arith; few_digits = λ e. omega arith; within = omega arith },
          (
            record { some = omega arith; few = omega arith; few_digits = λ e. omega arith; within = omega arith },
            (
              is_output,
              (
                record { some = omega arith; few = omega arith; few_digits = λ e. omega arith; within = omega arith },
                (
                  record { some = omega arith; few = omega arith; few_digits = λ e. omega arith; within = omega arith },
                  (record { some = omega arith; few = omega arith; few_digits = λ e. omega arith; within = omega arith }, tt),
                ),
              ),
            ),
          ),
        ),
      ),
    ),
  );
  texts = (refl, (refl, (refl, tt)));
  initial = tt;
}

-- ECHO is what a program of a source is
echo_is_checked : IsCheckedText echo.layout echo.text
echo_is_checked = checked echo_source echo echo_is_program

-- HELLO, and the area of the SEND
echo_calls_fit : AreFit (meaning echo None (reply.Given hello (codes "HELLO") ∷ reply.AreaOut to_t1 ∷ [])).calls (reply.Given hello (codes "HELLO") ∷ reply.AreaOut to_t1 ∷ [])
unfolding unit_limits
echo_calls_fit = ((record { length = refl; text = refl }, refl, omega arith), ((record { some = omega arith; few = omega arith; whole = refl; text = refl }, refl), tt))

echo_calls_are_well_formed : AreWellFormed (meaning echo None (reply.Given hello (codes "HELLO") ∷ reply.AreaOut to_t1 ∷ []))
echo_calls_are_well_formed = calls_well unit_limits echo None _ echo_is_sound echo_is_checked refl tt echo_calls_fit
