-- What units that send know of themselves between two calls.
use Rattle.std.specs.Prelude.{◌≡◌}
use Rattle.com_shared.specs.Passes.{Place}
use Rattle.shared_tests.specs.declared.outputs.Speaker.{Speaker}
use Rattle.shared_tests.specs.Playing.{Runs}

-- it runs, and has done as many verbs as it says
abbrev pub Speaks : Place → Speaker → Type 0
Speaks place speaker = Runs place speaker.verbs speaker.pass

-- the same unit some verbs later
pub record GoesOnSpeaking (place : Place) (before after : Speaker) : Type 0 where
  pub speaks : Speaks place after
  pub number : after.pass.number ≡ before.pass.number
