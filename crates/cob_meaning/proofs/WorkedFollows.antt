-- The entries of ECHO, which received one message and waited when nothing could happen any more.
use Rattle.std.proofs.Common.{◌≡◌, true, false, inl, inr, List, [], ◌∷◌, ◌++◌, None, refl, codes}
use Rattle.com_events.specs.declared.call.Call.{Call}
use Rattle.com_events.specs.declared.call.Party.{Party}
use Rattle.com_events.specs.declared.call.StopReason.TheVariants as reason
use Rattle.com_events.specs.declared.reply.Reply.{Reply}
use Rattle.com_events.specs.declared.reply.Reply.TheVariants as reply
use Rattle.com_events.specs.declared.entry.Entry.{Entry}
use Rattle.cob_meaning.specs.Follows.{AreVerbs, AsksAgain, Follows, Makes, SoFar, started, stopped, waits}
use Rattle.cob_meaning.specs.Meaning.{Wants, meaning, unit_limits}
use Rattle.cob_meaning.proofs.Fronts.{fronts_so_far}
use Rattle.cob_meaning.proofs.WorkedPrograms.{before_hello, echo, echo_receives, echo_sends, hello, to_t1}

module _ (party : Party) where
  abbrev done : Call → Reply → Entry
  done made answer = record { party = party; call = made; reply = answer }

  -- it waits for the message, is given it, and sends it back
  abbrev verbs : List Entry
  verbs =
      waits party (echo_receives before_hello) ∷ done (echo_receives before_hello) (reply.Given hello (codes "HELLO"))
      ∷ done echo_sends (reply.AreaOut to_t1) ∷ []

  are_verbs : AreVerbs verbs
  are_verbs = refl

  makes : Makes echo None verbs (Wants (echo_receives hello))
  unfolding unit_limits
  makes = record { calls = refl; comes_to = refl }

  -- then it waits for another
  to_the_end : Follows party echo (started party None ∷ verbs ++ waits party (echo_receives hello) ∷ stopped party reason.Idle ∷ [])
  to_the_end = inr (inl (record { names = None; verbs = verbs; call = echo_receives hello; entries_are = refl; are_verbs = are_verbs; receives = refl; makes = makes }))

  -- it may not have been started
  never_started : Follows party echo (stopped party reason.Idle ∷ [])
  never_started = inr (inr refl)

  -- and at first it has no entry
  at_first : SoFar party echo []
  at_first = inl refl

  -- the entries behind those of its verbs
  abbrev at_last : List Entry
  at_last = waits party (echo_receives hello) ∷ stopped party reason.Idle ∷ []

  never : {X : Type 0} → false ≡ true → X
  never h = let no : ⊥ = cc in absurd no

  -- behind each call that waits comes the same one, or STOP IDLE
  asks_again : AsksAgain ((started party None ∷ verbs) ++ at_last)
  asks_again = (never, (λ h. inl (refl, refl), (never, (never, (λ h. inr refl, tt)))))

  -- up to the SEND they are so far
  up_to_send : SoFar party echo (started party None ∷ verbs)
  up_to_send = fronts_so_far party echo (started party None ∷ verbs) at_last asks_again (inr (inl to_the_end))

-- given the reply to a SEND first, ECHO makes no SEND: its first call is RECEIVE
no_send_before : (meaning echo None (reply.AreaOut to_t1 ∷ [])).calls ≡ echo_receives before_hello ∷ []
unfolding unit_limits
no_send_before = refl
