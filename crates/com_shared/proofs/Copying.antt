-- The text of a reply is no longer than its call asks for.
use Rattle.std.proofs.Common.{◌≡◌, ℕ, ◌≤◌, Bool, true, false, List, [], length, Some, arith}
use Rattle.std.proofs.lemmas.Bool.{false≢true}
use Rattle.com_events.specs.declared.call.Party.{Party}
use Rattle.com_events.specs.declared.call.Party.TheVariants as party
use Rattle.com_events.specs.declared.call.Call.{Call}
use Rattle.com_events.specs.declared.call.Call.TheVariants as made
use Rattle.com_events.specs.declared.reply.Reply.{Reply}
use Rattle.com_events.specs.declared.reply.Reply.TheVariants.{Started, Given, NoData, Refused, Waits, AreaIn, AreaOut, Arrived, Done}
use Rattle.com_state.specs.State.{State}
use Rattle.com_state.specs.Steps.{step}
use Rattle.com_state.specs.Waits.{is_of_kind}
use Rattle.com_state.proofs.Portions.{no_more_than_asked}
use Rattle.com_state.proofs.Replying.{own_kind, terminal_makes}
use Rattle.com_shared.specs.inner.Copies.{text_in, size_of}

given_fits : (S next : State) (who : Party) (call : Call) (after text : List ℕ) → step S who call ≡ Some (Given after text, next) → is_of_kind call (Given after text) ≡ true → length text ≤ size_of call
given_fits S next (party.Unit name) (made.Receive area kind size no_data) after text h is = no_more_than_asked S next name area after text kind size no_data h
given_fits S next (party.Terminal name) (made.Receive area kind size no_data) after text h is = absurd (terminal_makes S name (made.Receive area kind size no_data) (Given after text) next h tt)
given_fits S next who made.Start after text h is = absurd (false≢true is)
given_fits S next who (made.Count area) after text h is = absurd (false≢true is)
given_fits S next who (made.Send area part item) after text h is = absurd (false≢true is)
given_fits S next who (made.SwitchInput on terminal area key) after text h is = absurd (false≢true is)
given_fits S next who (made.SwitchOutput on area key) after text h is = absurd (false≢true is)
given_fits S next who (made.Arrive stamp message) after text h is = absurd (false≢true is)
given_fits S next who made.Held after text h is = absurd (false≢true is)
given_fits S next who (made.Stop reason) after text h is = absurd (false≢true is)
given_fits S next who (made.Finish reason) after text h is = absurd (false≢true is)

pub fits : (S next : State) (who : Party) (call : Call) (reply : Reply) → step S who call ≡ Some (reply, next) → length (text_in reply) ≤ size_of call
fits S next who call (Given after text) h = given_fits S next who call after text h (own_kind S who call (Given after text) next h)
fits S next who call (Started names) h = omega arith
fits S next who call (NoData after) h = omega arith
fits S next who call (Refused after) h = omega arith
fits S next who call Waits h = omega arith
fits S next who call (AreaIn after) h = omega arith
fits S next who call (AreaOut after) h = omega arith
fits S next who call (Arrived number) h = omega arith
fits S next who call Done h = omega arith
