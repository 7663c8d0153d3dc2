use Rattle.std.proofs.Common.{ℕ, rules, ap, ◌∙◌, not, ◌&&◌}
use Rattle.std.specs.Slice.Iter.{iter_rest}
use Rattle.std.proofs.lemmas.Iterator.{YieldsList-from_slice}
use Rattle.std.proofs.lemmas.Iterator.Consumers.{YieldsList-from_enumerate}
use Rattle.std.proofs.lemmas.Iterator.Search.{any_from_yields_List}
use borrow.Author.Tests.{tests}
use Rattle.com_send.specs.Outgoing.{DestinationState}
use Rattle.com_send.specs.Found.{is_among}
use Rattle.com_send.specs.Kept.{states_of}
use Rattle.com_send.proofs.Changing.{any_kept, any_turned}
use Rattle.com_send.proofs.outputs.has_disabled.Goals as goal

pub returns : goal.returns
returns c =
    let outputs = c.args.outputs.now in
    let is_off = λ (at : ℕ) (state : DestinationState). not state.on in
    let is_named = λ (at : ℕ) (state : DestinationState). is_among c.args.found.now at in
    any_from_yields_List (λ (at, output). not output.on && is_among c.args.found.now at) _ _ _ c.any.ensures.ran
    (YieldsList-from_enumerate (YieldsList-from_slice outputs (ap iter_rest c.enumerate.ensures.source ∙ c.iter.ensures.rest)) c.enumerate.ensures.count)
    (λ x b q k. search (rules, tests))
    ∙ (any_kept (λ (at : ℕ) (state : DestinationState). not state.on && is_among c.args.found.now at) 0 outputs
    ∙ any_turned is_off is_named 0 (states_of outputs))
