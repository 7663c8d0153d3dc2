use Rattle.mcs_top.proofs.Framing.{shown_text}
use Rattle.mcs_top.proofs.show.text_of.Goals as goal

pub returns : goal.returns
returns c = record {
  messages = c.frame.new.into;
  ends = c.in_ok-ending.ensures;
  is_text =
      shown_text c.frame.new.into c.as_slice.result.now c.new-out.result c.put_messages.new.out c.put_ending.new.out c.in_ok-ending.ending c.new-out.ensures c.as_slice.ensures c.in_ok-put_messages.ensures c.in_ok-put_ending.ensures;
}
