-- PERFORMs and GOs by the numbers of paragraphs.
use Rattle.std.specs.Prelude.{List}
use Rattle.cob_proc.specs.Trees.{ParagraphTree}
use Rattle.cob_meaning.specs.Meaning.{last_of, paragraph_number}
use Rattle.cob_meaning.specs.Ranges.{Going, Performing}
use Rattle.cob_code.specs.declared.ranges.Jump.{Jump}
use Rattle.cob_code.specs.declared.ranges.Range.{Range}

-- a PERFORM by the numbers of its paragraphs
abbrev pub numbered : List ParagraphTree → Performing → Range
numbered text p = record {
  from = p.from;
  first = paragraph_number text p.first;
  last = paragraph_number text (last_of p.first p.last);
  begin = p.first.position;
  end = (last_of p.first p.last).position;
}

-- a GO by the number of its target
abbrev pub aimed : List ParagraphTree → Going → Jump
aimed text going = record { from = going.from; to = paragraph_number text going.target; place = going.target.position }
