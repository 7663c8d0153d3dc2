-- A program never stops for want of anything to happen.
use Rattle.std.proofs.Common.{◌≡◌, ℕ, ◌+◌, ◌-◌, List, [], ◌∷◌, length, Option, subst}
use Rattle.com_events.specs.declared.call.StopReason.{StopReason}
use Rattle.com_events.specs.declared.call.StopReason.TheVariants as stop
use Rattle.com_events.specs.declared.reply.Reply.{Reply}
use Rattle.cob_proc.specs.Trees.{Plain, moves, adds, subtracts, performs, goes, exits, stops, sends, switches_input, switches_output, accepts, Tree, plain, branches, receives, Block, none, lead, ParagraphTree}
use Rattle.cob_meaning.specs.Layouts.{Layout}
use Rattle.cob_meaning.specs.Storage.{Storage}
use Rattle.cob_meaning.specs.Verbs.{Request}
use Rattle.cob_meaning.specs.Meaning.{Outcome, Normal, Jump, Stops, Needs, Ending, Stopped, Wants, Limits, Program, beginning, meaning, meaning_of, meaning_within, unit_limits}
use Rattle.cob_meaning.proofs.Lasting.{Facts, Keeps, Asks, Fine, Kept, PlainKept, AllKept, AreKept, IsTextKept, range_lasts}

-- a reason that a program has
abbrev pub IsOwn : StopReason → Type 0
IsOwn stop.Run = Unit {0}
IsOwn stop.Limit = Unit {0}
IsOwn stop.DataFault = Unit {0}
IsOwn stop.Idle = ⊥

abbrev own_reasons : Facts
own_reasons = record {
  Holds = λ run. Unit {0};
  Stopping = λ reason run. IsOwn reason;
  Wanting = λ call run. Unit {0};
  begins = λ run left h. tt;
  limit = λ run h. tt;
  fault = λ run h. tt;
  ends = λ run h. tt;
}

keeps : (effect : Storage → Option Storage) → Keeps own_reasons effect
keeps effect = record { from = λ run storage h e. tt }

asks : (request : Storage → Option Request) → Asks own_reasons request
asks request = record { wants = λ run verbs asked h e empty. tt; takes = λ run verbs asked reply rest h e next. tt; stops = λ run verbs h e. tt }

module _ (layout : Layout) (text : List ParagraphTree) where
  plain_kept : (s : Plain) → PlainKept own_reasons layout text s
  plain_kept (moves source targets) = keeps _
  plain_kept (adds addend target) = keeps _
  plain_kept (subtracts addend target) = keeps _
  plain_kept (performs first last often) = tt
  plain_kept (goes target) = tt
  plain_kept exits = tt
  plain_kept stops = tt
  plain_kept (sends cd from ending) = asks _
  plain_kept (switches_input on terminal cd key) = asks _
  plain_kept (switches_output on cd key) = asks _
  plain_kept (accepts cd) = asks _

  mutual
    kept : (s : Tree) → Kept own_reasons layout text s
    kept (plain statement) = plain_kept statement
    kept (branches position condition one other) = (all_kept one, all_kept other)
    kept (receives cd segment into no_data) = (asks _, all_kept no_data)

    all_kept : (block : Block) → AllKept own_reasons layout text block
    all_kept none = tt
    all_kept (lead one others) = (kept one, all_kept others)

  are_kept : (all : List Block) → AreKept own_reasons layout text all
  are_kept [] = tt
  are_kept (one ∷ others) = (all_kept one, are_kept others)

  is_kept : (ps : List ParagraphTree) → IsTextKept own_reasons layout text ps
  is_kept [] = tt
  is_kept (p ∷ ps) = (are_kept p.sentences, is_kept ps)

abbrev pub NotIdle : Ending → Type 0
NotIdle (Stopped reason) = IsOwn reason
NotIdle (Wants call) = Unit {0}

not_idle : (o : Outcome) → Fine own_reasons o → NotIdle (meaning_of o).ending
not_idle (Normal run) h = tt
not_idle (Jump to run) h = tt
not_idle (Stops reason run) h = h
not_idle (Needs call run) h = tt

pub never_idle : (limits : Limits) (program : Program) (names : Option (List ℕ)) (replies : List Reply) → NotIdle (meaning_within limits program names replies).ending
never_idle limits program names replies =
    not_idle _ ((range_lasts own_reasons program.layout program.text (limits.statements + 1) (is_kept program.layout program.text program.text) 0 (length program.text - 1)).from
    (beginning limits program.layout names replies) tt)

pub never_stops_idle : (program : Program) (names : Option (List ℕ)) (replies : List Reply) → (meaning program names replies).ending ≡ Stopped stop.Idle → ⊥
never_stops_idle program names replies e = subst NotIdle e (never_idle unit_limits program names replies)
